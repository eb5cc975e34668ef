-- The turns: an edge is taken from the queue's front, the pivotal edges that leave its target are listed, the new ones queued and marked. Each edge is
-- queued at most once after the source's own, so twice as many entries as edges are enough. Assumes nothing.
use Rattle.std.specs.Prelude.{◌≡◌, Bool, ◌&&◌, ◌||◌, cond, ℕ, zero, suc, ◌+◌, ◌-◌, ◌/◌, ◌%◌, ◌<◌, ◌≤◌, ltb, get_or, take}
use Rattle.std.proofs.Math.Path.{refl, sym, ap, subst}
use Rattle.std.proofs.Common.{◌∙◌, add-one, drop-drop, le-ltb}
use Rattle.std.proofs.Math.Bool.{true, false, not}
use mathlib.Core.List.{List, [], ◌∷◌, ◌++◌, map, append_assoc, append-nil}
use native.Mathlib.Omega.{arith}
use Rattle.std.proofs.Math.Dec.{eqb}
use Rattle.std.proofs.Math.ListN.{length, drop}
use Rattle.laws.specs.Lists.{keep}
use Rattle.laws.specs.ListLaws.{All, nil, all_head, all_tail, all-mono, all_from, keep_all, mem-map}
use Rattle.definition.specs.Threading.{Ends, Edge, leaving}
use Rattle.definition.specs.Search.{SearchInput, among, ends_of, Queued, enqueue_all, pivotal_of, pivotal_from, pivotal_edges}
use Rattle.theorems.proofs.Fuel.{among-mem, among-append}
use Rattle.theorems.proofs.Walks.{length-kept}
use Rattle.assembly.specs.Fields.{HasEdge, edge_to}
use Rattle.assembly.specs.Table.{length-table}
use Rattle.assembly.specs.Store.{edge_at, edges_of}
use Rattle.pivotal_edges.specs.Queue.{ends_at, queued_at, part, part_none, part-cons}
use Rattle.pivotal_edges.specs.Walk.{Linked, Here, Seen, fresh}
use Rattle.pivotal_edges.specs.Lists.{Lists, Listed, counts, length-ends}
use Rattle.pivotal_edges.specs.Queues.{view, Entry, Queues, QueuedOut}
use Rattle.pivotal_edges.specs.Marks.{Marks, Marked, among-keep}

-- ---- the edges that are not visited yet
module _ (E : List Edge) (v : ℕ) (vis : List Ends) where
  abbrev new : List Edge
  new = fresh vis (leaving E v)

  among-new : (d : Ends) → among d (ends_of E) ≡ true → among d (vis ++ ends_of new) ≡ (among d vis || (not (among d vis) && (eqb d.from v && true)))
  unfolding leaving
  among-new d h =
      among-append d vis (ends_of new)
      ∙ ap (λ (z : Bool). among d vis || z)
      (among-keep d (λ (x : Ends). not (among x vis)) (leaving E v)
      ∙ ap (λ (z : Bool). not (among d vis) && z) (among-keep d (λ (x : Ends). eqb x.from v) E ∙ ap (λ (z : Bool). eqb d.from v && z) h))

  fewer-of : (L : List Edge) → All (λ (e : Edge). among e.ends (ends_of E) ≡ true) L → length (fresh (vis ++ ends_of new) L) + length (fresh vis (leaving L v)) ≤ length (fresh vis L)
  unfolding leaving
  fewer-of [] a = omega arith
  fewer-of (e ∷ L) a = go (among e.ends vis) refl (eqb e.ends.from v) refl (fewer-of L (all_tail a))
    where
      go : (x : Bool) → among e.ends vis ≡ x → (y : Bool) → eqb e.ends.from v ≡ y → length (fresh (vis ++ ends_of new) L) + length (fresh vis (leaving L v)) ≤ length (fresh vis L)
          → length (fresh (vis ++ ends_of new) (e ∷ L)) + length (fresh vis (leaving (e ∷ L) v)) ≤ length (fresh vis (e ∷ L))
      go true f true g ih = let u : among e.ends (vis ++ ends_of new) ≡ true = among-new e.ends (all_head a) ∙ (rw f) in rw (u, g, f) ih
      go true f false g ih = let u : among e.ends (vis ++ ends_of new) ≡ true = among-new e.ends (all_head a) ∙ (rw f) in rw (u, g, f) ih
      go false f true g ih = let u : among e.ends (vis ++ ends_of new) ≡ true = among-new e.ends (all_head a) ∙ (rw (f, g)) in rw (u, g, f) (omega arith)
      go false f false g ih = let u : among e.ends (vis ++ ends_of new) ≡ false = among-new e.ends (all_head a) ∙ (rw (f, g)) in rw (u, g, f) (omega arith)

  pub fewer : length (fresh (vis ++ ends_of new) E) + length new ≤ length (fresh vis E)
  unfolding ends_of
  fewer = fewer-of E (all_from E (λ e h. among-mem e.ends (ends_of E) (mem-map (λ (x : Edge). x.ends) h)))

-- ---- the definition
-- what pivotal_edges reads: the edges, from the source 0
unfoldable pub pivotals : List ℕ → ℕ → List Ends
pivotals es m =
    pivotal_from (edges_of es m) (length (leaving (edges_of es m) 0) + length (edges_of es m)) (enqueue_all 0 (leaving (edges_of es m) 0) []) []

pub pivotals-is : (es : List ℕ) (m : ℕ) (f : SearchInput) → f.edges ≡ edges_of es m → f.source ≡ 0 → pivotals es m ≡ pivotal_edges f
unfolding pivotals pivotal_edges
pivotals-is es m f e s = rw (e, s)

pivotal-step : (E : List Edge) (k : ℕ) (q : Queued) (qs : List Queued) (vis : List Ends) (v l : ℕ) → v ≡ q.ends.to → l ≡ q.level + 1
    → pivotal_from E (suc k) (q ∷ qs) vis ≡ pivotal_of (leaving E v) (fresh vis (leaving E v)) ++ pivotal_from E k (enqueue_all l (fresh vis (leaving E v)) qs) (vis ++ ends_of (fresh vis (leaving E v)))
unfolding pivotal_from
pivotal-step E k q qs vis v l e f = rw (e, f, add-one q.level)

pivotal-nil : (E : List Edge) (k : ℕ) (vis : List Ends) → pivotal_from E k [] vis ≡ []
unfolding pivotal_from
pivotal-nil E zero vis = refl
pivotal-nil E (suc k) vis = refl

pivotal-few : (out new : List Edge) → length (pivotal_of out new) ≤ length new
unfolding pivotal_of
pivotal-few out new = go (ltb 1 (length out))
  where
    go : (b : Bool) → length (cond b (ends_of (keep counts new)) []) ≤ length new
    go true = let a = length-ends (keep counts new) in let c = length-kept counts new in omega arith
    go false = omega arith

drop-on : {A : Type 0} (k n : ℕ) (a b : List A) → drop n a ≡ drop n b → drop (n + k) a ≡ drop (n + k) b
drop-on k n a b e = sym (drop-drop k n a) ∙ ap (λ l. drop k l) e ∙ drop-drop k n b

-- ---- the run
pub record Pivots (vs es : List ℕ) (m : ℕ) (q marks out : List ℕ) : Type 0 where
  pub linked : Linked vs es m
  pub room-q : m + m ≤ length q
  pub marks-in : m ≤ length marks
  pub clear : (i : ℕ) → i < m → get_or marks i 0 ≡ 0
  pub room-o : m ≤ length out

-- the first r numbers name the pivotal edges, in order; the rest of `out` is as it was
pub record Pivoted (es : List ℕ) (m : ℕ) (q marks out q' marks' out' : List ℕ) (r : ℕ) : Type 0 where
  pub few : r ≤ m
  pub is : (f : SearchInput) → f.edges ≡ edges_of es m → f.source ≡ 0 → map (λ (i : ℕ). (edge_at es i).ends) (take r out') ≡ pivotal_edges f
  pub low : All (λ (i : ℕ). i < m) (take r out')
  pub beyond : drop r out' ≡ drop r out
  pub queue-beyond : drop (m + m) q' ≡ drop (m + m) q
  pub marks-beyond : drop m marks' ≡ drop m marks

pub record Turning (es : List ℕ) (m : ℕ) (q₁ marks₀ out₀ q marks out : List ℕ) (front tail n : ℕ) : Type 0 where
  pub size-q : length q ≡ length q₁
  pub room-q : m + m ≤ length q
  pub size-m : length marks ≡ length marks₀
  pub size-o : length out ≡ length out₀
  pub low : front ≤ tail
  pub entries : All (Entry m front) (part q front tail)
  pub vis : List Ends
  pub seen : Seen es m marks vis
  pub fuel : ℕ
  pub queued : tail + length (fresh vis (edges_of es m)) ≤ m + m
  pub found : n + length (fresh vis (edges_of es m)) ≤ m
  pub enough : tail - front + length (fresh vis (edges_of es m)) ≤ fuel
  pub is : map (ends_at es) (take n out) ++ pivotal_from (edges_of es m) fuel (view es q front tail) vis ≡ pivotals es m
  pub beyond : drop n out ≡ drop n out₀
  pub names : All (λ (i : ℕ). i < m) (take n out)
  pub rest-q : drop (m + m) q ≡ drop (m + m) q₁
  pub rest-m : drop m marks ≡ drop m marks₀

fresh-nil : (L : List Edge) → fresh [] L ≡ L
unfolding among
fresh-nil L = keep_all (λ (e : Edge). not (among e.ends [])) (all_from L (λ e h. refl))

module _ {vs es : List ℕ} {m : ℕ} {q₀ marks₀ out₀ : List ℕ} (p : Pivots vs es m q₀ marks₀ out₀) where
  abbrev E : List Edge
  E = edges_of es m

  length-all : length (edges_of es m) ≡ m
  unfolding edges_of
  length-all = length-table (edge_at es) m p.linked.distinct

  seen_none : Seen es m marks₀ []
  unfolding among
  seen_none i h = sym (le-ltb 0 (get_or marks₀ i 0) (let z = p.clear i h in omega arith))

  first-few : length (leaving (edges_of es m) 0) ≤ m
  unfolding leaving
  first-few = let a = length-kept (λ (e : Edge). eqb e.ends.from 0) (edges_of es m) in let b = length-all in omega arith

  none : part q₀ 0 0 ≡ []
  none = part_none q₀ 0 0 (omega arith) (omega arith)

  pub source-asks : Queues vs es m 0 0 marks₀ q₀ 0 0
  source-asks =
      record {
        here = record { linked = p.linked; v-in = p.linked.source_in };
        marks-in = p.marks-in;
        low = omega arith;
        small = omega arith;
        short = omega arith;
        entries = subst (All (Entry m 0)) (sym none) nil;
        vis = [];
        seen = seen_none;
        room = (let a = ap length (fresh-nil (leaving (edges_of es m) 0)) in let b = first-few in let c = p.room-q in omega arith);
      }

  pub turning-start : {q : List ℕ} {tail : ℕ} → length q ≡ length q₀ → ((vis : List Ends) → Seen es m marks₀ vis → QueuedOut es m 0 0 vis q₀ q 0 0 tail)
      → Turning es m q marks₀ out₀ q marks₀ out₀ 0 tail 0
  unfolding pivotals
  turning-start {q} {tail} s all =
      let x = all [] seen_none in
      let e = fresh-nil (leaving (edges_of es m) 0) in
      let g = ap length (fresh-nil (edges_of es m)) in
      let t : tail ≡ length (leaving (edges_of es m) 0) = (let a = x.many in let b = ap length e in omega arith) in
      record {
        size-q = refl;
        room-q = (let a = p.room-q in omega arith);
        size-m = refl;
        size-o = refl;
        low = omega arith;
        entries = x.entries;
        vis = [];
        seen = seen_none;
        fuel = length (leaving (edges_of es m) 0) + length (edges_of es m);
        queued = (let a = first-few in let b = length-all in omega arith);
        found = (let b = length-all in omega arith);
        enough = omega arith;
        is =
            ap (λ (l : List Queued). pivotal_from (edges_of es m) (length (leaving (edges_of es m) 0) + length (edges_of es m)) l [])
            (x.is
            ∙ ap (λ (l : List Edge). enqueue_all 0 l (view es q₀ 0 0)) e
            ∙ ap (λ (l : List ℕ). enqueue_all 0 (leaving (edges_of es m) 0) (map (queued_at es) l)) none);
        beyond = refl;
        names = nil;
        rest-q = refl;
        rest-m = refl;
      }

  pub source-rest : {q : List ℕ} {tail : ℕ} → ((vis : List Ends) → Seen es m marks₀ vis → QueuedOut es m 0 0 vis q₀ q 0 0 tail) → drop (m + m) q ≡ drop (m + m) q₀
  source-rest all =
      let x = all [] seen_none in
      x.rest (m + m) (let a = x.many in let c = ap length (fresh-nil (leaving (edges_of es m) 0)) in let d = first-few in omega arith)

  module _ {q₁ q marks out : List ℕ} {front tail n : ℕ} (b : Turning es m q₁ marks₀ out₀ q marks out front tail n) where
    high : tail ≤ length q
    high = let a = b.queued in let c = b.room-q in omega arith

    pub turning-end : drop (m + m) q₁ ≡ drop (m + m) q₀ → tail ≤ front → Pivoted es m q₀ marks₀ out₀ q marks out n
    turning-end rq h =
        let e : view es q front tail ≡ [] = ap (map (queued_at es)) (part_none q front tail high h) in
        let f : pivotal_from (edges_of es m) b.fuel (view es q front tail) b.vis ≡ [] =
        ap (λ (l : List Queued). pivotal_from (edges_of es m) b.fuel l b.vis) e ∙ pivotal-nil (edges_of es m) b.fuel b.vis in
        record {
          few = (let a = b.found in omega arith);
          is = λ g e' s.
              sym (append-nil (map (ends_at es) (take n out)))
              ∙ ap (λ (l : List Ends). map (ends_at es) (take n out) ++ l) (sym f)
              ∙ b.is
              ∙ pivotals-is es m g e' s;
          low = b.names;
          beyond = b.beyond;
          queue-beyond = b.rest-q ∙ rq;
          marks-beyond = b.rest-m;
        }

    module _ (h : front < tail) where
      split : part q front tail ≡ get_or q front 0 ∷ part q (front + 1) tail
      split = part-cons q front tail high h

      pub turning-entry : Entry m front (get_or q front 0)
      turning-entry = all_head (subst (All (Entry m front)) split b.entries)

      pub turning-edge : {i : ℕ} → i ≡ get_or q front 0 % 8192 → HasEdge es i
      turning-edge e = let a = turning-entry.0 in let c = p.linked.room in omega arith

      pub turning-front : front < 16384
      turning-front = let a = b.queued in let c = p.linked.few in omega arith

      module _ {i v l : ℕ} (hi : i ≡ get_or q front 0 % 8192) (hv : v ≡ edge_to es i) (hl : l ≡ get_or q front 0 / 8192) where
        here : Here vs es m v
        here = record { linked = p.linked; v-in = (let a = p.linked.to_in i (let c = turning-entry.0 in omega arith) in omega arith) }

        nw : List Edge
        nw = fresh b.vis (leaving (edges_of es m) v)

        less : length (fresh (b.vis ++ ends_of nw) (edges_of es m)) + length nw ≤ length (fresh b.vis (edges_of es m))
        unfolding nw
        less = fewer (edges_of es m) v b.vis

        pub turning-lists : Lists vs es m v marks out n
        unfolding nw
        turning-lists =
            record {
              here = here;
              marks-in = (let a = p.marks-in in let c = b.size-m in omega arith);
              vis = b.vis;
              seen = b.seen;
              room = (let a = less in let c = b.found in let d = p.room-o in let e = b.size-o in omega arith);
            }

        pub turning-queues : Queues vs es m v (l + 1) marks q (front + 1) tail
        unfolding nw
        turning-queues =
            record {
              here = here;
              marks-in = (let a = p.marks-in in let c = b.size-m in omega arith);
              low = omega arith;
              small = (let a = turning-entry.1 in omega arith);
              short = (let a = turning-front in omega arith);
              entries = all-mono (λ x z. (z.0, (let a = z.1 in omega arith))) (all_tail (subst (All (Entry m front)) split b.entries));
              vis = b.vis;
              seen = b.seen;
              room = (let a = less in let c = b.queued in let d = b.room-q in omega arith);
            }

        pub turning-marks : Marks vs es m v marks
        turning-marks = record { here = here; marks-in = (let a = p.marks-in in let c = b.size-m in omega arith) }

        pub turning-next : {q' marks' out' : List ℕ} {tail' n' : ℕ} → length q' ≡ length q → length marks' ≡ length marks → length out' ≡ length out
            → ((vis : List Ends) → Seen es m marks vis → Listed es m out out' n n' (pivotal_of (leaving (edges_of es m) v) (fresh vis (leaving (edges_of es m) v))))
            → ((vis : List Ends) → Seen es m marks vis → QueuedOut es m v (l + 1) vis q q' (front + 1) tail tail')
            → Marked es m v marks marks' → Turning es m q₁ marks₀ out₀ q' marks' out' (front + 1) tail' n'
        unfolding nw queued_at
        turning-next {q'} {marks'} {out'} {tail'} {n'} sq sm so ls qs ms =
            record {
              size-q = sq ∙ b.size-q;
              room-q = (let a = b.room-q in omega arith);
              size-m = sm ∙ b.size-m;
              size-o = so ∙ b.size-o;
              low = (let a = Q.many in omega arith);
              entries = Q.entries;
              vis = b.vis ++ ends_of nw;
              seen = ms.seen b.vis b.seen;
              fuel = b.fuel - 1;
              queued = (let a = Q.many in let c = less in let d = b.queued in omega arith);
              found = (let a = L.many in let c = less in let d = b.found in let e = pivotal-few (leaving (edges_of es m) v) nw in omega arith);
              enough = (let a = Q.many in let c = less in let d = b.enough in omega arith);
              is =
                  ap (λ (z : List Ends). z ++ pivotal_from (edges_of es m) (b.fuel - 1) (view es q' (front + 1) tail') (b.vis ++ ends_of nw)) L.is
                  ∙ ap (λ (z : List Queued). (map (ends_at es) (take n out) ++ pv) ++ pivotal_from (edges_of es m) (b.fuel - 1) z (b.vis ++ ends_of nw)) Q.is
                  ∙ append_assoc (map (ends_at es) (take n out)) pv (pivotal_from (edges_of es m) (b.fuel - 1) (enqueue_all (l + 1) nw (view es q (front + 1) tail)) (b.vis ++ ends_of nw))
                  ∙ ap (λ (z : List Ends). map (ends_at es) (take n out) ++ z)
                  (sym (pivotal-step (edges_of es m) (b.fuel - 1) (queued_at es (get_or q front 0)) (view es q (front + 1) tail) b.vis v (l + 1) to_is (ap (λ (z : ℕ). z + 1) hl))
                  ∙ ap (λ (z : List ℕ). pivotal_from (edges_of es m) (suc (b.fuel - 1)) (map (queued_at es) z) b.vis) (sym split)
                  ∙ ap (λ (z : ℕ). pivotal_from (edges_of es m) z (view es q front tail) b.vis) fuel-is)
                  ∙ b.is;
              beyond = L.beyond ∙ subst (λ (z : ℕ). drop z out ≡ drop z out₀) (sym L.many) (drop-on (length pv) n out out₀ b.beyond);
              names = L.low b.names;
              rest-q = Q.rest (m + m) (let a = Q.many in let c = less in let d = b.queued in omega arith) ∙ b.rest-q;
              rest-m = ms.rest ∙ b.rest-m;
            }
          where
            pv : List Ends
            pv = pivotal_of (leaving (edges_of es m) v) nw

            L : Listed es m out out' n n' pv
            L = ls b.vis b.seen

            Q : QueuedOut es m v (l + 1) b.vis q q' (front + 1) tail tail'
            Q = qs b.vis b.seen

            to_is : v ≡ edge_to es (get_or q front 0 % 8192)
            to_is = hv ∙ ap (λ (z : ℕ). edge_to es z) hi

            fuel-is : suc (b.fuel - 1) ≡ b.fuel
            fuel-is = let a = b.enough in omega arith
