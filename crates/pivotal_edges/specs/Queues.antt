-- Queueing the out-edges of a vertex that are not visited. Assumes nothing.
use Rattle.std.specs.Prelude.{Some, None, ◌≡◌, refl, Bool, true, false, ℕ, ◌+◌, ◌*◌, ◌/◌, ◌%◌, ◌<◌, ◌≤◌, get_or, drop}
use Rattle.std.proofs.Math.Path.{sym, ap, subst}
use Rattle.std.proofs.Common.{◌∙◌, lt-ltb, le-ltb}
use mathlib.Core.List.{List, [], ◌∷◌, map}
use native.Mathlib.Omega.{arith}
use Rattle.std.proofs.Math.Decide.{ℕ_discrete}
use Rattle.std.proofs.Math.ListN.{length}
use Rattle.laws.specs.ListLaws.{All, all-mono}
use Rattle.laws.specs.Insertion.{insert, insert-past, insert-here, all_insert}
use Rattle.definition.specs.Threading.{Ends, Edge, leaving}
use Rattle.definition.specs.Search.{among, Queued, earlier, enqueue, enqueue_all}
use Rattle.assembly.specs.Fields.{HasEdges, edge_to}
use Rattle.assembly.specs.Store.{edge_at, edges_of}
use Rattle.out_edges.specs.Outs.{Nexts, out_from}
use Rattle.pivotal_edges.specs.Queue.{ends_at, queued_at, before, part, Known}
use Rattle.pivotal_edges.specs.Walk.{Here, Seen, fresh, leaving-from, next-none, next-some, next-in}

-- the definition's queue
abbrev pub view : List ℕ → List ℕ → ℕ → ℕ → List Queued
view es q front tail = map (queued_at es) (part q front tail)

insert-map : (es : List ℕ) (x : ℕ) (l : List ℕ) → map (queued_at es) (insert (before es) x l) ≡ insert earlier (queued_at es x) (map (queued_at es) l)
unfolding insert before
insert-map es x [] = refl
insert-map es x (y ∷ l) = go (before es y x) refl (insert-map es x l)
  where
    go : (b : Bool) → before es y x ≡ b → map (queued_at es) (insert (before es) x l) ≡ insert earlier (queued_at es x) (map (queued_at es) l)
        → map (queued_at es) (insert (before es) x (y ∷ l)) ≡ insert earlier (queued_at es x) (queued_at es y ∷ map (queued_at es) l)
    go true e ih =
        ap (map (queued_at es)) (insert-past (before es) x y l e) ∙ ap (λ (z : List Queued). queued_at es y ∷ z) ih ∙ sym (insert-past earlier (queued_at es x) (queued_at es y) (map (queued_at es) l) e)
    go false e ih = ap (map (queued_at es)) (insert-here (before es) x y l e) ∙ sym (insert-here earlier (queued_at es x) (queued_at es y) (map (queued_at es) l) e)

-- an entry of an edge, at a distance that is small
abbrev pub Entry : ℕ → ℕ → ℕ → Type 0
Entry m top x = (x % 8192 < m) × (x / 8192 ≤ top)

entry-is : (es : List ℕ) (l i : ℕ) → i < 8192 → queued_at es (l * 8192 + i) ≡ record { level = l; ends = ends_at es i }
unfolding queued_at
entry-is es l i h =
    let a : (l * 8192 + i) / 8192 ≡ l = omega arith in
    let b : (l * 8192 + i) % 8192 ≡ i = omega arith in
    rw (a, b)

-- ---- one edge
pub record QueuesOne (es : List ℕ) (m : ℕ) (marks q : List ℕ) (front tail level i : ℕ) : Type 0 where
  pub i-in : i < m
  pub few : m ≤ 8192
  pub room : HasEdges es m
  pub marks-in : m ≤ length marks
  pub low : front ≤ tail
  pub high : tail ≤ length q
  pub fits : get_or marks i 0 ≡ 0 → tail < length q
  pub small : level ≤ front
  pub short : front ≤ 16384
  pub entries : All (Entry m front) (part q front tail)

pub record OneQueued (es marks q q' : List ℕ) (front tail level i r : ℕ) : Type 0 where
  pub size : length q' ≡ length q
  pub yes : get_or marks i 0 ≡ 0 → (r ≡ tail + 1) × (part q' front (tail + 1) ≡ insert (before es) (level * 8192 + i) (part q front tail))
  pub no : (get_or marks i 0 ≡ 0 → ⊥) → (r ≡ tail) × (q' ≡ q)
  pub rest : (k : ℕ) → r ≤ k → drop k q' ≡ drop k q

module _ {es : List ℕ} {m : ℕ} {marks q : List ℕ} {front tail level i : ℕ} (p : QueuesOne es m marks q front tail level i) where
  pub one-fits : level * 8192 + i < 4294967296
  one-fits = let a = p.i-in in let b = p.few in let c = p.small in let d = p.short in omega arith

  pub one_known : Known es q front tail (level * 8192 + i)
  one_known =
      record {
        low = p.low;
        high = p.high;
        names = all-mono (λ x h. (let a = h.0 in let b = p.room in omega arith)) p.entries;
        named = let a = p.i-in in let b = p.few in let c = p.room in let d : (level * 8192 + i) % 8192 ≡ i = omega arith in omega arith;
      }

-- ---- the walk
pub record Queues (vs es : List ℕ) (m v level : ℕ) (marks q : List ℕ) (front tail : ℕ) : Type 0 where
  pub here : Here vs es m v
  pub marks-in : m ≤ length marks
  pub low : front ≤ tail
  pub small : level ≤ front
  pub short : front ≤ 16384
  pub entries : All (Entry m front) (part q front tail)
  pub vis : List Ends
  pub seen : Seen es m marks vis
  pub room : tail + length (fresh vis (leaving (edges_of es m) v)) ≤ length q

-- the definition's queue with the new edges of v
pub record QueuedOut (es : List ℕ) (m v level : ℕ) (vis : List Ends) (q q' : List ℕ) (front tail r : ℕ) : Type 0 where
  pub many : r ≡ tail + length (fresh vis (leaving (edges_of es m) v))
  pub is : view es q' front r ≡ enqueue_all level (fresh vis (leaving (edges_of es m) v)) (view es q front tail)
  pub entries : All (Entry m front) (part q' front r)
  pub rest : (k : ℕ) → r ≤ k → drop k q' ≡ drop k q

pub record Queueing (es : List ℕ) (m v level : ℕ) (vis : List Ends) (q₀ q : List ℕ) (front tail₀ tail t : ℕ) : Type 0 where
  pub many : tail + length (fresh vis (out_from (edges_of es m) v t)) ≡ tail₀ + length (fresh vis (leaving (edges_of es m) v))
  pub is : enqueue_all level (fresh vis (out_from (edges_of es m) v t)) (view es q front tail) ≡ enqueue_all level (fresh vis (leaving (edges_of es m) v)) (view es q₀ front tail₀)

pub record Queuer (es : List ℕ) (m v level : ℕ) (marks q₀ q : List ℕ) (front tail₀ tail t : ℕ) : Type 0 where
  pub size : length q ≡ length q₀
  pub low : front ≤ tail
  pub entries : All (Entry m front) (part q front tail)
  pub beyond : (k : ℕ) → tail ≤ k → drop k q ≡ drop k q₀
  pub each : (vis : List Ends) → Seen es m marks vis → Queueing es m v level vis q₀ q front tail₀ tail t

module _ (es marks : List ℕ) (m : ℕ) (vis : List Ends) (s : Seen es m marks vis) (i : ℕ) (h : i < m) (l : List Edge) where
  fresh-yes : get_or marks i 0 ≡ 0 → fresh vis (edge_at es i ∷ l) ≡ edge_at es i ∷ fresh vis l
  fresh-yes e = let u : among (ends_at es i) vis ≡ false = s i h ∙ le-ltb 0 (get_or marks i 0) (omega arith) in rw u

  fresh-no : (get_or marks i 0 ≡ 0 → ⊥) → fresh vis (edge_at es i ∷ l) ≡ fresh vis l
  fresh-no e = let u : among (ends_at es i) vis ≡ true = s i h ∙ lt-ltb 0 (get_or marks i 0) (omega arith) in rw u

all_cons : (l : ℕ) (e : Edge) (es : List Edge) (qs : List Queued) → enqueue_all l (e ∷ es) qs ≡ enqueue_all l es (insert earlier (record { level = l; ends = e.ends }) qs)
unfolding enqueue_all enqueue
all_cons l e es qs = refl

all_nil : (l : ℕ) (qs : List Queued) → enqueue_all l [] qs ≡ qs
unfolding enqueue_all
all_nil l qs = refl

module _ {vs es : List ℕ} {m v level : ℕ} {marks q₀ : List ℕ} {front tail₀ : ℕ} (p : Queues vs es m v level marks q₀ front tail₀) where
  pub queuer-start : {t : ℕ} → t ≡ 0 → Queuer es m v level marks q₀ q₀ front tail₀ tail₀ t
  queuer-start z =
      let e = leaving-from (edges_of es m) v in
      rw z
      (record {
        size = refl;
        low = p.low;
        entries = p.entries;
        beyond = λ k z. refl;
        each = λ vis s. record { many = ap (λ (l : List Edge). tail₀ + length (fresh vis l)) e; is = ap (λ (l : List Edge). enqueue_all level (fresh vis l) (view es q₀ front tail₀)) e };
      })

  module _ {q : List ℕ} {tail t : ℕ} (b : Queuer es m v level marks q₀ q front tail₀ tail t) where
    pub queuer-end : Nexts es m v t None → (vis : List Ends) → Seen es m marks vis → QueuedOut es m v level vis q₀ q front tail₀ tail
    queuer-end h vis s =
        let x = b.each vis s in
        let e : fresh vis (out_from (edges_of es m) v t) ≡ [] = ap (fresh vis) (next-none p.here h) in
        record {
          many = (let u = x.many in let w = ap length e in omega arith);
          is = sym (all_nil level (view es q front tail)) ∙ ap (λ (l : List Edge). enqueue_all level l (view es q front tail)) (sym e) ∙ x.is;
          entries = b.entries;
          rest = b.beyond;
        }

    module _ {i : ℕ} (h : Nexts es m v t (Some i)) where
      i-in : i < m
      i-in = next-in p.here h

      rest : List Edge
      rest = out_from (edges_of es m) v (edge_to es i + 1)

      high : tail ≤ length q
      high = let x = (b.each p.vis p.seen).many in let u = p.room in let w = b.size in omega arith

      below : get_or marks i 0 ≡ 0 → tail < length q
      unfolding rest
      below z =
          let x = (b.each p.vis p.seen).many in
          let e = ap (λ (l : List Edge). length (fresh p.vis l)) (next-some p.here h) in
          let f = ap length (fresh-yes es marks m p.vis p.seen i i-in rest z) in
          let u = p.room in
          let w = b.size in
          omega arith

      pub queuer-one : QueuesOne es m marks q front tail level i
      queuer-one =
          record {
            i-in = i-in;
            few = p.here.linked.few;
            room = p.here.linked.room;
            marks-in = p.marks-in;
            low = b.low;
            high = high;
            fits = below;
            small = p.small;
            short = p.short;
            entries = b.entries;
          }

      pub queuer-next : {q' : List ℕ} {tail' w : ℕ} → w ≡ edge_to es i + 1
          → OneQueued es marks q q' front tail level i tail' → Queuer es m v level marks q₀ q' front tail₀ tail' w
      unfolding rest
      queuer-next {q'} {tail'} {w} e o = go (ℕ_discrete (get_or marks i 0) 0)
        where
          go : Dec (get_or marks i 0 ≡ 0) → Queuer es m v level marks q₀ q' front tail₀ tail' w
          go (yes z) =
              let y = o.yes z in
              let few : i < 8192 = (let a = i-in in let c = p.here.linked.few in omega arith) in
              let new : part q' front tail' ≡ insert (before es) (level * 8192 + i) (part q front tail) = rw y.0 y.1 in
              record {
                size = o.size ∙ b.size;
                low = (let a = b.low in let c = y.0 in omega arith);
                entries =
                    subst (All (Entry m front)) (sym new)
                    (all_insert (before es) (level * 8192 + i)
                    ((let a : (level * 8192 + i) % 8192 ≡ i = omega arith in let c = i-in in omega arith), (let a : (level * 8192 + i) / 8192 ≡ level = omega arith in let c = p.small in omega arith))
                    b.entries);
                beyond = λ k u. (o.rest k u ∙ b.beyond k (let c = y.0 in omega arith));
                each =
                    λ vis u.
                    (let x = b.each vis u in
                    let f : fresh vis (out_from (edges_of es m) v t) ≡ edge_at es i ∷ fresh vis rest = ap (fresh vis) (next-some p.here h) ∙ fresh-yes es marks m vis u i i-in rest z in
                    let g : view es q' front tail' ≡ insert earlier (record { level = level; ends = ends_at es i }) (view es q front tail) =
                    ap (map (queued_at es)) new
                    ∙ insert-map es (level * 8192 + i) (part q front tail)
                    ∙ ap (λ (a : Queued). insert earlier a (view es q front tail)) (entry-is es level i few) in
                    rw e
                    (record {
                      many = (let a = x.many in let c = ap length f in let d = y.0 in omega arith);
                      is =
                          ap (enqueue_all level (fresh vis rest)) g
                          ∙ sym (all_cons level (edge_at es i) (fresh vis rest) (view es q front tail))
                          ∙ ap (λ (l : List Edge). enqueue_all level l (view es q front tail)) (sym f)
                          ∙ x.is;
                    }));
              }
          go (no z) =
              let y = o.no z in
              rw (y.0, y.1)
              (record {
                size = b.size;
                low = b.low;
                entries = b.entries;
                beyond = b.beyond;
                each =
                    λ vis u.
                    (let x = b.each vis u in
                    let f : fresh vis (out_from (edges_of es m) v t) ≡ fresh vis rest = ap (fresh vis) (next-some p.here h) ∙ fresh-no es marks m vis u i i-in rest z in
                    rw e
                    (record {
                      many = (let a = x.many in let c = ap length f in omega arith);
                      is = ap (λ (l : List Edge). enqueue_all level l (view es q front tail)) (sym f) ∙ x.is;
                    }));
              })
