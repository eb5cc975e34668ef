-- A stretch that was threaded walks over edges of the graph: following the next base leads to the next kmer's own vertex, so the walk of Evidence, by
-- bases, is the walk over the vertices of the stretch's kmers. No base is missing, and the Rust's bridging of one is not reached.
use mathlib.Core.Path.{◌≡◌, refl, sym, ap, subst, ◌∙◌}
use mathlib.Core.Logic.{inl, inr}
use Prim.Native.Nat.{ℕ, zero, suc, ◌+◌, ◌-◌, ◌≤◌, ◌<◌, compare, Ordering}
use native.Mathlib.Omega.{arith}
use mathlib.Core.Bool.{Bool, true, false}
use mathlib.Core.List.{List, [], ◌∷◌, map}
use mathlib.Core.Option.{Option, none, some}
use lib.Dec.{leb, ltb, eqb}
use lib.ListN.{length, take, drop, get_or, drop_of_length-le}
use lib.Seq.{drop-drop, drop-cons, drop-nil}
use borrow.Author.Tests.{leb-true, leb-false, ltb-true, ltb-false, eqb-true, eq-eqb}
use Rattle.laws.specs.Lists.{keep, find, sole, last_or}
use Rattle.laws.specs.Numbers.{eq-compare}
use Rattle.laws.specs.ListLaws.{clash, All, nil, cons, Mem, here, there, all-mono, all-self, all_head, all_tail, all-zip, all_keep, all-passed, all-mem, all-find, mem-keep}
use Rattle.definition.specs.Limits.{Sample}
use Rattle.definition.specs.Stretch.{Stretch, kmers, stretches}
use Rattle.definition.specs.Threading.{Ends, compare_ends, Origin, Edge, Graph, Threading, leaving, entering, last_base, one_step, merge, put, number_of, follow, step_to, step, steps, backward, start_at, thread, thread_all, threaded}
use Rattle.definition.specs.Evidence.{Tree, Walk, take_edge, pass, walk_bases, walk_stretch}
use Rattle.theorems.proofs.Walks.{Has}
use Rattle.theorems.proofs.Kmers.{kmers-short, kmers-cons}
use Rattle.theorems.proofs.Spelling.{Spells, opened, same_next, Sound, threaded-sound, SpellsOn, Standing, Growing, growing-self, growing-on, kept, step-standing, start-standing, thread-is, thread-short, thread-spells, reference_run, RunOf}
use Rattle.theorems.proofs.Tables.{Unlike, unlike-number, threaded-neat}

-- ---- edges stay

pub ends_same : (a b : Ends) → compare_ends a b ≡ Ordering.eq → a ≡ b
ends_same a b e = go (compare a.from b.from) refl
  where
    go : (o : Ordering) → compare a.from b.from ≡ o → a ≡ b
    go Ordering.lt x = let z : Ordering.lt ≡ Ordering.eq = rw x at e in cc
    go Ordering.gt x = let z : Ordering.gt ≡ Ordering.eq = rw x at e in cc
    go Ordering.eq x =
        let l : a.from ≡ b.from = eq-compare a.from b.from x in
        let r : a.to ≡ b.to = eq-compare a.to b.to (rw x at e) in
        λ i. record { from = l i; to = r i }

-- a counted edge is in the table, and those that were there stay
put_has : (n : Edge) (es : List Edge) → Has (put n es) n.ends
unfolding put Has merge
put_has n [] = (n, here refl, refl)
put_has n (e ∷ es) = go (compare_ends n.ends e.ends) refl (put_has n es)
  where
    go : (o : Ordering) → compare_ends n.ends e.ends ≡ o → (x : Edge) × Mem x (put n es) × (x.ends ≡ n.ends) → (x : Edge) × Mem x (put n (e ∷ es)) × (x.ends ≡ n.ends)
    go Ordering.lt c ih = rw (c, put) (n, here refl, refl)
    go Ordering.eq c ih = rw (c, put) (merge e n, here refl, sym (ends_same n.ends e.ends c))
    go Ordering.gt c ih = rw (c, put) (ih.0, there ih.1, ih.2)

put_keeps : (n : Edge) (es : List Edge) (d : Ends) → Has es d → Has (put n es) d
unfolding put Has merge
put_keeps n [] d (x, m, e) = elim m [ ]
put_keeps n (y ∷ ys) d (x, m, e) = go (compare_ends n.ends y.ends) refl m (λ k. put_keeps n ys d (x, k, e))
  where
    go : (o : Ordering) → compare_ends n.ends y.ends ≡ o → Mem x (y ∷ ys) → (Mem x ys → (z : Edge) × Mem z (put n ys) × (z.ends ≡ d)) → (z : Edge) × Mem z (put n (y ∷ ys)) × (z.ends ≡ d)
    go Ordering.lt c k ih = rw (c, put) (x, there k, e)
    go Ordering.eq c (here w) ih = rw (c, put) (merge y n, here refl, ap (λ (z : Edge). z.ends) (sym w) ∙ e)
    go Ordering.eq c (there k) ih = rw (c, put) (x, there k, e)
    go Ordering.gt c (here w) ih = rw (c, put) (x, here w, e)
    go Ordering.gt c (there k) ih = let r = ih k in rw (c, put) (r.0, there r.1, r.2)

backward-keeps : (n v : ℕ) (es : List Edge) (d : Ends) → Has es d → Has (backward n v es) d
unfolding backward
backward-keeps zero v es d h = h
backward-keeps (suc n) v es d h = go (sole (entering es v)) refl (λ w x k. backward-keeps n w x d k)
  where
    go : (o : Option Edge) → sole (entering es v) ≡ o → ((w : ℕ) (x : List Edge) → Has x d → Has (backward n w x) d) → Has (backward (suc n) v es) d
    go none e ih = rw (e, backward) h
    go (some x) e ih = rw (e, backward) (ih x.ends.from _ (put_keeps _ es d h))

-- a later graph: kmers are added at the end, and edges stay
pub record Later (g h : Graph) : Type 0 where
  pub growing : Growing g h
  pub keeps : (d : Ends) → Has g.edges d → Has h.edges d

later-self : (g : Graph) → Later g g
later-self g = record { growing = growing-self g; keeps = λ d h. h }

later-on : {g h j : Graph} → Later g h → Later h j → Later g j
later-on a b = record { growing = growing-on a.growing b.growing; keeps = λ d m. b.keeps d (a.keeps d m) }

-- one step keeps the edges, and makes or counts that from the vertex left to the vertex reached
step_keeps : (ref : Bool) (o : Origin) (x : List ℕ) (t : Threading)
    → ((d : Ends) → Has t.graph.edges d → Has (step ref o x t).graph.edges d) × Has (step ref o x t).graph.edges (record { from = t.here; to = (step ref o x t).here })
unfolding step step_to one_step
step_keeps ref o x t = go (follow t.graph t.here (last_or 0 x)) refl
  where
    go : (f : Option Edge) → follow t.graph t.here (last_or 0 x) ≡ f
        → ((d : Ends) → Has t.graph.edges d → Has (step ref o x t).graph.edges d) × Has (step ref o x t).graph.edges (record { from = t.here; to = (step ref o x t).here })
    go none e = rw (e, step) ((λ d h. put_keeps _ t.graph.edges d h), put_has _ t.graph.edges)
    go (some y) e = rw (e, step) ((λ d h. put_keeps _ t.graph.edges d h), put_has _ t.graph.edges)

-- ---- the walk of a run

-- from the vertex v an edge leads to a vertex of each next kmer
abbrev pub Led : Graph → ℕ → List (List ℕ) → Type 0
Led g v [] = Unit {0}
Led g v (y ∷ ys) = (u : ℕ) × (u < length g.kmers) × (get_or g.kmers u [] ≡ y) × Has g.edges (record { from = v; to = u }) × Led g u ys

led-later : {g h : Graph} (v : ℕ) (ys : List (List ℕ)) → Later g h → Led g v ys → Led h v ys
led-later v [] l w = tt
led-later v (y ∷ ys) l w =
    let k = kept w.0 l.growing w.1 in
    (w.0, k.0, k.1 ∙ w.2, l.keeps _ w.3, led-later w.0 ys l w.4)

module _ (Src : Stretch → Type 0) (k : ℕ) (1≤k : 1 ≤ k) (r : Stretch) (src : Src r) where
  steps-led : (ref : Bool) (M : List ℕ) (j i a : ℕ) (t : Threading) → drop j r.bytes ≡ a ∷ M → i ≡ r.place + j → Standing Src k t (take k (a ∷ M))
      → Later t.graph (steps ref r.sequence i (kmers k M) t).graph × Led (steps ref r.sequence i (kmers k M) t).graph t.here (kmers k M)
  unfolding steps kmers
  steps-led ref [] j i a t w e s = (later-self t.graph, tt)
  steps-led ref (m ∷ M) j i a t w e s = go (leb k (suc (length M))) refl (λ u. steps-led ref M (suc j) (suc i) m u)
    where
      Goal : Type 0
      Goal =
          Later t.graph (steps ref r.sequence i (kmers k (m ∷ M)) t).graph
          × Led (steps ref r.sequence i (kmers k (m ∷ M)) t).graph t.here (kmers k (m ∷ M))

      next : drop (suc j) r.bytes ≡ m ∷ M
      next = let n : suc j ≡ j + 1 = omega arith in rw n (sym (drop-drop 1 j r.bytes) ∙ ap (drop 1) w)

      go : (b : Bool) → leb k (suc (length M)) ≡ b
          → ((u : Threading) → drop (suc j) r.bytes ≡ m ∷ M → suc i ≡ r.place + suc j → Standing Src k u (take k (m ∷ M))
          → Later u.graph (steps ref r.sequence (suc i) (kmers k M) u).graph × Led (steps ref r.sequence (suc i) (kmers k M) u).graph u.here (kmers k M))
          → Goal
      go true b ih =
          let o : Origin = record { sequence = r.sequence; place = i } in
          let u = step ref o (take k (m ∷ M)) t in
          let one = step-standing Src k 1≤k r src ref j i a (m ∷ M) t w e (leb-true k (suc (length M)) b) s in
          let two = step_keeps ref o (take k (m ∷ M)) t in
          let rest = ih u next (omega arith) one.0 in
          let v = kept u.here rest.0.growing one.0.inside in
          rw (kmers-cons k m M (leb-true k (suc (length M)) b))
          (later-on (record { growing = one.1; keeps = two.0 }) rest.0, (u.here, v.0, v.1 ∙ one.0.is, rest.0.keeps _ two.1, rest.1))
      go false b ih = rw (kmers-short k (m ∷ M) (leb-false k (suc (length M)) b)) (later-self t.graph, tt)

-- a list of kmers is walked in a graph: the first has a vertex, and from there edges lead on
abbrev pub Walked : Graph → List (List ℕ) → Type 0
Walked g [] = Unit {0}
Walked g (x ∷ xs) = (v : ℕ) × (v < length g.kmers) × (get_or g.kmers v [] ≡ x) × Led g v xs

walked-later : {g h : Graph} (xs : List (List ℕ)) → Later g h → Walked g xs → Walked h xs
walked-later [] l w = tt
walked-later (x ∷ xs) l w = let k = kept w.0 l.growing w.1 in (w.0, k.0, k.1 ∙ w.2, led-later w.0 xs l w.3)

module _ (Src : Stretch → Type 0) (k : ℕ) (1≤k : 1 ≤ k) where
  start-later : (x : List ℕ) (g : Graph) → Growing g (start_at k x g).graph → Later g (start_at k x g).graph
  unfolding start_at
  start-later x g w = record { growing = w; keeps = λ d h. backward-keeps (k - 1) (number_of g.kmers x) g.edges d h }

  thread-walked : (ref : Bool) (r : Stretch) (bs : List ℕ) (g : Graph) → Src r → r.bytes ≡ bs → All (SpellsOn Src k g.kmers) g.edges
      → Later g (thread ref k r g) × Walked (thread ref k r g) (kmers k bs)
  thread-walked ref r [] g src e a = rw (thread-short Src k 1≤k r src ref g (rw e 1≤k)) (later-self g, unfold kmers in tt)
  thread-walked ref r (b ∷ bs) g src e a = go (leb k (suc (length bs))) refl
    where
      go : (z : Bool) → leb k (suc (length bs)) ≡ z → Later g (thread ref k r g) × Walked (thread ref k r g) (kmers k (b ∷ bs))
      go true u =
          let h : k ≤ suc (length bs) = leb-true k (suc (length bs)) u in
          let st = start-standing Src k 1≤k r src (take k (b ∷ bs)) g a in
          let p : r.place ≡ r.place + 0 = omega arith in
          let t = start_at k (take k (b ∷ bs)) g in
          let q = steps-led Src k 1≤k r src ref bs 0 r.place b t e p st.0 in
          let v = kept t.here q.0.growing st.0.inside in
          rw (thread-is Src k 1≤k r src ref b bs g e h, kmers-cons k b bs h)
          (later-on (start-later (take k (b ∷ bs)) g st.1) q.0, (t.here, v.0, v.1 ∙ st.0.is, q.1))
      go false u =
          let h : suc (length bs) < k = leb-false k (suc (length bs)) u in
          rw (thread-short Src k 1≤k r src ref g (rw e h), kmers-short k (b ∷ bs) h) (later-self g, tt)

  all-walked : (rs : List Stretch) (g : Graph) → All Src rs → All (SpellsOn Src k g.kmers) g.edges
      → Later g (thread_all k rs g) × All (λ r. Walked (thread_all k rs g) (kmers k r.bytes)) rs
  unfolding thread_all
  all-walked [] g s a = (later-self g, nil)
  all-walked (r ∷ rs) g s a =
      let one = thread-walked false r r.bytes g (all_head s) refl a in
      let sp = thread-spells Src k 1≤k r (all_head s) false g a in
      let rest = all-walked rs (thread false k r g) (all_tail s) sp.0 in
      (later-on one.0 rest.0, cons (walked-later (kmers k r.bytes) rest.0 one.1) rest.1)

-- ---- the vertices visited

-- the vertices of a stretch's kmers, in order
abbrev pub visits : ℕ → Graph → Stretch → List ℕ
visits k g r = map (number_of g.kmers) (kmers k r.bytes)

-- each two neighbours of the list are the ends of an edge
abbrev pub OverEdges : List Edge → List ℕ → Type 0
OverEdges es [] = Unit {0}
OverEdges es (v ∷ []) = Unit {0}
OverEdges es (v ∷ u ∷ us) = Has es (record { from = v; to = u }) × OverEdges es (u ∷ us)

led-number : (g : Graph) (v : ℕ) (y : List ℕ) → Unlike g.kmers → v < length g.kmers → get_or g.kmers v [] ≡ y → number_of g.kmers y ≡ v
led-number g v y n h e = ap (number_of g.kmers) (sym e) ∙ unlike-number g.kmers v n h

led-over : (g : Graph) (v : ℕ) (ys : List (List ℕ)) → Unlike g.kmers → Led g v ys → OverEdges g.edges (v ∷ map (number_of g.kmers) ys)
led-over g v [] n w = tt
led-over g v (y ∷ ys) n w =
    subst (λ (u : ℕ). OverEdges g.edges (v ∷ u ∷ map (number_of g.kmers) ys)) (sym (led-number g w.0 y n w.1 w.2)) (w.3, led-over g w.0 ys n w.4)

walked-over : (g : Graph) (xs : List (List ℕ)) → Unlike g.kmers → Walked g xs → OverEdges g.edges (map (number_of g.kmers) xs)
walked-over g [] n w = tt
walked-over g (x ∷ xs) n w =
    subst (λ (u : ℕ). OverEdges g.edges (u ∷ map (number_of g.kmers) xs)) (sym (led-number g w.0 x n w.1 w.2)) (led-over g w.0 xs n w.3)

-- every read stretch is walked in the graph before the symbolic edge
stretches-walked : (i : Sample) → 1 ≤ i.k → All (λ r. Walked (threaded i) (kmers i.k r.bytes)) (stretches i)
unfolding threaded
stretches-walked i p =
    let empty : Graph = record { kmers = []; edges = [] } in
    let sp = thread-spells (RunOf i) i.k p (reference_run i) (inl refl) true empty nil in
    (all-walked (RunOf i) i.k p (stretches i) (thread true i.k (reference_run i) empty) (all-mono (λ r m. inr m) (all-self (stretches i))) sp.0).1

-- Every read stretch visits vertices that edges join: no base is ever missing.
pub visits-over : (i : Sample) → 1 ≤ i.k → All (λ r. OverEdges (threaded i).edges (visits i.k (threaded i) r)) (stretches i)
visits-over i p = all-mono (λ r h. walked-over (threaded i) (kmers i.k r.bytes) (threaded-neat i).unlike h) (stretches-walked i p)

-- ---- following a base

find_none : {A : Type 0} (t : A → Bool) (xs : List A) → find t xs ≡ none → All (λ x. t x ≡ false) xs
find_none t [] e = nil
find_none t (x ∷ xs) e = go (t x) refl (find_none t xs)
  where
    go : (b : Bool) → t x ≡ b → (find t xs ≡ none → All (λ y. t y ≡ false) xs) → All (λ y. t y ≡ false) (x ∷ xs)
    go true u ih = let h : some x ≡ none = rw (u, find) at e in let z : ◌≡◌ {A = ℕ} 0 1 = cc in absurd (omega arith)
    go false u ih = cons u (ih (rw (u, find) at e))

-- Two edges that leave one vertex and enter vertices of one last base are the same: a base tells the way on.
pub one-way-on : (i : Sample) (d e : Ends) (o p : Origin) → 1 ≤ i.k → Spells (RunOf i) i.k (threaded i).kmers d o → Spells (RunOf i) i.k (threaded i).kmers e p
    → d.from ≡ e.from → last_base (threaded i).kmers d.to ≡ last_base (threaded i).kmers e.to → d ≡ e
unfolding last_base
one-way-on i d e o p k s t f l =
    let ks : List (List ℕ) = (threaded i).kmers in
    let w = opened i.k t.off (get_or ks e.from []) (get_or ks e.to []) t.run.bytes t.fits t.left t.right in
    let v = opened i.k s.off (get_or ks d.from []) (get_or ks d.to []) s.run.bytes s.fits s.left s.right in
    let y : get_or ks d.to [] ≡ get_or ks e.to [] =
    same_next w.first w.rest k w.long v (ap (λ (x : ℕ). get_or ks x []) f ∙ w.left) (l ∙ ap (last_or 0) w.right) ∙ sym w.right in
    let u : d.to ≡ e.to = (threaded-neat i).unlike d.to e.to s.to_in t.to_in y in
    λ j. record { from = f j; to = u j }

-- So to follow the last base of an edge's target is to find that edge.
pub follow-edge : (i : Sample) (d : Ends) → 1 ≤ i.k → i.k ≤ length i.reference → Has (threaded i).edges d
    → (e : Edge) × (follow (threaded i) d.from (last_base (threaded i).kmers d.to) ≡ some e) × (e.ends ≡ d)
unfolding follow leaving Has
follow-edge i d k h (x, m, ex) = go (find (λ (e : Edge). eqb (last_base (threaded i).kmers e.ends.to) (last_base (threaded i).kmers d.to)) out) refl
  where
    g : Graph
    g = threaded i

    out : List Edge
    out = keep (λ (e : Edge). eqb e.ends.from d.from) g.edges

    sound : Sound i g
    sound = threaded-sound i k h

    sp : Spells (RunOf i) i.k g.kmers d x.origin
    sp = rw (← ex) (all-mem sound.spelled m)

    inside : Mem x out
    inside = mem-keep (λ (e : Edge). eqb e.ends.from d.from) x m (eq-eqb x.ends.from d.from (ap (λ (z : Ends). z.from) ex))

    go : (o : Option Edge) → find (λ (e : Edge). eqb (last_base g.kmers e.ends.to) (last_base g.kmers d.to)) out ≡ o
        → (e : Edge) × (follow g d.from (last_base g.kmers d.to) ≡ some e) × (e.ends ≡ d)
    go none u =
        clash (sym (eq-eqb (last_base g.kmers x.ends.to) (last_base g.kmers d.to) (ap (λ (z : Ends). last_base g.kmers z.to) ex))
        ∙ all-mem (find_none _ out u) inside)
    go (some e) u =
        let q = all-find _ (all-zip (all_keep (λ (e : Edge). eqb e.ends.from d.from) sound.spelled) (all-passed (λ (e : Edge). eqb e.ends.from d.from) g.edges)) u in
        (e, u, one-way-on i e.ends d e.origin x.origin k q.0.0 sp (eqb-true e.ends.from d.from q.0.1) (eqb-true _ _ q.1))

-- ---- the walk by bases is the walk over the vertices visited

-- the walk from v over the vertices that follow
pub walk_from : List Edge → ℕ → Ends → ℕ → List ℕ → Walk → Walk
walk_from es sink symbolic v [] w = elim (eqb v sink) [ true ↦ take_edge symbolic w | false ↦ w ]
walk_from es sink symbolic v (u ∷ us) w = walk_from es sink symbolic u us (pass es (record { from = v; to = u }) w)

-- the last bases of the kmers after the first are the bytes after the first kmer
last-take : (d k : ℕ) (M : List ℕ) → k < length M → last_or d (take (suc k) M) ≡ get_or M k 0
last-take d k [] h = absurd (omega arith)
last-take d zero (m ∷ M) h = refl
last-take d (suc k) (m ∷ M) h = last-take m k M (omega arith)

pub kmers-ends : (k : ℕ) (M : List ℕ) → map (last_or 0) (kmers (suc k) M) ≡ drop k M
kmers-ends k [] = unfold kmers in sym (drop-nil k)
kmers-ends k (m ∷ M) = go (leb (suc k) (suc (length M))) refl (kmers-ends k M)
  where
    go : (b : Bool) → leb (suc k) (suc (length M)) ≡ b → map (last_or 0) (kmers (suc k) M) ≡ drop k M → map (last_or 0) (kmers (suc k) (m ∷ M)) ≡ drop k (m ∷ M)
    go true e ih =
        let h : suc k ≤ suc (length M) = leb-true (suc k) (suc (length M)) e in
        rw (kmers-cons (suc k) m M h, last-take 0 k (m ∷ M) h, ih) (sym (drop-cons (m ∷ M) k 0 h))
    go false e ih =
        let h : suc (length M) < suc k = leb-false (suc k) (suc (length M)) e in
        rw (kmers-short (suc k) (m ∷ M) h) (sym (drop_of_length-le (m ∷ M) {i = k} (omega arith)))

module _ (i : Sample) (1≤k : 1 ≤ i.k) (long : i.k ≤ length i.reference) (sink : ℕ) (symbolic : Ends) where
  walk-led : (v : ℕ) (ys : List (List ℕ)) (w : Walk) → Led (threaded i) v ys
      → walk_bases (threaded i) sink symbolic v (map (last_or 0) ys) w ≡ walk_from (threaded i).edges sink symbolic v (map (number_of (threaded i).kmers) ys) w
  unfolding walk_bases walk_from
  walk-led v [] w l = refl
  walk-led v (y ∷ ys) w l =
      let d : Ends = record { from = v; to = l.0 } in
      let f = follow-edge i d 1≤k long l.3 in
      let b : last_base (threaded i).kmers l.0 ≡ last_or 0 y = (unfold last_base in ap (last_or 0) l.2) in
      let g : follow (threaded i) v (last_or 0 y) ≡ some f.0 = rw b at f.1 in
      rw (g, walk_bases, f.2, led-number (threaded i) l.0 y (threaded-neat i).unlike l.1 l.2)
      (walk-led l.0 ys (pass (threaded i).edges d w) l.4)

-- the walk of a stretch over its vertices; one of fewer than two is not walked
pub walk_over : List Edge → ℕ → Ends → List ℕ → List Tree → List Tree
walk_over es sink symbolic [] ts = ts
walk_over es sink symbolic (v ∷ []) ts = ts
walk_over es sink symbolic (v ∷ u ∷ us) ts = (walk_from es sink symbolic v (u ∷ us) (record { trees = ts; opened = [] })).trees

module _ (i : Sample) (1≤k : 1 ≤ i.k) (long : i.k ≤ length i.reference) (sink : ℕ) (symbolic : Ends) where
  -- a run of more than k bytes, of which the kmers after the first are ys
  longer-walk : (x : List ℕ) (ys : List (List ℕ)) (ts : List Tree) → 0 < length ys → Walked (threaded i) (x ∷ ys)
      → (walk_bases (threaded i) sink symbolic (number_of (threaded i).kmers x) (map (last_or 0) ys) (record { trees = ts; opened = [] })).trees
      ≡ walk_over (threaded i).edges sink symbolic (map (number_of (threaded i).kmers) (x ∷ ys)) ts
  unfolding walk_over
  longer-walk x [] ts h w = absurd (omega arith)
  longer-walk x (y ∷ ys) ts h w =
      rw (led-number (threaded i) w.0 x (threaded-neat i).unlike w.1 w.2)
      (ap (λ (z : Walk). z.trees) (walk-led i 1≤k long sink symbolic w.0 (y ∷ ys) (record { trees = ts; opened = [] }) w.3))

  short-walk : (xs : List (List ℕ)) (ts : List Tree) → length xs ≤ 1 → walk_over (threaded i).edges sink symbolic (map (number_of (threaded i).kmers) xs) ts ≡ ts
  unfolding walk_over
  short-walk [] ts h = refl
  short-walk (x ∷ []) ts h = refl
  short-walk (x ∷ y ∷ ys) ts h = absurd (omega arith)

  kmers-few : (k : ℕ) (bs : List ℕ) → length bs ≤ k → length (kmers k bs) ≤ 1
  kmers-few k [] h = unfold kmers in omega arith
  kmers-few k (b ∷ bs) h = go (leb k (suc (length bs))) refl
    where
      go : (z : Bool) → leb k (suc (length bs)) ≡ z → length (kmers k (b ∷ bs)) ≤ 1
      go true e = rw (kmers-cons k b bs (leb-true k (suc (length bs)) e), kmers-short k bs (omega arith)) (omega arith)
      go false e = rw (kmers-short k (b ∷ bs) (leb-false k (suc (length bs)) e)) (omega arith)

  stretch-walk : (k : ℕ) (bs : List ℕ) (ts : List Tree) → i.k ≡ suc k → suc k < length bs → Walked (threaded i) (kmers (suc k) bs)
      → (walk_bases (threaded i) sink symbolic (number_of (threaded i).kmers (take (suc k) bs)) (drop (suc k) bs) (record { trees = ts; opened = [] })).trees
      ≡ walk_over (threaded i).edges sink symbolic (map (number_of (threaded i).kmers) (kmers (suc k) bs)) ts
  stretch-walk k [] ts e h w = absurd (omega arith)
  stretch-walk k (b ∷ []) ts e h w = absurd (omega arith)
  stretch-walk k (b ∷ c ∷ bs) ts e h w =
      let q : kmers (suc k) (b ∷ c ∷ bs) ≡ take (suc k) (b ∷ c ∷ bs) ∷ kmers (suc k) (c ∷ bs) = kmers-cons (suc k) b (c ∷ bs) (omega arith) in
      let n : 0 < length (kmers (suc k) (c ∷ bs)) = rw (kmers-cons (suc k) c bs (omega arith)) (omega arith) in
      rw (q, ← (kmers-ends k (c ∷ bs))) (longer-walk (take (suc k) (b ∷ c ∷ bs)) (kmers (suc k) (c ∷ bs)) ts n (rw q at w))

  one-walk : (r : Stretch) (ts : List Tree) → Walked (threaded i) (kmers i.k r.bytes)
      → walk_stretch i.k (threaded i) sink symbolic r ts ≡ walk_over (threaded i).edges sink symbolic (visits i.k (threaded i) r) ts
  unfolding walk_stretch
  one-walk r ts w = go (ltb i.k (length r.bytes)) refl i.k refl
    where
      go : (z : Bool) → ltb i.k (length r.bytes) ≡ z → (k : ℕ) → i.k ≡ k
          → walk_stretch i.k (threaded i) sink symbolic r ts ≡ walk_over (threaded i).edges sink symbolic (visits i.k (threaded i) r) ts
      go false e k j =
          let h : length r.bytes ≤ i.k = ltb-false i.k (length r.bytes) e in
          rw (e, walk_stretch) (sym (short-walk (kmers i.k r.bytes) ts (kmers-few i.k r.bytes h)))
      go true e zero j = absurd (omega arith)
      go true e (suc k) j =
          let h : i.k < length r.bytes = ltb-true i.k (length r.bytes) e in
          let g : Graph = threaded i in
          rw (e, walk_stretch)
          (subst
          (λ (n : ℕ). (walk_bases g sink symbolic (number_of g.kmers (take n r.bytes)) (drop n r.bytes) (record { trees = ts; opened = [] })).trees
          ≡ walk_over g.edges sink symbolic (map (number_of g.kmers) (kmers n r.bytes)) ts)
          (sym j)
          (stretch-walk k r.bytes ts j (omega arith) (subst (λ (n : ℕ). Walked g (kmers n r.bytes)) j w)))

  -- The walk of every read stretch, by bases, is the walk over the vertices of its own kmers.
  pub walk-visits : All (λ r. (ts : List Tree) → walk_stretch i.k (threaded i) sink symbolic r ts ≡ walk_over (threaded i).edges sink symbolic (visits i.k (threaded i) r) ts) (stretches i)
  walk-visits = all-mono (λ r w ts. one-walk r ts w) (stretches-walked i 1≤k)
