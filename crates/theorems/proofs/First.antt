-- "The origin is the first sequence that made the edge, at its left kmer's place": no run that is threaded has the edge's two kmers at an earlier place.
use mathlib.Core.Path.{◌≡◌, refl, sym, ap, ◌∙◌}
use mathlib.Core.Logic.{◌⊎◌, inl, inr}
use Prim.Native.Nat.{ℕ, zero, suc, ◌+◌, ◌-◌, ◌≤◌, ◌<◌, Ordering}
use native.Mathlib.Omega.{arith}
use mathlib.Core.Bool.{Bool, true, false}
use mathlib.Core.List.{List, [], ◌∷◌}
use mathlib.Core.Option.{Option, none, some}
use lib.Dec.{leb, eqb}
use lib.ListN.{length, take, drop, get_or}
use lib.Seq.{drop-drop}
use borrow.Author.Tests.{leb-true, leb-false, eqb-true}
use Rattle.laws.specs.Lists.{sole, last_or}
use Rattle.laws.specs.ListLaws.{All, nil, cons, Mem, here, there, all_head, all_tail, all_append, all-mono, all_keep, all-self, all-sole, all-mem, Pairwise, empty, first, pairwise-head, pairwise-tail, pairwise_append, pairwise-keep}
use Rattle.definition.specs.Limits.{Sample}
use Rattle.definition.specs.Stretch.{Stretch, usable, join, runs, stretches_from, stretches, kmers}
use Rattle.definition.specs.Threading.{Ends, compare_ends, Origin, Edge, Graph, Threading, entering, one_step, merge, put, number_of, follow, step_to, step, steps, backward, start_at, thread, thread_all, threaded}
use Rattle.theorems.proofs.Kmers.{kmers-short, kmers-cons}
use Rattle.theorems.proofs.Spelling.{all-put, SpellsOn, Standing, Growing, growing-self, growing-on, kept, step-standing, start-standing, thread-is, thread-short, thread-spells, reference_run, RunOf, threaded-sound}
use Rattle.theorems.proofs.Tables.{threaded-neat}
use Rattle.theorems.proofs.Degrees.{rises-differ}
use Rattle.theorems.proofs.Visits.{ends_same}

-- ---- the order of places

-- the place p of the sequence s is not after the place q of the sequence t
abbrev pub NotAfter : ℕ → ℕ → ℕ → ℕ → Type 0
NotAfter s p t q = (s < t) ⊎ ((s ≡ t) × (p ≤ q))

not-after-on : (s p t q u v : ℕ) → NotAfter s p t q → NotAfter t q u v → NotAfter s p u v
not-after-on s p t q u v (inl a) (inl b) = inl (omega arith)
not-after-on s p t q u v (inl a) (inr b) = let e : t ≡ u = b.0 in inl (omega arith)
not-after-on s p t q u v (inr a) (inl b) = let e : s ≡ t = a.0 in inl (omega arith)
not-after-on s p t q u v (inr a) (inr b) =
    let h : p ≤ q = a.1 in
    let k : q ≤ v = b.1 in
    inr (a.0 ∙ b.0, omega arith)

-- ---- the order of the stretches

-- the run a ends where the run b starts, or before
abbrev pub Before : Stretch → Stretch → Type 0
Before a b = NotAfter a.sequence (a.place + length a.bytes) b.sequence b.place

-- a run of the sequence s that starts at the place i or later
abbrev In : ℕ → ℕ → Stretch → Type 0
In s i r = (r.sequence ≡ s) × (i ≤ r.place)

in_on : (s i : ℕ) (r : Stretch) → In s (suc i) r → In s i r
in_on s i r h = let k : suc i ≤ r.place = h.1 in (h.0, omega arith)

join-in : (s i b : ℕ) {rs : List Stretch} → All (In s (suc i)) rs → Pairwise Before rs → Pairwise Before (join s i b rs) × All (In s i) (join s i b rs)
unfolding join
join-in s i b nil p = let z : i ≤ i = omega arith in (first nil empty, cons (refl, z) nil)
join-in s i b (cons {x = r} {xs = rs} h a) p = go (eqb r.place (suc i)) refl
  where
    now : i ≤ i
    now = omega arith

    go : (z : Bool) → eqb r.place (suc i) ≡ z → Pairwise Before (join s i b (r ∷ rs)) × All (In s i) (join s i b (r ∷ rs))
    go true e = rw (e, join) (first (all-mono lengthened (pairwise-head p)) (pairwise-tail p), cons (refl, now) (all-mono (in_on s i) a))
      where
        lengthened : (x : Stretch) → Before r x → NotAfter s (i + suc (length r.bytes)) x.sequence x.place
        lengthened x (inl l) = let q : r.sequence ≡ s = h.0 in inl (omega arith)
        lengthened x (inr l) =
            let q : r.place ≡ suc i = eqb-true r.place (suc i) e in
            let m : r.place + length r.bytes ≤ x.place = l.1 in
            inr (sym h.0 ∙ l.0, omega arith)
    go false e = rw (e, join) (first (all-mono alone (cons h a)) p, cons (refl, now) (all-mono (in_on s i) (cons h a)))
      where
        alone : (x : Stretch) → In s (suc i) x → NotAfter s (i + 1) x.sequence x.place
        alone x l = let m : suc i ≤ x.place = l.1 in inr (sym l.0, omega arith)

runs-in : (good : ℕ → ℕ → Bool) (s i : ℕ) (bs qs : List ℕ) → Pairwise Before (runs good s i bs qs) × All (In s i) (runs good s i bs qs)
unfolding runs
runs-in good s i [] qs = (empty, nil)
runs-in good s i (b ∷ bs) [] = (empty, nil)
runs-in good s i (b ∷ bs) (q ∷ qs) = go (good b q) refl (runs-in good s (suc i) bs qs)
  where
    go : (z : Bool) → good b q ≡ z → Pairwise Before (runs good s (suc i) bs qs) × All (In s (suc i)) (runs good s (suc i) bs qs)
        → Pairwise Before (runs good s i (b ∷ bs) (q ∷ qs)) × All (In s i) (runs good s i (b ∷ bs) (q ∷ qs))
    go true e ih = rw (e, runs) (join-in s i b ih.1 ih.0)
    go false e ih = rw (e, runs) (ih.0, all-mono (in_on s i) ih.1)

from_in : (good : ℕ → ℕ → Bool) (k s start : ℕ) (ends bs qs : List ℕ)
    → Pairwise Before (stretches_from good k s start ends bs qs) × All (λ r. s ≤ r.sequence) (stretches_from good k s start ends bs qs)
unfolding stretches_from
from_in good k s start [] bs qs = (empty, nil)
from_in good k s start (e ∷ es) bs qs =
    let one = runs-in good s 0 (take (e - start) bs) (take (e - start) qs) in
    let rest = from_in good k (suc s) e es (drop (e - start) bs) (drop (e - start) qs) in (
      pairwise_append (pairwise-keep _ one.0) rest.0
          (all-mono (λ x h. all-mono (λ y l. (let q : x.sequence ≡ s = h.0 in inl (omega arith))) rest.1) (all_keep _ one.1)),
      all_append (all-mono (λ x h. (let q : x.sequence ≡ s = h.0 in omega arith)) (all_keep _ one.1)) (all-mono (λ y l. omega arith) rest.1),
    )

-- Stretches stand by sequence, and those of one read by place.
pub stretches-rise : (i : Sample) → Pairwise Before (stretches i) × All (λ r. 1 ≤ r.sequence) (stretches i)
unfolding stretches
stretches-rise i = from_in (usable i.quality) i.k 1 0 i.ends i.bases i.qualities

-- ---- counting keeps origins

-- the edge's origin is not after the place p of the sequence s
abbrev pub MadeBy : ℕ → ℕ → Edge → Type 0
MadeBy s p e = NotAfter e.origin.sequence e.origin.place s p

-- the table has an edge of these ends that was made by then
abbrev pub HasBy : ℕ → ℕ → List Edge → Ends → Type 0
HasBy s p es d = (x : Edge) × Mem x es × (x.ends ≡ d) × MadeBy s p x

-- the table has an edge of the same ends and origin
abbrev pub Same : List Edge → Edge → Type 0
Same es x = (y : Edge) × Mem y es × (y.ends ≡ x.ends) × (y.origin ≡ x.origin)

put-made : (s p : ℕ) (n : Edge) {es : List Edge} → MadeBy s p n → All (MadeBy s p) es → All (MadeBy s p) (put n es)
unfolding merge
put-made s p n h a = all-put n h (λ e q. q) a

put_has : (s p : ℕ) (n : Edge) {es : List Edge} → MadeBy s p n → All (MadeBy s p) es → HasBy s p (put n es) n.ends
unfolding put merge
put_has s p n h nil = (n, here refl, refl, h)
put_has s p n h (cons {x = e} {xs = es} he a) = go (compare_ends n.ends e.ends) refl (put_has s p n h a)
  where
    go : (o : Ordering) → compare_ends n.ends e.ends ≡ o → HasBy s p (put n es) n.ends → HasBy s p (put n (e ∷ es)) n.ends
    go Ordering.lt c ih = rw (c, put) (n, here refl, refl, h)
    go Ordering.eq c ih = rw (c, put) (merge e n, here refl, sym (ends_same n.ends e.ends c), he)
    go Ordering.gt c ih = rw (c, put) (ih.0, there ih.1, ih.2, ih.3)

put_same : (n : Edge) (es : List Edge) (x : Edge) → Mem x es → Same (put n es) x
unfolding put merge
put_same n [] x m = elim m [ ]
put_same n (y ∷ ys) x m = go (compare_ends n.ends y.ends) refl m (λ k. put_same n ys x k)
  where
    go : (o : Ordering) → compare_ends n.ends y.ends ≡ o → Mem x (y ∷ ys) → (Mem x ys → Same (put n ys) x) → Same (put n (y ∷ ys)) x
    go Ordering.lt c k ih = rw (c, put) (x, there k, refl, refl)
    go Ordering.eq c (here w) ih = rw (c, put) (merge y n, here refl, ap (λ (z : Edge). z.ends) (sym w), ap (λ (z : Edge). z.origin) (sym w))
    go Ordering.eq c (there k) ih = rw (c, put) (x, there k, refl, refl)
    go Ordering.gt c (here w) ih = rw (c, put) (x, here w, refl, refl)
    go Ordering.gt c (there k) ih = let r = ih k in rw (c, put) (r.0, there r.1, r.2, r.3)

-- a later graph: kmers are added at the end, and edges stay with their origins
record Later (g h : Graph) : Type 0 where
  growing : Growing g h
  keeps : (x : Edge) → Mem x g.edges → Same h.edges x

later-self : (g : Graph) → Later g g
later-self g = record { growing = growing-self g; keeps = λ x m. (x, m, refl, refl) }

later-on : {g h j : Graph} → Later g h → Later h j → Later g j
later-on a b =
    record {
      growing = growing-on a.growing b.growing;
      keeps = λ x m. (let p = a.keeps x m in let q = b.keeps p.0 p.1 in (q.0, q.1, q.2 ∙ p.2, q.3 ∙ p.3));
    }

later-has : {g h : Graph} (s p : ℕ) (d : Ends) → Later g h → HasBy s p g.edges d → HasBy s p h.edges d
later-has s p d l w = let q = l.keeps w.0 w.1 in (q.0, q.1, q.2 ∙ w.2, rw q.3 w.3)

backward-same : (s p n v : ℕ) (es : List Edge) → All (MadeBy s p) es → All (MadeBy s p) (backward n v es) × ((x : Edge) → Mem x es → Same (backward n v es) x)
unfolding backward entering one_step
backward-same s p zero v es a = (a, λ x m. (x, m, refl, refl))
backward-same s p (suc n) v es a = go (sole (entering es v)) refl (λ w xs b. backward-same s p n w xs b)
  where
    go : (o : Option Edge) → sole (entering es v) ≡ o
        → ((w : ℕ) (xs : List Edge) → All (MadeBy s p) xs → All (MadeBy s p) (backward n w xs) × ((x : Edge) → Mem x xs → Same (backward n w xs) x))
        → All (MadeBy s p) (backward (suc n) v es) × ((x : Edge) → Mem x es → Same (backward (suc n) v es) x)
    go none e ih = rw (e, backward) (a, λ x m. (x, m, refl, refl))
    go (some y) e ih =
        let q = ih y.ends.from _ (put-made s p (one_step false y.origin y.ends) (all-sole (all_keep _ a) e) a) in
        rw (e, backward) (
          q.0,
          λ x m. (let u = put_same (one_step false y.origin y.ends) es x m in let w = q.1 u.0 u.1 in (w.0, w.1, w.2 ∙ u.2, w.3 ∙ u.3)),
        )

-- What one step does, by the place of its left kmer: edges stay with their origins, and the edge stepped over was made by then.
step-made : (ref : Bool) (s p : ℕ) (x : List ℕ) (t : Threading) → All (MadeBy s p) t.graph.edges
    → All (MadeBy s p) (step ref (record { sequence = s; place = p }) x t).graph.edges
    × ((y : Edge) → Mem y t.graph.edges → Same (step ref (record { sequence = s; place = p }) x t).graph.edges y)
    × HasBy s p (step ref (record { sequence = s; place = p }) x t).graph.edges (record { from = t.here; to = (step ref (record { sequence = s; place = p }) x t).here })
unfolding step step_to one_step
step-made ref s p x t a = go (follow t.graph t.here (last_or 0 x)) refl
  where
    o : Origin
    o = record { sequence = s; place = p }

    Goal : Type 0
    Goal =
        All (MadeBy s p) (step ref o x t).graph.edges
        × ((y : Edge) → Mem y t.graph.edges → Same (step ref o x t).graph.edges y)
        × HasBy s p (step ref o x t).graph.edges (record { from = t.here; to = (step ref o x t).here })

    now : NotAfter s p s p
    now = inr (refl, omega arith)

    go : (f : Option Edge) → follow t.graph t.here (last_or 0 x) ≡ f → Goal
    go none e = rw (e, step) (put-made s p _ now a, (λ y m. put_same _ t.graph.edges y m), put_has s p _ now a)
    go (some y) e = rw (e, step) (put-made s p _ now a, (λ y m. put_same _ t.graph.edges y m), put_has s p _ now a)

-- ---- the walk of a run

-- From the vertex v an edge leads to a vertex of each next kmer, and was made by the place of its left kmer, i for the first.
abbrev pub Led : Graph → ℕ → ℕ → ℕ → List (List ℕ) → Type 0
Led g s i v [] = Unit {0}
Led g s i v (y ∷ ys) =
    (u : ℕ) × (u < length g.kmers) × (get_or g.kmers u [] ≡ y) × HasBy s i g.edges (record { from = v; to = u }) × Led g s (suc i) u ys

abbrev pub Walked : Graph → ℕ → ℕ → List (List ℕ) → Type 0
Walked g s i [] = Unit {0}
Walked g s i (x ∷ xs) = (v : ℕ) × (v < length g.kmers) × (get_or g.kmers v [] ≡ x) × Led g s i v xs

led-later : {g h : Graph} (s i v : ℕ) (ys : List (List ℕ)) → Later g h → Led g s i v ys → Led h s i v ys
led-later s i v [] l w = tt
led-later s i v (y ∷ ys) l w =
    let k = kept w.0 l.growing w.1 in
    (w.0, k.0, k.1 ∙ w.2, later-has s i _ l w.3, led-later s (suc i) w.0 ys l w.4)

walked-later : {g h : Graph} (s i : ℕ) (xs : List (List ℕ)) → Later g h → Walked g s i xs → Walked h s i xs
walked-later s i [] l w = tt
walked-later s i (x ∷ xs) l w = let k = kept w.0 l.growing w.1 in (w.0, k.0, k.1 ∙ w.2, led-later s i w.0 xs l w.3)

made-on : (s p t q : ℕ) {es : List Edge} → NotAfter s p t q → All (MadeBy s p) es → All (MadeBy t q) es
made-on s p t q h a = all-mono (λ e w. not-after-on e.origin.sequence e.origin.place s p t q w h) a

module _ (Src : Stretch → Type 0) (k : ℕ) (1≤k : 1 ≤ k) (r : Stretch) (src : Src r) where
  steps-led : (ref : Bool) (M : List ℕ) (j i a : ℕ) (t : Threading) → drop j r.bytes ≡ a ∷ M → i ≡ r.place + j → Standing Src k t (take k (a ∷ M))
      → All (MadeBy r.sequence i) t.graph.edges
      → Later t.graph (steps ref r.sequence i (kmers k M) t).graph
      × Led (steps ref r.sequence i (kmers k M) t).graph r.sequence i t.here (kmers k M)
      × All (MadeBy r.sequence (i + length M)) (steps ref r.sequence i (kmers k M) t).graph.edges
  unfolding steps kmers
  steps-led ref [] j i a t w e s past = (later-self t.graph, tt, made-on r.sequence i r.sequence (i + 0) (inr (refl, omega arith)) past)
  steps-led ref (m ∷ M) j i a t w e s past = go (leb k (suc (length M))) refl (λ u. steps-led ref M (suc j) (suc i) m u)
    where
      Goal : Type 0
      Goal =
          Later t.graph (steps ref r.sequence i (kmers k (m ∷ M)) t).graph
          × Led (steps ref r.sequence i (kmers k (m ∷ M)) t).graph r.sequence i t.here (kmers k (m ∷ M))
          × All (MadeBy r.sequence (i + suc (length M))) (steps ref r.sequence i (kmers k (m ∷ M)) t).graph.edges

      next : drop (suc j) r.bytes ≡ m ∷ M
      next = let n : suc j ≡ j + 1 = omega arith in rw n (sym (drop-drop 1 j r.bytes) ∙ ap (drop 1) w)

      go : (b : Bool) → leb k (suc (length M)) ≡ b
          → ((u : Threading) → drop (suc j) r.bytes ≡ m ∷ M → suc i ≡ r.place + suc j → Standing Src k u (take k (m ∷ M))
          → All (MadeBy r.sequence (suc i)) u.graph.edges
          → Later u.graph (steps ref r.sequence (suc i) (kmers k M) u).graph
          × Led (steps ref r.sequence (suc i) (kmers k M) u).graph r.sequence (suc i) u.here (kmers k M)
          × All (MadeBy r.sequence (suc i + length M)) (steps ref r.sequence (suc i) (kmers k M) u).graph.edges)
          → Goal
      go true b ih =
          let o : Origin = record { sequence = r.sequence; place = i } in
          let u = step ref o (take k (m ∷ M)) t in
          let one = step-standing Src k 1≤k r src ref j i a (m ∷ M) t w e (leb-true k (suc (length M)) b) s in
          let two = step-made ref r.sequence i (take k (m ∷ M)) t past in
          let rest = ih u next (omega arith) one.0 (made-on r.sequence i r.sequence (suc i) (inr (refl, omega arith)) two.0) in
          let v = kept u.here rest.0.growing one.0.inside in
          rw (kmers-cons k m M (leb-true k (suc (length M)) b)) (
            later-on (record { growing = one.1; keeps = two.1 }) rest.0,
            (u.here, v.0, v.1 ∙ one.0.is, later-has r.sequence i _ rest.0 two.2, rest.1),
            made-on r.sequence (suc i + length M) r.sequence (i + suc (length M)) (inr (refl, omega arith)) rest.2,
          )
      go false b ih =
          rw (kmers-short k (m ∷ M) (leb-false k (suc (length M)) b))
          (later-self t.graph, tt, made-on r.sequence i r.sequence (i + suc (length M)) (inr (refl, omega arith)) past)

module _ (Src : Stretch → Type 0) (k : ℕ) (1≤k : 1 ≤ k) where
  start-made : (x : List ℕ) (g : Graph) (s p : ℕ) → Growing g (start_at k x g).graph → All (MadeBy s p) g.edges
      → Later g (start_at k x g).graph × All (MadeBy s p) (start_at k x g).graph.edges
  unfolding start_at
  start-made x g s p w a =
      let q = backward-same s p (k - 1) (number_of g.kmers x) g.edges a in
      (record { growing = w; keeps = q.1 }, q.0)

  thread-walked : (ref : Bool) (r : Stretch) (bs : List ℕ) (g : Graph) → Src r → r.bytes ≡ bs → All (SpellsOn Src k g.kmers) g.edges
      → All (MadeBy r.sequence r.place) g.edges
      → Later g (thread ref k r g) × Walked (thread ref k r g) r.sequence r.place (kmers k bs)
      × All (MadeBy r.sequence (r.place + length bs)) (thread ref k r g).edges
  thread-walked ref r [] g src e a past =
      rw (thread-short Src k 1≤k r src ref g (rw e 1≤k))
      (later-self g, unfold kmers in tt, made-on r.sequence r.place r.sequence (r.place + 0) (inr (refl, omega arith)) past)
  thread-walked ref r (b ∷ bs) g src e a past = go (leb k (suc (length bs))) refl
    where
      Goal : Type 0
      Goal =
          Later g (thread ref k r g) × Walked (thread ref k r g) r.sequence r.place (kmers k (b ∷ bs))
          × All (MadeBy r.sequence (r.place + suc (length bs))) (thread ref k r g).edges

      go : (z : Bool) → leb k (suc (length bs)) ≡ z → Goal
      go true u =
          let h : k ≤ suc (length bs) = leb-true k (suc (length bs)) u in
          let st = start-standing Src k 1≤k r src (take k (b ∷ bs)) g a in
          let p : r.place ≡ r.place + 0 = omega arith in
          let t = start_at k (take k (b ∷ bs)) g in
          let m = start-made (take k (b ∷ bs)) g r.sequence r.place st.1 past in
          let q = steps-led Src k 1≤k r src ref bs 0 r.place b t e p st.0 m.1 in
          let v = kept t.here q.0.growing st.0.inside in
          rw (thread-is Src k 1≤k r src ref b bs g e h, kmers-cons k b bs h) (
            later-on m.0 q.0,
            (t.here, v.0, v.1 ∙ st.0.is, q.1),
            made-on r.sequence (r.place + length bs) r.sequence (r.place + suc (length bs)) (inr (refl, omega arith)) q.2,
          )
      go false u =
          let h : suc (length bs) < k = leb-false k (suc (length bs)) u in
          rw (thread-short Src k 1≤k r src ref g (rw e h), kmers-short k (b ∷ bs) h)
          (later-self g, tt, made-on r.sequence r.place r.sequence (r.place + suc (length bs)) (inr (refl, omega arith)) past)

  -- runs in order, the first not before the edges that are there
  all-walked : (rs : List Stretch) (g : Graph) → All Src rs → All (SpellsOn Src k g.kmers) g.edges → Pairwise Before rs
      → All (λ r. All (MadeBy r.sequence r.place) g.edges) rs
      → Later g (thread_all k rs g) × All (λ r. Walked (thread_all k rs g) r.sequence r.place (kmers k r.bytes)) rs
  unfolding thread_all
  all-walked [] g s a b past = (later-self g, nil)
  all-walked (r ∷ rs) g s a b past =
      let one = thread-walked false r r.bytes g (all_head s) refl a (all_head past) in
      let sp = thread-spells Src k 1≤k r (all_head s) false g a in
      let rest = all-walked rs (thread false k r g) (all_tail s) sp.0 (pairwise-tail b)
      (all-mono (λ x h. made-on r.sequence (r.place + length r.bytes) x.sequence x.place h one.2) (pairwise-head b)) in
      (later-on one.0 rest.0, cons (walked-later r.sequence r.place (kmers k r.bytes) rest.0 one.1) rest.1)

-- Every run is walked in the whole graph, over edges made by then.
pub all-led : (i : Sample) → 1 ≤ i.k → (r : Stretch) → RunOf i r → Walked (threaded i) r.sequence r.place (kmers i.k r.bytes)
unfolding threaded
all-led i p r src = go src
  where
    blank : Graph
    blank = record { kmers = []; edges = [] }

    one : Graph
    one = thread true i.k (reference_run i) blank

    ref : Later blank one × Walked one 0 0 (kmers i.k i.reference) × All (MadeBy 0 (0 + length i.reference)) one.edges
    ref = thread-walked (RunOf i) i.k p true (reference_run i) i.reference blank (inl refl) refl nil nil

    rest : Later one (thread_all i.k (stretches i) one) × All (λ x. Walked (thread_all i.k (stretches i) one) x.sequence x.place (kmers i.k x.bytes)) (stretches i)
    rest =
        all-walked (RunOf i) i.k p (stretches i) one (all-mono (λ x m. inr m) (all-self (stretches i)))
        (thread-spells (RunOf i) i.k p (reference_run i) (inl refl) true blank nil).0 (stretches-rise i).0
        (all-mono (λ x h. made-on 0 (0 + length i.reference) x.sequence x.place (inl h) ref.2) (stretches-rise i).1)

    go : RunOf i r → Walked (thread_all i.k (stretches i) one) r.sequence r.place (kmers i.k r.bytes)
    go (inl e) = rw e (walked-later 0 0 (kmers i.k i.reference) rest.0 ref.1)
    go (inr m) = all-mem rest.1 m

-- ---- the edge at an offset of a run

-- the vertices of the kmers at the offset off and one place on, and the edge between them
record At (g : Graph) (s p k : ℕ) (x y : List ℕ) : Type 0 where
  left : ℕ
  right : ℕ
  left_in : left < length g.kmers
  right-in : right < length g.kmers
  left_is : get_or g.kmers left [] ≡ x
  right_is : get_or g.kmers right [] ≡ y
  edge : HasBy s p g.edges (record { from = left; to = right })

module _ (g : Graph) (s k : ℕ) (1≤k : 1 ≤ k) where
  led-at : (off : ℕ) (M : List ℕ) (i a v : ℕ) → v < length g.kmers → get_or g.kmers v [] ≡ take k (a ∷ M) → Led g s i v (kmers k M) → off + k ≤ length M
      → At g s (i + off) k (take k (drop off (a ∷ M))) (take k (drop off M))
  led-at zero [] i a v h e l f = absurd (omega arith)
  led-at (suc off) [] i a v h e l f = absurd (omega arith)
  led-at zero (m ∷ M) i a v h e l f =
      let w : Led g s i v (take k (m ∷ M) ∷ kmers k M) = rw (kmers-cons k m M (omega arith)) at l in
      let z : i + 0 ≡ i = omega arith in
      rw z (record { left = v; right = w.0; left_in = h; right-in = w.1; left_is = e; right_is = w.2; edge = w.3 })
  led-at (suc off) (m ∷ M) i a v h e l f =
      let w : Led g s i v (take k (m ∷ M) ∷ kmers k M) = rw (kmers-cons k m M (omega arith)) at l in
      let z : i + suc off ≡ suc i + off = omega arith in
      rw z (led-at off M (suc i) m w.0 w.1 w.2 w.4 (omega arith))

  walked_at : (off i : ℕ) (bs : List ℕ) → Walked g s i (kmers k bs) → off + suc k ≤ length bs → At g s (i + off) k (take k (drop off bs)) (take k (drop (suc off) bs))
  walked_at off i [] w f = absurd (omega arith)
  walked_at off i (b ∷ bs) w f =
      let u : Walked g s i (take k (b ∷ bs) ∷ kmers k bs) = rw (kmers-cons k b bs (omega arith)) at w in
      led-at off bs i b u.0 u.1 u.2 u.3 (omega arith)

-- an edge is told by its ends
pub same-edge : {es : List Edge} → Pairwise (λ d e. d.ends ≡ e.ends → ⊥) es → (d e : Edge) → Mem d es → Mem e es → d.ends ≡ e.ends → d ≡ e
same-edge empty d e m n s = elim m [ ]
same-edge (first {x = x} {xs = xs} a p) d e m n s = go m n (λ k l. same-edge p d e k l s)
  where
    go : Mem d (x ∷ xs) → Mem e (x ∷ xs) → (Mem d xs → Mem e xs → d ≡ e) → d ≡ e
    go (here u) (here w) ih = u ∙ sym w
    go (here u) (there l) ih = absurd (all-mem a l (ap (λ (z : Edge). z.ends) (sym u) ∙ s))
    go (there k) (here w) ih = absurd (all-mem a k (ap (λ (z : Edge). z.ends) (sym w) ∙ sym s))
    go (there k) (there l) ih = ih k l

-- The origin of an edge is not after any place, in any run that is threaded, at which its left kmer stands with its right kmer one place on.
pub first-origin : (i : Sample) → 1 ≤ i.k → i.k ≤ length i.reference → (e : Edge) → Mem e (threaded i).edges → (r : Stretch) → RunOf i r → (off : ℕ)
    → off + suc i.k ≤ length r.bytes → take i.k (drop off r.bytes) ≡ get_or (threaded i).kmers e.ends.from []
    → take i.k (drop (suc off) r.bytes) ≡ get_or (threaded i).kmers e.ends.to []
    → NotAfter e.origin.sequence e.origin.place r.sequence (r.place + off)
first-origin i p long e m r src off f l q =
    let g : Graph = threaded i in
    let at = walked_at g r.sequence i.k p off r.place r.bytes (all-led i p r src) f in
    let sp = all-mem (threaded-sound i p long).spelled m in
    let x : Edge = at.edge.0 in
    let a : at.left ≡ e.ends.from = (threaded-neat i).unlike at.left e.ends.from at.left_in sp.from_in (at.left_is ∙ l) in
    let b : at.right ≡ e.ends.to = (threaded-neat i).unlike at.right e.ends.to at.right-in sp.to_in (at.right_is ∙ q) in
    let c : x.ends ≡ e.ends = at.edge.2 ∙ (λ j. record { from = a j; to = b j }) in
    let same : x ≡ e = same-edge (rises-differ g.edges (threaded-neat i).rises) x e at.edge.1 m c in
    rw same at at.edge.3
