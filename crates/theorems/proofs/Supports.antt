-- Supports stay small: all of them together are at most the bytes of the reference and of the reads, 33,792, so no support and no sum of a vertex's
-- supports passes 65,535.
use mathlib.Core.Path.{◌≡◌, refl}
use Prim.Native.Nat.{ℕ, zero, suc, ◌+◌, ◌-◌, ◌≤◌, Ordering}
use native.Mathlib.Omega.{arith}
use mathlib.Core.Bool.{Bool, true, false}
use mathlib.Core.List.{List, [], ◌∷◌}
use mathlib.Core.Option.{Option, none, some}
use lib.Dec.{leb, eqb}
use lib.ListN.{length}
use borrow.Author.Tests.{leb-true}
use Rattle.laws.specs.Lists.{last_or, sole, total}
use Rattle.laws.specs.ListLaws.{All, all-mono, and_right, total-keep, all-total}
use Rattle.definition.specs.Limits.{Sample, reference_fits, reads_fit}
use Rattle.definition.specs.Stretch.{Stretch, kmers, stretches}
use Rattle.definition.specs.Threading.{Ends, compare_ends, Origin, Edge, support_of, Graph, Threading, leaving, entering, one_step, merge, put, number_of, follow, step_to, step, steps, backward, start_at, thread_kmers, thread, thread_all, threaded, with_symbolic}
use Rattle.theorems.proofs.Sizes.{size_of, stretches-size, bases-size}

-- to count an edge adds its support
put-total : (n : Edge) (es : List Edge) → total support_of (put n es) ≡ support_of n + total support_of es
unfolding put merge support_of
put-total n [] = refl
put-total n (e ∷ es) = go (compare_ends n.ends e.ends) refl (put-total n es)
  where
    go : (o : Ordering) → compare_ends n.ends e.ends ≡ o → total support_of (put n es) ≡ support_of n + total support_of es
        → total support_of (put n (e ∷ es)) ≡ support_of n + total support_of (e ∷ es)
    go Ordering.lt u ih = rw (u, put)
    go Ordering.eq u ih = rw (u, put) (omega arith)
    go Ordering.gt u ih = rw (u, put) (omega arith)

-- a step adds 1
one-total : (ref : Bool) (o : Origin) (d : Ends) (es : List Edge) → total support_of (put (one_step ref o d) es) ≡ suc (total support_of es)
unfolding one_step support_of
one-total ref o d es = omega (arith, put-total (one_step ref o d) es)

backward-total : (n v : ℕ) (es : List Edge) → total support_of (backward n v es) ≤ n + total support_of es
unfolding backward
backward-total zero v es = omega arith
backward-total (suc n) v es = go (sole (entering es v)) refl (λ w x. backward-total n w x)
  where
    go : (o : Option Edge) → sole (entering es v) ≡ o → ((w : ℕ) (x : List Edge) → total support_of (backward n w x) ≤ n + total support_of x)
        → total support_of (backward (suc n) v es) ≤ suc n + total support_of es
    go none u ih = rw (u, backward) (omega arith)
    go (some e) u ih =
        let x : List Edge = put (one_step false e.origin e.ends) es in
        rw (u, backward) (omega (arith, ih e.ends.from x, one-total false e.origin e.ends es))

step-total : (ref : Bool) (o : Origin) (x : List ℕ) (t : Threading) → total support_of (step ref o x t).graph.edges ≡ suc (total support_of t.graph.edges)
unfolding step step_to
step-total ref o x t = go (follow t.graph t.here (last_or 0 x)) refl
  where
    go : (f : Option Edge) → follow t.graph t.here (last_or 0 x) ≡ f
        → total support_of (step ref o x t).graph.edges ≡ suc (total support_of t.graph.edges)
    go none u = rw (u, step) (one-total ref o _ t.graph.edges)
    go (some e) u = rw (u, step) (one-total ref o _ t.graph.edges)

steps-total : (ref : Bool) (s i : ℕ) (xs : List (List ℕ)) (t : Threading)
    → total support_of (steps ref s i xs t).graph.edges ≡ length xs + total support_of t.graph.edges
unfolding steps
steps-total ref s i [] t = omega arith
steps-total ref s i (x ∷ xs) t =
    let o : Origin = record { sequence = s; place = i } in
    omega (arith, steps-total ref s (suc i) xs (step ref o x t), step-total ref o x t)

-- a run of L bytes has L + 1 - k kmers
kmers-few : (k : ℕ) (bs : List ℕ) → length (kmers k bs) ≤ suc (length bs) - k
unfolding kmers
kmers-few k [] = omega arith
kmers-few k (b ∷ bs) = go (leb k (suc (length bs))) refl (kmers-few k bs)
  where
    go : (z : Bool) → leb k (suc (length bs)) ≡ z → length (kmers k bs) ≤ suc (length bs) - k → length (kmers k (b ∷ bs)) ≤ suc (suc (length bs)) - k
    go true e ih = rw (e, kmers) (let h : k ≤ suc (length bs) = leb-true k (suc (length bs)) e in omega arith)
    go false e ih = rw (e, kmers) (omega arith)

run-total : (ref : Bool) (k : ℕ) (r : Stretch) (xs : List (List ℕ)) (g : Graph) → length xs ≤ suc (length r.bytes) - k
    → total support_of (thread_kmers ref k r xs g).edges ≤ size_of r + total support_of g.edges
unfolding thread_kmers start_at
run-total ref k r [] g h = omega arith
run-total ref k r (x ∷ xs) g h =
    omega (arith, steps-total ref r.sequence r.place xs (start_at k x g), backward-total (k - 1) (number_of g.kmers x) g.edges)

-- a run adds no more than it has bytes
thread-total : (ref : Bool) (k : ℕ) (r : Stretch) (g : Graph) → total support_of (thread ref k r g).edges ≤ size_of r + total support_of g.edges
unfolding thread
thread-total ref k r g = run-total ref k r (kmers k r.bytes) g (kmers-few k r.bytes)

all-threaded : (k : ℕ) (rs : List Stretch) (g : Graph) → total support_of (thread_all k rs g).edges ≤ total size_of rs + total support_of g.edges
unfolding thread_all
all-threaded k [] g = omega arith
all-threaded k (r ∷ rs) g = omega (arith, all-threaded k rs (thread false k r g), thread-total false k r g)

threaded-total : (s : Sample) → total support_of (threaded s).edges ≤ length s.reference + length s.bases
unfolding threaded
threaded-total s =
    let r : Stretch = record { sequence = 0; place = 0; bytes = s.reference } in
    let g : Graph = record { kmers = []; edges = [] } in
    omega (arith, all-threaded s.k (stretches s) (thread true s.k r g), thread-total true s.k r g, stretches-size s)

-- the symbolic edge has support 0
pub supports-total : (s : Sample) → total support_of (with_symbolic s (threaded s)) ≤ length s.reference + length s.bases
unfolding with_symbolic support_of
supports-total s = rw (put-total _ (threaded s).edges) (omega (arith, threaded-total s))

-- ---- of a sample that passed its checks

module _ (s : Sample) (h : reference_fits s.k s.reference ≡ true) (f : reads_fit s ≡ true) where
  -- "reference k to 1,024 bases .. up to .. 32,768 read bases": the sum of all supports
  pub supports-sum : total support_of (with_symbolic s (threaded s)) ≤ 33792
  unfolding reference_fits
  supports-sum =
      let r : length s.reference ≤ 1024 = leb-true (length s.reference) 1024 (and_right (leb s.k (length s.reference)) (leb (length s.reference) 1024) h) in
      omega (arith, supports-total s, bases-size s f)

  -- no support passes 65,535
  pub supports-small : All (λ (e : Edge). support_of e ≤ 65535) (with_symbolic s (threaded s))
  supports-small =
      all-mono (λ (e : Edge) p. (let q : support_of e ≤ total support_of (with_symbolic s (threaded s)) = p in omega (arith, supports-sum)))
      (all-total support_of (with_symbolic s (threaded s)))

  -- nor does the sum of the supports of the edges that leave a vertex
  pub leaving-small : (v : ℕ) → total support_of (leaving (with_symbolic s (threaded s)) v) ≤ 65535
  unfolding leaving
  leaving-small v = omega (arith, supports-sum, total-keep support_of (λ (e : Edge). eqb e.ends.from v) (with_symbolic s (threaded s)))
