-- The tables of the graph: edges strictly rise by their ends, kmers differ, and each has k bytes.
use mathlib.Core.Path.{◌≡◌, refl, sym, ◌∙◌}
use Prim.Native.Nat.{ℕ, zero, suc, ◌+◌, ◌-◌, ◌<◌, compare, Ordering}
use native.Mathlib.Omega.{arith}
use native.Mathlib.Decide.{dec_lt}
use mathlib.Core.Bool.{Bool, true, false}
use mathlib.Core.List.{List, [], ◌∷◌, ◌++◌}
use mathlib.Core.Option.{Option, none, some}
use lib.Dec.{leb, eqb}
use lib.ListN.{length, get_or, length-append, get_or-append}
use lib.Seq.{get_or-append_seam, length-take-le}
use borrow.Author.Tests.{leb-true, eqb-true}
use Rattle.laws.specs.Lists.{sole, last_or}
use Rattle.laws.specs.ListLaws.{All, nil, cons, all_head, all_tail, all_append, all-mono}
use Rattle.definition.specs.Limits.{Sample}
use Rattle.definition.specs.Stretch.{Stretch, kmers, stretches}
use Rattle.definition.specs.Threading.{Ends, eq_ends, compare_ends, Origin, Edge, Graph, Threading, entering, one_step, merge, put, number_of, with_kmer, follow, step_to, step, steps, backward, start_at, thread_kmers, thread, thread_all, threaded, with_symbolic}
use Rattle.laws.specs.Numbers.{compare-lt, compare-eq, lt-compare, eq-compare, gt-compare}
use Rattle.theorems.proofs.Kmers.{number_in, number_is}
use Rattle.theorems.proofs.Spelling.{all-put}

-- no ends stand twice
abbrev pub Once : List Ends → Type 0
Once [] = Unit {0}
Once (x ∷ xs) = All (λ (y : Ends). eq_ends y x ≡ false) xs × Once xs

-- ---- the order of ends

pub ends-lt : (a b c : Ends) → compare_ends a b ≡ Ordering.lt → compare_ends b c ≡ Ordering.lt → compare_ends a c ≡ Ordering.lt
ends-lt a b c e f = go (compare a.from b.from) (compare b.from c.from) refl refl
  where
    go : (o p : Ordering) → compare a.from b.from ≡ o → compare b.from c.from ≡ p → compare_ends a c ≡ Ordering.lt
    go Ordering.gt p x y = let z : Ordering.gt ≡ Ordering.lt = rw x at e in cc
    go Ordering.lt Ordering.gt x y = let z : Ordering.gt ≡ Ordering.lt = rw y at f in cc
    go Ordering.eq Ordering.gt x y = let z : Ordering.gt ≡ Ordering.lt = rw y at f in cc
    go Ordering.lt Ordering.lt x y =
        let h = lt-compare a.from b.from x in
        let k = lt-compare b.from c.from y in
        rw (compare-lt a.from c.from (omega arith))
    go Ordering.lt Ordering.eq x y =
        let h = lt-compare a.from b.from x in
        let k = eq-compare b.from c.from y in
        rw (compare-lt a.from c.from (omega arith))
    go Ordering.eq Ordering.lt x y =
        let h = eq-compare a.from b.from x in
        let k = lt-compare b.from c.from y in
        rw (compare-lt a.from c.from (omega arith))
    go Ordering.eq Ordering.eq x y =
        let h = eq-compare a.from b.from x in
        let k = eq-compare b.from c.from y in
        let m = lt-compare a.to b.to (rw x at e) in
        let n = lt-compare b.to c.to (rw y at f) in
        rw (compare-eq a.from c.from (omega arith)) (compare-lt a.to c.to (omega arith))

pub ends-flip : (a b : Ends) → compare_ends a b ≡ Ordering.gt → compare_ends b a ≡ Ordering.lt
ends-flip a b e = go (compare a.from b.from) refl
  where
    go : (o : Ordering) → compare a.from b.from ≡ o → compare_ends b a ≡ Ordering.lt
    go Ordering.lt x = let z : Ordering.lt ≡ Ordering.gt = rw x at e in cc
    go Ordering.eq x = rw (compare-eq b.from a.from (sym (eq-compare a.from b.from x))) (compare-lt b.to a.to (gt-compare a.to b.to (rw x at e)))
    go Ordering.gt x = rw (compare-lt b.from a.from (gt-compare a.from b.from x))

-- the ends of the edges strictly rise, so each pair of ends stands once
abbrev pub Rises : List Edge → Type 0
Rises [] = Unit {0}
Rises (e ∷ es) = All (λ d. compare_ends e.ends d.ends ≡ Ordering.lt) es × Rises es

put-rises : (n : Edge) (es : List Edge) → Rises es → Rises (put n es)
unfolding put merge
put-rises n [] r = (nil, tt)
put-rises n (e ∷ es) r = go (compare_ends n.ends e.ends) refl (put-rises n es r.1)
  where
    go : (o : Ordering) → compare_ends n.ends e.ends ≡ o → Rises (put n es) → Rises (put n (e ∷ es))
    go Ordering.lt c ih = rw (c, put) (cons c (all-mono (λ d h. ends-lt n.ends e.ends d.ends c h) r.0), r)
    go Ordering.eq c ih = rw (c, put) r
    go Ordering.gt c ih = rw (c, put) (all-put n (ends-flip n.ends e.ends c) (λ d h. h) r.0, ih)

-- ---- kmers

-- no kmer stands twice
abbrev pub Unlike : List (List ℕ) → Type 0
Unlike ks = (u v : ℕ) → u < length ks → v < length ks → get_or ks u [] ≡ get_or ks v [] → u ≡ v

pub unlike-number : (ks : List (List ℕ)) (v : ℕ) → Unlike ks → v < length ks → number_of ks (get_or ks v []) ≡ v
unlike-number ks v h l =
    let n : number_of ks (get_or ks v []) < length ks = number_in ks (get_or ks v []) v l refl in
    h (number_of ks (get_or ks v [])) v n l (number_is ks (get_or ks v []) n)

unlike-more : (ks : List (List ℕ)) (x : List ℕ) → Unlike ks → number_of ks x ≡ length ks → Unlike (ks ++ x ∷ [])
unlike-more ks x h n u v hu hv e = go (dec_lt u (length ks)) (dec_lt v (length ks))
  where
    size : length (ks ++ x ∷ []) ≡ length ks + 1
    size = length-append ks (x ∷ [])

    old : (w : ℕ) → w < length ks → get_or (ks ++ x ∷ []) w [] ≡ get_or ks w []
    old w l = get_or-append ks (x ∷ []) [] w l

    new : (w : ℕ) → w ≡ length ks → get_or (ks ++ x ∷ []) w [] ≡ x
    new w l = rw l (get_or-append_seam ks x [] [])

    go : Dec (u < length ks) → Dec (v < length ks) → u ≡ v
    go (yes a) (yes b) = h u v a b (sym (old u a) ∙ e ∙ old v b)
    go (yes a) (no b) =
        let w : v ≡ length ks = omega (arith, size) in
        let l : number_of ks x < length ks = number_in ks x u a (sym (old u a) ∙ e ∙ new v w) in
        absurd (omega arith)
    go (no a) (yes b) =
        let w : u ≡ length ks = omega (arith, size) in
        let l : number_of ks x < length ks = number_in ks x v b (sym (old v b) ∙ sym e ∙ new u w) in
        absurd (omega arith)
    go (no a) (no b) = omega (arith, size)

-- ---- the graph

pub record Neat (k : ℕ) (g : Graph) : Type 0 where
  pub rises : Rises g.edges
  pub unlike : Unlike g.kmers
  pub sized : All (λ x. length x ≡ k) g.kmers

module _ (k : ℕ) where
  kmer-neat : (ks : List (List ℕ)) (x : List ℕ) → length x ≡ k → Unlike ks → All (λ y. length y ≡ k) ks → Unlike (with_kmer ks x) × All (λ y. length y ≡ k) (with_kmer ks x)
  unfolding with_kmer
  kmer-neat ks x l u a = go (eqb (number_of ks x) (length ks)) refl
    where
      go : (b : Bool) → eqb (number_of ks x) (length ks) ≡ b → Unlike (with_kmer ks x) × All (λ y. length y ≡ k) (with_kmer ks x)
      go true e = rw (e, with_kmer) (unlike-more ks x u (eqb-true (number_of ks x) (length ks) e), all_append a (cons l nil))
      go false e = rw (e, with_kmer) (u, a)

  backward-rises : (n v : ℕ) (es : List Edge) → Rises es → Rises (backward n v es)
  unfolding backward
  backward-rises zero v es r = r
  backward-rises (suc n) v es r = go (sole (entering es v)) refl (λ w x h. backward-rises n w x h)
    where
      go : (o : Option Edge) → sole (entering es v) ≡ o → ((w : ℕ) (x : List Edge) → Rises x → Rises (backward n w x)) → Rises (backward (suc n) v es)
      go none e ih = rw (e, backward) r
      go (some x) e ih = rw (e, backward) (ih x.ends.from _ (put-rises (one_step false x.origin x.ends) es r))

  step-neat : (ref : Bool) (o : Origin) (x : List ℕ) (t : Threading) → length x ≡ k → Neat k t.graph → Neat k (step ref o x t).graph
  unfolding step step_to
  step-neat ref o x t l n = go (follow t.graph t.here (last_or 0 x)) refl
    where
      go : (f : Option Edge) → follow t.graph t.here (last_or 0 x) ≡ f → Neat k (step ref o x t).graph
      go none e =
          let q = kmer-neat t.graph.kmers x l n.unlike n.sized in
          rw (e, step) (record { rises = put-rises _ t.graph.edges n.rises; unlike = q.0; sized = q.1 })
      go (some d) e = rw (e, step) (record { rises = put-rises _ t.graph.edges n.rises; unlike = n.unlike; sized = n.sized })

  steps-neat : (ref : Bool) (s i : ℕ) (xs : List (List ℕ)) (t : Threading) → All (λ x. length x ≡ k) xs → Neat k t.graph → Neat k (steps ref s i xs t).graph
  unfolding steps
  steps-neat ref s i [] t a n = n
  steps-neat ref s i (x ∷ xs) t a n = steps-neat ref s (suc i) xs (step ref _ x t) (all_tail a) (step-neat ref _ x t (all_head a) n)

  start-neat : (x : List ℕ) (g : Graph) → length x ≡ k → Neat k g → Neat k (start_at k x g).graph
  unfolding start_at
  start-neat x g l n =
      let q = kmer-neat g.kmers x l n.unlike n.sized in
      record { rises = backward-rises (k - 1) (number_of g.kmers x) g.edges n.rises; unlike = q.0; sized = q.1 }

  kmers-sized : (bs : List ℕ) → All (λ x. length x ≡ k) (kmers k bs)
  unfolding kmers
  kmers-sized [] = nil
  kmers-sized (b ∷ bs) = go (leb k (suc (length bs))) refl (kmers-sized bs)
    where
      go : (z : Bool) → leb k (suc (length bs)) ≡ z → All (λ x. length x ≡ k) (kmers k bs) → All (λ x. length x ≡ k) (kmers k (b ∷ bs))
      go true e ih = rw (e, kmers) (cons (length-take-le k (b ∷ bs) (leb-true k (suc (length bs)) e)) ih)
      go false e ih = rw (e, kmers) nil

  run-neat : (ref : Bool) (r : Stretch) (xs : List (List ℕ)) (g : Graph) → All (λ x. length x ≡ k) xs → Neat k g → Neat k (thread_kmers ref k r xs g)
  unfolding thread_kmers
  run-neat ref r [] g a n = n
  run-neat ref r (x ∷ xs) g a n = steps-neat ref r.sequence r.place xs (start_at k x g) (all_tail a) (start-neat x g (all_head a) n)

  thread-neat : (ref : Bool) (r : Stretch) (g : Graph) → Neat k g → Neat k (thread ref k r g)
  unfolding thread
  thread-neat ref r g n = run-neat ref r (kmers k r.bytes) g (kmers-sized r.bytes) n

  all-neat : (rs : List Stretch) (g : Graph) → Neat k g → Neat k (thread_all k rs g)
  unfolding thread_all
  all-neat [] g n = n
  all-neat (r ∷ rs) g n = all-neat rs (thread false k r g) (thread-neat false r g n)

pub threaded-neat : (i : Sample) → Neat i.k (threaded i)
unfolding threaded
threaded-neat i =
    all-neat i.k (stretches i) _
    (thread-neat i.k true (record { sequence = 0; place = 0; bytes = i.reference }) (record { kmers = []; edges = [] })
    (record { rises = tt; unlike = λ u v hu hv e. absurd (omega arith); sized = nil }))

-- the table with the symbolic edge rises too
pub symbolic-rises : (i : Sample) → Rises (with_symbolic i (threaded i))
unfolding with_symbolic
symbolic-rises i = put-rises _ (threaded i).edges (threaded-neat i).rises
