-- Degrees: at most five edges leave a vertex, one for each base, and with the symbolic edge at most six leave the sink.
use mathlib.Core.Path.{◌≡◌, refl, sym, ap, ◌∙◌}
use mathlib.Core.Logic.{◌⊎◌, inl, inr}
use Prim.Native.Nat.{ℕ, zero, suc, ◌+◌, ◌-◌, ◌≤◌, ◌<◌, Ordering}
use native.Mathlib.Omega.{arith}
use mathlib.Core.Bool.{Bool, true, false, ◌||◌}
use mathlib.Core.List.{List, [], ◌∷◌}
use lib.Dec.{eqb}
use lib.ListN.{length, take, drop, get_or, length-drop, length-map}
use lib.Seq.{get_or-drop, get_or-take}
use borrow.Author.Tests.{eqb-true, ne_eqb}
use Rattle.laws.specs.Lists.{keep, all, last_or}
use Rattle.laws.specs.Numbers.{compare-eq}
use Rattle.laws.specs.ListLaws.{and_left, and_right, All, Mem, here, there, all_map, all-mono, all-mem, all_keep, all-passed, all-zip, Pairwise, empty, first, pairwise-keep, pairwise_map, pairwise-all, pigeonhole}
use Rattle.definition.specs.Limits.{Sample, is_base, reference_bases}
use Rattle.definition.specs.Stretch.{Stretch, usable}
use Rattle.definition.specs.Threading.{Ends, compare_ends, Origin, Edge, leaving, last_base, merge, put, threaded, last_place, sink_of, symbolic_of, with_symbolic}
use Rattle.theorems.proofs.Stretches.{InRead, Inside, stretches-inside}
use Rattle.theorems.proofs.Spelling.{Spells, SpellsOn, RunOf, threaded-sound}
use Rattle.theorems.proofs.Tables.{Rises, threaded-neat}
use Rattle.theorems.proofs.Visits.{one-way-on}

-- ---- the five bases

abbrev pub bases : List ℕ
bases = 65 ∷ 67 ∷ 71 ∷ 84 ∷ 78 ∷ []

or-one : (a b : Bool) → (a || b) ≡ true → (a ≡ true) ⊎ (b ≡ true)
or-one true b e = inl refl
or-one false b e = inr e

pub base-among : (b : ℕ) → is_base b ≡ true → Mem b bases
unfolding is_base
base-among b e = g4 (or-one (eqb b 65 || eqb b 67 || eqb b 71 || eqb b 84) (eqb b 78) e)
  where
    g1 : (eqb b 65 ≡ true) ⊎ (eqb b 67 ≡ true) → Mem b bases
    g1 (inl t) = here (eqb-true b 65 t)
    g1 (inr t) = there (here (eqb-true b 67 t))

    g2 : ((eqb b 65 || eqb b 67) ≡ true) ⊎ (eqb b 71 ≡ true) → Mem b bases
    g2 (inl t) = g1 (or-one (eqb b 65) (eqb b 67) t)
    g2 (inr t) = there (there (here (eqb-true b 71 t)))

    g3 : ((eqb b 65 || eqb b 67 || eqb b 71) ≡ true) ⊎ (eqb b 84 ≡ true) → Mem b bases
    g3 (inl t) = g2 (or-one (eqb b 65 || eqb b 67) (eqb b 71) t)
    g3 (inr t) = there (there (there (here (eqb-true b 84 t))))

    g4 : ((eqb b 65 || eqb b 67 || eqb b 71 || eqb b 84) ≡ true) ⊎ (eqb b 78 ≡ true) → Mem b bases
    g4 (inl t) = g3 (or-one (eqb b 65 || eqb b 67 || eqb b 71) (eqb b 84) t)
    g4 (inr t) = there (there (there (there (here (eqb-true b 78 t)))))

-- ---- the bytes of a run are bases

all-at : (t : ℕ → Bool) (xs : List ℕ) (j : ℕ) → all t xs ≡ true → j < length xs → t (get_or xs j 0) ≡ true
all-at t [] j e h = absurd (omega arith)
all-at t (x ∷ xs) zero e h = and_left (t x) (all t xs) e
all-at t (x ∷ xs) (suc j) e h = all-at t xs j (and_right (t x) (all t xs) e) (omega arith)

module _ (i : Sample) (check : reference_bases i.reference ≡ true) where
  -- every byte of a run that is threaded is a base
  pub run-bases : (r : Stretch) → RunOf i r → (j : ℕ) → j < length r.bytes → is_base (get_or r.bytes j 0) ≡ true
  unfolding reference_bases usable
  run-bases r (inl e) j h =
      let b : r.bytes ≡ i.reference = ap (λ (x : Stretch). x.bytes) e in
      let h' : j < length i.reference = rw b at h in
      rw b (all-at is_base i.reference j check h')
  run-bases r (inr m) j h =
      let a : InRead (usable i.quality) 1 0 i.ends i.bases i.qualities r = all-mem (stretches-inside i) m in
      let w : Inside (usable i.quality) (1 + a.number) 0 a.read a.quality r = a.inside in
      let e : get_or r.bytes j 0 ≡ get_or a.read (w.off + j) 0 =
      ap (λ (l : List ℕ). get_or l j 0) (sym w.bytes) ∙ get_or-take (length r.bytes) (drop w.off a.read) j 0 h ∙ get_or-drop w.off a.read j 0 in
      rw e (and_left (is_base (get_or a.read (w.off + j) 0)) _ (w.passes j h))

  -- ---- the last base of an edge's target

  last-take : (d k : ℕ) (M : List ℕ) → 1 ≤ k → k ≤ length M → ((j : ℕ) → j < length M → is_base (get_or M j 0) ≡ true) → is_base (last_or d (take k M)) ≡ true
  last-take d zero M p h a = absurd (omega arith)
  last-take d (suc k) [] p h a = absurd (omega arith)
  last-take d (suc zero) (m ∷ M) p h a = a 0 (omega arith)
  last-take d (suc (suc k)) (m ∷ M) p h a = last-take m (suc k) M (omega arith) (omega arith) (λ j l. a (suc j) (omega arith))

  target-base : (1 ≤ i.k) → (d : Ends) (o : Origin) → Spells (RunOf i) i.k (threaded i).kmers d o → is_base (last_base (threaded i).kmers d.to) ≡ true
  unfolding last_base
  target-base p d o s =
      let bs : List ℕ = s.run.bytes in
      let f : s.off + suc i.k ≤ length bs = s.fits in
      let n : length (drop (suc s.off) bs) ≡ length bs - suc s.off = length-drop (suc s.off) bs in
      rw s.right
      (last-take 0 i.k (drop (suc s.off) bs) p (omega arith) (λ j l. rw get_or-drop (run-bases s.run s.source (suc s.off + j) (omega arith))))

-- ---- edges by their ends

pub ends-less : (d e : Ends) → compare_ends d e ≡ Ordering.lt → d ≡ e → ⊥
ends-less d e l s =
    let f : compare_ends e e ≡ Ordering.lt = rw s at l in
    let g : compare_ends e e ≡ Ordering.eq = rw (compare-eq e.from e.from refl, compare-eq e.to e.to refl) in
    let z : ◌≡◌ {A = ℕ} 0 1 = cc in
    omega arith

-- the ends of the edges differ
pub rises-differ : (es : List Edge) → Rises es → Pairwise (λ d e. d.ends ≡ e.ends → ⊥) es
rises-differ [] r = empty
rises-differ (e ∷ es) r = first {x = e} {xs = es} (all-mono (λ d h. ends-less e.ends d.ends h) r.0) (rises-differ es r.1)

-- ---- degrees

-- to count an edge adds at most that edge to those that leave v
put-leaving : (v : ℕ) (n : Edge) (es : List Edge) → length (leaving (put n es) v) ≤ length (leaving (n ∷ es) v)
unfolding put merge leaving
put-leaving v n [] = omega arith
put-leaving v n (e ∷ es) = go (compare_ends n.ends e.ends) refl (put-leaving v n es)
  where
    from : Edge → Bool
    from x = eqb x.ends.from v

    Goal : Type 0
    Goal = length (keep from (put n (e ∷ es))) ≤ length (keep from (n ∷ e ∷ es))

    same : compare_ends n.ends e.ends ≡ Ordering.eq → (b c : Bool) → from n ≡ b → from e ≡ c → Goal
    same o true true x y = rw (o, put, x, y) (omega arith)
    same o true false x y = rw (o, put, x, y) (omega arith)
    same o false true x y = rw (o, put, x, y) (omega arith)
    same o false false x y = rw (o, put, x, y) (omega arith)

    later : compare_ends n.ends e.ends ≡ Ordering.gt → length (keep from (put n es)) ≤ length (keep from (n ∷ es)) → (b c : Bool) → from n ≡ b → from e ≡ c → Goal
    later o ih true true x y = rw (o, put, x, y) (let h = rw x at ih in omega arith)
    later o ih true false x y = rw (o, put, x, y) (let h = rw x at ih in omega arith)
    later o ih false true x y = rw (o, put, x, y) (let h = rw x at ih in omega arith)
    later o ih false false x y = rw (o, put, x, y) (let h = rw x at ih in omega arith)

    go : (o : Ordering) → compare_ends n.ends e.ends ≡ o → length (keep from (put n es)) ≤ length (keep from (n ∷ es)) → Goal
    go Ordering.lt c ih = rw (c, put) (omega arith)
    go Ordering.eq c ih = same c (from n) (from e) refl refl
    go Ordering.gt c ih = later c ih (from n) (from e) refl refl

-- an edge more, and one that does not leave v
one_more : (v : ℕ) (n : Edge) (es : List Edge) → length (leaving (n ∷ es) v) ≤ suc (length (leaving es v))
unfolding leaving
one_more v n es = go (eqb n.ends.from v) refl
  where
    go : (b : Bool) → eqb n.ends.from v ≡ b → length (keep (λ (e : Edge). eqb e.ends.from v) (n ∷ es)) ≤ suc (length (keep (λ (e : Edge). eqb e.ends.from v) es))
    go true e = rw e (omega arith)
    go false e = rw e (omega arith)

no_more : (v : ℕ) (n : Edge) (es : List Edge) → (n.ends.from ≡ v → ⊥) → leaving (n ∷ es) v ≡ leaving es v
unfolding leaving
no_more v n es h = rw (ne_eqb n.ends.from v h)

module _ (i : Sample) (1≤k : 1 ≤ i.k) (long : i.k ≤ length i.reference) (check : reference_bases i.reference ≡ true) where
  abbrev symbolic : Edge
  symbolic = record { ends = symbolic_of i (threaded i); support = 0; is_ref = true; origin = record { sequence = 0; place = last_place i } }

  -- At most five edges leave a vertex of the graph before the symbolic edge.
  pub five-leave : (v : ℕ) → length (leaving (threaded i).edges v) ≤ 5
  unfolding leaving
  five-leave v =
      let l = length-map out (λ (e : Edge). last_base (threaded i).kmers e.ends.to) in
      let h = pigeonhole (pairwise_map (λ (e : Edge). last_base (threaded i).kmers e.ends.to) differ (pairwise-all from differing)) (all_map (λ (e : Edge). last_base (threaded i).kmers e.ends.to) (λ e w. base-among _ (target-base i check 1≤k e.ends e.origin w.0)) from) in
      omega arith
    where
      out : List Edge
      out = keep (λ (e : Edge). eqb e.ends.from v) (threaded i).edges

      From : Edge → Type 0
      From e = SpellsOn (RunOf i) i.k (threaded i).kmers e × (eqb e.ends.from v ≡ true)

      from : All From out
      from = all-zip (all_keep (λ (e : Edge). eqb e.ends.from v) (threaded-sound i 1≤k long).spelled) (all-passed (λ (e : Edge). eqb e.ends.from v) (threaded i).edges)

      differing : Pairwise (λ d e. d.ends ≡ e.ends → ⊥) out
      differing = pairwise-keep (λ (e : Edge). eqb e.ends.from v) (rises-differ (threaded i).edges (threaded-neat i).rises)

      differ : (d e : Edge) → From d × From e × (d.ends ≡ e.ends → ⊥) → last_base (threaded i).kmers d.ends.to ≡ last_base (threaded i).kmers e.ends.to → ⊥
      differ d e w s =
          w.2
          (one-way-on i d.ends e.ends d.origin e.origin 1≤k w.0.0 w.1.0
          (eqb-true d.ends.from v w.0.1 ∙ sym (eqb-true e.ends.from v w.1.1)) s)

  -- With the symbolic edge, at most six edges leave any vertex, the sink included.
  pub six-leave : (v : ℕ) → length (leaving (with_symbolic i (threaded i)) v) ≤ 6
  unfolding with_symbolic
  six-leave v = let n = symbolic in omega (arith, put-leaving v n (threaded i).edges, one_more v n (threaded i).edges, five-leave v)

  -- With the symbolic edge, at most five edges leave any vertex but the sink.
  pub five-elsewhere : (v : ℕ) → (v ≡ sink_of i (threaded i) → ⊥) → length (leaving (with_symbolic i (threaded i)) v) ≤ 5
  unfolding with_symbolic symbolic_of
  five-elsewhere v m =
      let n = symbolic in
      let e = no_more v n (threaded i).edges (λ x. m (sym x)) in
      let h : length (leaving (put n (threaded i).edges) v) ≤ length (leaving (threaded i).edges v) = rw e at (put-leaving v n (threaded i).edges) in
      omega (arith, five-leave v)
