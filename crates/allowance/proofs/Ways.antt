-- At most five ways are offered at a fork: the symbolic edge is never offered there.
use Rattle.std.specs.Prelude.{◌≡◌, ◌⊎◌, Bool, ◌&&◌, length}
use Rattle.std.proofs.Math.Path.{refl, ap, subst}
use Rattle.std.proofs.Common.{sym, ◌∙◌, inl, inr, arith, eq-eqb, eqb-true}
use Prim.Native.Nat.{ℕ, ◌≤◌, Ordering}
use Rattle.std.proofs.Math.Bool.{true, false, not}
use mathlib.Core.List.{List, [], ◌∷◌, map}
use Rattle.std.proofs.Math.Dec.{eqb}
use Rattle.std.proofs.lemmas.List.{length-map}
use Rattle.std.proofs.lemmas.Bool.{not-true}
use Rattle.laws.specs.Numbers.{reaches}
use Rattle.laws.specs.ListLaws.{clash, and_left, and_right, All, nil, cons, Mem, here, there, all_append, all-mono, all-zip, all_keep, all-passed, all_map, all-self, mem-map, mem-keep, pairwise_map, pigeonhole}
use Rattle.definition.specs.Limits.{Sample, reference_bases}
use Rattle.definition.specs.Threading.{Ends, eq_ends, compare_ends, Edge, support_of, leaving, merge, put, threaded, symbolic_of, last_place, with_symbolic}
use Rattle.definition.specs.Evidence.{Branches, bare, branch}
use Rattle.definition.specs.Search.{SearchInput, Offer, among, sum_of, real_branches, unseen, by_support, offers}
use Rattle.theorems.proofs.Walks.{eq_ends-true, Has, all-best}
use Rattle.theorems.proofs.Tables.{symbolic-rises}
use Rattle.theorems.proofs.Degrees.{rises-differ, five-leave}
use Rattle.theorems.proofs.Trees.{Rising}
use Rattle.theorems.proofs.Forks.{offers-differ, leaving-differ}

-- ---- what holds of every edge but an unsupported symbolic one holds of every offer

module _ (f : SearchInput) (P : Ends → Type 0) where
  -- an edge is such, or the symbolic one without support
  abbrev Real : Edge → Type 0
  Real x = P x.ends ⊎ ((x.ends ≡ f.symbolic) × (support_of x ≡ 0))

  among-real : (e : Ends) {es : List Edge} → All Real es → among e (map (λ (x : Edge). x.ends) es) ≡ true → eq_ends e f.symbolic ≡ false → P e
  unfolding among
  among-real e nil t n = clash (sym t)
  among-real e (cons {x = x} {xs = xs} r a) t n = go (eq_ends e x.ends) refl r (λ h. among-real e a h n)
    where
      go : (b : Bool) → eq_ends e x.ends ≡ b → Real x → (among e (map (λ (y : Edge). y.ends) xs) ≡ true → P e) → P e
      go true u (inl p) ih = subst P (sym (eq_ends-true e x.ends u)) p
      go true u (inr w) ih = clash (sym u ∙ ap (eq_ends e) w.0 ∙ n)
      go false u q ih = ih (rw u at t)

  real-real : (es : List Edge) (t : ℕ) (b : Branches) → All Real es → All (λ o. P o.ends) (real_branches f (map (λ (x : Edge). x.ends) es) t b)
  unfolding real_branches
  real-real es t bare a = nil
  real-real es t (branch e c below next) a = go (among e outs && not (eq_ends e f.symbolic)) refl (real-real es t next a)
    where
      outs : List Ends
      outs = map (λ (x : Edge). x.ends) es

      go : (b : Bool) → (among e outs && not (eq_ends e f.symbolic)) ≡ b → All (λ o. P o.ends) (real_branches f outs t next)
          → All (λ o. P o.ends) (real_branches f outs t (branch e c below next))
      go true h ih = rw (h, real_branches) (cons (among-real e a (and_left (among e outs) _ h) (not-true _ (and_right (among e outs) _ h))) ih)
      go false h ih = rw (h, real_branches) ih

  support-real : (es : List Edge) → All Real es → All (λ o. P o.ends) (by_support es)
  unfolding by_support
  support-real es a = all_map _ (λ x h. supported x h.0 h.1) (all-zip (all_keep _ a) (all-passed _ es))
    where
      supported : (x : Edge) → Real x → (not (eqb (support_of x) 0) && not (x.is_ref && eqb (support_of x) 1)) ≡ true → P x.ends
      supported x (inl p) t = p
      supported x (inr w) t = clash (sym (and_left (not (eqb (support_of x) 0)) _ t) ∙ ap not (eq-eqb (support_of x) 0 w.1))

  offers-real : (es : List Edge) (seen : List Ends) (bs : List Branches) → All Real es → All (λ o. P o.ends) (offers f es seen bs)
  unfolding offers unseen
  offers-real es seen [] a = all_keep _ (support-real es a)
  offers-real es seen (b ∷ bs) a = go (reaches (sum_of b) f.threshold) refl (λ l. offers-real es l bs a)
    where
      real : All (λ o. P o.ends) (real_branches f (map (λ (x : Edge). x.ends) es) (sum_of b) b)
      real = real-real es (sum_of b) b a

      go : (t : Bool) → reaches (sum_of b) f.threshold ≡ t → ((l : List Ends) → All (λ o. P o.ends) (offers f es l bs)) → All (λ o. P o.ends) (offers f es seen (b ∷ bs))
      go true e ih = rw (e, offers) (all_keep _ (all-best real))
      go false e ih = rw (e, offers) (all_append (all_keep _ real) (ih _))

-- ---- a built graph

-- an edge that was counted in: one of those that were there, or the new one
put_has : (n : Edge) (es : List Edge) → All (λ x. Has es x.ends ⊎ (x ≡ n)) (put n es)
unfolding put merge Has
put_has n [] = cons (inr refl) nil
put_has n (e ∷ es) = go (compare_ends n.ends e.ends) refl (put_has n es)
  where
    Old : Edge → Type 0
    Old x = Has (e ∷ es) x.ends ⊎ (x ≡ n)

    later : (x : Edge) → Has es x.ends ⊎ (x ≡ n) → Old x
    later x (inl h) = inl (h.0, there h.1, h.2)
    later x (inr h) = inr h

    kept : All Old es
    kept = all-mono (λ x m. inl (x, there m, refl)) (all-self es)

    go : (o : Ordering) → compare_ends n.ends e.ends ≡ o → All (λ x. Has es x.ends ⊎ (x ≡ n)) (put n es) → All Old (put n (e ∷ es))
    go Ordering.lt c ih = rw (c, put) (cons (inr refl) (cons (inl (e, here refl, refl)) kept))
    go Ordering.eq c ih = rw (c, put) (cons (inl (e, here refl, refl)) kept)
    go Ordering.gt c ih = rw (c, put) (cons (inl (e, here refl, refl)) (all-mono later ih))

-- At most five ways are offered at any vertex of a built graph.
pub five-offered : (i : Sample) (f : SearchInput) → 1 ≤ i.k → i.k ≤ length i.reference → reference_bases i.reference ≡ true
    → f.edges ≡ with_symbolic i (threaded i) → f.symbolic ≡ symbolic_of i (threaded i)
    → (v : ℕ) (bs : List Branches) → All Rising bs → length (offers f (leaving f.edges v) [] bs) ≤ 5
unfolding with_symbolic leaving support_of Has
five-offered i f 1≤k long check edges symbolic v bs r =
    let os = offers f (leaving f.edges v) [] bs in
    let l : length (map (λ (o : Offer). o.ends) os) ≡ length os = length-map os (λ (o : Offer). o.ends) in
    let m : length (map (λ (e : Edge). e.ends) out) ≡ length out = length-map out (λ (e : Edge). e.ends) in
    let d = offers-differ f (leaving f.edges v) bs (leaving-differ f.edges (rw edges (rises-differ (with_symbolic i (threaded i)) (symbolic-rises i))) v) r in
    let h = pigeonhole (pairwise_map (λ (o : Offer). o.ends) (λ x y n. n) d) (all_map (λ (o : Offer). o.ends) (λ o p. p) (offers-real f Out (leaving f.edges v) [] bs reals)) in
    omega (arith, five-leave i 1≤k long check v)
  where
    out : List Edge
    out = leaving (threaded i).edges v

    Out : Ends → Type 0
    Out d = Mem d (map (λ (e : Edge). e.ends) out)

    reals : All (Real f Out) (leaving f.edges v)
    reals =
        rw edges
        (all-mono (λ x h. one x h.0 (eqb-true x.ends.from v h.1))
        (all-zip (all_keep (λ (e : Edge). eqb e.ends.from v) (put_has n (threaded i).edges)) (all-passed (λ (e : Edge). eqb e.ends.from v) (put n (threaded i).edges))))
      where
        n : Edge
        n = record { ends = symbolic_of i (threaded i); support = 0; is_ref = true; origin = record { sequence = 0; place = last_place i } }

        one : (x : Edge) → Has (threaded i).edges x.ends ⊎ (x ≡ n) → x.ends.from ≡ v → Real f Out x
        one x (inl (y, m, e)) w =
            inl (subst Out e (mem-map (λ (e : Edge). e.ends) (mem-keep (λ (e : Edge). eqb e.ends.from v) y m (eq-eqb y.ends.from v (ap (λ (d : Ends). d.from) e ∙ w)))))
        one x (inr e) w = inr (ap (λ (z : Edge). z.ends) e ∙ sym symbolic, ap (λ (z : Edge). z.support) e)
