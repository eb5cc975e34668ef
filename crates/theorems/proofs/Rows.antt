-- The list's order is total and strict: of any two rows the upper one outranks the lower, so no row stands twice.
use mathlib.Core.Path.{◌≡◌, refl, sym, ap, ◌∙◌}
use mathlib.Core.Logic.{inl, inr}
use Prim.Native.Nat.{ℕ, suc, ◌<◌, compare, Ordering}
use native.Mathlib.Omega.{arith}
use mathlib.Core.Bool.{Bool, true, false}
use mathlib.Core.List.{List, [], ◌∷◌, map}
use lib.Ieee.{Float}
use Rattle.laws.specs.Numbers.{compare_list, is_gt, list-flip, compare-gt, compare-eq, lt-compare, eq-compare}
use Rattle.laws.specs.ListLaws.{clash, or-none, All, nil, cons, all_head, all_tail, all-mono, all-zip, all_map, Pairwise, empty, first, pairwise-mono, pairwise_map}
use Rattle.laws.specs.Insertion.{insert, sorted, StrictOrder, all_insert, all-sorted}
use Rattle.definition.specs.Score.{Scoring, column_scoring}
use Rattle.definition.specs.Limits.{Input}
use Rattle.definition.specs.Search.{Closed}
use Rattle.definition.specs.Listing.{search_input, Row, row_of, above, list_order, listed, answer}
use Rattle.theorems.proofs.Order.{Ordered, Keeps, above-order}
use Rattle.theorems.proofs.Walks.{GoodState, Numbered}
use Rattle.theorems.proofs.Turns.{numbered-above}
use Rattle.theorems.proofs.Column.{column-ordered, column-keeps}
use Rattle.theorems.proofs.Found.{Listing, found-good}
use Rattle.theorems.proofs.Checks.{accepted}

-- ---- sorting keeps equals in order

-- b does not stand before a, and R holds of them where a does not stand before b either
abbrev pub Ranked : {A : Type 0} → (A → A → Bool) → (A → A → Type 0) → A → A → Type 0
Ranked before R a b = (before b a ≡ false) × (before a b ≡ false → R a b)

module _ {A : Type 0} (before : A → A → Bool) {Fine : A → Type 0} (O : StrictOrder before Fine) (R : A → A → Type 0) where
  insert-ranked : (a : A) {xs : List A} → Fine a → All Fine xs → All (R a) xs → Pairwise (Ranked before R) xs → Pairwise (Ranked before R) (insert before a xs)
  unfolding insert
  insert-ranked a fa fs r empty = first nil empty
  insert-ranked a fa fs r (first {x = x} {xs = xs} h p) = go (before x a) refl (insert-ranked a fa (all_tail fs) (all_tail r) p)
    where
      go : (b : Bool) → before x a ≡ b → Pairwise (Ranked before R) (insert before a xs) → Pairwise (Ranked before R) (insert before a (x ∷ xs))
      go true e ih = rw (e, insert) (first (all_insert before a (O.flip x a e, λ f. clash (sym e ∙ f)) h) ih)
      go false e ih =
          let rest : All (Ranked before R a) xs =
          all-mono (λ y w. (O.through y x a w.0.0 (all_head fs) fa w.0.1.0 e, λ f. w.1)) (all-zip (all-zip (all_tail fs) h) (all_tail r)) in
          rw (e, insert) (first (cons (e, λ f. all_head r) rest) (first h p))

  -- a list in which R holds of every two elements, sorted
  pub sorted-ranked : {xs : List A} → All Fine xs → Pairwise R xs → Pairwise (Ranked before R) (sorted before xs)
  unfolding sorted
  sorted-ranked fs empty = empty
  sorted-ranked fs (first {x = x} {xs = xs} h p) =
      insert-ranked x (all_head fs) (all-sorted before (all_tail fs)) (all-sorted before h) (sorted-ranked (all_tail fs) p)

-- ---- lists of numbers

list-less : (xs ys : List ℕ) → compare_list xs ys ≡ Ordering.lt → is_gt (compare_list ys xs) ≡ true
list-less [] [] e = cc
list-less [] (y ∷ ys) e = refl
list-less (x ∷ xs) [] e = cc
list-less (x ∷ xs) (y ∷ ys) e = go (compare x y) refl (list-less xs ys)
  where
    go : (o : Ordering) → compare x y ≡ o → (compare_list xs ys ≡ Ordering.lt → is_gt (compare_list ys xs) ≡ true) → is_gt (compare_list (y ∷ ys) (x ∷ xs)) ≡ true
    go Ordering.lt f ih = rw (compare-gt y x (lt-compare x y f))
    go Ordering.eq f ih = rw (compare-eq y x (sym (eq-compare x y f))) (ih (rw f at e))
    go Ordering.gt f ih = let z : Ordering.gt ≡ Ordering.lt = rw f at e in cc

list_same : (xs ys : List ℕ) → compare_list xs ys ≡ Ordering.eq → xs ≡ ys
list_same [] [] e = refl
list_same [] (y ∷ ys) e = cc
list_same (x ∷ xs) [] e = cc
list_same (x ∷ xs) (y ∷ ys) e = go (compare x y) refl (list_same xs ys)
  where
    go : (o : Ordering) → compare x y ≡ o → (compare_list xs ys ≡ Ordering.eq → xs ≡ ys) → x ∷ xs ≡ y ∷ ys
    go Ordering.lt f ih = let z : Ordering.lt ≡ Ordering.eq = rw f at e in cc
    go Ordering.eq f ih =
        let h : x ≡ y = eq-compare x y f in
        let t : xs ≡ ys = ih (rw f at e) in
        cc
    go Ordering.gt f ih = let z : Ordering.gt ≡ Ordering.eq = rw f at e in cc

-- ---- rows

-- Why the row a stands above the row b: its score is greater; or neither score is less and its bases are greater; or neither score is less, the
-- bases are the same and it closed earlier.
pub data Outranks {S : Type 0} (𝓢 : Scoring S) (a b : Row S) : Type 0 where
  by-score : 𝓢.less b.score a.score ≡ true → Outranks 𝓢 a b
  by-bases : 𝓢.less a.score b.score ≡ false → 𝓢.less b.score a.score ≡ false → compare_list a.bases b.bases ≡ Ordering.gt → Outranks 𝓢 a b
  by-closing : 𝓢.less a.score b.score ≡ false → 𝓢.less b.score a.score ≡ false → a.bases ≡ b.bases → a.closing < b.closing → Outranks 𝓢 a b

module _ {S : Type 0} (𝓢 : Scoring S) where
  ranked-outranks : (a b : Row S) → Ranked (above 𝓢) (λ x y. x.closing < y.closing) a b → Outranks 𝓢 a b
  unfolding above
  ranked-outranks a b h = go (𝓢.less b.score a.score) refl
    where
      ab : 𝓢.less a.score b.score ≡ false
      ab = (or-none (𝓢.less a.score b.score) _ h.0).0

      go : (z : Bool) → 𝓢.less b.score a.score ≡ z → Outranks 𝓢 a b
      go true e = by-score e
      go false e = bases (compare_list a.bases b.bases) refl
        where
          not_gt : is_gt (compare_list b.bases a.bases) ≡ false
          not_gt = rw (ab, e) at h.0

          bases : (o : Ordering) → compare_list a.bases b.bases ≡ o → Outranks 𝓢 a b
          bases Ordering.lt f = clash (sym (list-less a.bases b.bases f) ∙ not_gt)
          bases Ordering.eq f = by-closing ab e (list_same a.bases b.bases f) (h.1 (rw (e, ab, f)))
          bases Ordering.gt f = by-bases ab e f

  -- no row outranks itself
  pub outranks-other : {Fine : S → Type 0} → Ordered 𝓢 Fine → (a b : Row S) → Outranks 𝓢 a b → a ≡ b → ⊥
  outranks-other O a b (by-score e) s =
      let f : 𝓢.less a.score a.score ≡ true = rw (← s) at e in
      clash (sym f ∙ O.one_way a.score a.score f)
  outranks-other O a b (by-bases e f g) s =
      let h : compare_list a.bases a.bases ≡ Ordering.gt = rw (← s) at g in
      let t : is_gt (compare_list a.bases a.bases) ≡ true = rw h in
      clash (sym t ∙ list-flip a.bases a.bases t)
  outranks-other O a b (by-closing e f g h) s = let n : a.closing ≡ b.closing = ap (λ (r : Row S). r.closing) s in omega arith

  -- closings numbered on rise
  numbered-rise : (n : ℕ) (cs : List (Closed S)) → Numbered n cs → Pairwise (λ c d. c.closing < d.closing) cs
  numbered-rise n [] a = empty
  numbered-rise n (c ∷ cs) a =
      let e : c.closing ≡ suc n = a.0 in
      first {x = c} {xs = cs} (rw e (numbered-above (suc n) cs a.1)) (numbered-rise (suc n) cs a.1)

module _ {S : Type 0} {𝓢 : Scoring S} {Fine : S → Type 0} (O : Ordered 𝓢 Fine) (K : Keeps 𝓢 Fine) where
  -- Of any two rows of a list the upper one outranks the lower.
  pub ranked-listing : (i : Input) (rows : List (Row S)) (p q : ℕ) → Listing 𝓢 i rows p q → Pairwise (Outranks 𝓢) rows
  ranked-listing i rows p q (inl h) = rw h.1 empty
  ranked-listing i rows p q (inr h) = rw h.are (unfold list_order in pairwise-mono (ranked-outranks 𝓢) (sorted-ranked (above 𝓢) (above-order O) (λ x y. x.closing < y.closing) fine rise))
    where
      good : GoodState Fine (search_input i h.graph) h.state × Numbered 0 h.state.closed
      good = found-good K h

      fine : All (λ r. Fine r.score) (map (row_of h.graph) h.state.closed)
      fine = unfold row_of in all_map (row_of h.graph) (λ c g. g.fine) good.0.closed

      rise : Pairwise (λ x y. x.closing < y.closing) (map (row_of h.graph) h.state.closed)
      rise = unfold row_of in pairwise_map (row_of h.graph) (λ c d l. l) (numbered-rise 𝓢 0 h.state.closed good.1)

  -- So no row stands twice.
  pub differ-listing : (i : Input) (rows : List (Row S)) (p q : ℕ) → Listing 𝓢 i rows p q → Pairwise (λ a b. a ≡ b → ⊥) rows
  differ-listing i rows p q h = pairwise-mono (outranks-other 𝓢 O) (ranked-listing i rows p q h)

-- ---- the call for the list, in column mode

module _ (i : Input) (told lent : List ℕ) (rows : List (Row Float)) (p q : ℕ) (t : answer i told lent ≡ listed rows p q) where
  -- Of any two rows of an accepted list the upper one outranks the lower.
  pub rows-ranked : Pairwise (Outranks (column_scoring i.column)) rows
  rows-ranked =
      let a = accepted i told lent rows p q t in
      ranked-listing (column-ordered i.column) (column-keeps i.column a.0.column-fits) i rows p q a.1

  -- No row of an accepted list stands twice.
  pub rows-differ : Pairwise (λ a b. a ≡ b → ⊥) rows
  rows-differ =
      let a = accepted i told lent rows p q t in
      differ-listing (column-ordered i.column) (column-keeps i.column a.0.column-fits) i rows p q a.1
