-- Insertion into a list by an order, and sorting by it. `before x y` says that x stands before y.
use Rattle.std.specs.Prelude.{◌≡◌, Bool}
use Rattle.std.proofs.Math.Path.{refl, ap}
use Rattle.std.proofs.Common.{sym, ◌∙◌}
use Prim.Native.Nat.{suc}
use Rattle.std.proofs.Math.Bool.{true, false}
use mathlib.Core.List.{List, [], ◌∷◌}
use Rattle.std.proofs.Math.ListN.{length}
use Rattle.laws.specs.Lists.{keep}
use Rattle.laws.specs.ListLaws.{All, nil, cons, all_head, all_tail, all-mono, all-zip, all_keep}

module _ {A : Type 0} where
  -- a goes in front of the first element that does not stand before it
  unfoldable pub insert : (A → A → Bool) → A → List A → List A
  insert before a [] = a ∷ []
  insert before a (x ∷ xs) = elim (before x a) [ true ↦ x ∷ insert before a xs | false ↦ a ∷ x ∷ xs ]

  -- Each element is inserted into what follows it, so of two that neither stands before the other the earlier one stays first.
  unfoldable pub sorted : (A → A → Bool) → List A → List A
  sorted before [] = []
  sorted before (x ∷ xs) = insert before x (sorted before xs)

-- What is asked of an order: it goes one way only, and `not before` goes on through the elements that are `Fine`.
pub record StrictOrder {A : Type 0} (before : A → A → Bool) (Fine : A → Type 0) : Type 0 where
  pub flip : (x y : A) → before x y ≡ true → before y x ≡ false
  pub through : (x y z : A) → Fine x → Fine y → Fine z → before x y ≡ false → before y z ≡ false → before x z ≡ false

module _ {A : Type 0} (before : A → A → Bool) where
  pub insert-past : (a x : A) (xs : List A) → before x a ≡ true → insert before a (x ∷ xs) ≡ x ∷ insert before a xs
  unfolding insert
  insert-past a x xs e = rw (e, insert)

  pub insert-here : (a x : A) (xs : List A) → before x a ≡ false → insert before a (x ∷ xs) ≡ a ∷ x ∷ xs
  unfolding insert
  insert-here a x xs e = rw (e, insert)

  -- ---- length and elements

  pub length-insert : (a : A) (xs : List A) → length (insert before a xs) ≡ suc (length xs)
  unfolding insert
  length-insert a [] = refl
  length-insert a (x ∷ xs) = go (before x a) refl (length-insert a xs)
    where
      go : (b : Bool) → before x a ≡ b → length (insert before a xs) ≡ suc (length xs) → length (insert before a (x ∷ xs)) ≡ suc (suc (length xs))
      go true e ih = rw (e, insert) (ap suc ih)
      go false e ih = rw (e, insert)

  pub length-sorted : (xs : List A) → length (sorted before xs) ≡ length xs
  unfolding sorted
  length-sorted [] = refl
  length-sorted (x ∷ xs) = length-insert x (sorted before xs) ∙ ap suc (length-sorted xs)

  pub all_insert : {P : A → Type 0} (a : A) {xs : List A} → P a → All P xs → All P (insert before a xs)
  unfolding insert
  all_insert a p nil = cons p nil
  all_insert {P} a p (cons {x = x} {xs = xs} h r) = go (before x a) refl (all_insert a p r)
    where
      go : (b : Bool) → before x a ≡ b → All P (insert before a xs) → All P (insert before a (x ∷ xs))
      go true e ih = rw (e, insert) (cons h ih)
      go false e ih = rw (e, insert) (cons p (cons h r))

  pub all-sorted : {P : A → Type 0} {xs : List A} → All P xs → All P (sorted before xs)
  unfolding sorted
  all-sorted nil = nil
  all-sorted (cons {x = x} p r) = all_insert x p (all-sorted r)

  -- an element that none stands before goes first
  pub insert-front : (a : A) {xs : List A} → All (λ x. before x a ≡ false) xs → insert before a xs ≡ a ∷ xs
  unfolding insert
  insert-front a nil = refl
  insert-front a (cons e r) = rw (e, insert)

  -- ---- keeping some

  -- to leave an element out that was put in
  keep_out : (t : A → Bool) (a : A) (xs : List A) → t a ≡ false → keep t (insert before a xs) ≡ keep t xs
  unfolding insert
  keep_out t a [] h = rw h
  keep_out t a (x ∷ xs) h = go (before x a) (t x) refl refl (keep_out t a xs h)
    where
      go : (b c : Bool) → before x a ≡ b → t x ≡ c → keep t (insert before a xs) ≡ keep t xs → keep t (insert before a (x ∷ xs)) ≡ keep t (x ∷ xs)
      go true true e f ih = rw (e, insert, f) (ap (λ (l : List A). x ∷ l) ih)
      go true false e f ih = rw (e, insert, f) ih
      go false c e f ih = rw (e, insert, h)

  -- no element stands before one that is above it in the list
  abbrev pub Sorted : List A → Type 0
  Sorted [] = Unit {0}
  Sorted (x ∷ xs) = All (λ y. before y x ≡ false) xs × Sorted xs

  module _ {Fine : A → Type 0} (O : StrictOrder before Fine) where
    insert-sorted : (a : A) (xs : List A) → Fine a → All Fine xs → Sorted xs → Sorted (insert before a xs)
    unfolding insert
    insert-sorted a [] fa fs s = (nil, tt)
    insert-sorted a (x ∷ xs) fa fs s = go (before x a) refl (insert-sorted a xs fa (all_tail fs) s.1)
      where
        go : (b : Bool) → before x a ≡ b → Sorted (insert before a xs) → Sorted (insert before a (x ∷ xs))
        go true e ih = rw (e, insert) (all_insert a (O.flip x a e) s.0, ih)
        go false e ih =
            rw (e, insert) (cons e (all-mono (λ y h. O.through y x a h.1 (all_head fs) fa h.0 e) (all-zip s.0 (all_tail fs))), s)

    pub sorted-sorted : (xs : List A) → All Fine xs → Sorted (sorted before xs)
    unfolding sorted
    sorted-sorted [] fs = tt
    sorted-sorted (x ∷ xs) fs = insert-sorted x (sorted before xs) (all_head fs) (all-sorted (all_tail fs)) (sorted-sorted xs (all_tail fs))

    keep-insert : (t : A → Bool) (a : A) (xs : List A) → t a ≡ true → Fine a → All Fine xs → Sorted xs
        → keep t (insert before a xs) ≡ insert before a (keep t xs)
    unfolding insert
    keep-insert t a [] h fa fs s = rw h
    keep-insert t a (x ∷ xs) h fa fs s = go (before x a) (t x) refl refl (keep-insert t a xs h fa (all_tail fs) s.1)
      where
        none_before : before x a ≡ false → All (λ y. before y a ≡ false) (keep t xs)
        none_before e = all_keep t (all-mono (λ y h. O.through y x a h.1 (all_head fs) fa h.0 e) (all-zip s.0 (all_tail fs)))

        go : (b c : Bool) → before x a ≡ b → t x ≡ c → keep t (insert before a xs) ≡ insert before a (keep t xs)
            → keep t (insert before a (x ∷ xs)) ≡ insert before a (keep t (x ∷ xs))
        go true true e f ih = rw (e, insert, f, e, insert) (ap (λ (l : List A). x ∷ l) ih)
        go true false e f ih = rw (e, insert, f) ih
        go false true e f ih = rw (e, insert, h, f) (sym (insert-front a (cons e (none_before e))))
        go false false e f ih = rw (e, insert, h, f) (sym (insert-front a (none_before e)))

    -- to keep some elements of the sorted list is to sort the elements kept
    pub keep-sorted : (t : A → Bool) (xs : List A) → All Fine xs → keep t (sorted before xs) ≡ sorted before (keep t xs)
    unfolding sorted
    keep-sorted t [] fs = refl
    keep-sorted t (x ∷ xs) fs = go (t x) refl (keep-sorted t xs (all_tail fs))
      where
        go : (b : Bool) → t x ≡ b → keep t (sorted before xs) ≡ sorted before (keep t xs) → keep t (sorted before (x ∷ xs)) ≡ sorted before (keep t (x ∷ xs))
        go true e ih =
            rw e
            (keep-insert t x (sorted before xs) e (all_head fs) (all-sorted (all_tail fs)) (sorted-sorted xs (all_tail fs))
            ∙ ap (insert before x) ih)
        go false e ih = rw e (keep_out t x (sorted before xs) e ∙ ih)
