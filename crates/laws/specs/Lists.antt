-- Small total functions on lists that the definition is made of. Their laws are in ListLaws.
-- Style: a branch that holds a recursive or a costly call stands in an `elim`, never in a `cond`, since antt computes a call's arguments first.
use Rattle.std.specs.Prelude.{ℕ, suc, ◌+◌, Bool, true, false, ◌&&◌, ◌||◌, cond, List, [], ◌∷◌}
use Rattle.std.proofs.Math.Option.{Option, none, some}

module _ {A : Type 0} where
  -- the elements that pass the test, in order
  abbrev pub keep : (A → Bool) → List A → List A
  keep p [] = []
  keep p (x ∷ xs) = let r = keep p xs in cond (p x) (x ∷ r) r

  abbrev pub any : (A → Bool) → List A → Bool
  any p [] = false
  any p (x ∷ xs) = p x || any p xs

  abbrev pub all : (A → Bool) → List A → Bool
  all p [] = true
  all p (x ∷ xs) = p x && all p xs

  -- how many pass the test
  abbrev pub tally : (A → Bool) → List A → ℕ
  tally p [] = 0
  tally p (x ∷ xs) = cond (p x) 1 0 + tally p xs

  -- the first that passes the test
  abbrev pub find : (A → Bool) → List A → Option A
  find p [] = none
  find p (x ∷ xs) = elim (p x) [ true ↦ some x | false ↦ find p xs ]

  -- the last that passes the test
  abbrev pub find_last : (A → Bool) → List A → Option A
  find_last p [] = none
  find_last p (x ∷ xs) = elim (find_last p xs) [ none ↦ cond (p x) (some x) none | some y ↦ some y ]

  -- the list without the first that passes the test
  abbrev pub drop_first : (A → Bool) → List A → List A
  drop_first p [] = []
  drop_first p (x ∷ xs) = elim (p x) [ true ↦ xs | false ↦ x ∷ drop_first p xs ]

  -- how many stand before the first that passes the test: the length, where none does
  abbrev pub position : (A → Bool) → List A → ℕ
  position p [] = 0
  position p (x ∷ xs) = elim (p x) [ true ↦ 0 | false ↦ suc (position p xs) ]

  -- the last element, or d of an empty list
  abbrev pub last_or : A → List A → A
  last_or d [] = d
  last_or d (x ∷ xs) = last_or x xs

  -- the element of a list that has just one
  abbrev pub sole : List A → Option A
  sole [] = none
  sole (x ∷ []) = some x
  sole (x ∷ y ∷ ys) = none

  abbrev pub is_empty : List A → Bool
  is_empty [] = true
  is_empty (x ∷ xs) = false

  abbrev pub is_some : Option A → Bool
  is_some none = false
  is_some (some x) = true

-- the sum of what f gives
abbrev pub total : {A : Type 0} → (A → ℕ) → List A → ℕ
total f [] = 0
total f (x ∷ xs) = f x + total f xs
