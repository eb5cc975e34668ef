-- The table "What the calls return instead"; and a value, or a refusal with its number there.
use Rattle.std.specs.Prelude.{ℕ, Bool, true, false, ◌&&◌, List, [], ◌∷◌, eqb}
use Rattle.laws.specs.Lists.{any}

-- ---- "What the calls return instead"

-- "Workspace after"
pub data After : Type 0 where
  unchanged : After
  zero : After
  none_lent : After

pub record Returned : Type 0 where
  pub number : ℕ
  pub after : After

abbrev row : ℕ → After → Returned
row n a = record { number = n; after = a }

-- 14 has no row: it is the program's own, and no call returns it.
unfoldable pub returned : List Returned
returned =
    row 1 unchanged  -- k outside limits
    ∷ row 2 unchanged  -- reference length
    ∷ row 3 unchanged  -- reference byte not A C G T N
    ∷ row 4 unchanged  -- read ends fall, last end (0 without reads) is not the base count, qualities differ in length, too many reads or bases
    ∷ row 5 unchanged  -- paths asked or a maximum outside limits
    ∷ row 6 unchanged  -- column
    ∷ row 7 unchanged  -- a lent slice shorter than told
    ∷ row 8 zero  -- vertex or edge above its maximum
    ∷ row 9 zero  -- tree node above its maximum
    ∷ row 10 zero  -- a count or total has no place in the column
    ∷ row 11 zero  -- a path's edges or active trees above their maximum
    ∷ row 12 zero  -- a push beyond the maximum
    ∷ row 13 none_lent  -- origin naming no sequence, or whose k+1 bytes do not fit it
    ∷ []

abbrev is_unchanged : After → Bool
is_unchanged unchanged = true
is_unchanged zero = false
is_unchanged none_lent = false

-- The table says "unchanged" of this number. It does not of a number without a row, 0 among them: "The workspace is zero after acceptance too".
unfoldable pub keeps_workspace : ℕ → Bool
keeps_workspace n = any (λ r. is_unchanged r.after && eqb n r.number) returned

-- ---- a value or a refusal

pub data Result (A : Type 0) : Type 0 where
  ok : A → Result A
  refused : ℕ → Result A

module _ {A B : Type 0} where
  -- go on with the value, or pass the refusal up
  abbrev pub and_then : Result A → (A → Result B) → Result B
  and_then (ok a) f = f a
  and_then (refused n) f = refused n

  -- each element in turn; the first refusal ends it
  abbrev pub each : (A → Result B) → List A → Result (List B)
  each f [] = ok []
  each f (x ∷ xs) = elim (f x) [ refused n ↦ refused n | ok y ↦ elim (each f xs) [ refused n ↦ refused n | ok ys ↦ ok (y ∷ ys) ] ]

-- ---- rules in order: "1 to 7 in this order"

pub record Rule : Type 0 where
  pub number : ℕ
  pub holds : Bool

-- the number of the first rule that does not hold, 0 where all hold
unfoldable pub first_broken : List Rule → ℕ
first_broken [] = 0
first_broken (r ∷ rs) = elim r.holds [ true ↦ first_broken rs | false ↦ r.number ]

-- A key: to unfold it is to unfold every definition of this file. The worked cases compute with it; a proof names only what it needs.
unfoldable pub open_refusal : Unit {0}
unfolding returned keeps_workspace first_broken
open_refusal = tt
