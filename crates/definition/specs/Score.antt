-- What the search asks of a score: the first one, a sum, an order, and the penalty of an extension.
-- `penalty n t` is the logarithm of the count n less that of the total t, each raised to at least 1; `none` says that one has no place in the column.
use Rattle.std.specs.Prelude.{ℕ, zero, suc, max, Bool, true, false, ◌&&◌, List, pos, ltb, length, get_or, Float}
use Rattle.std.proofs.Math.Option.{Option, none, some}
use Rattle.std.specs.Float.{nan, fin, binary64}
use Rattle.std.specs.Float.Ieee.{add, sub, lt}

pub record Scoring (S : Type 0) : Type 0 where
  pub start : S
  pub plus : S → S → S
  pub less : S → S → Bool
  pub penalty : ℕ → ℕ → Option S

-- ---- binary64 scores over the lent logarithm column, whose place n holds log10 of n

unfoldable pub at_place : List Float → ℕ → Float
at_place c n = get_or c n nan

-- "logarithm of the count less logarithm of the total, each raised to at least 1; 0.0 where the total is 0"
unfoldable pub column_penalty : List Float → ℕ → ℕ → Option Float
column_penalty c n zero = some (fin false 0 (pos 0))
column_penalty c n (suc t) =
    elim (ltb (max n 1) (length c) && ltb (suc t) (length c)) [ true ↦ some (sub binary64 (at_place c (max n 1)) (at_place c (suc t))) | false ↦ none ]

unfoldable pub column_scoring : List Float → Scoring Float
column_scoring c = record { start = fin false 0 (pos 0); plus = add binary64; less = lt; penalty = column_penalty c }

-- A key: to unfold it is to unfold every definition of this file. The worked cases compute with it; a proof names only what it needs.
unfoldable pub open_score : Unit {0}
unfolding at_place column_penalty column_scoring
open_score = tt
