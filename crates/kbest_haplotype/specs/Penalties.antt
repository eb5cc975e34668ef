-- The answer of `log_penalty` as the definition has it, and a law for each of its returns.
use Rattle.std.specs.Prelude.{◌≡◌, ℕ, zero, suc, max, ◌<◌, ◌≤◌, List, length, get_or, Float}
use Rattle.std.specs.Prelude as Prelude
use Rattle.std.specs.Prelude.{Ok, Err}
use Rattle.std.proofs.Common.{ap, arith, lt-ltb, le-ltb}
use Rattle.std.proofs.Math.Option.{Option, none, some}
use Rattle.std.specs.Float.{nan, binary64}
use Rattle.std.specs.Float.Ieee.{sub, of_bits}
use Rattle.definition.specs.Refusal.{Result, ok, refused}
use Rattle.definition.specs.Score.{at_place, column_penalty}
use Rattle.refusals.specs.declared.Refusal.{Refusal}
use Rattle.refusals.specs.Numbers.{number}
use Rattle.kbest_haplotype.specs.Columns.{bits-zero}

-- the score or the number that an answer of `log_penalty` holds
abbrev pub penalty_of : Prelude.Result Float Refusal → Result Float
penalty_of (Ok score) = ok score
penalty_of (Err e) = refused (number e)

-- the definition's penalty: "a count or total has no place in the column" is 10
abbrev pub priced : Option Float → Result Float
priced none = refused 10
priced (some score) = ok score

pub no-total : (column : List Float) (count total : ℕ) → total < 1 → ok (of_bits binary64 0) ≡ priced (column_penalty column count total)
unfolding column_penalty
no-total column count zero h = ap ok bits-zero
no-total column count (suc t) h = absurd (omega arith)

-- `support` is the count raised to at least 1
pub no-count-place : (column : List Float) (count total support : ℕ) → support ≡ max count 1 → 1 ≤ total → length column ≤ support
    → refused 10 ≡ priced (column_penalty column count total)
unfolding column_penalty
no-count-place column count zero support e h f = absurd (omega arith)
no-count-place column count (suc t) support e h f = rw (← e, le-ltb support (length column) f, column_penalty)

pub no-total-place : (column : List Float) (count total support : ℕ) → support ≡ max count 1 → 1 ≤ total → support < length column → length column ≤ total
    → refused 10 ≡ priced (column_penalty column count total)
unfolding column_penalty
no-total-place column count zero support e h g f = absurd (omega arith)
no-total-place column count (suc t) support e h g f =
    rw (← e, lt-ltb support (length column) g, le-ltb (suc t) (length column) f, column_penalty)

pub both-placed : (column : List Float) (count total support : ℕ) → support ≡ max count 1 → 1 ≤ total → support < length column → total < length column
    → ok (sub binary64 (get_or column support nan) (get_or column total nan)) ≡ priced (column_penalty column count total)
unfolding column_penalty at_place
both-placed column count zero support e h g f = absurd (omega arith)
both-placed column count (suc t) support e h g f =
    let g' : max count 1 < length column = omega arith in
    rw (e, lt-ltb (max count 1) (length column) g', lt-ltb (suc t) (length column) f, column_penalty)
