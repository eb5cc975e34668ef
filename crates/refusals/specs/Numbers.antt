-- The numbers of document 01's table "What the calls return instead".
use Rattle.std.specs.Prelude.{◌≡◌, ℕ, ◌<◌, Result, Ok, Err}
use Rattle.std.proofs.Common.{arith}
use Rattle.std.specs.Result.{IsErrAnd}
use Rattle.std.proofs.lemmas.Result.{err_from_is_err_and}
use Rattle.refusals.specs.declared.Refusal.{Refusal}
use Rattle.refusals.specs.declared.Refusal.TheVariants.{K, ReferenceLength, ReferenceByte, Reads, Maximum, Column, ShortSlice, GraphSize, TreeNodes, NoPlace, PathSize, Pushes, Origin, Malformed}

abbrev pub number : Refusal → ℕ
number K = 1
number ReferenceLength = 2
number ReferenceByte = 3
number Reads = 4
number Maximum = 5
number Column = 6
number ShortSlice = 7
number GraphSize = 8
number TreeNodes = 9
number NoPlace = 10
number PathSize = 11
number Pushes = 12
number Origin = 13
number Malformed = 14

-- the number of an answer: 0 where nothing is refused
abbrev pub refusal_of : {A : Type 0} → Result A Refusal → ℕ
refusal_of (Ok a) = 0
refusal_of (Err e) = number e

-- no refusal has the number 0, which says that nothing is refused
pub number-positive : (e : Refusal) → 0 < number e
number-positive K = omega arith
number-positive ReferenceLength = omega arith
number-positive ReferenceByte = omega arith
number-positive Reads = omega arith
number-positive Maximum = omega arith
number-positive Column = omega arith
number-positive ShortSlice = omega arith
number-positive GraphSize = omega arith
number-positive TreeNodes = omega arith
number-positive NoPlace = omega arith
number-positive PathSize = omega arith
number-positive Pushes = omega arith
number-positive Origin = omega arith
number-positive Malformed = omega arith

-- what a `?` returns where it passes a refusal up
pub passed-up : {A : Type 0} (r : Result A Refusal) (e : Refusal) (n : ℕ) → IsErrAnd r (λ d. d ≡ e) → number e ≡ n → refusal_of r ≡ n
passed-up r e n h k = let p = err_from_is_err_and r h in rw (p.1, p.2) k
