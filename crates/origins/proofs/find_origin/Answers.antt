-- `find_origin` meets its contract: refused by the check, in the reference, no such read, or in a read. Assumes nothing.
use Rattle.std.proofs.Common.{arith, true, false}
use Rattle.refusals.specs.Numbers.{number-positive}
use Rattle.origins.specs.Parts.{found-passed}
use Rattle.origins.specs.Laws.{refused-early, in-reference, in-none, in-read, starts-before, k-within}
use Rattle.origins.proofs.find_origin.Goals as goal

pub returns-in_err-check_origin : goal.returns-in_err-check_origin
returns-in_err-check_origin c = rw (found-passed _ _ c.from_residual.ensures.1) (refused-early _ _ _ _ _ _ c.in_err-check_origin.ensures (number-positive _))

pub fit-requires : goal.fit-requires
fit-requires c = (k-within _ _ _ _ _ c.in_ok-check_origin.ensures (omega arith), omega arith)

pub returns-in_err-start : goal.returns-in_err-start
returns-in_err-start c =
    rw (found-passed _ _ c.from_residual-in_err-start.ensures.1)
    (in-reference _ _ _ _ _ c.in_ok-check_origin.ensures (omega arith) _ _ _ c.if-origin-lt1.true (c.in_err-start.ensures false))

pub returns-then-origin-lt1 : goal.returns-then-origin-lt1
returns-then-origin-lt1 c = in-reference _ _ _ _ _ c.in_ok-check_origin.ensures (omega arith) _ _ _ c.if-origin-lt1.true (c.in_ok-start.ensures false)

pub returns-then-read-s : goal.returns-then-read-s
returns-then-read-s c = in-none _ _ _ _ _ c.in_ok-check_origin.ensures (omega arith) _ _ c.if-origin-lt1.false c.if-read-s.true

pub overflow_sub-length : goal.overflow_sub-length
overflow_sub-length c = (starts-before _ _ _ _ _ c.in_ok-check_origin.ensures (omega arith) _ _ c.if-read-s.false c.read_start-start.ensures).0

pub fit-requires-2 : goal.fit-requires-2
fit-requires-2 c = (
  k-within _ _ _ _ _ c.in_ok-check_origin.ensures (omega arith),
  (starts-before _ _ _ _ _ c.in_ok-check_origin.ensures (omega arith) _ _ c.if-read-s.false c.read_start-start.ensures).1,
)

pub returns-in_err-at : goal.returns-in_err-at
returns-in_err-at c =
    rw (found-passed _ _ c.from_residual-in_err-at.ensures.1)
    (in-read _ _ _ _ _ c.in_ok-check_origin.ensures (omega arith) _ _ _ _ c.if-origin-lt1.false c.if-read-s.false c.read_start-start.ensures (c.in_err-at.ensures true))

pub returns : goal.returns
returns c = in-read _ _ _ _ _ c.in_ok-check_origin.ensures (omega arith) _ _ _ _ c.if-origin-lt1.false c.if-read-s.false c.read_start-start.ensures (c.in_ok-at.ensures true)
