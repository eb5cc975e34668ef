-- `in_range` meets its contract. Assumes nothing.
use borrow.Author.Tests.{le-leb, lt-leb}
use Rattle.limits.proofs.in_range.Goals as goal

pub returns-then-low-n : goal.returns-then-low-n
returns-then-low-n c = rw (le-leb _ _ c.if-low-n.true)

pub returns-else-low-n : goal.returns-else-low-n
returns-else-low-n c = rw (lt-leb _ _ c.if-low-n.false)
