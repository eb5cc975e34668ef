-- `reference_fits` meets its contract. Assumes nothing.
use borrow.Author.Tests.{le-leb, lt-leb}
use Rattle.definition.specs.Limits.{reference_fits}
use Rattle.limits.proofs.reference_fits.Goals as goal

pub returns-then-k-reference : goal.returns-then-k-reference
unfolding reference_fits
returns-then-k-reference c = rw (le-leb _ _ c.if-k-reference.true)

pub returns-else-k-reference : goal.returns-else-k-reference
unfolding reference_fits
returns-else-k-reference c = rw (lt-leb _ _ c.if-k-reference.false)
