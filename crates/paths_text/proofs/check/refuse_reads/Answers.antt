-- `refuse_reads` meets its contract. Assumes nothing.
use Rattle.refusals.specs.Numbers.{number-positive, passed-up}
use Rattle.paths_text.specs.Checks.{reference-fails, fourth-fails}
use Rattle.paths_text.proofs.check.refuse_reads.Goals as goal

pub returns-in_err-check_reference : goal.returns-in_err-check_reference
returns-in_err-check_reference c = λ rest. passed-up _ _ _ c.from_residual.ensures.1 (reference-fails _ _ rest _ c.in_err-check_reference.ensures (number-positive _))

pub returns : goal.returns
returns c = λ rest. fourth-fails _ _ rest c.in_ok-check_reference.ensures
