-- `check_text` meets its contract. Assumes nothing.
use borrow.Author.Tests.{not-true, not-false}
use Rattle.refusals.specs.Numbers.{number-positive, passed-up}
use Rattle.paths_text.specs.Checks.{uneven, too_many, reads-refused, sample-refused, paths-refused, text-accepted}
use Rattle.paths_text.proofs.check.check_text.Goals as goal
use Rattle.paths_text.proofs.check.check_text.Goals.{then-not-tally-via-then-not-tally, then-not-tally-via-else-not-tally+then-tally-gt512}

pub returns-then-not-tally : goal.returns-then-not-tally
returns-then-not-tally c =
    λ t d. reads-refused t d _ c.refuse_reads.ensures
    (elim c.then-not-tally.branch [
      | then-not-tally-via-then-not-tally w ↦ uneven t d (not-true _ w.if-not-tally.true)
      | then-not-tally-via-else-not-tally+then-tally-gt512 w ↦ too_many t d w.if-tally-gt512.true
    ])

pub returns-in_err-check_sample : goal.returns-in_err-check_sample
returns-in_err-check_sample c =
    λ t d. passed-up _ _ _ c.from_residual.ensures.1
    (sample-refused t d (not-false _ c.if-not-tally.false) c.if-tally-gt512.false _ c.in_err-check_sample.ensures (number-positive _))

pub returns-then-settings-gt8 : goal.returns-then-settings-gt8
returns-then-settings-gt8 c =
    λ t d. paths-refused t d (not-false _ c.if-not-tally.false) c.if-tally-gt512.false c.in_ok-check_sample.ensures c.if-settings-gt8.true

pub returns : goal.returns
returns c =
    λ t d. text-accepted t d (not-false _ c.if-not-tally.false) c.if-tally-gt512.false c.in_ok-check_sample.ensures c.if-settings-gt8.false
