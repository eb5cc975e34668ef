-- `check_sample` meets its contract: the rules of the reference, then the reads'. Assumes nothing.
use Rattle.std.proofs.Common.{sym, ◌∙◌}
use Rattle.refusals.specs.Numbers.{number-positive, passed-up}
use Rattle.limits.specs.Rules.{all_hold, broken, holds, first-broken, first-hold, reference-numbered, sample-parts}
use Rattle.limits.proofs.check_sample.Goals as goal

pub returns-in_err-check_reference : goal.returns-in_err-check_reference
returns-in_err-check_reference c = passed-up _ _ _ c.from_residual.ensures.1 (first-broken _ _ _ c.in_err-check_reference.ensures (number-positive _) ∙ sample-parts _)

pub returns-then-not-reads_fit : goal.returns-then-not-reads_fit
returns-then-not-reads_fit c =
    broken _ _ _ (sym c.if-not-reads_fit.ensures)
    ∙ first-hold _ _ (reference-numbered _ _) c.in_ok-check_reference.ensures
    ∙ sample-parts _

pub returns : goal.returns
returns c =
    all_hold
    ∙ holds _ _ _ (sym c.if-not-reads_fit.ensures)
    ∙ first-hold _ _ (reference-numbered _ _) c.in_ok-check_reference.ensures
    ∙ sample-parts _
