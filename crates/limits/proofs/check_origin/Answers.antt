-- `check_origin` meets its contract: the rules of the reference, then the reads'. Assumes nothing.
use Rattle.std.proofs.Common.{sym, ◌∙◌}
use Rattle.refusals.specs.Numbers.{number-positive, passed-up}
use Rattle.limits.specs.Rules.{all_hold, broken, holds, first-broken, first-hold, reference-numbered, origin-parts}
use Rattle.limits.proofs.check_origin.Goals as goal

pub returns-in_err-check_reference : goal.returns-in_err-check_reference
returns-in_err-check_reference c = passed-up _ _ _ c.from_residual.ensures.1 (first-broken _ _ _ c.in_err-check_reference.ensures (number-positive _) ∙ origin-parts _ _ _ _)

pub returns-then-not-ends_fit : goal.returns-then-not-ends_fit
returns-then-not-ends_fit c =
    broken _ _ _ (sym c.if-not-ends_fit.ensures)
    ∙ first-hold _ _ (reference-numbered _ _) c.in_ok-check_reference.ensures
    ∙ origin-parts _ _ _ _

pub returns : goal.returns
returns c =
    all_hold
    ∙ holds _ _ _ (sym c.if-not-ends_fit.ensures)
    ∙ first-hold _ _ (reference-numbered _ _) c.in_ok-check_reference.ensures
    ∙ origin-parts _ _ _ _
