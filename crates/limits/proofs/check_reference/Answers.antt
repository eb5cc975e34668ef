-- `check_reference` meets its contract: the rules in their order. Assumes nothing.
use Rattle.std.proofs.Common.{sym, ◌∙◌}
use Rattle.bio_ids.specs.Sizes.{k_rules}
use Rattle.refusals.specs.Numbers.{number-positive, passed-up}
use Rattle.limits.specs.Rules.{reference_rules, all_hold, broken, holds, first-broken, k-holds}
use Rattle.limits.proofs.check_reference.Goals as goal

pub returns-in_err-try_from : goal.returns-in_err-try_from
unfolding reference_rules
returns-in_err-try_from c = passed-up _ _ _ c.from_residual.ensures.1 (first-broken (k_rules _) _ _ c.in_err-try_from.ensures.0 (number-positive _))

pub returns-then-not-reference_fits : goal.returns-then-not-reference_fits
unfolding reference_rules
returns-then-not-reference_fits c = broken _ _ _ (sym c.if-not-reference_fits.ensures) ∙ k-holds _ _ c.in_ok-try_from.ensures.0

pub returns-then-not-reference_bases : goal.returns-then-not-reference_bases
unfolding reference_rules
returns-then-not-reference_bases c =
    broken _ _ _ (sym c.if-not-reference_bases.ensures)
    ∙ holds _ _ _ (sym c.if-not-reference_fits.ensures)
    ∙ k-holds _ _ c.in_ok-try_from.ensures.0

pub returns : goal.returns
unfolding reference_rules
returns c =
    all_hold
    ∙ holds _ _ _ (sym c.if-not-reference_bases.ensures)
    ∙ holds _ _ _ (sym c.if-not-reference_fits.ensures)
    ∙ k-holds _ _ c.in_ok-try_from.ensures.0
