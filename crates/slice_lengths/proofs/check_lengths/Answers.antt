-- `check_lengths` meets its contract: the rules in their order. Assumes nothing.
use Rattle.std.proofs.Common.{sym, ◌∙◌}
use Rattle.definition.specs.Limits.{lengths_rules}
use Rattle.refusals.specs.Numbers.{number-positive, passed-up}
use Rattle.bio_ids.specs.Sizes.{k_rules}
use Rattle.limits.specs.Rules.{all_hold, broken, holds, first-broken, k-holds}
use Rattle.slice_lengths.proofs.check_lengths.Goals as goal

pub returns-in_err-try_from : goal.returns-in_err-try_from
unfolding lengths_rules
returns-in_err-try_from c = passed-up _ _ _ c.from_residual.ensures.1 (first-broken (k_rules _) _ _ c.in_err-try_from.ensures.0 (number-positive _))

pub returns-then-not-settings_fit : goal.returns-then-not-settings_fit
unfolding lengths_rules
returns-then-not-settings_fit c = broken _ _ _ (sym c.if-not-settings_fit.ensures) ∙ k-holds _ _ c.in_ok-try_from.ensures.0

pub returns : goal.returns
unfolding lengths_rules
returns c = all_hold ∙ holds _ _ _ (sym c.if-not-settings_fit.ensures) ∙ k-holds _ _ c.in_ok-try_from.ensures.0
