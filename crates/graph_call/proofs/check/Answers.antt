-- `check` meets its contract. Assumes nothing.
use Rattle.std.specs.Prelude.{refl}
use Rattle.std.proofs.Common.{sym, rules, ◌∙◌}
use Rattle.refusals.specs.Numbers.{number-positive, passed-up}
use Rattle.limits.specs.Rules.{earlier}
use Rattle.graph_call.specs.Rules.{within-limits, late-refused, late-accepted}
use Rattle.graph_call.proofs.check.Goals as goal

pub returns-in_err-check_graph : goal.returns-in_err-check_graph
returns-in_err-check_graph c =
    record {
      refusal = passed-up _ _ _ c.from_residual.ensures.1 (earlier _ _ (number-positive _) ∙ c.in_err-check_graph.ensures.early refl _ _);
      told = search rules;
    }

pub told_for-told-requires : goal.told_for-told-requires
told_for-told-requires c = within-limits _ _ (c.in_ok-check_graph.ensures.early refl)

pub returns-then-not-lent_fits : goal.returns-then-not-lent_fits
returns-then-not-lent_fits c =
    record {
      refusal = late-refused _ _ (c.in_ok-check_graph.ensures.early refl) _ c.told_for-told.ensures _ (sym c.if-not-lent_fits.ensures);
      told = tt;
    }

pub returns : goal.returns
returns c =
    record {
      refusal = late-accepted _ _ (c.in_ok-check_graph.ensures.early refl) _ c.told_for-told.ensures _ (sym c.if-not-lent_fits.ensures);
      told = c.told_for-told.ensures;
    }
