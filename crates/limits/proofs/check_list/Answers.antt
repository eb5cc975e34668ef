-- `check_list` meets its contract: the rules of the sample, then 5, 6 and 7. Assumes nothing.
use Rattle.std.proofs.Common.{sym, ◌∙◌, arith}
use Rattle.refusals.specs.Numbers.{number-positive, passed-up}
use Rattle.limits.specs.Rules.{list_early, all_hold, broken, holds, first-broken, first-hold, sample-numbered, list-then-7, earlier, short-7, none-7, told-7, open-7}
use Rattle.limits.proofs.check_list.Goals as goal

pub returns-in_err-check_sample : goal.returns-in_err-check_sample
unfolding list_early
returns-in_err-check_sample c =
    let e = passed-up _ _ _ c.from_residual.ensures.1 (earlier _ c.args.long_enough (number-positive _)) in
    let h = first-broken _ _ _ c.in_err-check_sample.ensures (number-positive _) in
    record {
      rules = λ threshold recovery. told-7 _ _ (list-then-7 _ _ h) _ _ e;
      early = λ long threshold recovery. open-7 _ _ (list-then-7 _ _ h) _ _ e long;
    }

pub returns-then-not-settings_fit : goal.returns-then-not-settings_fit
unfolding list_early
returns-then-not-settings_fit c =
    let e = earlier 5 c.args.long_enough (omega arith) in
    let h = broken _ _ _ (sym c.if-not-settings_fit.ensures) ∙ first-hold _ _ (sample-numbered _) c.in_ok-check_sample.ensures in
    record {
      rules = λ threshold recovery. told-7 _ _ (list-then-7 _ _ h) _ _ e;
      early = λ long threshold recovery. open-7 _ _ (list-then-7 _ _ h) _ _ e long;
    }

pub returns-then-not-column_fits : goal.returns-then-not-column_fits
unfolding list_early
returns-then-not-column_fits c =
    let e = earlier 6 c.args.long_enough (omega arith) in
    let h = broken _ _ _ (sym c.if-not-column_fits.ensures) ∙ holds _ _ _ (sym c.if-not-settings_fit.ensures) ∙ first-hold _ _ (sample-numbered _) c.in_ok-check_sample.ensures in
    record {
      rules = λ threshold recovery. told-7 _ _ (list-then-7 _ _ h) _ _ e;
      early = λ long threshold recovery. open-7 _ _ (list-then-7 _ _ h) _ _ e long;
    }

pub returns-then-not-long_enough : goal.returns-then-not-long_enough
unfolding list_early
returns-then-not-long_enough c =
    let e = short-7 _ c.if-not-long_enough.true in
    let h = all_hold ∙ holds _ _ _ (sym c.if-not-column_fits.ensures) ∙ holds _ _ _ (sym c.if-not-settings_fit.ensures) ∙ first-hold _ _ (sample-numbered _) c.in_ok-check_sample.ensures in
    record {
      rules = λ threshold recovery. told-7 _ _ (list-then-7 _ _ h) _ _ e;
      early = λ long threshold recovery. open-7 _ _ (list-then-7 _ _ h) _ _ e long;
    }

pub returns : goal.returns
unfolding list_early
returns c =
    let e = none-7 _ c.if-not-long_enough.false in
    let h = all_hold ∙ holds _ _ _ (sym c.if-not-column_fits.ensures) ∙ holds _ _ _ (sym c.if-not-settings_fit.ensures) ∙ first-hold _ _ (sample-numbered _) c.in_ok-check_sample.ensures in
    record {
      rules = λ threshold recovery. told-7 _ _ (list-then-7 _ _ h) _ _ e;
      early = λ long threshold recovery. open-7 _ _ (list-then-7 _ _ h) _ _ e long;
    }
