-- `check_graph` meets its contract: the rules of the sample, then 5 and 7. Assumes nothing.
use Rattle.std.proofs.Common.{sym, ◌∙◌, arith}
use Rattle.refusals.specs.Numbers.{number-positive, passed-up}
use Rattle.limits.specs.Rules.{graph_early, all_hold, broken, holds, first-broken, first-hold, sample-numbered, graph-then-7, earlier, short-7, none-7, told-7, open-7}
use Rattle.limits.proofs.check_graph.Goals as goal

pub returns-in_err-check_sample : goal.returns-in_err-check_sample
unfolding graph_early
returns-in_err-check_sample c =
    let e = passed-up _ _ _ c.from_residual.ensures.1 (earlier _ c.args.long_enough (number-positive _)) in
    let h = graph-then-7 _ _ _ (first-broken _ _ _ c.in_err-check_sample.ensures (number-positive _)) in
    record { rules = told-7 _ _ h _ _ e; early = open-7 _ _ h _ _ e }

pub returns-then-not-graph_maxima_fit : goal.returns-then-not-graph_maxima_fit
unfolding graph_early
returns-then-not-graph_maxima_fit c =
    let e = earlier 5 c.args.long_enough (omega arith) in
    let h = graph-then-7 _ _ _ (broken _ _ _ (sym c.if-not-graph_maxima_fit.ensures) ∙ first-hold _ _ (sample-numbered _) c.in_ok-check_sample.ensures) in
    record { rules = told-7 _ _ h _ _ e; early = open-7 _ _ h _ _ e }

pub returns-then-not-long_enough : goal.returns-then-not-long_enough
unfolding graph_early
returns-then-not-long_enough c =
    let e = short-7 _ c.if-not-long_enough.true in
    let h = graph-then-7 _ _ _ (all_hold ∙ holds _ _ _ (sym c.if-not-graph_maxima_fit.ensures) ∙ first-hold _ _ (sample-numbered _) c.in_ok-check_sample.ensures) in
    record { rules = told-7 _ _ h _ _ e; early = open-7 _ _ h _ _ e }

pub returns : goal.returns
unfolding graph_early
returns c =
    let e = none-7 _ c.if-not-long_enough.false in
    let h = graph-then-7 _ _ _ (all_hold ∙ holds _ _ _ (sym c.if-not-graph_maxima_fit.ensures) ∙ first-hold _ _ (sample-numbered _) c.in_ok-check_sample.ensures) in
    record { rules = told-7 _ _ h _ _ e; early = open-7 _ _ h _ _ e }
