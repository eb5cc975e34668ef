-- `check` meets its contract. Assumes nothing.
use Rattle.std.specs.Prelude.{refl}
use Rattle.std.proofs.Common.{sym, ◌∙◌, arith}
use Rattle.refusals.specs.Numbers.{number-positive, passed-up}
use Rattle.limits.specs.Rules.{earlier}
use Rattle.list_lent.specs.Rules.{handed-checked, handed-within, handed-told, within-limits, short-outputs, short-graph, short-search, none-short}
use Rattle.list_lent.proofs.check.Goals as goal

pub returns-in_err-check_list : goal.returns-in_err-check_list
returns-in_err-check_list c =
    passed-up _ _ _ c.from_residual.ensures.1 (earlier _ _ (number-positive _) ∙ handed-checked c.args.input _ _ c.sample.ensures c.maxima-maxima.ensures _ (c.in_err-check_list.ensures.early refl) _ _)

pub lengths_within-told-requires : goal.lengths_within-told-requires
lengths_within-told-requires c =
    let l = within-limits _ _ (handed-checked c.args.input _ _ c.sample.ensures c.maxima-maxima.ensures _ (c.in_ok-check_list.ensures.early refl)) (omega arith) in
    (l.0, handed-within c.args.input _ _ c.sample.ensures c.maxima-maxima.ensures l.1)

pub returns-then-not-outputs_fit : goal.returns-then-not-outputs_fit
returns-then-not-outputs_fit c =
    short-outputs _ _ (handed-checked c.args.input _ _ c.sample.ensures c.maxima-maxima.ensures _ (c.in_ok-check_list.ensures.early refl)) (omega arith) _ _
    (handed-told c.args.input _ _ c.sample.ensures c.maxima-maxima.ensures _ _ c.lengths_within-told.ensures) (sym c.if-not-outputs_fit.ensures)

pub returns-then-not-graph_fits : goal.returns-then-not-graph_fits
returns-then-not-graph_fits c =
    short-graph _ _ (handed-checked c.args.input _ _ c.sample.ensures c.maxima-maxima.ensures _ (c.in_ok-check_list.ensures.early refl)) (omega arith) _ _
    (handed-told c.args.input _ _ c.sample.ensures c.maxima-maxima.ensures _ _ c.lengths_within-told.ensures) (sym c.if-not-graph_fits.ensures)

pub returns-then-not-search_fits : goal.returns-then-not-search_fits
returns-then-not-search_fits c =
    short-search _ _ (handed-checked c.args.input _ _ c.sample.ensures c.maxima-maxima.ensures _ (c.in_ok-check_list.ensures.early refl)) (omega arith) _ _
    (handed-told c.args.input _ _ c.sample.ensures c.maxima-maxima.ensures _ _ c.lengths_within-told.ensures) (sym c.if-not-search_fits.ensures)

pub returns : goal.returns
returns c =
    none-short _ _ (handed-checked c.args.input _ _ c.sample.ensures c.maxima-maxima.ensures _ (c.in_ok-check_list.ensures.early refl)) (omega arith) _ _
    (handed-told c.args.input _ _ c.sample.ensures c.maxima-maxima.ensures _ _ c.lengths_within-told.ensures)
    (sym c.if-not-outputs_fit.ensures)
    (sym c.if-not-graph_fits.ensures)
    (sym c.if-not-search_fits.ensures)
