-- `read_magnitude` meets its contract. Assumes nothing.
use Rattle.std.proofs.Common.{◌∙◌, sym, ap, eqb-true, arith}
use Rattle.std.proofs.lemmas.Bool.{eqb-false}
use Rattle.text_form.specs.Numbers.{bounded, magnitude-none, magnitude-some}
use Rattle.text_form.proofs.numbers.read_magnitude.Goals as goal

pub returns-then-is_empty : goal.returns-then-is_empty
returns-then-is_empty c = magnitude-none c.args.digits.now (eqb-true _ _ (sym c.if-is_empty.ensures))

pub returns : goal.returns
returns c =
    let h = eqb-false _ _ (sym c.if-is_empty.ensures) in
    c.read_digits.ensures ∙ ap bounded (magnitude-some c.args.digits.now (omega arith))
