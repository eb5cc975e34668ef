-- `read_field` meets its contract. Assumes nothing.
use Rattle.std.proofs.Common.{◌≡◌, ◌∙◌, to_z, of_z, w32, rules}
use Rattle.text_form.specs.Parts.{part_rest, found-or}
use Rattle.text_form.specs.Headers.{past_end, field-bad, field-good}
use Rattle.text_form.proofs.header.read_field.Goals as goal

pub returns-then-at-line : goal.returns-then-at-line
returns-then-at-line c = past_end c.args.line.now c.args.at c.if-at-line.true c.requires

pub returns-in_err-number : goal.returns-in_err-number
returns-in_err-number c =
    let r = part_rest c.args.at c.args.line.now in
    let e = rw r at (c.unwrap_or-size.ensures ∙ found-or 32 _ _ c.find_byte.ensures) in
    rw c.from_residual.ensures (field-bad c.args.line.now c.args.at _ c.if-at-line.false e (rw r at c.in_err-number.ensures))

pub returns : goal.returns
returns c =
    let r = part_rest c.args.at c.args.line.now in
    let e = rw r at (c.unwrap_or-size.ensures ∙ found-or 32 _ _ c.find_byte.ensures) in
    let f : to_z w32 (of_z w32 c.in_ok-number.number) ≡ c.in_ok-number.number = search rules in
    rw f (field-good c.args.line.now c.args.at _ c.if-at-line.false e _ (rw r at c.in_ok-number.ensures))
