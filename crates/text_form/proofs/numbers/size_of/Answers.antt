-- `size_of` meets its contract. Assumes nothing.
use Rattle.std.proofs.Common.{◌∙◌, w32}
use Rattle.std.proofs.lemmas.Int.{to_z-of_z}
use Rattle.text_form.specs.Numbers.{size-told}
use Rattle.text_form.proofs.numbers.size_of.Goals as goal

pub returns : goal.returns
returns c =
    c.unwrap_or.ensures
    ∙ size-told c.args.number c.try_from.result c.ranges.number (rw (to_z-of_z w32 c.args.number c.ranges.number) at c.try_from.ensures)
