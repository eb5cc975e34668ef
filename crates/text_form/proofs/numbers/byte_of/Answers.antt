-- `byte_of` meets its contract. Assumes nothing.
use Rattle.std.proofs.Common.{w32}
use Rattle.std.proofs.lemmas.Int.{to_z-of_z}
use Rattle.text_form.specs.Numbers.{byte-told}
use Rattle.text_form.proofs.numbers.byte_of.Goals as goal

pub returns : goal.returns
returns c = rw c.ok.ensures.value (byte-told c.args.number c.try_from.result (rw (to_z-of_z w32 c.args.number c.ranges.number) at c.try_from.ensures))
