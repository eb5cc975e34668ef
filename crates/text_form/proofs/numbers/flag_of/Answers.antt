-- `flag_of` meets its contract. Assumes nothing.
use Rattle.std.proofs.Common.{rules}
use Rattle.definition.specs.Text.{flag_of}
use Rattle.text_form.proofs.numbers.flag_of.Goals as goal

pub returns-in-0 : goal.returns-in-0
unfolding flag_of
returns-in-0 c = search rules

pub returns-in-1 : goal.returns-in-1
unfolding flag_of
returns-in-1 c = search rules

pub returns-in_default : goal.returns-in_default
unfolding flag_of
returns-in_default c = search rules
