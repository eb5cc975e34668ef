-- `is_base` meets its contract. Assumes nothing.
use Rattle.samples.specs.Letters.{is-letter, no-letter}
use Rattle.samples.proofs.is_base.Goals as goal

pub returns-in-65 : goal.returns-in-65
returns-in-65 c = is-letter c.args.letter c.in-65.is

pub returns-in_default : goal.returns-in_default
returns-in_default c = no-letter c.args.letter c.in_default.in_default-own.rest.1
