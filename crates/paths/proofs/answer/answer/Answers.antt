-- `answer` meets its contract. Assumes nothing.
use Rattle.whole_input.specs.Readings.{input_of}
use Rattle.paths.specs.Printing.{no-column}
use Rattle.paths.proofs.answer.answer.Goals as goal

pub returns-in-Ok : goal.returns-in-Ok
returns-in-Ok c = rw c.in-Ok.is c.answer_text.ensures

pub returns-in-Err : goal.returns-in-Err
returns-in-Err c = rw c.in-Err.is (no-column (input_of c.args.read c.args.text.now) _ _ c.in-Err.refusal c.refuse.ensures (rw c.in-Err.is at c.requires.2))
