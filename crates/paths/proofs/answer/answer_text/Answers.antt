-- `answer_text` meets its contract. Assumes nothing.
use Rattle.std.proofs.Common.{rules}
use Rattle.whole_input.specs.Readings.{input_of}
use Rattle.paths.specs.Printing.{check-refused}
use Rattle.paths.specs.Answering.{fine-accepted, answer-shown}
use Rattle.paths.proofs.answer.answer_text.Goals as goal

pub list_lines-requires : goal.list_lines-requires
list_lines-requires c = (search rules, fine-accepted (input_of c.args.read c.args.text.now) c.check_input.new.text c.check_input.new.ends _ c.in-Ok.ensures)

pub returns-in-Ok : goal.returns-in-Ok
returns-in-Ok c = answer-shown (input_of c.args.read c.args.text.now) c.check_input.new.text c.check_input.new.ends _ c.in-Ok.ensures c.args.column.now _ _ c.list_lines.ensures

pub returns-in-Err : goal.returns-in-Err
returns-in-Err c = check-refused (input_of c.args.read c.args.text.now) _ _ _ c.refuse.ensures c.check_input.new.text c.check_input.new.ends c.in-Err.ensures c.args.column.now
