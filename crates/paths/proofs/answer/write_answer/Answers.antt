-- `write_answer` meets its contract. Assumes nothing.
use native.Mathlib.Omega.{arith}
use Rattle.paths.specs.Printing.{refused-room}
use Rattle.paths.specs.Answering.{lines-refused, lines-listed}
use Rattle.paths.proofs.answer.write_answer.Goals as goal

pub write_refused-requires : goal.write_refused-requires
write_refused-requires c = refused-room _ _ (omega arith) c.requires.0

pub shape_of-text-then-a-gt0 : goal.shape_of-text-then-a-gt0
shape_of-text-then-a-gt0 c = c.write_refused.auto.out

pub returns-then-a-gt0 : goal.returns-then-a-gt0
returns-then-a-gt0 c = lines-refused _ _ _ _ _ c.args.a (omega arith) c.if-a-gt0.true c.write_refused.ensures

pub write_list-requires : goal.write_list-requires
write_list-requires c = (c.requires.1 c.if-a-gt0.false, c.requires.0)

pub shape_of-text : goal.shape_of-text
shape_of-text c = c.write_list.auto.out

pub returns : goal.returns
returns c = lines-listed _ _ _ _ _ c.args.a (c.requires.1 c.if-a-gt0.false) (λ i. (omega (arith, (c.type_inv.row_closings i).fits))) (omega arith) c.if-a-gt0.false c.write_list.ensures
