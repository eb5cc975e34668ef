-- `write_decimal` meets its contract; the number itself falls. Assumes nothing.
use Rattle.std.proofs.Common.{arith, ◌∙◌}
use Rattle.paths_output.specs.Digits.{small-room, small-wrote, large-room, large-next, large-wrote}
use Rattle.paths_output.proofs.writing.+write_decimal.Goals as goal

pub overflow_cast-n : goal.overflow_cast-n
overflow_cast-n t c = omega (arith, c.if-n-le9.true)

pub overflow_add-n : goal.overflow_add-n
overflow_add-n t c = omega (arith, c.if-n-le9.true)

pub write_byte-requires : goal.write_byte-requires
write_byte-requires t c =
    small-room c.args.n c.args.at c.args.out.now c.if-n-le9.true c.requires

pub shape_of-out-then-n-le9 : goal.shape_of-out-then-n-le9
shape_of-out-then-n-le9 t c = c.write_byte.auto.out

pub returns-then-n-le9 : goal.returns-then-n-le9
returns-then-n-le9 t c =
    small-wrote c.args.n c.if-n-le9.true
    c.write_byte.ensures

pub write_decimal-next-requires : goal.write_decimal-next-requires
write_decimal-next-requires t c =
    (omega (arith, c.decreases, c.if-n-le9.false), large-room c.args.n c.args.at c.args.out.now c.if-n-le9.false c.requires)

pub write_byte-requires-2 : goal.write_byte-requires-2
write_byte-requires-2 t c =
    large-next c.args.n c.args.at c.if-n-le9.false c.requires
    c.write_decimal-next.ensures.next c.write_decimal-next.auto.out

pub shape_of-out : goal.shape_of-out
shape_of-out t c = c.write_byte-2.auto.out ∙ c.write_decimal-next.auto.out

pub returns : goal.returns
returns t c =
    large-wrote c.args.n c.if-n-le9.false c.requires c.write_decimal-next.ensures
    c.write_byte-2.ensures
