-- `write_hexadecimal` meets its contract; the digits left fall. Assumes nothing.
use Rattle.std.proofs.Common.{arith, ◌∙◌}
use Rattle.paths_output.specs.Digits.{hex-none, hex-next, hex-wrote}
use Rattle.paths_output.proofs.writing.+write_hexadecimal.Goals as goal

pub returns-then-digits-eq0 : goal.returns-then-digits-eq0
returns-then-digits-eq0 t c =
    hex-none c.args.digits c.args.n c.args.out.now c.args.at c.if-digits-eq0.true c.requires

pub overflow_sub-digits : goal.overflow_sub-digits
overflow_sub-digits t c = omega (arith, c.if-digits-eq0.false)

pub write_hexadecimal-next-requires : goal.write_hexadecimal-next-requires
write_hexadecimal-next-requires t c =
    omega (arith, c.requires, c.if-digits-eq0.false)

pub write_byte-requires : goal.write_byte-requires
write_byte-requires t c =
    hex-next c.args.digits c.args.n c.args.at c.if-digits-eq0.false c.requires
    c.write_hexadecimal-next.ensures.next c.write_hexadecimal-next.auto.out

pub shape_of-out : goal.shape_of-out
shape_of-out t c =
    c.write_byte.auto.out ∙ c.write_hexadecimal-next.auto.out

pub returns : goal.returns
returns t c =
    hex-wrote c.args.digits c.args.n c.if-digits-eq0.false c.requires c.hex_digit.ensures
    c.write_hexadecimal-next.ensures c.write_byte.ensures
