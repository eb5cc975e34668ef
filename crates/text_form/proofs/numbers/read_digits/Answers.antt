-- `read_digits` meets its contract. The invariant: the digits from here on, behind those read, are worth what all are. Assumes nothing.
use Rattle.std.proofs.Common.{arith, refl}
use Rattle.text_form.specs.Numbers.{read-stop, read_next, read-end}
use Rattle.text_form.proofs.numbers.read_digits.Goals as goal

pub loop-byte-init : goal.loop-byte-init
loop-byte-init c = record { whole = refl; small = omega arith }

pub more_digits-requires : goal.more_digits-requires
more_digits-requires c = c.loop-byte.invariant.small

pub returns-in_err-value : goal.returns-in_err-value
returns-in_err-value c = rw c.from_residual.ensures (read-stop c.loop-byte.invariant c.loop-byte-test.true c.in_err-value.ensures)

pub loop-byte-preserved : goal.loop-byte-preserved
loop-byte-preserved c = read_next c.loop-byte.invariant c.loop-byte-test.true _ c.in_ok-value.ensures

pub returns : goal.returns
returns c = read-end c.loop-byte.invariant c.loop-byte-test.false
