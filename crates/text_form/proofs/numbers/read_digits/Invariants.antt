use Rattle.text_form.specs.Numbers.{Reading}
use Rattle.text_form.proofs.numbers.read_digits.Given as goal

abbrev pub invariant-loop-byte : goal.invariant-loop-byte
invariant-loop-byte l = Reading l.digits l.value l.byte-index
