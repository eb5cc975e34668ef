-- `more_digits` meets its contract. Assumes nothing.
use Rattle.std.proofs.Common.{◌∙◌, sym, arith}
use Rattle.text_form.specs.Numbers.{digit-out, digit-beyond, digit-taken}
use Rattle.text_form.proofs.numbers.more_digits.Goals as goal

pub returns-then-not-is_ascii_digit : goal.returns-then-not-is_ascii_digit
returns-then-not-is_ascii_digit c =
    digit-out c.args.value c.args.byte (sym c.is_ascii_digit.ensures.value ∙ c.if-not-is_ascii_digit.true)

pub returns-then-more-gt2147483648 : goal.returns-then-more-gt2147483648
returns-then-more-gt2147483648 c =
    let d = c.if-not-is_ascii_digit.ensures.cases in
    digit-beyond c.args.value c.args.byte d.0 d.1 (omega arith)

pub returns : goal.returns
returns c =
    let d = c.if-not-is_ascii_digit.ensures.cases in
    rw (c.from.ensures, c.from-2.ensures) (digit-taken c.args.value c.args.byte d.0 d.1 (omega arith))
