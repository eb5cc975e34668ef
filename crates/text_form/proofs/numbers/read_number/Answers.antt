-- `read_number` meets its contract, by its first byte. Assumes nothing.
use Rattle.std.proofs.Common.{◌≡◌, to_z, of_z, w32, rules}
use Rattle.text_form.specs.Numbers.{bounded-some, negative-bad, negative-good, positive-bad, positive-good}
use Rattle.text_form.proofs.numbers.read_number.Goals as goal

pub returns-in_err-size : goal.returns-in_err-size
returns-in_err-size c =
    let d = c.in-Some.ensures.cases in
    rw c.from_residual.ensures (negative-bad c.args.part.now d.0 (rw d.1 at c.in_err-size.ensures))

pub negated-requires : goal.negated-requires
negated-requires c = (bounded-some _ _ c.in_ok-size.ensures).1

pub returns-in-Some : goal.returns-in-Some
returns-in-Some c =
    let d = c.in-Some.ensures.cases in
    let f : to_z w32 (of_z w32 c.negated.result) ≡ c.negated.result = search rules in
    rw (f, c.negated.ensures) (negative-good c.args.part.now d.0 _ (rw d.1 at c.in_ok-size.ensures))

pub returns-in_err-size-2 : goal.returns-in_err-size-2
returns-in_err-size-2 c =
    rw c.from_residual-in_err-size-2.ensures (positive-bad c.args.part.now c.in_default.ensures.cases c.in_err-size-2.ensures)

pub returns : goal.returns
returns c =
    rw c.ok.ensures.value (positive-good c.args.part.now c.in_default.ensures.cases _ _ c.in_ok-size-2.ensures c.try_from.ensures)
