-- `read_form` meets its contract, line by line. Assumes nothing.
use Rattle.std.proofs.Common.{◌+◌}
use Rattle.text_form.specs.Parts.{part_rest}
use Rattle.text_form.specs.Reads.{form-long, first-unended, second-unended, form-header, form-reads, form-read}
use Rattle.text_form.proofs.reads.read_form.Goals as goal

pub returns-then-text-gt8192 : goal.returns-then-text-gt8192
returns-then-text-gt8192 c = form-long _ c.if-text-gt8192.true

pub returns-in_err-first : goal.returns-in_err-first
returns-in_err-first c = rw c.from_residual.ensures (first-unended c.args.text.now c.if-text-gt8192.false c.in_err-first.ensures)

pub returns-in_err-second : goal.returns-in_err-second
returns-in_err-second c =
    let t = c.args.text.now in
    let e = c.in_ok-first.ensures in
    let f = rw (part_rest (c.in_ok-first.first + 1) t) at c.in_err-second.ensures in
    rw c.from_residual-in_err-second.ensures (second-unended t c.if-text-gt8192.false _ e.0 e.1 f)

pub returns-in_err-settings : goal.returns-in_err-settings
returns-in_err-settings c =
    let t = c.args.text.now in
    let e = c.in_ok-first.ensures in
    let f = rw (part_rest (c.in_ok-first.first + 1) t) at c.in_ok-second.ensures in
    rw c.from_residual-in_err-settings.ensures (form-header t c.if-text-gt8192.false _ e.0 e.1 _ f.0 f.1 c.in_err-settings.ensures)

pub returns-in_err-tally : goal.returns-in_err-tally
returns-in_err-tally c =
    let t = c.args.text.now in
    let e = c.in_ok-first.ensures in
    let f = rw (part_rest (c.in_ok-first.first + 1) t) at c.in_ok-second.ensures in
    rw c.from_residual-in_err-tally.ensures (form-reads t c.if-text-gt8192.false _ e.0 e.1 _ f.0 f.1 c.in_err-tally.ensures)

pub returns : goal.returns
returns c =
    let t = c.args.text.now in
    let e = c.in_ok-first.ensures in
    let f = rw (part_rest (c.in_ok-first.first + 1) t) at c.in_ok-second.ensures in
    form-read t c.if-text-gt8192.false _ e.0 e.1 _ f.0 f.1 _ c.in_ok-settings.ensures _ c.in_ok-tally.ensures
