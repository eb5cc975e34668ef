-- `read_pair` meets its contract. Assumes nothing.
use Rattle.std.proofs.Common.{◌+◌, arith}
use Rattle.text_form.specs.Parts.{part_rest, part_slice}
use Rattle.text_form.specs.Reads.{bases-unended, qualities-unended, qualities-bad, pair_read}
use Rattle.text_form.proofs.reads.read_pair.Goals as goal

pub returns-in_err-bases : goal.returns-in_err-bases
returns-in_err-bases c =
    rw c.from_residual.ensures (bases-unended c.args.text.now c.args.at c.requires (rw (part_rest c.args.at c.args.text.now) at c.in_err-bases.ensures))

pub returns-in_err-qualities : goal.returns-in_err-qualities
returns-in_err-qualities c =
    let t = c.args.text.now in
    let e = rw (part_rest c.args.at t) at c.in_ok-bases.ensures in
    let f = rw (part_rest (c.args.at + c.in_ok-bases.field-0 + 1) t) at c.in_err-qualities.ensures in
    rw c.from_residual-in_err-qualities.ensures (qualities-unended t c.args.at _ e.0 e.1 f)

pub returns-then-not-qualities_fit : goal.returns-then-not-qualities_fit
returns-then-not-qualities_fit c =
    let t = c.args.text.now in
    let e = rw (part_rest c.args.at t) at c.in_ok-bases.ensures in
    let f = rw (part_rest (c.args.at + c.in_ok-bases.field-0 + 1) t) at c.in_ok-qualities.ensures in
    let h = rw (part_slice (c.args.at + c.in_ok-bases.field-0 + 1) (c.args.at + c.in_ok-bases.field-0 + 1 + c.in_ok-qualities.field-0) t (omega arith)) at c.if-not-qualities_fit.ensures in
    qualities-bad t c.args.at _ e.0 e.1 _ f.0 f.1 h

pub returns : goal.returns
returns c =
    let t = c.args.text.now in
    let e = rw (part_rest c.args.at t) at c.in_ok-bases.ensures in
    let f = rw (part_rest (c.args.at + c.in_ok-bases.field-0 + 1) t) at c.in_ok-qualities.ensures in
    let h = rw (part_slice (c.args.at + c.in_ok-bases.field-0 + 1) (c.args.at + c.in_ok-bases.field-0 + 1 + c.in_ok-qualities.field-0) t (omega arith)) at c.if-not-qualities_fit.ensures in
    pair_read t c.args.at _ e.0 e.1 _ f.0 f.1 h
