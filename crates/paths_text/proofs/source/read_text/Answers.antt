-- `read_text` meets its contract. Assumes nothing.
use Rattle.std.proofs.Common.{arith}
use borrow.Author.Tests.{not-true, not-false}
use Rattle.paths_text.specs.Sources.{text-none, text-uneven, text-many, gather-asks, gathered-fits, text-gathered}
use Rattle.paths_text.proofs.source.read_text.Goals as goal
use Rattle.paths_text.proofs.source.read_text.Goals.{then-not-l-via-then-not-l, then-not-l-via-else-not-l+then-l-gt512}

pub returns-in_err-l : goal.returns-in_err-l
returns-in_err-l c = rw c.from_residual.ensures (text-none c.args.text.now c.args.ends.now c.in_err-l.ensures)

pub returns-then-not-l : goal.returns-then-not-l
returns-then-not-l c =
    elim c.then-not-l.branch [
      | then-not-l-via-then-not-l w ↦
          text-uneven c.args.text.now c.args.ends.now _ c.in_ok-l.ensures _ c.not_gathered.ensures (not-true _ w.if-not-l.true)
      | then-not-l-via-else-not-l+then-l-gt512 w ↦
          text-many c.args.text.now c.args.ends.now _ c.in_ok-l.ensures _ c.not_gathered.ensures w.if-l-gt512.true
    ]

pub gather-size-requires : goal.gather-size-requires
gather-size-requires c =
    gather-asks c.args.text.now c.args.ends.now _ c.in_ok-l.ensures (not-false _ c.if-not-l.false) c.if-l-gt512.false c.requires

pub overflow_add-result : goal.overflow_add-result
overflow_add-result c =
    let w = gathered-fits c.args.text.now c.args.ends.now _ c.in_ok-l.ensures (not-false _ c.if-not-l.false) c.if-l-gt512.false c.requires
    _ _ _ c.gather-size.ensures c.gather-size.auto.text c.gather-size.auto.ends in
    omega arith

pub overflow_add-result-2 : goal.overflow_add-result-2
overflow_add-result-2 c =
    let w = gathered-fits c.args.text.now c.args.ends.now _ c.in_ok-l.ensures (not-false _ c.if-not-l.false) c.if-l-gt512.false c.requires
    _ _ _ c.gather-size.ensures c.gather-size.auto.text c.gather-size.auto.ends in
    omega arith

pub overflow_add-result-3 : goal.overflow_add-result-3
overflow_add-result-3 c =
    let w = gathered-fits c.args.text.now c.args.ends.now _ c.in_ok-l.ensures (not-false _ c.if-not-l.false) c.if-l-gt512.false c.requires
    _ _ _ c.gather-size.ensures c.gather-size.auto.text c.gather-size.auto.ends in
    omega arith

pub returns : goal.returns
returns c =
    rw c.not_gathered-2.ensures (
    text-gathered c.args.text.now c.args.ends.now _ c.in_ok-l.ensures (not-false _ c.if-not-l.false) c.if-l-gt512.false c.requires
    _ _ _ c.gather-size.ensures c.gather-size.auto.text c.gather-size.auto.ends
    )
