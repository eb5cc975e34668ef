-- `move_bytes` meets its contract. The invariant: i bytes are moved, and those still to move are as they were. Assumes nothing.
use Rattle.std.proofs.Common.{arith}
use Rattle.paths_text.specs.Moves.{move_start, move-large, move-next, move-end, move-room}
use Rattle.paths_text.proofs.gather.move_bytes.Goals as goal

pub overflow_sub-i-end : goal.overflow_sub-i-end
overflow_sub-i-end c = c.requires.rising

pub loop-i-init : goal.loop-i-init
loop-i-init c = move_start c.args.text.now c.args.from c.args.to c.args.dest c.args.less c.requires

pub overflow_add-text : goal.overflow_add-text
overflow_add-text c =
    let r = (move-room c.args.text.now c.args.from c.args.to c.args.dest c.args.less c.requires _ _
    c.loop-i.invariant c.loop-i-test.true).0 in
    let s = c.loop-i.invariant.same in
    omega (arith, c.well_formed.0.0)

pub bounds-text-from : goal.bounds-text-from
bounds-text-from c =
    (move-room c.args.text.now c.args.from c.args.to c.args.dest c.args.less c.requires _ _
    c.loop-i.invariant c.loop-i-test.true).0

pub overflow_sub-text : goal.overflow_sub-text
overflow_sub-text c =
    move-large c.args.text.now c.args.from c.args.to c.args.dest c.args.less c.requires _ _
    c.loop-i.invariant c.loop-i-test.true

pub overflow_add-text-in-loop-i : goal.overflow_add-text-in-loop-i
overflow_add-text-in-loop-i c =
    let r = (move-room c.args.text.now c.args.from c.args.to c.args.dest c.args.less c.requires _ _
    c.loop-i.invariant c.loop-i-test.true).1 in
    let s = c.loop-i.invariant.same in
    omega (arith, c.well_formed.0.0)

pub bounds-text-dest : goal.bounds-text-dest
bounds-text-dest c =
    (move-room c.args.text.now c.args.from c.args.to c.args.dest c.args.less c.requires _ _
    c.loop-i.invariant c.loop-i-test.true).1

pub loop-i-preserved : goal.loop-i-preserved
loop-i-preserved c =
    move-next c.args.text.now c.args.from c.args.to c.args.dest c.args.less c.requires _ _
    c.loop-i.invariant c.loop-i-test.true

pub shape_of-text : goal.shape_of-text
shape_of-text c = c.loop-i.invariant.same

pub returns : goal.returns
returns c =
    move-end c.args.text.now c.args.from c.args.to c.args.dest c.args.less c.requires _ _ c.loop-i.invariant
    c.loop-i-test.false
