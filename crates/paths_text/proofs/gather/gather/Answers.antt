-- `gather` meets its contract. The invariant: so many reads are gathered, the others are left. Assumes nothing.
use Rattle.std.proofs.Common.{arith, refl}
use Rattle.paths_text.specs.Gather.{loop-start, loop-asks, loop-next, loop-end}
use Rattle.paths_text.proofs.gather.gather.Goals as goal

pub loop-i-init : goal.loop-i-init
loop-i-init c = (loop-start _ _ _ _ c.requires, refl)

pub next_read-g-requires : goal.next_read-g-requires
next_read-g-requires c = loop-asks c.loop-i.invariant.0 (omega arith)

pub loop-i-preserved : goal.loop-i-preserved
loop-i-preserved c = (
  loop-next c.loop-i.invariant.0 c.next_read-g.ensures c.next_read-g.auto.text c.next_read-g.auto.ends,
  (let e = c.next_read-g.ensures.reads in omega arith),
)

pub shape_of-text : goal.shape_of-text
shape_of-text c = c.loop-i.invariant.0.going.same

pub shape_of-ends : goal.shape_of-ends
shape_of-ends c = c.loop-i.invariant.0.going.ends_same

pub returns : goal.returns
returns c = loop-end c.loop-i.invariant.0 (omega arith)
