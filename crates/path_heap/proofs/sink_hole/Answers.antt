use Rattle.path_heap.specs.First.{Known, leads, leads-order}
use Rattle.laws.specs.Heaps.{sink-next}
use Rattle.path_heap.proofs.sink_hole.Goals as goal

pub loop-i-preserved : goal.loop-i-preserved
loop-i-preserved c = sink-next (leads c.args.scores.now) (leads-order c.args.scores.now) (Known c.args.scores.now) c.args.queue.now c.args.m c.loop-i.queue c.loop-i.i c.child-c.result c.loop-i.invariant c.child-c.ensures
