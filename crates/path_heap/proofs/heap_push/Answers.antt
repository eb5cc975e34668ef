use Rattle.path_heap.specs.First.{Known, leads, leads-order}
use Rattle.laws.specs.Heaps.{push-end}
use Rattle.path_heap.proofs.Laws.{pushed}
use Rattle.path_heap.proofs.heap_push.Goals as goal

pub returns : goal.returns
returns c = pushed c.args.scores.now c.args.queue.now c.args.n c.args.path _ c.requires (push-end (leads c.args.scores.now) (leads-order c.args.scores.now) (Known c.args.scores.now) c.args.queue.now c.args.n c.args.path c.requires.heap c.requires.free _ c.raise.ensures)
