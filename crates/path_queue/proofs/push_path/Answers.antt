use Rattle.path_queue.specs.Push.{one-heap, one-joined}
use Rattle.path_queue.proofs.push_path.Goals as goal

pub heap_push-requires : goal.heap_push-requires
heap_push-requires c = one-heap c.requires c.if-p-g.false

pub returns : goal.returns
returns c = one-joined c.requires c.if-p-g.false c.heap_push.ensures _ c.max.ensures
