use Rattle.path_queue.specs.Begin.{begin-heap, begun}
use Rattle.path_queue.proofs.begin.Goals as goal

pub heap_push-requires : goal.heap_push-requires
heap_push-requires c = begin-heap c.requires c.start_path.ensures

pub returns : goal.returns
returns c = begun c.requires c.start_path.ensures c.heap_push.ensures c.list_pivotal-pivotal.ensures c.list_pivotal-pivotal.auto.marks
