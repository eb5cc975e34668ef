use Rattle.path_queue.specs.Take.{taken-first}
use Rattle.path_queue.proofs.take_first.Goals as goal

pub returns : goal.returns
returns c = taken-first _ _ _ _ _ c.heap_pop-path.ensures
