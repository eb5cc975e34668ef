use Rattle.search_state.specs.Settings.{setting_of}
use Rattle.path_queue.specs.Push.{Pushing}
use Rattle.path_queue.proofs.push_paths.Given as goal

abbrev pub invariant-loop-path : goal.invariant-loop-path
invariant-loop-path l = Pushing l.scores l.initial.queue (setting_of l.g) l.fn.p l.from l.queue l.at l.path
