use Rattle.path_queue.specs.Try.{try-closed, try-leaves}
use Rattle.path_queue.proofs.try_edge.Goals as goal

pub best_through-requires : goal.best_through-requires
best_through-requires c = try-closed c.requires _

pub leave_path-requires : goal.leave_path-requires
leave_path-requires c = try-leaves c.requires _ _ c.vertex_before-v.ensures c.best_through.ensures _ c.in-Some.is
