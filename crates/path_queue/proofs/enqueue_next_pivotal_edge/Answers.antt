use Rattle.std.proofs.Common.{Some}
use Rattle.path_queue.specs.Enqueue.{step-marked, step-next, step-tries, step-refused, step-made}
use Rattle.path_queue.proofs.enqueue_next_pivotal_edge.Goals as goal

pub next_pivotal-requires : goal.next_pivotal-requires
next_pivotal-requires c = step-marked c.requires

pub try_edge-r-requires : goal.try_edge-r-requires
try_edge-r-requires c = step-tries c.requires (step-next c.requires (Some c.in-Some.place) c.in-Some.ensures)

pub returns-in_default-r : goal.returns-in_default-r
returns-in_default-r c =
    step-refused c.requires (step-next c.requires (Some c.in-Some.place) c.in-Some.ensures) _ _ _ (rw c.unwrap_err.ensures at c.try_edge-r.ensures)

pub returns : goal.returns
returns c =
    step-made c.requires (step-next c.requires (Some c.in-Some.place) c.in-Some.ensures) _ _ _ (rw c.in-Ok.is at c.try_edge-r.ensures)
