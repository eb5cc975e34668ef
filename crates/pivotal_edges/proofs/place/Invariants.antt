use Rattle.pivotal_edges.specs.Queue.{Placing}
use Rattle.pivotal_edges.proofs.place.Given as goal

abbrev pub invariant-loop-p : goal.invariant-loop-p
invariant-loop-p l = Placing l.edges l.queue l.front l.tail l.x l.p
