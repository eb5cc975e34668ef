use Rattle.out_edges.specs.Walked.{Over}
use Rattle.pivotal_edges.specs.Queues.{Queuer}
use Rattle.pivotal_edges.proofs.queue_out.Given as goal

abbrev pub invariant-loop-i : goal.invariant-loop-i
invariant-loop-i l =
    (goal.iterator-loop-i).can_next l.i-iterator × (goal.iterator-loop-i).is_finite l.i-iterator × Over l.graph l.v l.i-iterator
    × Queuer l.graph.edges.now l.graph.count l.v l.level l.visited l.initial.queue l.queue l.front l.tail l.end l.i-iterator.from
