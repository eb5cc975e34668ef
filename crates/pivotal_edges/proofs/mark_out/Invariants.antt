use Rattle.out_edges.specs.Walked.{Over}
use Rattle.pivotal_edges.specs.Marks.{Marker}
use Rattle.pivotal_edges.proofs.mark_out.Given as goal

abbrev pub invariant-loop-i : goal.invariant-loop-i
invariant-loop-i l =
    (goal.iterator-loop-i).can_next l.i-iterator × (goal.iterator-loop-i).is_finite l.i-iterator × Over l.graph l.v l.i-iterator
    × Marker l.graph.edges.now l.graph.count l.v l.initial.visited l.visited l.i-iterator.from
