use Rattle.out_edges.specs.Walked.{Over}
use Rattle.graph_rows.specs.Listing.{Rowing}
use Rattle.graph_rows.proofs.write_out_edges.Given as goal

abbrev pub invariant-loop-i : goal.invariant-loop-i
invariant-loop-i l =
    (goal.iterator-loop-i).can_next l.i-iterator × (goal.iterator-loop-i).is_finite l.i-iterator × Over l.graph l.v l.i-iterator
    × Rowing l.graph.edges.now l.graph.count l.v l.initial.out l.out l.p l.i-iterator.from l.row
