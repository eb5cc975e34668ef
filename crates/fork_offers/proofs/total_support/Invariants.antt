use Rattle.out_edges.specs.Walked.{Over}
use Rattle.fork_offers.specs.Support.{Totalling}
use Rattle.fork_offers.proofs.total_support.Given as goal

abbrev pub invariant-loop-i : goal.invariant-loop-i
invariant-loop-i l =
    (goal.iterator-loop-i).can_next l.i-iterator × (goal.iterator-loop-i).is_finite l.i-iterator × Over l.graph l.v l.i-iterator
    × Totalling l.graph.vertices.now l.graph.edges.now l.graph.count l.v l.i-iterator.from l.total
