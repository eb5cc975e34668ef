use Rattle.out_edges.specs.Walked.{Over}
use Rattle.fork_offers.specs.Support.{Edging}
use Rattle.fork_offers.proofs.offer_edges.Given as goal

abbrev pub invariant-loop-i : goal.invariant-loop-i
invariant-loop-i l =
    (goal.iterator-loop-i).can_next l.i-iterator × (goal.iterator-loop-i).is_finite l.i-iterator × Over l.graph l.v l.i-iterator
    × Edging l.graph.vertices.now l.graph.edges.now l.graph.count l.v l.total l.initial.out l.out l.k l.i-iterator.from l.row
