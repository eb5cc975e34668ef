use Rattle.threading_node.specs.Ends.{ends_of}
use Rattle.threading_node.specs.Links.{link_to}
use Rattle.threading_node.specs.Turns.{Over}
use Rattle.fork_offers.specs.Trees.{Branching}
use Rattle.fork_offers.proofs.Junction.offer_branches.Given as goal

abbrev pub invariant-loop-s : goal.invariant-loop-s
invariant-loop-s l =
    (goal.iterator-loop-s).can_next l.s-iterator × (goal.iterator-loop-s).is_finite l.s-iterator × Over l.self.trees.nodes.now l.s-iterator
    × Branching l.self.graph.vertices.now l.self.graph.edges.now l.self.graph.count l.self.trees.cap l.self.trees.count l.self.trees.nodes.now (link_to l.fn.start) l.total l.self.vertex (ends_of l.self.symbolic) l.initial.out l.out l.k l.s-iterator.at l.row
