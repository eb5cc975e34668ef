use Rattle.threading_node.specs.Ends.{ends_of}
use Rattle.threading_node.specs.Links.{link_to}
use Rattle.threading_node.specs.Turns.{Over}
use Rattle.fork_offers.specs.Best.{Choosing}
use Rattle.fork_offers.specs.Real.{outs_of}
use Rattle.fork_offers.proofs.Junction.best_branch.Given as goal

abbrev pub invariant-loop-s : goal.invariant-loop-s
invariant-loop-s l =
    (goal.iterator-loop-s).can_next l.s-iterator × (goal.iterator-loop-s).is_finite l.s-iterator × Over l.self.trees.nodes.now l.s-iterator
    × Choosing l.self.trees.cap l.self.trees.count l.self.trees.nodes.now (outs_of l.self.graph.edges.now l.self.graph.count l.self.vertex) (link_to l.fn.start) (ends_of l.self.symbolic) l.s-iterator.at l.best
