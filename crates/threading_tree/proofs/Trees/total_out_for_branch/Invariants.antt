use Rattle.threading_node.specs.Links.{link_to, Linked}
use Rattle.threading_node.specs.Turns.{Over}
use Rattle.threading_tree.specs.Read.{Summing}
use Rattle.threading_tree.proofs.Trees.total_out_for_branch.Given as goal

abbrev pub invariant-loop-s : goal.invariant-loop-s
invariant-loop-s l =
    (goal.iterator-loop-s).can_next l.s-iterator × (goal.iterator-loop-s).is_finite l.s-iterator × Over l.self.nodes.now l.s-iterator
    × (Summing l.self.count l.self.nodes.now (link_to l.fn.start) (link_to l.s-iterator.at) l.total × Linked l.s-iterator.at)
