use Rattle.std.proofs.Common.{◌+◌, ◌*◌, ◌-◌}
use Rattle.threading_node.specs.Links.{link_to, Linked}
use Rattle.threading_tree.specs.Write.{Writer}
use Rattle.threading_tree.proofs.Trees.write_nodes.Given as goal

abbrev pub invariant-loop-at : goal.invariant-loop-at
invariant-loop-at l = Writer l.self.cap l.self.count l.self.nodes.now l.initial.stack l.stack l.initial.out l.out (link_to l.at) l.depth l.row × Linked l.at

abbrev pub decreases-loop-at : goal.decreases-loop-at
decreases-loop-at l = 2 * (l.self.count - l.row) + l.depth
