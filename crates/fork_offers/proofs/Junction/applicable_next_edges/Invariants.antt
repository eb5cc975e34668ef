use Rattle.std.proofs.Common.{◌+◌}
use Rattle.threading_node.specs.Ends.{ends_of}
use Rattle.fork_offers.specs.Offers.{Forking}
use Rattle.fork_offers.proofs.Junction.applicable_next_edges.Given as goal

abbrev pub invariant-loop-i : goal.invariant-loop-i
invariant-loop-i l =
    Forking l.self.graph.vertices.now l.self.graph.edges.now l.self.graph.count l.self.trees.cap l.self.trees.count l.self.trees.nodes.now l.active l.at (l.at + l.count) l.self.vertex
    (ends_of l.self.symbolic) l.least l.initial.out l.out l.i l.k
