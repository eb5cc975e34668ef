use Rattle.threading_node.specs.Ends.{ends_of}
use Rattle.threading_tree.specs.All.{Track}
use Rattle.threading_tree.proofs.add_edge_to_junction_tree_nodes.Given as goal

abbrev pub invariant-loop-i : goal.invariant-loop-i
invariant-loop-i l = Track l.cap l.n l.w (ends_of l.edge) l.initial.nodes l.nodes l.initial.active l.active l.k l.i
