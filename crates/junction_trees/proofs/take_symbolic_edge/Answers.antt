use Rattle.std.proofs.Common.{arith}
use Rattle.junction_trees.specs.Steps.{end_stays, end-asks, end-sink-fits, end-to-fits, end-next, end-stop}
use Rattle.junction_trees.proofs.take_symbolic_edge.Goals as goal

pub returns-then-s-d : goal.returns-then-s-d
returns-then-s-d c = end_stays c.requires c.if-s-d.true

pub overflow_cast-edge : goal.overflow_cast-edge
overflow_cast-edge c = let h = end-sink-fits c.requires in omega arith

pub overflow_cast-edge-2 : goal.overflow_cast-edge-2
overflow_cast-edge-2 c = let h = end-to-fits c.requires in omega arith

pub add_edge_to_junction_tree_nodes-r-requires : goal.add_edge_to_junction_tree_nodes-r-requires
add_edge_to_junction_tree_nodes-r-requires c = end-asks c.requires

pub returns-in_default : goal.returns-in_default
returns-in_default c = end-stop c.requires c.if-s-d.false _ _ _ c.add_edge_to_junction_tree_nodes-r.ensures _ c.unwrap_err.ensures

pub returns : goal.returns
returns c = end-next c.requires c.if-s-d.false _ _ _ c.add_edge_to_junction_tree_nodes-r.ensures _ c.in-Ok.is c.add_edge_to_junction_tree_nodes-r.auto.nodes c.add_edge_to_junction_tree_nodes-r.auto.active
