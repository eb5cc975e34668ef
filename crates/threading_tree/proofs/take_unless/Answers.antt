use Rattle.std.proofs.Common.{refl}
use Rattle.threading_node.specs.Ends.{ends_of}
use Rattle.threading_tree.specs.Pass.{take-walking, take-not, take-does, take-full}
use Rattle.threading_tree.proofs.take_unless.Goals as goal

pub returns-then-only : goal.returns-then-only
returns-then-only c = take-not _ (ends_of c.args.edge) _ _ _ c.args.only c.requires refl c.if-only.true

pub add_edge_to_junction_tree_nodes-r-requires : goal.add_edge_to_junction_tree_nodes-r-requires
add_edge_to_junction_tree_nodes-r-requires c = take-walking _ (ends_of c.args.edge) _ _ _ c.args.only c.requires

pub returns-in_default : goal.returns-in_default
returns-in_default c = take-full _ (ends_of c.args.edge) _ _ _ c.args.only c.requires c.if-only.false _ _ _ c.add_edge_to_junction_tree_nodes-r.ensures _ c.unwrap_err.ensures

pub returns : goal.returns
returns c = take-does _ (ends_of c.args.edge) _ _ _ c.args.only c.requires c.if-only.false _ _ _ c.add_edge_to_junction_tree_nodes-r.ensures _ refl c.in-Ok.is c.add_edge_to_junction_tree_nodes-r.auto.nodes c.add_edge_to_junction_tree_nodes-r.auto.active
