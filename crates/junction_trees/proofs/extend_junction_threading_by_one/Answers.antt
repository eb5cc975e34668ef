use Rattle.std.proofs.Common.{arith}
use Rattle.junction_trees.specs.Steps.{pass-row, pass-here-fits, pass-to-fits, pass-stepping, pass-root-fits, pass-next, pass-stop}
use Rattle.junction_trees.proofs.extend_junction_threading_by_one.Goals as goal

pub overflow_cast-edge : goal.overflow_cast-edge
overflow_cast-edge c = let h = pass-here-fits c.requires in omega arith

pub overflow_cast-edge-2 : goal.overflow_cast-edge-2
overflow_cast-edge-2 c = let h = pass-to-fits c.requires _ c.edge_to-to.ensures in omega arith

pub pass_edge-r-requires : goal.pass_edge-r-requires
pass_edge-r-requires c = pass-stepping c.requires _ c.edge_to-to.ensures _ c.root_slot.ensures

pub returns-in_default : goal.returns-in_default
returns-in_default c = pass-stop c.requires _ c.edge_to-to.ensures _ c.root_slot.ensures _ c.out_degree-outs.ensures _ c.vertex_warrants_junction_tree-warrants.ensures _ _ _ c.pass_edge-r.ensures _ c.unwrap_err.ensures

pub keep_root-requires : goal.keep_root-requires
keep_root-requires c = (pass-row c.requires, pass-root-fits c.requires _ c.edge_to-to.ensures _ c.root_slot.ensures _ c.out_degree-outs.ensures _ c.vertex_warrants_junction_tree-warrants.ensures _ _ _ c.pass_edge-r.ensures _ c.in-Ok.is)

pub returns : goal.returns
returns c = pass-next c.requires _ c.edge_to-to.ensures _ c.root_slot.ensures _ c.out_degree-outs.ensures _ c.vertex_warrants_junction_tree-warrants.ensures _ _ _ c.pass_edge-r.ensures _ c.in-Ok.is _ c.keep_root.ensures
