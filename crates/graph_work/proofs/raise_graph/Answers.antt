-- `raise_graph` meets its contract: 8 and 9 are the definition's, and the tables hold the graph and its trees. Assumes nothing.
use Rattle.std.proofs.Common.{◌∙◌}
use Rattle.graph_work.specs.Raise.{raise-builds, raise-fresh, raise-eight, raise-found, raise-gathers, raise-nine, raise-done}
use Rattle.graph_work.proofs.raise_graph.Goals as goal

pub build_graph-r-requires : goal.build_graph-r-requires
build_graph-r-requires c = (raise-builds c.requires c.clear_tables.ensures, raise-fresh c.requires c.clear_tables.ensures)

pub shape_of-w_vertices-in_default : goal.shape_of-w_vertices-in_default
shape_of-w_vertices-in_default c = c.build_graph-r.auto.vertices ∙ c.clear_tables.auto.w_vertices

pub shape_of-w_edges-in_default : goal.shape_of-w_edges-in_default
shape_of-w_edges-in_default c = c.build_graph-r.auto.edges

pub shape_of-w_index-in_default : goal.shape_of-w_index-in_default
shape_of-w_index-in_default c = c.build_graph-r.auto.index ∙ c.clear_tables.auto.w_index

pub shape_of-w_nodes-in_default : goal.shape_of-w_nodes-in_default
shape_of-w_nodes-in_default c = c.clear_tables.auto.w_nodes

pub returns-in_default : goal.returns-in_default
returns-in_default c = raise-eight c.requires c.clear_tables.ensures _ _ _ c.build_graph-r.ensures.0 c.unwrap_err.ensures

pub build_trees-t-requires : goal.build_trees-t-requires
build_trees-t-requires c = (raise-gathers c.requires c.clear_tables.ensures _ _ _ c.build_graph-r.ensures.0 c.in-Ok.is c.build_graph-r.auto.vertices c.build_graph-r.auto.edges, raise-found c.requires c.clear_tables.ensures _ _ _ c.build_graph-r.ensures.0 c.in-Ok.is _ _ _ c.build_graph-r.ensures.1)

pub shape_of-w_vertices-in_default-t : goal.shape_of-w_vertices-in_default-t
shape_of-w_vertices-in_default-t c = c.build_trees-t.auto.vertices ∙ c.build_graph-r.auto.vertices ∙ c.clear_tables.auto.w_vertices

pub shape_of-w_edges-in_default-t : goal.shape_of-w_edges-in_default-t
shape_of-w_edges-in_default-t c = c.build_graph-r.auto.edges

pub shape_of-w_index-in_default-t : goal.shape_of-w_index-in_default-t
shape_of-w_index-in_default-t c = c.build_graph-r.auto.index ∙ c.clear_tables.auto.w_index

pub shape_of-w_nodes-in_default-t : goal.shape_of-w_nodes-in_default-t
shape_of-w_nodes-in_default-t c = c.build_trees-t.auto.nodes ∙ c.clear_tables.auto.w_nodes

pub shape_of-w_open-in_default-t : goal.shape_of-w_open-in_default-t
shape_of-w_open-in_default-t c = c.build_trees-t.auto.active

pub returns-in_default-t : goal.returns-in_default-t
returns-in_default-t c = raise-nine c.requires c.clear_tables.ensures _ _ _ c.build_graph-r.ensures.0 c.in-Ok.is c.build_trees-t.ensures c.unwrap_err-in_default-t.ensures

pub shape_of-w_vertices : goal.shape_of-w_vertices
shape_of-w_vertices c = c.build_trees-t.auto.vertices ∙ c.build_graph-r.auto.vertices ∙ c.clear_tables.auto.w_vertices

pub shape_of-w_edges : goal.shape_of-w_edges
shape_of-w_edges c = c.build_graph-r.auto.edges

pub shape_of-w_index : goal.shape_of-w_index
shape_of-w_index c = c.build_graph-r.auto.index ∙ c.clear_tables.auto.w_index

pub shape_of-w_nodes : goal.shape_of-w_nodes
shape_of-w_nodes c = c.build_trees-t.auto.nodes ∙ c.clear_tables.auto.w_nodes

pub shape_of-w_open : goal.shape_of-w_open
shape_of-w_open c = c.build_trees-t.auto.active

pub returns : goal.returns
returns c = raise-done c.requires c.clear_tables.ensures _ _ _ c.build_graph-r.ensures.0 c.in-Ok.is c.build_trees-t.ensures c.in-Ok-t.is
