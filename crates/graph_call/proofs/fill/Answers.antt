-- `fill` meets its contract: 8 and 9 are the definition's, and the rows are those of the graph and trees that the tables hold. Assumes nothing.
use Rattle.std.specs.Prelude.{refl}
use Rattle.graph_call.specs.Fill.{fill-refused, fill-writes, fill_done}
use Rattle.graph_call.proofs.fill.Goals as goal

pub returns-in_default : goal.returns-in_default
returns-in_default c = fill-refused c.requires _ _ _ _ _ c.raise_graph-r.ensures _ c.unwrap_err.ensures _ refl

pub write_rows-requires : goal.write_rows-requires
write_rows-requires c = fill-writes c.requires _ _ _ _ _ c.raise_graph-r.ensures _ c.in-Ok.is c.raise_graph-r.auto.w_vertices c.raise_graph-r.auto.w_edges c.raise_graph-r.auto.w_open

pub returns : goal.returns
returns c = fill_done c.requires _ _ _ _ _ c.raise_graph-r.ensures _ c.in-Ok.is c.raise_graph-r.auto.w_vertices c.raise_graph-r.auto.w_edges c.raise_graph-r.auto.w_open _ _ _ _ c.write_rows.ensures
