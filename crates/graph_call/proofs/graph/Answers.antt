-- `graph` meets its contract: refused by the first broken rule with nothing touched, or `make_graph` over the parts told. Assumes nothing.
use Rattle.std.proofs.Common.{sym, length-take-le}
use Rattle.graph_call.specs.Graph.{graph-refused, graph-room, graph-lent, graph-made}
use Rattle.graph_call.proofs.graph.Goals as goal

pub returns-in-Err : goal.returns-in-Err
returns-in-Err c = graph-refused _ _ _ _ _ _ _ _ _ _ c.in-Err.ensures.refusal _ c.from.ensures

pub slice_bounds-make_graph-end : goal.slice_bounds-make_graph-end
slice_bounds-make_graph-end c = (graph-room _ _ _ _ _ _ _ _ _ c.in-Ok.ensures.refusal _ c.in-Ok.ensures.told).vertices

pub slice_bounds-make_graph-end-2 : goal.slice_bounds-make_graph-end-2
slice_bounds-make_graph-end-2 c = sym (length-take-le _ _ (graph-room _ _ _ _ _ _ _ _ _ c.in-Ok.ensures.refusal _ c.in-Ok.ensures.told).vertices)

pub slice_bounds-make_graph-end-3 : goal.slice_bounds-make_graph-end-3
slice_bounds-make_graph-end-3 c = (graph-room _ _ _ _ _ _ _ _ _ c.in-Ok.ensures.refusal _ c.in-Ok.ensures.told).edges

pub slice_bounds-make_graph-end-4 : goal.slice_bounds-make_graph-end-4
slice_bounds-make_graph-end-4 c = sym (length-take-le _ _ (graph-room _ _ _ _ _ _ _ _ _ c.in-Ok.ensures.refusal _ c.in-Ok.ensures.told).edges)

pub slice_bounds-make_graph-end-5 : goal.slice_bounds-make_graph-end-5
slice_bounds-make_graph-end-5 c = (graph-room _ _ _ _ _ _ _ _ _ c.in-Ok.ensures.refusal _ c.in-Ok.ensures.told).index

pub slice_bounds-make_graph-end-6 : goal.slice_bounds-make_graph-end-6
slice_bounds-make_graph-end-6 c = sym (length-take-le _ _ (graph-room _ _ _ _ _ _ _ _ _ c.in-Ok.ensures.refusal _ c.in-Ok.ensures.told).index)

pub slice_bounds-make_graph-end-7 : goal.slice_bounds-make_graph-end-7
slice_bounds-make_graph-end-7 c = (graph-room _ _ _ _ _ _ _ _ _ c.in-Ok.ensures.refusal _ c.in-Ok.ensures.told).nodes

pub slice_bounds-make_graph-end-8 : goal.slice_bounds-make_graph-end-8
slice_bounds-make_graph-end-8 c = sym (length-take-le _ _ (graph-room _ _ _ _ _ _ _ _ _ c.in-Ok.ensures.refusal _ c.in-Ok.ensures.told).nodes)

pub slice_bounds-make_graph-end-9 : goal.slice_bounds-make_graph-end-9
slice_bounds-make_graph-end-9 c = (graph-room _ _ _ _ _ _ _ _ _ c.in-Ok.ensures.refusal _ c.in-Ok.ensures.told).«open»

pub slice_bounds-make_graph-end-10 : goal.slice_bounds-make_graph-end-10
slice_bounds-make_graph-end-10 c = sym (length-take-le _ _ (graph-room _ _ _ _ _ _ _ _ _ c.in-Ok.ensures.refusal _ c.in-Ok.ensures.told).«open»)

pub make_graph-r-requires : goal.make_graph-r-requires
make_graph-r-requires c = graph-lent _ _ _ _ _ _ _ _ _ c.in-Ok.ensures.refusal _ c.in-Ok.ensures.told

pub returns-in-Ok-r : goal.returns-in-Ok-r
returns-in-Ok-r c = graph-made _ _ _ _ _ _ _ _ _ c.in-Ok.ensures.refusal _ c.in-Ok.ensures.told _ _ _ _ _ _ _ _ c.in-Ok-r.ensures

pub returns-in-Err-r : goal.returns-in-Err-r
returns-in-Err-r c = rw c.from-in-Err-r.ensures (graph-made _ _ _ _ _ _ _ _ _ c.in-Ok.ensures.refusal _ c.in-Ok.ensures.told _ _ _ _ _ _ _ _ c.in-Err-r.ensures)
