-- `work` meets its contract: refused as the build is, the empty list where no path is asked, or the search's answer. Assumes nothing.
use Rattle.std.proofs.Common.{refl, sym, ◌∙◌, arith, length-take-le}
use Rattle.list_work.specs.Work.{raised-of, raises-of, work-raises, work-refused, work_none, work-parts, work-searches, some-asked}
use Rattle.list_work.proofs.work.Goals as goal

pub raise_graph-r-requires : goal.raise_graph-r-requires
raise_graph-r-requires c = raises-of c.sample-sample.ensures (work-raises c.requires)

pub shape_of-w_vertices-in_default : goal.shape_of-w_vertices-in_default
shape_of-w_vertices-in_default c = c.raise_graph-r.auto.w_vertices

pub shape_of-w_edges-in_default : goal.shape_of-w_edges-in_default
shape_of-w_edges-in_default c = c.raise_graph-r.auto.w_edges

pub shape_of-w_index-in_default : goal.shape_of-w_index-in_default
shape_of-w_index-in_default c = c.raise_graph-r.auto.w_index

pub shape_of-w_nodes-in_default : goal.shape_of-w_nodes-in_default
shape_of-w_nodes-in_default c = c.raise_graph-r.auto.w_nodes

pub shape_of-w_walks-in_default : goal.shape_of-w_walks-in_default
shape_of-w_walks-in_default c = c.raise_graph-r.auto.w_open

pub returns-in_default : goal.returns-in_default
returns-in_default c = work-refused c.requires _ _ _ _ _ (raised-of _ _ _ _ _ _ _ _ c.sample-sample.ensures c.raise_graph-r.ensures) _ c.unwrap_err.ensures _ refl

pub shape_of-w_vertices-then-a-eq0 : goal.shape_of-w_vertices-then-a-eq0
shape_of-w_vertices-then-a-eq0 c = c.raise_graph-r.auto.w_vertices

pub shape_of-w_edges-then-a-eq0 : goal.shape_of-w_edges-then-a-eq0
shape_of-w_edges-then-a-eq0 c = c.raise_graph-r.auto.w_edges

pub shape_of-w_index-then-a-eq0 : goal.shape_of-w_index-then-a-eq0
shape_of-w_index-then-a-eq0 c = c.raise_graph-r.auto.w_index

pub shape_of-w_nodes-then-a-eq0 : goal.shape_of-w_nodes-then-a-eq0
shape_of-w_nodes-then-a-eq0 c = c.raise_graph-r.auto.w_nodes

pub shape_of-w_walks-then-a-eq0 : goal.shape_of-w_walks-then-a-eq0
shape_of-w_walks-then-a-eq0 c = c.raise_graph-r.auto.w_open

pub returns-then-a-eq0 : goal.returns-then-a-eq0
returns-then-a-eq0 c = work_none c.requires _ _ _ _ _ (raised-of _ _ _ _ _ _ _ _ c.sample-sample.ensures c.raise_graph-r.ensures) _ c.in-Ok.is c.if-a-eq0.true _ c.default.ensures

pub overflow_add-all : goal.overflow_add-all
overflow_add-all c = (let z = (work-parts c.requires _ _ _ _ _ (raised-of _ _ _ _ _ _ _ _ c.sample-sample.ensures c.raise_graph-r.ensures) _ c.in-Ok.is c.raise_graph-r.auto.w_edges c.raise_graph-r.auto.w_index).few in omega arith)

pub overflow_mul-rows : goal.overflow_mul-rows
overflow_mul-rows c = (let z = (work-parts c.requires _ _ _ _ _ (raised-of _ _ _ _ _ _ _ _ c.sample-sample.ensures c.raise_graph-r.ensures) _ c.in-Ok.is c.raise_graph-r.auto.w_edges c.raise_graph-r.auto.w_index).few in omega arith)

pub slice_bounds-search_list-end : goal.slice_bounds-search_list-end
slice_bounds-search_list-end c = (work-parts c.requires _ _ _ _ _ (raised-of _ _ _ _ _ _ _ _ c.sample-sample.ensures c.raise_graph-r.ensures) _ c.in-Ok.is c.raise_graph-r.auto.w_edges c.raise_graph-r.auto.w_index).rows

pub slice_bounds-search_list-end-2 : goal.slice_bounds-search_list-end-2
slice_bounds-search_list-end-2 c = sym (length-take-le _ _ (work-parts c.requires _ _ _ _ _ (raised-of _ _ _ _ _ _ _ _ c.sample-sample.ensures c.raise_graph-r.ensures) _ c.in-Ok.is c.raise_graph-r.auto.w_edges c.raise_graph-r.auto.w_index).rows)

pub slice_bounds-search_list-end-3 : goal.slice_bounds-search_list-end-3
slice_bounds-search_list-end-3 c = (work-parts c.requires _ _ _ _ _ (raised-of _ _ _ _ _ _ _ _ c.sample-sample.ensures c.raise_graph-r.ensures) _ c.in-Ok.is c.raise_graph-r.auto.w_edges c.raise_graph-r.auto.w_index).index

pub slice_bounds-search_list-end-4 : goal.slice_bounds-search_list-end-4
slice_bounds-search_list-end-4 c = sym (length-take-le _ _ (work-parts c.requires _ _ _ _ _ (raised-of _ _ _ _ _ _ _ _ c.sample-sample.ensures c.raise_graph-r.ensures) _ c.in-Ok.is c.raise_graph-r.auto.w_edges c.raise_graph-r.auto.w_index).index)

pub slice_bounds-search_list-end-5 : goal.slice_bounds-search_list-end-5
slice_bounds-search_list-end-5 c = (work-parts c.requires _ _ _ _ _ (raised-of _ _ _ _ _ _ _ _ c.sample-sample.ensures c.raise_graph-r.ensures) _ c.in-Ok.is c.raise_graph-r.auto.w_edges c.raise_graph-r.auto.w_index).targets

pub slice_bounds-search_list-end-6 : goal.slice_bounds-search_list-end-6
slice_bounds-search_list-end-6 c = sym (length-take-le _ _ (work-parts c.requires _ _ _ _ _ (raised-of _ _ _ _ _ _ _ _ c.sample-sample.ensures c.raise_graph-r.ensures) _ c.in-Ok.is c.raise_graph-r.auto.w_edges c.raise_graph-r.auto.w_index).targets)

pub search_list-requires : goal.search_list-requires
search_list-requires c = work-searches c.requires _ _ _ _ _ (raised-of _ _ _ _ _ _ _ _ c.sample-sample.ensures c.raise_graph-r.ensures) _ c.in-Ok.is _ c.raise_graph-r.auto.w_vertices c.raise_graph-r.auto.w_edges c.raise_graph-r.auto.w_index (some-asked c.if-a-eq0.false) c.raise_graph-r.auto.w_open

pub shape_of-row_closings : goal.shape_of-row_closings
shape_of-row_closings c = c.search_list.auto.row_closings

pub shape_of-row_edges : goal.shape_of-row_edges
shape_of-row_edges c = c.search_list.auto.row_edges

pub shape_of-out_bases : goal.shape_of-out_bases
shape_of-out_bases c = c.search_list.auto.out_bases

pub shape_of-sequences : goal.shape_of-sequences
shape_of-sequences c = c.search_list.auto.sequences

pub shape_of-places : goal.shape_of-places
shape_of-places c = c.search_list.auto.places

pub shape_of-w_vertices : goal.shape_of-w_vertices
shape_of-w_vertices c = c.search_list.auto.vertices ∙ c.raise_graph-r.auto.w_vertices

pub shape_of-w_paths : goal.shape_of-w_paths
shape_of-w_paths c = c.search_list.auto.paths

pub shape_of-w_scores : goal.shape_of-w_scores
shape_of-w_scores c = c.search_list.auto.scores

pub shape_of-w_active : goal.shape_of-w_active
shape_of-w_active c = c.search_list.auto.active

pub shape_of-w_queue : goal.shape_of-w_queue
shape_of-w_queue c = c.search_list.auto.queue

pub shape_of-w_closed : goal.shape_of-w_closed
shape_of-w_closed c = c.search_list.auto.closed

pub shape_of-w_order : goal.shape_of-w_order
shape_of-w_order c = c.search_list.auto.order

pub shape_of-w_marks : goal.shape_of-w_marks
shape_of-w_marks c = c.search_list.auto.marks

pub shape_of-w_walks : goal.shape_of-w_walks
shape_of-w_walks c = c.search_list.auto.walks ∙ c.raise_graph-r.auto.w_open
