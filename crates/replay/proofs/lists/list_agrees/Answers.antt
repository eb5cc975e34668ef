-- `lists::list_agrees` is safe: each part lent lies within its array, which keeps its length. Assumes nothing.
use Rattle.std.proofs.Common.{ℕ, sym, length-take-le}
use Rattle.replay.specs.Lengths.{array-part, part_count, array-kept}
use Rattle.replay.proofs.lists.list_agrees.Goals as goal

pub slice_bounds-row_scores-end : goal.slice_bounds-row_scores-end
slice_bounds-row_scores-end c = c.lengths_lent-l.ensures.row-scores

pub slice_bounds-list_columns-end : goal.slice_bounds-list_columns-end
slice_bounds-list_columns-end c = sym (length-take-le _ _ c.lengths_lent-l.ensures.row-scores)

pub slice_bounds-row_closings-end : goal.slice_bounds-row_closings-end
slice_bounds-row_closings-end c = array-part {A = ℕ} 2863311530 _ c.lengths_lent-l.ensures.row-closings

pub slice_bounds-list_columns-end-2 : goal.slice_bounds-list_columns-end-2
slice_bounds-list_columns-end-2 c = part_count {A = ℕ} 2863311530 _ c.lengths_lent-l.ensures.row-closings

pub slice_bounds-row_edges-end : goal.slice_bounds-row_edges-end
slice_bounds-row_edges-end c = array-part {A = ℕ} 2863311530 _ c.lengths_lent-l.ensures.row-edges

pub slice_bounds-list_columns-end-3 : goal.slice_bounds-list_columns-end-3
slice_bounds-list_columns-end-3 c = part_count {A = ℕ} 2863311530 _ c.lengths_lent-l.ensures.row-edges

pub slice_bounds-out_bases-end : goal.slice_bounds-out_bases-end
slice_bounds-out_bases-end c = array-part {A = ℕ} 170 _ c.lengths_lent-l.ensures.bases

pub slice_bounds-list_columns-end-4 : goal.slice_bounds-list_columns-end-4
slice_bounds-list_columns-end-4 c = part_count {A = ℕ} 170 _ c.lengths_lent-l.ensures.bases

pub slice_bounds-sequences-end : goal.slice_bounds-sequences-end
slice_bounds-sequences-end c = array-part {A = ℕ} 2863311530 _ c.lengths_lent-l.ensures.sequences

pub slice_bounds-list_columns-end-5 : goal.slice_bounds-list_columns-end-5
slice_bounds-list_columns-end-5 c = part_count {A = ℕ} 2863311530 _ c.lengths_lent-l.ensures.sequences

pub slice_bounds-places-end : goal.slice_bounds-places-end
slice_bounds-places-end c = array-part {A = ℕ} 2863311530 _ c.lengths_lent-l.ensures.places

pub slice_bounds-list_columns-end-6 : goal.slice_bounds-list_columns-end-6
slice_bounds-list_columns-end-6 c = part_count {A = ℕ} 2863311530 _ c.lengths_lent-l.ensures.places

pub slice_bounds-w_vertices-end : goal.slice_bounds-w_vertices-end
slice_bounds-w_vertices-end c = array-part {A = ℕ} 2863311530 _ c.lengths_lent-l.ensures.vertices

pub slice_bounds-list_columns-end-7 : goal.slice_bounds-list_columns-end-7
slice_bounds-list_columns-end-7 c = part_count {A = ℕ} 2863311530 _ c.lengths_lent-l.ensures.vertices

pub slice_bounds-w_edges-end : goal.slice_bounds-w_edges-end
slice_bounds-w_edges-end c = array-part {A = ℕ} 2863311530 _ c.lengths_lent-l.ensures.edges

pub slice_bounds-list_columns-end-8 : goal.slice_bounds-list_columns-end-8
slice_bounds-list_columns-end-8 c = part_count {A = ℕ} 2863311530 _ c.lengths_lent-l.ensures.edges

pub slice_bounds-w_index-end : goal.slice_bounds-w_index-end
slice_bounds-w_index-end c = array-part {A = ℕ} 2863311530 _ c.lengths_lent-l.ensures.index

pub slice_bounds-list_columns-end-9 : goal.slice_bounds-list_columns-end-9
slice_bounds-list_columns-end-9 c = part_count {A = ℕ} 2863311530 _ c.lengths_lent-l.ensures.index

pub slice_bounds-w_nodes-end : goal.slice_bounds-w_nodes-end
slice_bounds-w_nodes-end c = array-part {A = ℕ} 2863311530 _ c.lengths_lent-l.ensures.nodes

pub slice_bounds-list_columns-end-10 : goal.slice_bounds-list_columns-end-10
slice_bounds-list_columns-end-10 c = part_count {A = ℕ} 2863311530 _ c.lengths_lent-l.ensures.nodes

pub slice_bounds-w_targets-end : goal.slice_bounds-w_targets-end
slice_bounds-w_targets-end c = array-part {A = ℕ} 2863311530 _ c.lengths_lent-l.ensures.targets

pub slice_bounds-list_columns-end-11 : goal.slice_bounds-list_columns-end-11
slice_bounds-list_columns-end-11 c = part_count {A = ℕ} 2863311530 _ c.lengths_lent-l.ensures.targets

pub slice_bounds-w_paths-end : goal.slice_bounds-w_paths-end
slice_bounds-w_paths-end c = array-part {A = ℕ} 2863311530 _ c.lengths_lent-l.ensures.paths

pub slice_bounds-list_columns-end-12 : goal.slice_bounds-list_columns-end-12
slice_bounds-list_columns-end-12 c = part_count {A = ℕ} 2863311530 _ c.lengths_lent-l.ensures.paths

pub slice_bounds-w_scores-end : goal.slice_bounds-w_scores-end
slice_bounds-w_scores-end c = c.lengths_lent-l.ensures.scores

pub slice_bounds-list_columns-end-13 : goal.slice_bounds-list_columns-end-13
slice_bounds-list_columns-end-13 c = sym (length-take-le _ _ c.lengths_lent-l.ensures.scores)

pub slice_bounds-w_active-end : goal.slice_bounds-w_active-end
slice_bounds-w_active-end c = array-part {A = ℕ} 43690 _ c.lengths_lent-l.ensures.active

pub slice_bounds-list_columns-end-14 : goal.slice_bounds-list_columns-end-14
slice_bounds-list_columns-end-14 c = part_count {A = ℕ} 43690 _ c.lengths_lent-l.ensures.active

pub slice_bounds-w_queue-end : goal.slice_bounds-w_queue-end
slice_bounds-w_queue-end c = array-part {A = ℕ} 2863311530 _ c.lengths_lent-l.ensures.queue

pub slice_bounds-list_columns-end-15 : goal.slice_bounds-list_columns-end-15
slice_bounds-list_columns-end-15 c = part_count {A = ℕ} 2863311530 _ c.lengths_lent-l.ensures.queue

pub slice_bounds-w_closed-end : goal.slice_bounds-w_closed-end
slice_bounds-w_closed-end c = array-part {A = ℕ} 2863311530 _ c.lengths_lent-l.ensures.closed

pub slice_bounds-list_columns-end-16 : goal.slice_bounds-list_columns-end-16
slice_bounds-list_columns-end-16 c = part_count {A = ℕ} 2863311530 _ c.lengths_lent-l.ensures.closed

pub slice_bounds-w_order-end : goal.slice_bounds-w_order-end
slice_bounds-w_order-end c = array-part {A = ℕ} 2863311530 _ c.lengths_lent-l.ensures.order

pub slice_bounds-list_columns-end-17 : goal.slice_bounds-list_columns-end-17
slice_bounds-list_columns-end-17 c = part_count {A = ℕ} 2863311530 _ c.lengths_lent-l.ensures.order

pub slice_bounds-w_marks-end : goal.slice_bounds-w_marks-end
slice_bounds-w_marks-end c = array-part {A = ℕ} 2863311530 _ c.lengths_lent-l.ensures.marks

pub slice_bounds-list_columns-end-18 : goal.slice_bounds-list_columns-end-18
slice_bounds-list_columns-end-18 c = part_count {A = ℕ} 2863311530 _ c.lengths_lent-l.ensures.marks

pub slice_bounds-w_walks-end : goal.slice_bounds-w_walks-end
slice_bounds-w_walks-end c = array-part {A = ℕ} 2863311530 _ c.lengths_lent-l.ensures.walks

pub slice_bounds-list_columns-end-19 : goal.slice_bounds-list_columns-end-19
slice_bounds-list_columns-end-19 c = part_count {A = ℕ} 2863311530 _ c.lengths_lent-l.ensures.walks

pub slice_bounds-outputs_agree-end : goal.slice_bounds-outputs_agree-end
slice_bounds-outputs_agree-end c = array-kept _ _ c.lengths_lent-l.result.row_scores c.list_columns-answer.new.row_scores c.list_columns-answer.auto.row_scores

pub slice_bounds-outputs_agree-end-then-list_answered : goal.slice_bounds-outputs_agree-end-then-list_answered
slice_bounds-outputs_agree-end-then-list_answered c = array-kept 2863311530 _ c.lengths_lent-l.result.row_closings c.list_columns-answer.new.row_closings c.list_columns-answer.auto.row_closings

pub slice_bounds-outputs_agree-end-then-list_answered-2 : goal.slice_bounds-outputs_agree-end-then-list_answered-2
slice_bounds-outputs_agree-end-then-list_answered-2 c = array-kept 2863311530 _ c.lengths_lent-l.result.row_edges c.list_columns-answer.new.row_edges c.list_columns-answer.auto.row_edges

pub slice_bounds-outputs_agree-end-then-list_answered-3 : goal.slice_bounds-outputs_agree-end-then-list_answered-3
slice_bounds-outputs_agree-end-then-list_answered-3 c = array-kept 170 _ c.lengths_lent-l.result.bases c.list_columns-answer.new.out_bases c.list_columns-answer.auto.out_bases

pub slice_bounds-outputs_agree-end-then-list_answered-4 : goal.slice_bounds-outputs_agree-end-then-list_answered-4
slice_bounds-outputs_agree-end-then-list_answered-4 c = array-kept 2863311530 _ c.lengths_lent-l.result.sequences c.list_columns-answer.new.sequences c.list_columns-answer.auto.sequences

pub slice_bounds-outputs_agree-end-then-list_answered-5 : goal.slice_bounds-outputs_agree-end-then-list_answered-5
slice_bounds-outputs_agree-end-then-list_answered-5 c = array-kept 2863311530 _ c.lengths_lent-l.result.places c.list_columns-answer.new.places c.list_columns-answer.auto.places

pub slice_bounds-graph_tables_left-end : goal.slice_bounds-graph_tables_left-end
slice_bounds-graph_tables_left-end c = array-kept 2863311530 _ c.lengths_lent-l.result.vertices c.list_columns-answer.new.w_vertices c.list_columns-answer.auto.w_vertices

pub slice_bounds-graph_tables_left-end-then-outputs_agree : goal.slice_bounds-graph_tables_left-end-then-outputs_agree
slice_bounds-graph_tables_left-end-then-outputs_agree c = array-kept 2863311530 _ c.lengths_lent-l.result.edges c.list_columns-answer.new.w_edges c.list_columns-answer.auto.w_edges

pub slice_bounds-graph_tables_left-end-then-outputs_agree-2 : goal.slice_bounds-graph_tables_left-end-then-outputs_agree-2
slice_bounds-graph_tables_left-end-then-outputs_agree-2 c = array-kept 2863311530 _ c.lengths_lent-l.result.index c.list_columns-answer.new.w_index c.list_columns-answer.auto.w_index

pub slice_bounds-graph_tables_left-end-then-outputs_agree-3 : goal.slice_bounds-graph_tables_left-end-then-outputs_agree-3
slice_bounds-graph_tables_left-end-then-outputs_agree-3 c = array-kept 2863311530 _ c.lengths_lent-l.result.nodes c.list_columns-answer.new.w_nodes c.list_columns-answer.auto.w_nodes

pub slice_bounds-left-end : goal.slice_bounds-left-end
slice_bounds-left-end c = array-kept 2863311530 _ c.lengths_lent-l.result.targets c.list_columns-answer.new.w_targets c.list_columns-answer.auto.w_targets

pub slice_bounds-path_tables_left-end : goal.slice_bounds-path_tables_left-end
slice_bounds-path_tables_left-end c = array-kept 2863311530 _ c.lengths_lent-l.result.paths c.list_columns-answer.new.w_paths c.list_columns-answer.auto.w_paths

pub slice_bounds-path_tables_left-end-then-left : goal.slice_bounds-path_tables_left-end-then-left
slice_bounds-path_tables_left-end-then-left c = array-kept _ _ c.lengths_lent-l.result.scores c.list_columns-answer.new.w_scores c.list_columns-answer.auto.w_scores

pub slice_bounds-path_tables_left-end-then-left-2 : goal.slice_bounds-path_tables_left-end-then-left-2
slice_bounds-path_tables_left-end-then-left-2 c = array-kept 43690 _ c.lengths_lent-l.result.active c.list_columns-answer.new.w_active c.list_columns-answer.auto.w_active

pub slice_bounds-path_tables_left-end-then-left-3 : goal.slice_bounds-path_tables_left-end-then-left-3
slice_bounds-path_tables_left-end-then-left-3 c = array-kept 2863311530 _ c.lengths_lent-l.result.queue c.list_columns-answer.new.w_queue c.list_columns-answer.auto.w_queue

pub slice_bounds-search_tables_left-end : goal.slice_bounds-search_tables_left-end
slice_bounds-search_tables_left-end c = array-kept 2863311530 _ c.lengths_lent-l.result.closed c.list_columns-answer.new.w_closed c.list_columns-answer.auto.w_closed

pub slice_bounds-search_tables_left-end-then-path_tables_left : goal.slice_bounds-search_tables_left-end-then-path_tables_left
slice_bounds-search_tables_left-end-then-path_tables_left c = array-kept 2863311530 _ c.lengths_lent-l.result.order c.list_columns-answer.new.w_order c.list_columns-answer.auto.w_order

pub slice_bounds-search_tables_left-end-then-path_tables_left-2 : goal.slice_bounds-search_tables_left-end-then-path_tables_left-2
slice_bounds-search_tables_left-end-then-path_tables_left-2 c = array-kept 2863311530 _ c.lengths_lent-l.result.marks c.list_columns-answer.new.w_marks c.list_columns-answer.auto.w_marks

pub slice_bounds-search_tables_left-end-then-path_tables_left-3 : goal.slice_bounds-search_tables_left-end-then-path_tables_left-3
slice_bounds-search_tables_left-end-then-path_tables_left-3 c = array-kept 2863311530 _ c.lengths_lent-l.result.walks c.list_columns-answer.new.w_walks c.list_columns-answer.auto.w_walks
