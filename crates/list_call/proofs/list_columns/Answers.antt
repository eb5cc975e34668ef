-- `list_columns` meets its contract: refused by the first broken rule with nothing touched, or `list_within`. Assumes nothing.
use Rattle.list_interface.specs.Handed.{handed}
use Rattle.list_work.specs.Outcome.{outputs_of, tables_of}
use Rattle.std.proofs.Common.{arith}
use Rattle.refusals.specs.Numbers.{number-positive}
use Rattle.list_call.specs.Call.{call-refused, call-within, call-done}
use Rattle.list_call.proofs.list_columns.Goals as goal

pub returns-in-Err : goal.returns-in-Err
returns-in-Err c =
    call-refused (handed c.args.input) c.args.rows (outputs_of c.args.row_scores.now c.args.row_closings.now c.args.row_edges.now c.args.out_bases.now c.args.sequences.now c.args.places.now) (tables_of c.args.w_vertices.now c.args.w_edges.now c.args.w_index.now c.args.w_nodes.now c.args.w_targets.now c.args.w_paths.now c.args.w_scores.now c.args.w_active.now c.args.w_queue.now c.args.w_closed.now c.args.w_order.now c.args.w_marks.now c.args.w_walks.now) _ c.in-Err.ensures (number-positive _) _ c.from.ensures

pub list_within-r-requires : goal.list_within-r-requires
list_within-r-requires c =
    call-within (handed c.args.input) c.args.rows (outputs_of c.args.row_scores.now c.args.row_closings.now c.args.row_edges.now c.args.out_bases.now c.args.sequences.now c.args.places.now) (tables_of c.args.w_vertices.now c.args.w_edges.now c.args.w_index.now c.args.w_nodes.now c.args.w_targets.now c.args.w_paths.now c.args.w_scores.now c.args.w_active.now c.args.w_queue.now c.args.w_closed.now c.args.w_order.now c.args.w_marks.now c.args.w_walks.now) _ c.in_default.ensures (omega arith)

pub returns-in-Ok : goal.returns-in-Ok
returns-in-Ok c =
    call-done (handed c.args.input) c.args.rows (outputs_of c.args.row_scores.now c.args.row_closings.now c.args.row_edges.now c.args.out_bases.now c.args.sequences.now c.args.places.now) (tables_of c.args.w_vertices.now c.args.w_edges.now c.args.w_index.now c.args.w_nodes.now c.args.w_targets.now c.args.w_paths.now c.args.w_scores.now c.args.w_active.now c.args.w_queue.now c.args.w_closed.now c.args.w_order.now c.args.w_marks.now c.args.w_walks.now) _ c.in_default.ensures (omega arith) _ _ _ c.in-Ok.ensures

pub returns-in-Err-r : goal.returns-in-Err-r
returns-in-Err-r c = rw c.from-in-Err-r.ensures (call-done (handed c.args.input) c.args.rows (outputs_of c.args.row_scores.now c.args.row_closings.now c.args.row_edges.now c.args.out_bases.now c.args.sequences.now c.args.places.now) (tables_of c.args.w_vertices.now c.args.w_edges.now c.args.w_index.now c.args.w_nodes.now c.args.w_targets.now c.args.w_paths.now c.args.w_scores.now c.args.w_active.now c.args.w_queue.now c.args.w_closed.now c.args.w_order.now c.args.w_marks.now c.args.w_walks.now) _ c.in_default.ensures (omega arith) _ _ _ c.in-Err-r.ensures)
