use Rattle.path_list.specs.Rows.{ColumnsTo}
use Rattle.path_list.proofs.rows.write_columns.Given as goal

abbrev pub invariant-loop-r : goal.invariant-loop-r
invariant-loop-r l = ColumnsTo l.lists.paths.records.now l.lists.paths.scores.now l.lists.closed.now l.rank l.lists.count l.r l.initial.row_scores l.initial.row_closings l.initial.row_edges l.row_scores l.row_closings l.row_edges
