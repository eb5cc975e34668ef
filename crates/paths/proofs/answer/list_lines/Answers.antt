-- `list_lines` meets its contract. Assumes nothing.
use Rattle.std.proofs.Common.{refl, sym}
use Rattle.paths.specs.Asking.{lends-arrays}
use Rattle.paths.specs.Answering.{columns-here, shown-here}
use Rattle.paths.proofs.answer.list_lines.Goals as goal

pub slice_bounds-write_answer-end : goal.slice_bounds-write_answer-end
slice_bounds-write_answer-end c = sym c.list_columns-found.auto.row_scores

pub slice_bounds-write_answer-end-2 : goal.slice_bounds-write_answer-end-2
slice_bounds-write_answer-end-2 c = sym c.list_columns-found.auto.row_closings

pub slice_bounds-write_answer-end-3 : goal.slice_bounds-write_answer-end-3
slice_bounds-write_answer-end-3 c = sym c.list_columns-found.auto.row_edges

pub slice_bounds-write_answer-end-4 : goal.slice_bounds-write_answer-end-4
slice_bounds-write_answer-end-4 c = sym c.list_columns-found.auto.out_bases

pub write_answer-requires : goal.write_answer-requires
write_answer-requires c = (c.requires.0, columns-here c.args.text.now c.args.ends.now c.args.s c.args.column.now _ _ _ _ _ c.list_columns-found.result c.input_at-input.ensures c.list_columns-found.ensures (lends-arrays _ _ refl refl refl refl refl refl refl refl refl refl refl refl refl refl refl refl refl refl refl) c.requires.1 c.list_columns-found.auto.row_scores c.list_columns-found.auto.row_closings c.list_columns-found.auto.row_edges c.list_columns-found.auto.out_bases)

pub returns : goal.returns
returns c = shown-here c.args.text.now c.args.ends.now c.args.s c.args.column.now _ _ _ _ _ c.list_columns-found.result c.input_at-input.ensures c.list_columns-found.ensures (lends-arrays _ _ refl refl refl refl refl refl refl refl refl refl refl refl refl refl refl refl refl refl refl) c.requires.1 _ _ c.write_answer.ensures
