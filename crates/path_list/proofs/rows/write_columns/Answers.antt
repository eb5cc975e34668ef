use Rattle.std.proofs.Common.{◌+◌, ap, ◌∙◌, arith}
use Rattle.path_store.specs.Cells.{count_of, score_of}
use Rattle.path_store.specs.declared.records.PathRecord.{PathRecord}
use Rattle.path_list.specs.Walked.{record_at}
use Rattle.path_list.specs.Rows.{columns-next, columns-end}
use Rattle.path_list.proofs.rows.write_columns.Goals as goal

pub loop-r-preserved : goal.loop-r-preserved
loop-r-preserved c =
    columns-next _ _ _ _ _ _ _ _ _ _ _ _ c.loop-r.invariant c.loop-r-test.true c.requires.2 c.requires.3 c.requires.4 _ _ _
    (ap (λ (x : PathRecord). x.score) c.row-row.ensures ∙ ap (λ i. score_of c.args.lists.paths.scores.now (record_at c.args.lists.closed.now i)) c.from.ensures)
    (ap (λ n. n + 1) c.from-in-loop-r.ensures)
    (ap (λ (x : PathRecord). x.edges) c.row-row.ensures ∙ ap (λ i. count_of c.args.lists.paths.records.now (record_at c.args.lists.closed.now i)) c.from.ensures)

pub returns : goal.returns
returns c = columns-end _ _ _ _ _ _ _ _ _ _ _ _ c.loop-r.invariant (omega arith) c.requires.2 c.requires.3 c.requires.4
