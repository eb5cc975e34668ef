use Rattle.std.proofs.Common.{ap, ◌∙◌, arith}
use Rattle.path_store.specs.declared.records.PathRecord.{PathRecord}
use Rattle.path_store.specs.Cells.{numbered}
use Rattle.path_edges.specs.Path.{read-hits, read_fits}
use Rattle.path_edges.specs.Stop.{stop-piece}
use Rattle.path_edges.proofs.count_piece.Goals as goal

pub returns-then-stops : goal.returns-then-stops
returns-then-stops c = stop-piece _ _ _ (c.requires.1 c.if-stops.true) _ _ _ _ c.requires.0 c.count_stop.ensures

pub overflow_add-result : goal.overflow_add-result
overflow_add-result c =
    omega
    (arith, read_fits _ _ _ _ _ c.requires.0 _ _ _ (ap (λ (x : PathRecord). x.end) c.at-parent.ensures) (ap (λ (x : PathRecord). x.chain) c.at-row.ensures) (c.last.ensures ∙ ap (λ (x : PathRecord). numbered x.edge) c.at-row.ensures) _ _ _ c.count_chain.ensures c.count_last.ensures)

pub returns : goal.returns
returns c =
    read-hits _ _ _ _ _ c.requires.0 _ _ _ (ap (λ (x : PathRecord). x.end) c.at-parent.ensures) (ap (λ (x : PathRecord). x.chain) c.at-row.ensures) (c.last.ensures ∙ ap (λ (x : PathRecord). numbered x.edge) c.at-row.ensures) _ _ _ c.count_chain.ensures c.count_last.ensures
