use Rattle.std.proofs.Common.{ap, ◌∙◌, arith}
use Rattle.path_store.specs.declared.records.PathRecord.{PathRecord}
use Rattle.path_store.specs.Cells.{numbered}
use Rattle.path_edges.specs.Stop.{stop_is, stop-fits}
use Rattle.path_edges.proofs.count_stop.Goals as goal

pub overflow_add-result : goal.overflow_add-result
overflow_add-result c = omega (arith, stop-fits c.args.targets.now c.args.v _ _ c.last.result _ _ c.count_fork.ensures c.count_last.ensures)

pub returns : goal.returns
returns c =
    stop_is _ _ _ _ _ _ _ _ _
    (ap (λ (x : PathRecord). x.chain) c.at-row.ensures)
    (ap (λ (x : PathRecord). x.fork) c.at-row.ensures)
    (c.last.ensures ∙ ap (λ (x : PathRecord). numbered x.edge) c.at-row.ensures)
    c.count_fork.ensures
    c.count_last.ensures
