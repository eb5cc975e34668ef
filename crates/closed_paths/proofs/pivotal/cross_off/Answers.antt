use Rattle.std.proofs.Common.{ap, ◌∙◌}
use Rattle.path_store.specs.declared.records.PathRecord.{PathRecord}
use Rattle.path_store.specs.Cells.{numbered}
use Rattle.path_store.specs.Climbs.{stepped, climbs-on}
use Rattle.path_edges.specs.Path.{table-climbs, last-listed}
use Rattle.closed_paths.specs.Cross.{clears, crossing-next, crossing-end}
use Rattle.closed_paths.proofs.pivotal.cross_off.Goals as goal

pub loop-link-preserved : goal.loop-link-preserved
loop-link-preserved c =
    let x = stepped c.loop-link.invariant.2 c.in-Some.ensures.steps in
    let l = last-listed _ _ (c.last.ensures ∙ ap (λ (y : PathRecord). numbered y.edge) c.at.ensures) in
    (climbs-on (table-climbs _ _ _ _ _ c.requires.0) c.loop-link.invariant.3.low x, tt, x.paths, rw x.next.2 (crossing-next _ _ _ _ _ c.requires.0 _ _ _ _ c.loop-link.invariant.3 _ x.next.1 _ (rw x.next.0 at (c.clear_last.ensures ∙ ap (λ es. clears c.loop-link.marks es) l))))

pub returns : goal.returns
returns c = crossing-end _ _ _ _ _ c.requires.0 _ _ _ _ c.loop-link.invariant.3 (stepped c.loop-link.invariant.2 c.in-None.ensures.steps).next
