use Rattle.std.proofs.Common.{sym, ap, ◌∙◌}
use Rattle.path_store.specs.Cells.{numbered}
use Rattle.path_store.specs.declared.records.PathRecord.{PathRecord}
use Rattle.path_edges.specs.Visit.{visiting-hit, visiting-recovered, visiting-next}
use Rattle.path_edges.proofs.has_visited.Goals as goal

pub returns-then-row-v : goal.returns-then-row-v
returns-then-row-v c =
    visiting-hit _ _ _ _ _ _ _ c.requires.0 _ (rw c.in-Some.is at c.loop-up.invariant) (sym (ap (λ (x : PathRecord). x.joined) c.at-row.ensures) ∙ c.if-row-v.true)

pub returns-then-row : goal.returns-then-row
returns-then-row c =
    visiting-recovered _ _ _ _ _ _ _ c.requires.0 _ (rw c.in-Some.is at c.loop-up.invariant) _
    (λ z. c.if-row-v.false (ap (λ (x : PathRecord). x.joined) c.at-row.ensures ∙ z))
    (sym (ap (λ (x : PathRecord). x.recovered) c.at-row.ensures) ∙ c.if-row.true)
    c.count_in_path.ensures

pub loop-up-preserved : goal.loop-up-preserved
loop-up-preserved c =
    visiting-next _ _ _ _ _ _ _ c.requires.0 _ (rw c.in-Some.is at c.loop-up.invariant) _
    (c.above-up.ensures ∙ ap (λ (x : PathRecord). numbered x.parent) c.at-row.ensures)
    (λ z. c.if-row-v.false (ap (λ (x : PathRecord). x.joined) c.at-row.ensures ∙ z))
    (sym (ap (λ (x : PathRecord). x.recovered) c.at-row.ensures) ∙ c.if-row.false)
