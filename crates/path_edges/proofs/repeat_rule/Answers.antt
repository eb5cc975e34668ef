use Rattle.std.proofs.Common.{ap, ◌∙◌, eq-eqb}
use Rattle.path_store.specs.declared.records.PathRecord.{PathRecord}
use Rattle.path_edges.specs.Visit.{keeps-guided, keeps-once}
use Rattle.path_edges.proofs.repeat_rule.Goals as goal

pub returns-then-row-eq0 : goal.returns-then-row-eq0
returns-then-row-eq0 c = eq-eqb _ 0 c.if-row-eq0.true ∙ keeps-guided _ _ _ _ _ _ (ap (λ (x : PathRecord). x.since) c.at-row.ensures) c.if-row-eq0.true

pub returns-else-row-eq0 : goal.returns-else-row-eq0
returns-else-row-eq0 c =
    keeps-once _ _ _ _ _ _ _ _ (ap (λ (x : PathRecord). x.since) c.at-row.ensures) c.if-row-eq0.false (ap (λ (x : PathRecord). x.end) c.at-row.ensures) c.count_in_path.ensures
