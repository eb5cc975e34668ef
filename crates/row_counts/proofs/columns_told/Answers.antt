-- `columns_told` meets its contract. Assumes nothing.
use Rattle.std.proofs.Common.{sym, ◌∙◌}
use Rattle.row_counts.specs.Told.{told-kept, told-zero}
use Rattle.row_counts.proofs.columns_told.Goals as goal

pub returns-then-workspace_kept : goal.returns-then-workspace_kept
returns-then-workspace_kept c = told-kept _ _ (sym c.workspace_kept.ensures ∙ c.if-workspace_kept.true)

pub returns : goal.returns
returns c = told-zero _ _ (sym c.workspace_kept.ensures ∙ c.if-workspace_kept.false)
