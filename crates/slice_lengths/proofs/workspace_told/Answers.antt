-- `workspace_told` meets its contract. Assumes nothing.
use Rattle.slice_lengths.specs.Bounds.{active-fits}
use Rattle.slice_lengths.specs.Lengths.{told-walks}
use Rattle.slice_lengths.proofs.workspace_told.Goals as goal

pub overflow_mul-result-7 : goal.overflow_mul-result-7
overflow_mul-result-7 c = active-fits _ _ _ c.requires

pub returns : goal.returns
returns c = told-walks _ _ _ _ c.walks_told-walks.ensures
