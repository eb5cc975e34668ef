-- `lengths_within` meets its contract. Assumes nothing.
use Rattle.definition.specs.Limits.{told_edges, told_nodes, bases_stride, told_bases, told_origins}
use Rattle.slice_lengths.specs.Bounds.{bases-fit, origins-fit}
use Rattle.slice_lengths.specs.Lengths.{accepted_lengths}
use Rattle.slice_lengths.proofs.lengths_within.Goals as goal

pub workspace_told-workspace-requires : goal.workspace_told-workspace-requires
workspace_told-workspace-requires c = c.requires.1

pub overflow_mul-result-3 : goal.overflow_mul-result-3
overflow_mul-result-3 c = bases-fit _ _ _ c.requires.1 _ c.requires.0

pub overflow_mul-result-4 : goal.overflow_mul-result-4
overflow_mul-result-4 c = origins-fit _ _ _ c.requires.1

pub returns : goal.returns
unfolding accepted_lengths told_edges told_nodes bases_stride told_bases told_origins
returns c = rw c.workspace_told-workspace.ensures
