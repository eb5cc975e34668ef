-- `walks_told` meets its contract. Assumes nothing.
use Rattle.slice_lengths.specs.Bounds.{origins-fit}
use Rattle.slice_lengths.proofs.walks_told.Goals as goal

pub overflow_mul-walks : goal.overflow_mul-walks
overflow_mul-walks c = origins-fit _ _ _ c.requires
