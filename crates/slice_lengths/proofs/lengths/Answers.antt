-- `lengths` meets its contract: a refusal, or settings within the limits. Assumes nothing.
use Rattle.std.proofs.Common.{arith}
use Rattle.refusals.specs.Numbers.{number-positive}
use Rattle.slice_lengths.specs.Bounds.{accepted-by}
use Rattle.slice_lengths.specs.Lengths.{told-refused, told-accepted}
use Rattle.slice_lengths.proofs.lengths.Goals as goal

pub lengths_within-requires : goal.lengths_within-requires
lengths_within-requires c = accepted-by _ _ _ _ _ c.in-Ok.ensures (omega arith)

pub returns-in-Ok : goal.returns-in-Ok
returns-in-Ok c = told-accepted _ _ _ _ _ _ c.in-Ok.ensures (omega arith) c.lengths_within.ensures

pub returns-in-Err : goal.returns-in-Err
returns-in-Err c = told-refused _ _ _ _ _ _ c.in-Err.ensures (number-positive _) c.from.ensures
