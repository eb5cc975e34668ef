-- `ends_rise` meets its contract: std's test decides as the definition does. Assumes nothing.
use Rattle.std.proofs.lemmas.List.Sorted.{non_decreasing_from_is_sorted}
use Rattle.limits.specs.Loops.{sorted}
use Rattle.limits.proofs.ends_rise.Goals as goal

pub returns : goal.returns
returns c = sorted _ _ (non_decreasing_from_is_sorted _ _ c.is_sorted.ensures.cases)
