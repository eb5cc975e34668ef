-- `told_for` meets its contract. Assumes nothing.
use Rattle.graph_call.specs.Lent.{told-within}
use Rattle.graph_call.proofs.told_for.Goals as goal

pub lengths_within-requires : goal.lengths_within-requires
lengths_within-requires c = told-within _ _ c.requires
