use Rattle.threading_node.specs.Slots.{raised_is}
use Rattle.threading_node.proofs.increment_count.Goals as goal

pub returns : goal.returns
returns c = raised_is _ _ _
