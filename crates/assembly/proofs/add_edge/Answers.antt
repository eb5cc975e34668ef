use Rattle.std.proofs.Common.{refl}
use Rattle.definition.specs.Threading.{one_step}
use Rattle.assembly.specs.Moves.{added_v}
use Rattle.assembly.proofs.add_edge.Goals as goal

pub returns : goal.returns
unfolding added_v one_step
returns c = (refl, c.write_edge.ensures)
