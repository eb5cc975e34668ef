use Rattle.std.proofs.Common.{refl}
use Rattle.assembly.specs.Moves.{added_e}
use Rattle.assembly.proofs.write_edge.Goals as goal

pub returns : goal.returns
unfolding added_e
returns c = refl
