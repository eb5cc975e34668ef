use Rattle.std.proofs.Common.{refl}
use Rattle.assembly.specs.Symbolic.{linked}
use Rattle.assembly.proofs.link_symbolic_edge.Goals as goal

pub returns : goal.returns
unfolding linked
returns c = refl
