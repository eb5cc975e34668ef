use Rattle.std.proofs.Common.{refl}
use Rattle.assembly.specs.Kmers.{born}
use Rattle.assembly.proofs.create_vertex.Goals as goal

pub returns : goal.returns
unfolding born
returns c = refl
