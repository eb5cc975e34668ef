-- `enter_kmer` meets its contract. Assumes nothing.
use Rattle.std.proofs.Common.{refl}
use Rattle.graph_kmers.specs.Index.{entered}
use Rattle.graph_kmers.proofs.enter_kmer.Goals as goal

pub returns : goal.returns
unfolding entered
returns c = refl
