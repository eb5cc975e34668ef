use Rattle.std.proofs.Common.{◌≡◌, ◌<◌}
use Rattle.samples.specs.Handed.{text_of}
use Rattle.assembly.specs.Kmers.{part}
use Rattle.graph_kmers.specs.Index.{hash_up}
use Rattle.graph_kmers.proofs.kmer_bucket.Given as goal

abbrev pub invariant-loop-j : goal.invariant-loop-j
invariant-loop-j l = (l.h < 4294967296) × (l.h ≡ hash_up (part l.k (text_of l.text) l.q) l.j)
