use Rattle.samples.specs.Handed.{text_of}
use Rattle.graph_kmers.specs.Paths.{bases_of, Written}
use Rattle.graph_kmers.proofs.path_bases.Given as goal

abbrev pub invariant-loop-i : goal.invariant-loop-i
invariant-loop-i l = Written (bases_of l.k (text_of l.text) l.vertices l.edges l.path) l.initial.out l.out l.at l.i
