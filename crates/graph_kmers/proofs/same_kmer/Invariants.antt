use Rattle.samples.specs.Handed.{text_of}
use Rattle.assembly.specs.Kmers.{Alike}
use Rattle.graph_kmers.proofs.same_kmer.Given as goal

abbrev pub invariant-loop-j : goal.invariant-loop-j
invariant-loop-j l = Alike (text_of l.text) l.k l.p l.q l.j
