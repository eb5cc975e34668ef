use Rattle.std.proofs.Common.{◌≡◌, length}
use Rattle.samples.specs.Handed.{text_of}
use Rattle.kmer_threading.specs.Indexes.{Indexes}
use Rattle.read_threading.specs.Reads.{ReadsLeft}
use Rattle.read_threading.proofs.thread_reads.Given as goal

abbrev pub invariant-loop-j : goal.invariant-loop-j
invariant-loop-j l =
    ReadsLeft l.d.sample.k l.d.sample.quality l.d.sample.text.reference.now l.d.sample.ends.now l.d.sample.text.bases.now l.d.sample.qualities.now l.d.most l.initial.vertices l.initial.edges l.initial.s l.vertices l.edges l.s l.start l.j
    × Indexes l.d.sample.k (text_of l.d.sample.text) l.vertices l.index l.d.most l.s.vertices
    × (length l.index ≡ length l.initial.index)
