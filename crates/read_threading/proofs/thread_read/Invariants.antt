use Rattle.std.proofs.Common.{◌≡◌, length}
use Rattle.samples.specs.Handed.{text_of}
use Rattle.kmer_threading.specs.Indexes.{Indexes}
use Rattle.usable_stretches.specs.Turns.{Over}
use Rattle.read_threading.specs.Reads.{ReadLeft}
use Rattle.read_threading.proofs.thread_read.Given as goal

abbrev pub invariant-loop-run : goal.invariant-loop-run
invariant-loop-run l =
    (goal.iterator-loop-run).can_next l.run-iterator × (goal.iterator-loop-run).is_finite l.run-iterator × Over l.d.sample l.end l.run-iterator
    × ReadLeft l.d.sample.k l.d.sample.quality l.d.sample.text.reference.now l.d.sample.text.bases.now l.d.sample.qualities.now l.d.most l.sequence l.start l.end l.initial.vertices l.initial.edges l.initial.s l.vertices l.edges l.s l.run-iterator.at
    × Indexes l.d.sample.k (text_of l.d.sample.text) l.vertices l.index l.d.most l.s.vertices
    × (length l.index ≡ length l.initial.index)
