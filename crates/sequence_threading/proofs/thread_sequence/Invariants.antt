use Rattle.std.proofs.Common.{◌≡◌, ◌-◌, not, eqb, length}
use Rattle.samples.specs.Handed.{text_of}
use Rattle.kmer_threading.specs.Indexes.{Indexes}
use Rattle.sequence_threading.specs.Stretches.{Left}
use Rattle.sequence_threading.proofs.thread_sequence.Given as goal

abbrev pub invariant-loop-j : goal.invariant-loop-j
invariant-loop-j l =
    Left (not (eqb l.mark 0)) l.d.sample.k (text_of l.d.sample.text) l.d.most l.a l.origin.sequence l.origin.place (l.len - l.d.sample.k) l.initial.vertices l.initial.edges l.initial.s l.vertices l.edges l.s l.j
    × Indexes l.d.sample.k (text_of l.d.sample.text) l.vertices l.index l.d.most l.s.vertices
    × (length l.index ≡ length l.initial.index)
