use Rattle.std.proofs.Common.{sym, ◌∙◌}
use Rattle.samples.specs.Handed.{text_of}
use Rattle.assembly.specs.Kmers.{alike_end, alike-not}
use Rattle.graph_kmers.proofs.same_kmer.Goals as goal

pub returns-then-byte_at : goal.returns-then-byte_at
returns-then-byte_at c = let a = c.args in alike-not (text_of a.text) a.k a.p a.q c.loop-j.j c.loop-j-test.true (λ z. c.if-byte_at.true (c.byte_at.ensures ∙ z ∙ sym c.byte_at-in-loop-j.ensures))

pub returns : goal.returns
returns c = let a = c.args in alike_end (text_of a.text) a.k a.p a.q c.loop-j.j c.loop-j.invariant c.loop-j-test.false c.requires.0 c.requires.1
