use Rattle.std.proofs.Common.{refl, ◌∙◌}
use Rattle.graph_kmers.specs.Paths.{base-first, base-later}
use Rattle.graph_kmers.proofs.path_base.Goals as goal

pub returns-then-i-k : goal.returns-then-i-k
returns-then-i-k c = c.byte_at.ensures ∙ base-first c.requires.0 c.args.i c.if-i-k.true _ c.kmer_place.ensures

pub returns : goal.returns
returns c = c.byte_at-2.ensures ∙ base-later c.requires.0 c.args.i c.if-i-k.false c.requires.1 _ refl _ c.edge_to-v.ensures _ c.kmer_place-2.ensures
