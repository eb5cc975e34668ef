use Rattle.std.proofs.Common.{◌∙◌}
use Rattle.assembly.specs.Store.{code}
use Rattle.kmer_threading.specs.Indexes.{keeps-stop, index-edge}
use Rattle.kmer_threading.specs.Steps.{ext-known, ext-full, ext-stop, ext-adds, ext-new}
use Rattle.kmer_threading.proofs.extend_chain_by_one.Goals as goal

pub returns-in-Some : goal.returns-in-Some
unfolding code
returns-in-Some c = (ext-known c.requires.0 _ (c.from-b.ensures ∙ c.byte_at.ensures) _ (rw c.in-Some.is at c.out_edge.ensures) _ _ _ c.edge_to-here.ensures _ c.inc_edge.ensures, c.requires.1)

pub returns-then-m-d : goal.returns-then-m-d
unfolding code
returns-then-m-d c = (ext-full c.requires.0 _ (c.from-b.ensures ∙ c.byte_at.ensures) (rw c.in_default.is at c.out_edge.ensures) _ _ c.if-m-d.true, tt)

pub returns-in_default-r : goal.returns-in_default-r
unfolding code
returns-in_default-r c = (
  ext-stop c.requires.0 _ (c.from-b.ensures ∙ c.byte_at.ensures) (rw c.in_default.is at c.out_edge.ensures) _ _ _ _ _ _ _ c.get_or_create_kmer_vertex-r.ensures.0 c.in_default-r.is,
  keeps-stop _ _ _ _ _ _ _ c.in_default-r.is,
)

pub add_edge-requires : goal.add_edge-requires
unfolding code
add_edge-requires c =
    ext-adds c.requires.0 _ (c.from-b.ensures ∙ c.byte_at.ensures) (rw c.in_default.is at c.out_edge.ensures) c.if-m-d.false _ _ _ c.get_or_create_kmer_vertex-r.ensures.0 c.in-Ok.is

pub returns : goal.returns
unfolding code
returns c = (
  ext-new c.requires.0 _ (c.from-b.ensures ∙ c.byte_at.ensures) (rw c.in_default.is at c.out_edge.ensures) c.if-m-d.false _ _ _ c.get_or_create_kmer_vertex-r.ensures.0 c.in-Ok.is _ _ _ _ c.add_edge.ensures.0 c.add_edge.ensures.1,
  index-edge _ _ _ _ _ _ _ c.get_or_create_kmer_vertex-r.ensures.1 c.in-Ok.is _ _ c.from-b.result _ _ c.add_edge.ensures.0,
)
