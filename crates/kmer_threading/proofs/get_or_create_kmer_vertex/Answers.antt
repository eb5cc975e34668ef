use Rattle.std.proofs.Common.{refl}
use Rattle.kmer_threading.specs.Indexes.{enter-asks, index-more}
use Rattle.kmer_threading.specs.Steps.{got-old, no-vertex, got-new}
use Rattle.kmer_threading.proofs.get_or_create_kmer_vertex.Goals as goal

pub returns-in-Some : goal.returns-in-Some
returns-in-Some c = let f = rw c.in-Some.is at c.find_in_bucket.ensures in (got-old c.requires.0 _ f.0 f.1, c.requires.1)

pub returns-then-n-d : goal.returns-then-n-d
returns-then-n-d c = let f = rw c.in_default.is at c.find_in_bucket.ensures in (no-vertex c.requires.0 _ f refl c.if-n-d.true, tt)

pub enter_kmer-requires : goal.enter_kmer-requires
enter_kmer-requires c = enter-asks c.requires.0 c.requires.1 _ c.kmer_bucket-h.ensures c.if-n-d.false

pub returns : goal.returns
returns c =
    let f = rw c.in_default.is at c.find_in_bucket.ensures in (
      got-new c.requires.0 _ f refl c.if-n-d.false _ c.create_vertex.ensures,
      index-more c.requires.0 c.requires.1 _ c.kmer_bucket-h.ensures c.if-n-d.false _ f refl _ _ c.create_vertex.ensures c.enter_kmer.ensures,
    )
