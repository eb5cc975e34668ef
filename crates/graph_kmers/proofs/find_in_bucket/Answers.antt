-- `find_in_bucket` meets its contract: a turn leaves only the vertices of the bucket before v. Assumes nothing.
use Rattle.std.proofs.Common.{sym, ◌∙◌, arith}
use Rattle.samples.specs.Handed.{text_of}
use Rattle.assembly.specs.Kmers.{part}
use Rattle.graph_kmers.specs.Index.{size_of, walk_start, walk-on, walk-in, walk-found, walk_none, slot-is, bucket-lt}
use Rattle.graph_kmers.proofs.find_in_bucket.Goals as goal

pub offset_bounds-index-h : goal.offset_bounds-index-h
offset_bounds-index-h c = let h = c.requires.1 in let b = bucket-lt c.args.k (size_of c.args.index.now) (part c.args.k (text_of c.args.text) c.args.q) c.requires.0.buckets in omega arith

pub bounds-index-h : goal.bounds-index-h
bounds-index-h c = let h = c.requires.1 in let b = bucket-lt c.args.k (size_of c.args.index.now) (part c.args.k (text_of c.args.text) c.args.q) c.requires.0.buckets in omega arith

pub loop-next-init : goal.loop-next-init
loop-next-init c =
    let a = c.args in
    rw (← slot-is _ _ c.checked_sub-next.ensures, c.requires.1) (walk_start c.requires.0.indexed (part a.k (text_of a.text) a.q) c.requires.0.buckets)

pub kmer_place-p-requires : goal.kmer_place-p-requires
kmer_place-p-requires c =
    let a = c.args in
    let z = walk-in (text_of a.text) a.vertices.now a.n c.requires.0.indexed a.q _ (rw c.in-Some.is at c.loop-next.invariant) in
    let r = c.requires.0.rows in
    omega arith

pub same_kmer-requires : goal.same_kmer-requires
same_kmer-requires c =
    let a = c.args in
    let z = walk-in (text_of a.text) a.vertices.now a.n c.requires.0.indexed a.q _ (rw c.in-Some.is at c.loop-next.invariant) in
    (rw c.kmer_place-p.ensures (c.requires.0.fits c.in-Some.v z), c.requires.0.inside)

pub returns-then-same_kmer : goal.returns-then-same_kmer
returns-then-same_kmer c =
    let a = c.args in
    let u = rw c.in-Some.is at c.loop-next.invariant in (
      walk-found (text_of a.text) a.vertices.now a.n c.requires.0.indexed a.q _ u (rw (← c.kmer_place-p.ensures) (sym c.same_kmer.ensures ∙ c.if-same_kmer.true)),
      walk-in (text_of a.text) a.vertices.now a.n c.requires.0.indexed a.q _ u,
    )

pub loop-next-preserved : goal.loop-next-preserved
loop-next-preserved c =
    let a = c.args in
    let u = rw c.in-Some.is at c.loop-next.invariant in
    rw (← slot-is _ _ c.checked_sub-next-in-Some.ensures)
    (walk-on (text_of a.text) a.vertices.now a.n c.requires.0.indexed a.q _ u (rw (← c.kmer_place-p.ensures) (sym c.same_kmer.ensures ∙ c.if-same_kmer.false)))

pub returns : goal.returns
returns c = let a = c.args in walk_none (text_of a.text) a.vertices.now a.n c.requires.0.indexed a.q (rw c.in_default.is at c.loop-next.invariant)
