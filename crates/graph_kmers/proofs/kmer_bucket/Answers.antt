-- `kmer_bucket` meets its contract: after j turns the hash is that of the first j bytes. Assumes nothing.
use Rattle.std.proofs.Common.{◌≡◌, ℕ, ◌%◌, ap, ◌∙◌, arith}
use Rattle.samples.specs.Handed.{text_of}
use Rattle.assembly.specs.Kmers.{part}
use Rattle.graph_kmers.specs.Index.{hash_up, hash-0, hash-next, bucket_of}
use Rattle.graph_kmers.proofs.kmer_bucket.Goals as goal

pub loop-j-init : goal.loop-j-init
loop-j-init c = (omega arith, hash-0 _)

pub loop-j-preserved : goal.loop-j-preserved
loop-j-preserved c = let a = c.args in (omega arith, hash-next a.k (text_of a.text) a.q c.loop-j.j c.loop-j.h c.from-b.result c.loop-j-test.true c.loop-j.invariant.1 (c.from-b.ensures ∙ c.byte_at.ensures))

pub returns : goal.returns
unfolding bucket_of
returns c = let a = c.args in let l : c.loop-j.j ≡ a.k = (let t = c.loop-j-test.false in let u = c.loop-j.auto.j-end in omega arith) in ap (λ (j : ℕ). j % a.size) c.loop-j.invariant.1 ∙ ap (λ (j : ℕ). hash_up (part a.k (text_of a.text) a.q) j % a.size) l
