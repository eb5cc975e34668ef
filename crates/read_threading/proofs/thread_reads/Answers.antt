use Rattle.std.proofs.Common.{refl, ◌∙◌}
use Rattle.kmer_threading.specs.Indexes.{keeps-stop, keeps-next}
use Rattle.read_threading.specs.Reads.{reads_end, reads-read, reads-next, reads-stop}
use Rattle.read_threading.proofs.thread_reads.Goals as goal

pub thread_read-r-requires : goal.thread_read-r-requires
thread_read-r-requires c = (reads-read c.requires.0 c.args.d.now.sample.quality c.loop-j.invariant.0 c.loop-j-test.true _ refl, c.loop-j.invariant.1)

pub returns-in_default : goal.returns-in_default
returns-in_default c = (
  reads-stop c.requires.0 c.args.d.now.sample.quality c.loop-j.invariant.0 c.loop-j-test.true _ refl _ _ _ _ _ c.thread_read-r.ensures.0 c.in_default.is,
  keeps-stop _ _ _ _ _ _ _ c.in_default.is,
)

pub loop-j-preserved : goal.loop-j-preserved
loop-j-preserved c = (
  reads-next c.requires.0 c.args.d.now.sample.quality c.loop-j.invariant.0 c.loop-j-test.true _ refl _ _ _ _ c.thread_read-r.ensures.0 c.in-Ok.is c.thread_read-r.auto.vertices c.thread_read-r.auto.edges,
  keeps-next _ _ _ _ _ _ _ c.thread_read-r.ensures.1 c.in-Ok.is,
  c.thread_read-r.auto.index ∙ c.loop-j.invariant.2,
)

pub returns : goal.returns
returns c = (reads_end c.requires.0 c.args.d.now.sample.quality c.loop-j.invariant.0 c.loop-j-test.false, c.loop-j.invariant.1)
