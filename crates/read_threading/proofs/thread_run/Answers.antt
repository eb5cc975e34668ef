use Rattle.read_threading.specs.Reads.{run-threads, run-skip, run-done}
use Rattle.read_threading.proofs.thread_run.Goals as goal

pub returns-then-len-k : goal.returns-then-len-k
returns-then-len-k c = (run-skip c.requires.0 c.args.origin.sequence c.if-len-k.true, c.requires.1)

pub thread_sequence-requires : goal.thread_sequence-requires
thread_sequence-requires c = (run-threads c.requires.0 c.if-len-k.false, c.requires.1)

pub returns : goal.returns
returns c = (run-done c.requires.0 c.args.origin.sequence c.if-len-k.false c.thread_sequence.new.vertices c.thread_sequence.new.edges c.thread_sequence.result c.thread_sequence.ensures.0, c.thread_sequence.ensures.1)
