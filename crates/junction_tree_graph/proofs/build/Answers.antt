use Rattle.kmer_threading.specs.Indexes.{index-start, keeps-stop}
use Rattle.junction_tree_graph.specs.Built.{begin-threads, begin-stop, begin-done}
use Rattle.junction_tree_graph.proofs.build.Goals as goal

pub thread_sequence-r-requires : goal.thread_sequence-r-requires
thread_sequence-r-requires c = (begin-threads c.requires.0, index-start _ _ _ _ _ c.requires.1)

pub returns-in_default : goal.returns-in_default
returns-in_default c = (begin-stop c.requires.0 c.thread_sequence-r.new.vertices c.thread_sequence-r.new.edges _ _ _ _ c.thread_sequence-r.ensures.0 c.in_default.is, keeps-stop _ _ _ _ _ _ _ c.in_default.is)

pub returns : goal.returns
returns c = (begin-done c.requires.0 c.thread_sequence-r.new.vertices c.thread_sequence-r.new.edges _ _ c.thread_sequence-r.ensures.0 c.in-Ok.is c.thread_reads.new.vertices c.thread_reads.new.edges c.thread_reads.result c.thread_reads.ensures.0, c.thread_reads.ensures.1)
