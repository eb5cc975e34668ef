use Rattle.graph_kmers.specs.Index.{finding-finds}
use Rattle.kmer_threading.specs.Indexes.{fresh-one, index-finding}
use Rattle.junction_tree_graph.specs.Built.{low-v, fits-s, build_begins}
use Rattle.junction_tree_graph.specs.Answers.{answer-stop, answer-asks, answer-found, answer-symbolic, answer-done}
use Rattle.junction_tree_graph.proofs.build_graph.Goals as goal

pub build-r-requires : goal.build-r-requires
build-r-requires c = (build_begins c.requires.0, fresh-one _ _ (low-v c.requires.0) c.requires.1)

pub returns-in_default : goal.returns-in_default
returns-in_default c = (answer-stop c.requires.0 c.build-r.new.vertices c.build-r.new.edges _ c.build-r.ensures.0 _ c.unwrap_err.ensures, tt)

pub overflow_sub-place : goal.overflow_sub-place
overflow_sub-place c = (fits-s c.requires.0).low

pub find_kmer-requires : goal.find_kmer-requires
find_kmer-requires c = finding-finds _ (index-finding _ _ _ _ _ _ _ c.build-r.ensures.1 c.in-Ok.is) (answer-asks c.requires.0 c.build-r.new.vertices c.build-r.new.edges _ c.build-r.ensures.0 _ c.in-Ok.is)

pub unwrap-sink-requires : goal.unwrap-sink-requires
unwrap-sink-requires c = answer-found c.requires.0 c.build-r.new.vertices c.build-r.new.edges _ c.build-r.ensures.0 _ c.in-Ok.is _ c.find_kmer.ensures

pub add_symbolic_edge-requires : goal.add_symbolic_edge-requires
add_symbolic_edge-requires c =
    answer-symbolic c.requires.0 c.build-r.new.vertices c.build-r.new.edges _ c.build-r.ensures.0 _ c.in-Ok.is c.build-r.auto.edges _ (rw c.unwrap-sink.ensures at c.find_kmer.ensures).0

pub returns : goal.returns
returns c = (
  answer-done c.requires.0 c.build-r.new.vertices c.build-r.new.edges _ c.build-r.ensures.0 _ c.in-Ok.is c.build-r.auto.edges _ (rw c.unwrap-sink.ensures at c.find_kmer.ensures).0 _ c.add_symbolic_edge.ensures,
  index-finding _ _ _ _ _ _ _ c.build-r.ensures.1 c.in-Ok.is,
)
