use Rattle.std.proofs.Common.{length}
use Rattle.graph_kmers.specs.Paths.{end_base}
use Rattle.samples.specs.Handed.{text_of}
use Rattle.path_list.specs.Tails.{Comparing}
use Rattle.path_list.proofs.lists.Lists.greater_bases.Given as goal

abbrev pub invariant-loop-d : goal.invariant-loop-d
invariant-loop-d l = Comparing (end_base l.self.k (text_of l.self.text) l.self.vertices.now l.self.edges.now) l.a l.b (length l.yielded)
