use Rattle.search_ground.specs.Tables.{Filled, IsSole}
use Rattle.search_ground.proofs.fill_index.Given as goal

abbrev pub invariant-loop-v : goal.invariant-loop-v
invariant-loop-v l = Filled (IsSole l.graph.vertices.now l.graph.edges.now l.graph.count l.sink) l.initial.index l.index l.v
