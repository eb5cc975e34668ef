use Rattle.search_state.specs.Settings.{setting_of}
use Rattle.path_extensions.specs.Each.{Trying}
use Rattle.path_extensions.proofs.extend_by_offers.Given as goal

abbrev pub invariant-loop-row : goal.invariant-loop-row
invariant-loop-row l = Trying (setting_of l.g) l.g.graph.edges.now l.g.trees.nodes.now l.g.chains.index.now l.g.chains.targets.now l.g.column.now l.initial.paths l.initial.scores l.initial.active l.offers l.n l.taken l.rows l.paths l.scores l.active l.next l.row
