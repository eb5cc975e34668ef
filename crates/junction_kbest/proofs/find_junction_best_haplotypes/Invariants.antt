use Rattle.search_state.specs.Settings.{setting_of}
use Rattle.junction_kbest.specs.Loop.{Looping, turns_left}
use Rattle.junction_kbest.proofs.find_junction_best_haplotypes.Given as goal

abbrev pub invariant-loop-paths : goal.invariant-loop-paths
invariant-loop-paths l = Looping (setting_of l.g) l.g.graph.vertices.now l.g.graph.edges.now l.g.trees.nodes.now l.g.chains.index.now l.g.chains.targets.now l.g.column.now l.recovery l.initial.paths l.initial.scores l.initial.active l.initial.queue l.initial.closed l.initial.marks l.initial.walks l.order l.paths l.scores l.active l.queue l.closed l.marks l.walks l.p

abbrev pub decreases-loop-paths : goal.decreases-loop-paths
decreases-loop-paths l = turns_left (setting_of l.g) l.order l.marks l.p
