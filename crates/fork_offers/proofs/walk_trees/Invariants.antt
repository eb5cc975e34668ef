use Rattle.std.proofs.Common.{◌+◌}
use Rattle.threading_node.specs.Ends.{ends_of}
use Rattle.fork_offers.specs.Walks.{Walking}
use Rattle.fork_offers.proofs.walk_trees.Given as goal

abbrev pub invariant-loop-i : goal.invariant-loop-i
invariant-loop-i l = Walking l.trees.cap l.trees.count l.trees.nodes.now l.initial.active l.active l.at (l.at + l.count) l.to (ends_of l.edge) l.i l.j
