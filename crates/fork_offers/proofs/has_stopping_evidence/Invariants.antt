use Rattle.std.proofs.Common.{◌+◌}
use Rattle.threading_node.specs.Ends.{ends_of}
use Rattle.fork_offers.specs.Stops.{Stopping}
use Rattle.fork_offers.proofs.has_stopping_evidence.Given as goal

abbrev pub invariant-loop-i : goal.invariant-loop-i
invariant-loop-i l = Stopping l.trees.cap l.trees.count l.trees.nodes.now l.active l.at (l.at + l.count) (ends_of l.symbolic) l.least l.i
