use Rattle.std.proofs.Common.{◌-◌}
use Rattle.path_heap.specs.First.{Known, leads}
use Rattle.laws.specs.Heaps.{Sunk}
use Rattle.path_heap.proofs.sink_hole.Given as goal

abbrev pub invariant-loop-i : goal.invariant-loop-i
invariant-loop-i l = Sunk (leads l.scores) (Known l.scores) l.initial.queue l.m l.queue l.i

abbrev pub decreases-loop-i : goal.decreases-loop-i
decreases-loop-i l = l.m - l.i
