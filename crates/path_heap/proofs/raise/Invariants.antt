use Rattle.path_heap.specs.First.{Known, leads}
use Rattle.laws.specs.Heaps.{Raising}
use Rattle.path_heap.proofs.raise.Given as goal

abbrev pub invariant-loop-i : goal.invariant-loop-i
invariant-loop-i l = Raising (leads l.scores) (Known l.scores) l.initial.queue l.n l.hole l.path l.queue l.i

abbrev pub decreases-loop-i : goal.decreases-loop-i
decreases-loop-i l = l.i
