use Rattle.junction_trees.specs.Roots.{Cleared}
use Rattle.junction_trees.proofs.clear_roots.Given as goal

abbrev pub invariant-loop-v : goal.invariant-loop-v
invariant-loop-v l = Cleared l.initial.vertices l.n l.vertices l.v
