use Rattle.junction_trees.specs.Degrees.{Counted}
use Rattle.junction_trees.proofs.out_degree.Given as goal

abbrev pub invariant-loop-c : goal.invariant-loop-c
invariant-loop-c l = Counted l.vertices l.v l.c l.n
