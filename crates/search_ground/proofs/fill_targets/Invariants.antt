use Rattle.search_ground.specs.Tables.{Filled, IsTarget}
use Rattle.search_ground.proofs.fill_targets.Given as goal

abbrev pub invariant-loop-e : goal.invariant-loop-e
invariant-loop-e l = Filled (IsTarget l.edges) l.initial.targets l.targets l.e
