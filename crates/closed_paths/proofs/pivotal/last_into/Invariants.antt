use Rattle.closed_paths.specs.Split.{Latest}
use Rattle.closed_paths.proofs.pivotal.last_into.Given as goal

abbrev pub invariant-loop-e : goal.invariant-loop-e
invariant-loop-e l = Latest l.targets l.v l.walk l.e-index l.last
