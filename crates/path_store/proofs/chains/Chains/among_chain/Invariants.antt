use Rattle.std.proofs.Common.{◌-◌}
use Rattle.path_store.specs.Steps.{Among}
use Rattle.path_store.proofs.chains.Chains.among_chain.Given as goal

abbrev pub invariant-loop : goal.invariant-loop
invariant-loop l = Among l.self.index.now l.self.targets.now l.v l.n l.e l.u (l.n - l.counter)
