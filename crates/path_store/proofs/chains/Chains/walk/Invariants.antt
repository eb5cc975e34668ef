use Rattle.std.proofs.Common.{◌-◌}
use Rattle.path_store.specs.Steps.{Walking}
use Rattle.path_store.proofs.chains.Chains.walk.Given as goal

abbrev pub invariant-loop : goal.invariant-loop
invariant-loop l = Walking l.self.index.now l.self.targets.now l.v l.c l.u (l.c - l.counter)
