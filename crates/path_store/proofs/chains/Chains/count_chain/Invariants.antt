use Rattle.std.proofs.Common.{◌-◌}
use Rattle.path_store.specs.Steps.{Counting}
use Rattle.path_store.proofs.chains.Chains.count_chain.Given as goal

abbrev pub invariant-loop : goal.invariant-loop
invariant-loop l = Counting l.self.index.now l.self.targets.now l.start l.c l.v l.u (l.c - l.counter) l.n
