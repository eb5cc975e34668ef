use Rattle.std.proofs.Common.{◌-◌}
use Rattle.path_store.specs.Steps.{Writing}
use Rattle.path_store.proofs.chains.Chains.write_chain.Given as goal

abbrev pub invariant-loop-place : goal.invariant-loop-place
invariant-loop-place l = Writing l.self.index.now l.self.targets.now l.initial.place-items 0 l.start l.c l.place-items l.place-index l.u (l.c - l.place-index)
