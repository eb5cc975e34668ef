use Rattle.path_store.specs.Steps.{Slowly}
use Rattle.path_store.proofs.chains.Chains.chain_slow.Given as goal

abbrev pub invariant-loop-i : goal.invariant-loop-i
invariant-loop-i l = Slowly l.self.index.now l.self.targets.now l.v l.u l.i
