use Rattle.std.proofs.Common.{length}
use Rattle.path_store.specs.Steps.{Plainly}
use Rattle.path_store.proofs.chains.Chains.chain_plain.Given as goal

abbrev pub invariant-loop-steps : goal.invariant-loop-steps
invariant-loop-steps l = Plainly l.self.index.now l.self.targets.now l.v (length l.self.targets.now) l.u l.steps
