use Rattle.std.proofs.Common.{sym, ◌∙◌, arith}
use Rattle.path_store.specs.Steps.{plain-start, plain-next}
use Rattle.path_store.proofs.chains.Chains.chain_plain.Goals as goal

pub loop-steps-init : goal.loop-steps-init
loop-steps-init c = plain-start _ _ _ _ c.requires.1

pub loop-steps-preserved : goal.loop-steps-preserved
loop-steps-preserved c = plain-next _ _ _ _ _ _ c.loop-steps.invariant _ c.requires.0 (omega arith) (sym c.onward.ensures ∙ c.in-Some.is)
