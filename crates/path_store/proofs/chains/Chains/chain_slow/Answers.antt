use Rattle.std.proofs.Common.{◌≡◌, length, sym, ◌∙◌, arith}
use Rattle.path_store.specs.Cells.{numbered-none}
use Rattle.path_store.specs.Steps.{slow-start, slow-stop, slow-had, slow-next, slow-end}
use Rattle.path_store.proofs.chains.Chains.chain_slow.Goals as goal

pub loop-i-init : goal.loop-i-init
loop-i-init c = slow-start _ _ _ c.requires.1

pub returns-in_default : goal.returns-in_default
returns-in_default c = slow-stop _ _ _ _ _ c.loop-i.invariant (numbered-none _ (sym c.onward.ensures ∙ c.in_default.is))

pub returns-then-among_chain : goal.returns-then-among_chain
returns-then-among_chain c = slow-had _ _ _ _ _ c.loop-i.invariant _ (sym c.onward.ensures ∙ c.in-Some.is) (sym c.among_chain.ensures ∙ c.if-among_chain.true)

pub loop-i-preserved : goal.loop-i-preserved
loop-i-preserved c =
    slow-next _ _ _ _ _ c.loop-i.invariant _ c.requires.0 (omega arith) (sym c.onward.ensures ∙ c.in-Some.is) (sym c.among_chain.ensures ∙ c.if-among_chain.false)

pub returns : goal.returns
returns c =
    let e : length c.args.self.targets.now ≡ c.loop-i.i = omega arith in
    rw e (slow-end _ _ _ _ _ c.loop-i.invariant (omega arith))
