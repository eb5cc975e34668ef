use Rattle.std.proofs.Common.{◌≡◌, ◌+◌, ◌-◌, sym, ◌∙◌, arith}
use Rattle.path_store.specs.Walk.{runs-now}
use Rattle.path_store.specs.Steps.{among-hit, among_next, among-end}
use Rattle.path_store.proofs.chains.Chains.among_chain.Goals as goal

pub sole-requires : goal.sole-requires
sole-requires c = (c.loop.invariant.fits, runs-now _ _ _ _ (omega arith) c.loop.invariant.runs)

pub returns-then-e-sole : goal.returns-then-e-sole
returns-then-e-sole c = among-hit _ _ _ _ _ _ _ c.loop.invariant (omega arith) (c.if-e-sole.true ∙ c.sole.ensures)

pub next-u-requires : goal.next-u-requires
next-u-requires c = (c.requires.0, c.loop.invariant.fits, runs-now _ _ _ _ (omega arith) c.loop.invariant.runs)

pub loop-preserved : goal.loop-preserved
loop-preserved c =
    let e : c.args.n - (c.loop.counter + 1) ≡ c.args.n - c.loop.counter - 1 = omega arith in
    rw (e, c.next-u.ensures) (among_next _ _ _ _ _ _ _ c.loop.invariant c.requires.0 (omega arith) (λ z. c.if-e-sole.false (z ∙ sym c.sole.ensures)))

pub returns : goal.returns
returns c = among-end _ _ _ _ _ _ _ c.loop.invariant (omega arith)
