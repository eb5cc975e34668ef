use Rattle.std.proofs.Common.{◌≡◌, ◌+◌, ◌-◌, ◌∙◌, arith}
use Rattle.path_store.specs.Walk.{bit-is, runs-now}
use Rattle.path_store.specs.Steps.{counting-fits, counting-next, counting-end}
use Rattle.path_store.proofs.chains.Chains.count_chain.Goals as goal

pub next-u-requires : goal.next-u-requires
next-u-requires c = (c.requires.0, c.loop.invariant.fits, runs-now _ _ _ _ (omega arith) c.loop.invariant.runs)

pub overflow_add-n : goal.overflow_add-n
overflow_add-n c =
    omega (arith, counting-fits _ _ _ _ _ _ _ _ (counting-next _ _ _ _ _ _ _ _ c.loop.invariant _ _ c.requires.0 (omega arith) c.next-u.ensures (c.from-n.ensures ∙ bit-is _)))

pub loop-preserved : goal.loop-preserved
loop-preserved c =
    let e : c.args.c - (c.loop.counter + 1) ≡ c.args.c - c.loop.counter - 1 = omega arith in
    rw e (counting-next _ _ _ _ _ _ _ _ c.loop.invariant _ _ c.requires.0 (omega arith) c.next-u.ensures (c.from-n.ensures ∙ bit-is _))

pub returns : goal.returns
returns c = counting-end _ _ _ _ _ _ _ _ c.loop.invariant (omega arith)
