use Rattle.std.proofs.Common.{◌≡◌, ◌+◌, ◌-◌, arith}
use Rattle.path_store.specs.Walk.{runs-now}
use Rattle.path_store.specs.Steps.{walking-next, walking-end}
use Rattle.path_store.proofs.chains.Chains.walk.Goals as goal

pub next-u-requires : goal.next-u-requires
next-u-requires c = (c.requires.0, c.loop.invariant.fits, runs-now _ _ _ _ (omega arith) c.loop.invariant.runs)

pub loop-preserved : goal.loop-preserved
loop-preserved c =
    let e : c.args.c - (c.loop.counter + 1) ≡ c.args.c - c.loop.counter - 1 = omega arith in
    rw (e, c.next-u.ensures) (walking-next _ _ _ _ _ _ c.loop.invariant c.requires.0 (omega arith))

pub returns : goal.returns
returns c = walking-end _ _ _ _ _ _ c.loop.invariant (omega arith)
