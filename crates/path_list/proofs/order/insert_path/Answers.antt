use Rattle.std.proofs.Common.{refl, arith}
use Rattle.path_list.specs.Ranks.{inserting-start, inserting-end, inserting-here, inserting-next, next_known, low-as}
use Rattle.path_list.proofs.order.insert_path.Goals as goal

pub loop-j-init : goal.loop-j-init
loop-j-init c = inserting-start _ _ _ _ c.requires.1

pub stands_above-requires : goal.stands_above-requires
stands_above-requires c = (c.requires.0, low-as c.from.ensures (next_known _ _ _ _ _ _ c.loop-j.invariant c.loop-j-test.true), c.requires.1.low)

pub returns-then-not-stands_above : goal.returns-then-not-stands_above
returns-then-not-stands_above c = inserting-here _ _ _ _ _ _ c.loop-j.invariant c.loop-j-test.true _ c.from.ensures (cc)

pub loop-j-preserved : goal.loop-j-preserved
loop-j-preserved c = inserting-next _ _ _ _ _ _ c.loop-j.invariant c.loop-j-test.true _ refl (cc)

pub returns : goal.returns
returns c = inserting-end _ _ _ _ _ _ c.loop-j.invariant (omega arith)
