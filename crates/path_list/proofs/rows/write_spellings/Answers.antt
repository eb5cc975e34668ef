use Rattle.std.proofs.Common.{arith}
use Rattle.path_list.specs.Laid.{laid-start}
use Rattle.path_list.specs.Rows.{bases-asks, bases-next}
use Rattle.path_list.proofs.rows.write_spellings.Goals as goal

pub loop-r-init : goal.loop-r-init
loop-r-init c = laid-start _ _ _

pub path_bases-requires : goal.path_bases-requires
path_bases-requires c = bases-asks _ _ c.requires.1 _ c.requires.0 _ c.loop-r-test.true _ _ (rw c.from.ensures at c.walk-walk.ensures) (omega (arith, c.requires.2, c.loop-r.invariant.size))

pub loop-r-preserved : goal.loop-r-preserved
loop-r-preserved c = bases-next _ _ c.requires.1 _ c.requires.0 _ c.loop-r-test.true _ _ _ _ (rw c.from.ensures at c.walk-walk.ensures) c.requires.2 c.loop-r.invariant c.path_bases.ensures
