use Rattle.std.proofs.Common.{arith}
use Rattle.path_list.specs.Laid.{laid-start}
use Rattle.path_list.specs.Rows.{filed-asks, filed-next}
use Rattle.path_list.proofs.rows.write_origins.Goals as goal

pub loop-r-init : goal.loop-r-init
loop-r-init c = laid-start _ _ _

pub write_field-requires : goal.write_field-requires
write_field-requires c = filed-asks _ _ _ _ _ _ _ c.requires.1 _ c.requires.0 _ c.loop-r-test.true _ _ _ (rw c.from.ensures at c.walk-walk.ensures) c.requires.2 (omega (arith, c.requires.3, c.loop-r.invariant.size))

pub loop-r-preserved : goal.loop-r-preserved
loop-r-preserved c = filed-next _ _ _ _ _ _ _ c.requires.1 _ c.requires.0 _ c.loop-r-test.true _ _ _ _ _ (rw c.from.ensures at c.walk-walk.ensures) c.requires.3 c.loop-r.invariant c.write_field.ensures
