use Rattle.std.proofs.Common.{refl}
use Rattle.path_list.specs.Laid.{laid-start}
use Rattle.path_list.specs.Walked.{walked_next}
use Rattle.path_list.proofs.walks.write_walks.Goals as goal

pub loop-i-init : goal.loop-i-init
loop-i-init c = laid-start _ _ _

pub loop-i-preserved : goal.loop-i-preserved
loop-i-preserved c = walked_next _ _ _ _ _ _ _ _ c.requires _ _ _ _ c.loop-i-test.true refl c.loop-i.invariant c.write_path.ensures
