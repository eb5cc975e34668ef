use Rattle.closed_paths.specs.Best.{searching-start, searching-next}
use Rattle.closed_paths.proofs.pivotal.best_through.Goals as goal

pub loop-path-init : goal.loop-path-init
loop-path-init c = searching-start _ _ _ _ _ _ _ c.requires

pub loop-path-preserved : goal.loop-path-preserved
loop-path-preserved c = searching-next _ _ _ _ _ _ _ c.requires _ _ c.loop-path.invariant _ c.loop-path-test.true c.later-best.ensures
