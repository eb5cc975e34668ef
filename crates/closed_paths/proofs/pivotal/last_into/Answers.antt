use Rattle.closed_paths.specs.Split.{latest-hit, latest-miss}
use Rattle.closed_paths.proofs.pivotal.last_into.Goals.{then-targets-e, else-targets-e}
use Rattle.closed_paths.proofs.pivotal.last_into.Goals as goal

pub loop-e-preserved : goal.loop-e-preserved
loop-e-preserved c =
    elim c.if-targets-e.branch [
      | then-targets-e w ↦ rw w.last-is (latest-hit _ _ _ _ _ c.loop-e.invariant c.loop-e-test.true w.if-targets-e.true)
      | else-targets-e w ↦ rw w.last-is (latest-miss _ _ _ _ _ c.loop-e.invariant c.loop-e-test.true w.if-targets-e.false)
    ]
