use Rattle.path_queue.specs.Next.{scan-start, scan-hit, scan-next, scan-end, place-known}
use Rattle.path_queue.proofs.next_pivotal.Goals as goal

pub loop-i-init : goal.loop-i-init
loop-i-init c = scan-start _ _ _ _ c.requires.1

pub bounds-marks-e : goal.bounds-marks-e
bounds-marks-e c = place-known c.requires.0 _ c.loop-i-test.true

pub returns-then-marks-e-ne0 : goal.returns-then-marks-e-ne0
returns-then-marks-e-ne0 c = scan-hit c.requires.0 c.loop-i.invariant c.loop-i-test.true c.if-marks-e-ne0.true

pub loop-i-preserved : goal.loop-i-preserved
loop-i-preserved c = scan-next c.requires.0 c.loop-i.invariant c.loop-i-test.true c.if-marks-e-ne0.false

pub returns : goal.returns
returns c = scan-end c.requires.0 c.loop-i.invariant c.loop-i-test.false
