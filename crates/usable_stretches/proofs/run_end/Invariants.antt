use Rattle.definition.specs.Stretch.{usable}
use Rattle.usable_stretches.specs.Scan.{Running}
use Rattle.usable_stretches.proofs.run_end.Given as goal

abbrev pub invariant-loop-q : goal.invariant-loop-q
invariant-loop-q l = Running (usable l.quality) l.bases l.qualities l.p l.end l.q
