use Rattle.std.proofs.Common.{◌-◌, length}
use Rattle.text_form.specs.Reads.{Scanning}
use Rattle.text_form.proofs.reads.scan_reads.Given as goal

abbrev pub invariant-loop-at : goal.invariant-loop-at
invariant-loop-at l = Scanning l.text l.from l.at l.count l.even

abbrev pub decreases-loop-at : goal.decreases-loop-at
decreases-loop-at l = length l.text - l.at
