-- `scan_reads` meets its contract. The invariant: the reads taken, in front of those left, are all reads. Assumes nothing.
use Rattle.std.proofs.Common.{refl}
use Rattle.text_form.specs.Reads.{scan-start, scan-end, scan-stop, scan-next}
use Rattle.text_form.proofs.reads.scan_reads.Goals as goal
use Rattle.text_form.proofs.reads.scan_reads.Goals.{then-even, else-even}

pub loop-at-init : goal.loop-at-init
loop-at-init c = scan-start _ _ c.requires

pub returns-in_err-lines : goal.returns-in_err-lines
returns-in_err-lines c = rw c.from_residual.ensures (scan-stop c.loop-at.invariant c.in_err-lines.ensures)

pub loop-at-preserved : goal.loop-at-preserved
loop-at-preserved c =
    scan-next c.loop-at.invariant _ c.in_ok-lines.ensures _
    (elim c.if-even.branch [ then-even w ↦ rw (w.even-is, w.if-even.true) refl | else-even w ↦ rw (w.even-is, w.if-even.false) refl ])

pub returns : goal.returns
returns c = scan-end c.loop-at.invariant c.loop-at-test.false
