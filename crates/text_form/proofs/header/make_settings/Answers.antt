-- `make_settings` meets its contract. Assumes nothing.
use Rattle.std.proofs.Common.{w32}
use Rattle.std.proofs.lemmas.Int.{to_z-of_z}
use Rattle.text_form.specs.Headers.{quality-bad, recovery-bad, settings-good}
use Rattle.text_form.proofs.header.make_settings.Goals as goal

pub returns-in_err-quality : goal.returns-in_err-quality
returns-in_err-quality c =
    rw c.from_residual.ensures (
    quality-bad c.args.k c.args.q c.args.n c.args.t c.args.r (rw (to_z-of_z w32 c.args.q c.ranges.q) at c.in_err-quality.ensures)
    )

pub returns-in_err-recovery : goal.returns-in_err-recovery
returns-in_err-recovery c =
    rw c.from_residual-in_err-recovery.ensures (
    recovery-bad c.args.k c.args.q c.args.n c.args.t c.args.r _ (rw (to_z-of_z w32 c.args.q c.ranges.q) at c.in_ok-quality.ensures) (rw (to_z-of_z w32 c.args.r c.ranges.r) at c.in_err-recovery.ensures)
    )

pub returns : goal.returns
returns c =
    rw (to_z-of_z w32 c.args.t c.ranges.t) (
    settings-good c.args.k c.args.q c.args.n c.args.t c.args.r _ (rw (to_z-of_z w32 c.args.q c.ranges.q) at c.in_ok-quality.ensures)
    _ (rw (to_z-of_z w32 c.args.r c.ranges.r) at c.in_ok-recovery.ensures)
    _ _ (rw (to_z-of_z w32 c.args.k c.ranges.k) at c.size_of.ensures) (rw (to_z-of_z w32 c.args.n c.ranges.n) at c.asked_of.ensures)
    )
