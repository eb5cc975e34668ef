use Rattle.std.proofs.Common.{le-leb}
use Rattle.std.proofs.lemmas.Bool.{lt-leb}
use Rattle.usable_stretches.specs.Usable.{usable-fine, usable-poor}
use Rattle.usable_stretches.proofs.is_usable.Goals as goal

pub returns-then-quality-q : goal.returns-then-quality-q
returns-then-quality-q c = let a = c.args in usable-fine a.quality a.b a.q _ c.is_base.ensures (le-leb _ _ c.if-quality-q.true)

pub returns-else-quality-q : goal.returns-else-quality-q
returns-else-quality-q c = let a = c.args in usable-poor a.quality a.b a.q (lt-leb _ _ c.if-quality-q.false)
