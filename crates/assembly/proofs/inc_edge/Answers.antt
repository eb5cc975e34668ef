use Rattle.std.proofs.Common.{eq-eqb, ne_eqb}
use Rattle.assembly.specs.Moves.{gained}
use Rattle.assembly.proofs.inc_edge.Goals as goal

pub returns-then-mark-ne0 : goal.returns-then-mark-ne0
unfolding gained
returns-then-mark-ne0 c = rw (ne_eqb _ _ c.if-mark-ne0.true)

pub returns-else-mark-ne0 : goal.returns-else-mark-ne0
unfolding gained
returns-else-mark-ne0 c = rw (eq-eqb _ _ c.if-mark-ne0.false)
