-- `path_closing::close_at_sink` meets its contract. Each return is a case of the definition's `close_at`.
use Rattle.path_closing.specs.Closes.{closed-away, closes-marks, closed-refused, closed-table, closed_on}
use Rattle.path_closing.proofs.close_at_sink.Goals as goal

pub returns-then-taken-g : goal.returns-then-taken-g
returns-then-taken-g c = closed-away _ _ _ _ _ _ _ _ _ _ _ c.if-taken-g.true

pub returns-in_default : goal.returns-in_default
returns-in_default c = rw c.in_default.is (closed-refused _ _ _ _ _ _ _ _ _ _ _ c.if-taken-g.false _ _ _ _ c.in_default.ensures)

pub cross_off-requires : goal.cross_off-requires
cross_off-requires c = (closed-table _ _ _ _ _ _ _ _ _ _ _ c.if-taken-g.false _ _ _ _ c.in-Ok.ensures c.requires, closes-marks _ _ _ _ _ _ _ _ _ _ _ c.requires)

pub returns : goal.returns
returns c = closed_on _ _ _ _ _ _ _ _ _ _ _ c.if-taken-g.false _ _ _ _ c.in-Ok.ensures _ c.cross_off.ensures
