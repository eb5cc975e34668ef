-- `take_path` meets its contract. Assumes nothing.
use Rattle.std.proofs.Common.{sym, ltb-true, ltb-false}
use Rattle.junction_kbest.specs.Take.{path-dropped, path-extended}
use Rattle.junction_kbest.proofs.take_path.Goals as goal

pub returns-then-is_dropped : goal.returns-then-is_dropped
returns-then-is_dropped c = path-dropped _ _ _ _ _ _ _ _ _ _ _ _ _ _ _ c.at.ensures (ltb-true _ _ (sym c.if-is_dropped.ensures))

pub returns : goal.returns
returns c = path-extended _ _ _ _ _ _ _ _ _ _ _ _ _ _ _ c.at.ensures (ltb-false _ _ (sym c.if-is_dropped.ensures)) _ c.follow_chain-taken.ensures _ _ _ _ _ _ c.extend_taken.ensures
