-- `path_closing::close_taken` meets its contract, by what has_stopping_evidence and close_path say.
use Rattle.path_closing.specs.ClosesTaken.{taken-over, taken_made}
use Rattle.path_closing.proofs.close_taken.Goals as goal

pub returns-in_default : goal.returns-in_default
returns-in_default c = taken-over _ _ _ _ _ _ _ _ _ c.at-count.ensures c.if-not-has_stopping_evidence.ensures _ _ _ (rw c.unwrap_err.ensures at c.close_path-r.ensures)

pub returns : goal.returns
returns c = taken_made _ _ _ _ _ _ _ _ _ c.at-count.ensures c.if-not-has_stopping_evidence.ensures _ _ _ c.in-Ok.ensures
