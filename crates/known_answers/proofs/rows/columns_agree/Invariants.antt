use Rattle.std.proofs.Common.{◌+◌, ◌≤◌, length}
use Rattle.known_answers.proofs.rows.columns_agree.Given as goal

abbrev pub invariant-loop-told : goal.invariant-loop-told
invariant-loop-told l = l.row + length l.told-iterator.0.now ≤ length l.rows
