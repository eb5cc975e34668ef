use Rattle.std.proofs.Common.{◌≤◌, length}
use Rattle.known_answers.proofs.rows.runs_agree.Given as goal

abbrev pub invariant-loop-run : goal.invariant-loop-run
invariant-loop-run l = (l.from ≤ length l.sequences) × (l.from ≤ length l.places)
