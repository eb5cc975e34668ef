use Rattle.paths_text.specs.Moves.{Moving}
use Rattle.paths_text.proofs.gather.move_bytes.Given as goal

abbrev pub invariant-loop-i : goal.invariant-loop-i
invariant-loop-i l = Moving l.initial.text l.text l.from l.to l.dest l.less l.i
