use Rattle.std.proofs.Common.{◌≡◌}
use Rattle.path_rows.specs.Rows.{written}
use Rattle.path_rows.proofs.write_rows.Given as goal

abbrev pub invariant-loop-i : goal.invariant-loop-i
invariant-loop-i l = l.rows ≡ written l.scores l.closings l.edges l.i l.initial.rows
