use Rattle.paths_text.specs.Entries.{Decoding}
use Rattle.paths_text.proofs.column.read_column.Given as goal

abbrev pub invariant-loop-i : goal.invariant-loop-i
invariant-loop-i l = Decoding l.bytes l.initial.column l.column l.i
