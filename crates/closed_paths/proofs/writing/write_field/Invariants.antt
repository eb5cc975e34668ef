use Rattle.laws.specs.Records.{field}
use Rattle.closed_paths.specs.Writing.{Copying}
use Rattle.closed_paths.proofs.writing.write_field.Given as goal

abbrev pub invariant-loop-i : goal.invariant-loop-i
invariant-loop-i l = Copying (λ e. field l.table l.width e l.j) l.walk l.initial.out l.from l.out l.i
