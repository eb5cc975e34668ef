use Rattle.kbest_haplotype.specs.Columns.{Climbing}
use Rattle.kbest_haplotype.proofs.column_climbs.Given as goal

abbrev pub invariant-loop-place : goal.invariant-loop-place
invariant-loop-place l = Climbing l.column l.last l.place
