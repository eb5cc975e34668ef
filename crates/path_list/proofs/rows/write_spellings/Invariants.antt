use Rattle.std.proofs.Common.{◌+◌}
use Rattle.path_list.specs.Laid.{Laid}
use Rattle.path_list.specs.Ranks.{lists_of}
use Rattle.path_list.specs.Rows.{bases_at}
use Rattle.path_list.proofs.rows.write_spellings.Given as goal

abbrev pub invariant-loop-r : goal.invariant-loop-r
invariant-loop-r l = Laid (l.lists.k + l.lists.most) (bases_at (lists_of l.lists) l.rank) l.initial.out l.r l.out
