use Rattle.path_list.specs.Laid.{Laid}
use Rattle.path_list.specs.Rows.{fields_at}
use Rattle.path_list.proofs.rows.write_origins.Given as goal

abbrev pub invariant-loop-r : goal.invariant-loop-r
invariant-loop-r l = Laid l.lists.most (fields_at l.lists.edges.now l.lists.paths.records.now l.lists.closed.now l.lists.walks.now l.lists.most l.field l.rank) l.initial.out l.r l.out
