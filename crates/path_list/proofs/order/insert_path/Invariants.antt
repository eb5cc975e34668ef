use Rattle.path_list.specs.Ranks.{lists_of, above_at, Inserting}
use Rattle.path_list.proofs.order.insert_path.Given as goal

abbrev pub invariant-loop-j : goal.invariant-loop-j
invariant-loop-j l = Inserting (above_at (lists_of l.lists)) l.lists.count l.x l.initial.rank l.rank l.j
