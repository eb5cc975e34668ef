use Rattle.path_list.specs.Ranks.{lists_of, above_at, Ranked}
use Rattle.path_list.proofs.order.rank_paths.Given as goal

abbrev pub invariant-loop-x : goal.invariant-loop-x
invariant-loop-x l = Ranked (above_at (lists_of l.lists)) l.lists.count l.x l.rank
