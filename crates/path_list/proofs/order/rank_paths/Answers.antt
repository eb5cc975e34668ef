use Rattle.std.proofs.Common.{refl, arith}
use Rattle.path_list.specs.Ranks.{ranked-start, ranked-asks, ranked-next}
use Rattle.path_list.proofs.order.rank_paths.Goals as goal

pub loop-x-init : goal.loop-x-init
loop-x-init c = ranked-start _ _ _ c.requires.1

pub insert_path-requires : goal.insert_path-requires
insert_path-requires c = (c.requires.0, ranked-asks _ _ _ _ c.loop-x.invariant _ (omega arith) c.requires.0.few (omega arith) refl)

pub loop-x-preserved : goal.loop-x-preserved
loop-x-preserved c = ranked-next _ _ _ _ c.loop-x.invariant _ _ (omega arith) refl c.insert_path.ensures
