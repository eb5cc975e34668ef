use Rattle.std.proofs.Common.{ap}
use Rattle.path_store.specs.declared.records.PathRecord.{PathRecord}
use Rattle.path_queue.specs.Recover.{split-asks, split-is}
use Rattle.path_queue.proofs.split_at.Goals as goal

pub split_place-requires : goal.split_place-requires
split_place-requires c = split-asks c.requires _ _ (ap (λ (x : PathRecord). x.edges) c.at-n.ensures) c.write_path.ensures

pub returns : goal.returns
returns c = split-is c.requires _ _ (ap (λ (x : PathRecord). x.edges) c.at-n.ensures) c.write_path.ensures _ _ c.split_place.ensures
