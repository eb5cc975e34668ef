use Rattle.threading_node.specs.Open.{ready, opened-new, root-slot, root-spare, opened-there}
use Rattle.threading_node.proofs.get_and_increment_root.Goals as goal

pub increment_count-requires : goal.increment_count-requires
increment_count-requires c = (root-slot _ _ _ _ _ c.requires _ c.in-Some.is, root-spare _ _ _ _ _ c.requires _ c.in-Some.is)

pub returns-in-Some : goal.returns-in-Some
returns-in-Some c = opened-there _ _ _ _ _ c.requires _ c.in-Some.is _ c.increment_count.ensures

pub add_edge-requires : goal.add_edge-requires
add_edge-requires c = ready _ _ _ _ _ c.requires

pub returns : goal.returns
returns c = opened-new _ _ _ _ _ c.requires _ _ c.add_edge.ensures
