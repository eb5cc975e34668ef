use Rattle.threading_tree.specs.Read.{readable-rowed, child-told}
use Rattle.threading_tree.proofs.Trees.child_slot.Goals as goal

pub find_child-requires : goal.find_child-requires
find_child-requires c = readable-rowed _ _ _ _ c.requires

pub returns : goal.returns
returns c = rw c.ok.ensures.value (child-told _ _ _ _ c.requires _ _ c.find_child.ensures)
