-- `fork_offers::walk_tree` meets its contract.
use Rattle.fork_offers.specs.Walks.{walked_none, walked-slot, walked-bare, walked-there}
use Rattle.fork_offers.proofs.walk_tree.Goals as goal

pub returns-in_err-c : goal.returns-in_err-c
returns-in_err-c c = rw c.from_residual.ensures (walked_none _ _ _ _ c.requires _ c.first_child.ensures _ c.in_err-c.ensures)

pub first_child-requires-2 : goal.first_child-requires-2
first_child-requires-2 c = walked-slot _ _ _ _ c.requires _ c.first_child.ensures _ _ c.in_ok-c.ensures

pub returns-then-is_none : goal.returns-then-is_none
returns-then-is_none c = walked-bare _ _ _ _ c.requires _ c.first_child.ensures _ _ c.in_ok-c.ensures _ c.first_child-2.ensures c.if-is_none.ensures

pub returns : goal.returns
returns c = walked-there _ _ _ _ c.requires _ c.first_child.ensures _ _ c.in_ok-c.ensures _ c.first_child-2.ensures c.if-is_none.ensures
