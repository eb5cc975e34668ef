-- `path_closing::add_junction_tree` meets its contract. Each return is a case of the definition's `join_tree`.
use Rattle.std.proofs.Common.{refl, arith}
use Rattle.path_closing.specs.Joins.{joins-rootable, joins-table, joins-inside, joins-vertex, joins-active, added_none, added-had, added-over, added-place, added-small, added-made}
use Rattle.path_closing.proofs.add_junction_tree.Goals as goal

pub joining_slot-requires : goal.joining_slot-requires
joining_slot-requires c = joins-rootable _ _ _ _ _ _ _ _ _ c.requires

pub returns-in_default : goal.returns-in_default
returns-in_default c = added_none _ _ _ _ _ _ _ _ _ _ c.in_default.ensures

pub has_visited-requires : goal.has_visited-requires
has_visited-requires c = (joins-table _ _ _ _ _ _ _ _ _ c.requires, joins-vertex _ _ _ _ _ _ _ _ _ c.requires)

pub returns-then-has_visited : goal.returns-then-has_visited
returns-then-has_visited c = added-had _ _ _ _ _ _ _ _ _ _ c.in-Some.ensures _ c.has_visited.ensures _ c.if-has_visited.true

pub join_tree-r-requires : goal.join_tree-r-requires
join_tree-r-requires c = (joins-inside _ _ _ _ _ _ _ _ _ c.requires, joins-vertex _ _ _ _ _ _ _ _ _ c.requires, omega (arith, joins-active _ _ _ _ _ _ _ _ _ c.requires))

pub returns-in_default-r : goal.returns-in_default-r
returns-in_default-r c = rw c.in_default-r.is (added-over _ _ _ _ _ _ _ _ _ _ c.in-Some.ensures _ c.has_visited.ensures c.if-has_visited.false _ refl _ _ _ c.in_default-r.ensures)

pub store_tree-requires : goal.store_tree-requires
store_tree-requires c = (added-place _ _ _ _ _ _ _ _ _ _ c.in-Some.ensures _ c.has_visited.ensures c.if-has_visited.false _ refl _ _ _ c.in-Ok.ensures _ c.at-row.ensures c.requires, added-small _ _ _ _ _ _ _ _ _ _ c.in-Some.ensures _ c.has_visited.ensures c.if-has_visited.false _ refl _ _ _ c.in-Ok.ensures _ c.at-row.ensures c.requires)

pub returns : goal.returns
returns c = added-made _ _ _ _ _ _ _ _ _ _ c.in-Some.ensures _ c.has_visited.ensures c.if-has_visited.false _ refl _ _ _ c.in-Ok.ensures _ c.at-row.ensures _ _ c.store_tree.ensures
