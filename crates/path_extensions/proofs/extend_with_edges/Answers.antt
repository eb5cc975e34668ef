-- `path_extensions::extend_with_edges` meets its contract.
use Rattle.path_extensions.specs.One.{lengthen-walks, lengthen-refused, made-low, lengthen-made}
use Rattle.std.proofs.Common.{arith}
use Rattle.path_extensions.proofs.extend_with_edges.Goals as goal

pub walk_trees-left-requires : goal.walk_trees-left-requires
walk_trees-left-requires c = lengthen-walks c.requires c.at-parent.ensures

pub returns-in_default : goal.returns-in_default
returns-in_default c = lengthen-refused c.requires c.at-parent.ensures c.edge_ends-edge.ensures c.walk_trees-left.ensures c.walk_trees-left.auto.active c.decisions_since.ensures c.extend_path-made.ensures c.in_default.is

pub overflow_add-result : goal.overflow_add-result
overflow_add-result c = let h = made-low c.requires c.at-parent.ensures c.edge_ends-edge.ensures c.walk_trees-left.ensures c.walk_trees-left.auto.active c.decisions_since.ensures c.extend_path-made.ensures c.in-Ok.is in omega arith

pub returns : goal.returns
returns c = lengthen-made c.requires c.at-parent.ensures c.edge_ends-edge.ensures c.walk_trees-left.ensures c.walk_trees-left.auto.active c.decisions_since.ensures c.extend_path-made.ensures c.in-Ok.is
