use Rattle.std.proofs.Common.{ap}
use Rattle.threading_node.specs.Ends.{ends_of}
use Rattle.threading_node.specs.Cells.{place_of, after-linked}
use Rattle.threading_node.specs.Take.{number_fits, node-slot, node-spare, rowed, taken-full, child-slot, child-spare, code_here, new-slot, gap-fits, new-fits, parent-slot, parent-spare, link-slot, sibling-slot, code-gap}
use Rattle.threading_node.proofs.add_edge.Goals as goal

pub first_child-requires : goal.first_child-requires
first_child-requires c = node-slot _ _ _ _ (ends_of c.args.edge) _ c.requires

pub find_child-requires : goal.find_child-requires
find_child-requires c = rowed _ _ _ _ (ends_of c.args.edge) _ _ c.first_child.ensures c.requires

pub increment_count-requires : goal.increment_count-requires
increment_count-requires c = (node-slot _ _ _ _ (ends_of c.args.edge) _ c.requires, node-spare _ _ _ _ (ends_of c.args.edge) _ c.requires)

pub increment_count-requires-in-Ok : goal.increment_count-requires-in-Ok
increment_count-requires-in-Ok c = (
  child-slot _ _ _ _ (ends_of c.args.edge) _ _ c.first_child.ensures _ c.requires c.find_child.ensures _ (ap place_of c.in-Ok.is) _ c.increment_count.ensures,
  child-spare _ _ _ _ (ends_of c.args.edge) _ _ c.first_child.ensures _ c.requires c.find_child.ensures _ (ap place_of c.in-Ok.is) _ c.increment_count.ensures,
)

pub overflow_add-k : goal.overflow_add-k
overflow_add-k c = record { fits = number_fits _ _ _ _ (ends_of c.args.edge) _ c.requires }

pub returns-then-k-cap : goal.returns-then-k-cap
returns-then-k-cap c = taken-full _ _ _ _ (ends_of c.args.edge) _ _ c.first_child.ensures _ c.requires c.find_child.ensures _ _ (ap place_of c.in-Err.is) c.if-k-cap.true

pub put_node-requires : goal.put_node-requires
put_node-requires c = (new-slot _ _ _ _ (ends_of c.args.edge) _ _ c.first_child.ensures _ c.requires c.find_child.ensures _ _ (ap place_of c.in-Err.is) c.if-k-cap.false, c.requires.ends.0, c.requires.ends.1, gap-fits _ _ _ _ (ends_of c.args.edge) _ _ c.first_child.ensures _ c.requires c.find_child.ensures _ _ (ap place_of c.in-Err.is) c.if-k-cap.false)

pub increment_count-requires-in-Err : goal.increment_count-requires-in-Err
increment_count-requires-in-Err c = (
  parent-slot _ _ _ _ (ends_of c.args.edge) _ _ c.first_child.ensures _ c.requires c.find_child.ensures _ _ (ap place_of c.in-Err.is) c.if-k-cap.false _ c.put_node.ensures,
  parent-spare _ _ _ _ (ends_of c.args.edge) _ _ c.first_child.ensures _ c.requires c.find_child.ensures _ _ (ap place_of c.in-Err.is) c.if-k-cap.false _ c.put_node.ensures,
)

pub link_node-requires : goal.link_node-requires
link_node-requires c = (
  link-slot _ _ _ _ (ends_of c.args.edge) _ _ c.first_child.ensures _ c.requires c.find_child.ensures _ _ (ap place_of c.in-Err.is) c.if-k-cap.false _ c.put_node.ensures _ c.increment_count-in-Err.ensures,
  sibling-slot _ _ _ _ (ends_of c.args.edge) _ _ c.first_child.ensures _ c.requires c.find_child.ensures _ _ (ap place_of c.in-Err.is) c.if-k-cap.false _ c.put_node.ensures _ c.increment_count-in-Err.ensures,
  after-linked _ _ _ _ c.find_child.ensures _ c.in-Err.is,
  new-fits _ _ _ _ (ends_of c.args.edge) _ _ c.first_child.ensures _ c.requires c.find_child.ensures _ _ (ap place_of c.in-Err.is) c.if-k-cap.false,
)

pub returns-in-Ok : goal.returns-in-Ok
returns-in-Ok c = code_here _ _ _ _ (ends_of c.args.edge) _ _ c.first_child.ensures _ c.requires c.find_child.ensures _ (ap place_of c.in-Ok.is) _ c.increment_count.ensures _ c.increment_count-in-Ok.ensures

pub returns-else-k-cap : goal.returns-else-k-cap
returns-else-k-cap c = code-gap _ _ _ _ (ends_of c.args.edge) _ _ c.first_child.ensures _ c.requires c.find_child.ensures _ _ (ap place_of c.in-Err.is) c.if-k-cap.false _ c.put_node.ensures _ c.increment_count-in-Err.ensures _ c.link_node.ensures
