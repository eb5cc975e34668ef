use Rattle.pivotal_edges.specs.Turns.{source-asks, source-rest, turning-start, turning-end, turning-edge, turning-lists, turning-queues, turning-marks, turning-next}
use Rattle.pivotal_edges.proofs.create_pivotal_edges_in_topological_order.Goals as goal

pub queue_out-tail-requires : goal.queue_out-tail-requires
queue_out-tail-requires c = source-asks c.requires

pub loop-front-init : goal.loop-front-init
loop-front-init c = turning-start c.requires c.queue_out-tail.auto.queue c.queue_out-tail.ensures

pub edge_to-v-requires : goal.edge_to-v-requires
edge_to-v-requires c = turning-edge c.requires c.loop-front.invariant c.loop-front-test.true c.edge_of.ensures

pub list_out-found-requires : goal.list_out-found-requires
list_out-found-requires c = turning-lists c.requires c.loop-front.invariant c.loop-front-test.true c.edge_of.ensures c.edge_to-v.ensures c.level_of-level.ensures

pub queue_out-tail-requires-in-loop-front : goal.queue_out-tail-requires-in-loop-front
queue_out-tail-requires-in-loop-front c = turning-queues c.requires c.loop-front.invariant c.loop-front-test.true c.edge_of.ensures c.edge_to-v.ensures c.level_of-level.ensures

pub mark_out-requires : goal.mark_out-requires
mark_out-requires c = turning-marks c.requires c.loop-front.invariant c.loop-front-test.true c.edge_of.ensures c.edge_to-v.ensures c.level_of-level.ensures

pub loop-front-preserved : goal.loop-front-preserved
loop-front-preserved c = turning-next c.requires c.loop-front.invariant c.loop-front-test.true c.edge_of.ensures c.edge_to-v.ensures c.level_of-level.ensures c.queue_out-tail-in-loop-front.auto.queue c.mark_out.auto.visited c.list_out-found.auto.out c.list_out-found.ensures c.queue_out-tail-in-loop-front.ensures c.mark_out.ensures

pub returns : goal.returns
returns c = turning-end c.requires c.loop-front.invariant (source-rest c.requires c.queue_out-tail.ensures) c.loop-front-test.false
