use Rattle.out_edges.specs.Walked.{begun, over-named, turned}
use Rattle.pivotal_edges.specs.Walk.{next-asks, here-slots}
use Rattle.pivotal_edges.specs.Queues.{queuer-start, queuer-end, queuer-one, queuer-next}
use Rattle.pivotal_edges.proofs.queue_out.Goals as goal

pub out_edges-i-items-requires : goal.out_edges-i-items-requires
out_edges-i-items-requires c = next-asks c.requires.here

pub loop-i-init : goal.loop-i-init
loop-i-init c =
    let b = begun c.into_iter-i-iterator.ensures.into_iter_gives c.out_edges-i-items.ensures in
    (over-named b.over (next-asks c.requires.here), tt, b.over, queuer-start c.requires b.first)

pub queue_edge-end-requires : goal.queue_edge-end-requires
queue_edge-end-requires c = queuer-one c.requires c.loop-i.invariant.3 (turned (here-slots c.requires.here) c.loop-i.invariant.2 c.in-Some.ensures.steps).next

pub loop-i-preserved : goal.loop-i-preserved
loop-i-preserved c =
    let u = turned (here-slots c.requires.here) c.loop-i.invariant.2 c.in-Some.ensures.steps in
    (over-named u.over (next-asks c.requires.here), tt, u.over, queuer-next c.requires c.loop-i.invariant.3 u.next u.behind c.queue_edge-end.ensures)

pub returns : goal.returns
returns c = queuer-end c.requires c.loop-i.invariant.3 (turned (here-slots c.requires.here) c.loop-i.invariant.2 c.in-None.ensures.steps).next
