use Rattle.std.proofs.Common.{arith}
use Rattle.out_edges.specs.Walked.{begun, over-named, turned}
use Rattle.pivotal_edges.specs.Walk.{next-asks, here-slots}
use Rattle.pivotal_edges.specs.Marks.{marker-start, marker-end, marker-in, marker-next}
use Rattle.pivotal_edges.proofs.mark_out.Goals as goal

pub out_edges-i-items-requires : goal.out_edges-i-items-requires
out_edges-i-items-requires c = next-asks c.requires.here

pub loop-i-init : goal.loop-i-init
loop-i-init c =
    let b = begun c.into_iter-i-iterator.ensures.into_iter_gives c.out_edges-i-items.ensures in
    (over-named b.over (next-asks c.requires.here), tt, b.over, marker-start c.requires b.first)

pub offset_bounds-visited-i : goal.offset_bounds-visited-i
offset_bounds-visited-i c =
    let u = turned (here-slots c.requires.here) c.loop-i.invariant.2 c.in-Some.ensures.steps in
    let h = marker-in c.requires c.loop-i.invariant.3 u.next in
    let g = c.well_formed in
    let s = c.loop-i.auto.visited in
    omega arith

pub bounds-visited-i : goal.bounds-visited-i
bounds-visited-i c = marker-in c.requires c.loop-i.invariant.3 (turned (here-slots c.requires.here) c.loop-i.invariant.2 c.in-Some.ensures.steps).next

pub loop-i-preserved : goal.loop-i-preserved
loop-i-preserved c =
    let u = turned (here-slots c.requires.here) c.loop-i.invariant.2 c.in-Some.ensures.steps in
    (over-named u.over (next-asks c.requires.here), tt, u.over, marker-next c.requires c.loop-i.invariant.3 u.next u.behind)

pub returns : goal.returns
returns c = marker-end c.requires c.loop-i.invariant.3 (turned (here-slots c.requires.here) c.loop-i.invariant.2 c.in-None.ensures.steps).next
