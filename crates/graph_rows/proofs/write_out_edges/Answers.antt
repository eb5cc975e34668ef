-- `write_out_edges` meets its contract. The invariant: the rows so far, and the out-edges that are left. Assumes nothing.
use Rattle.out_edges.specs.Walked.{begun, over-named, turned}
use Rattle.graph_rows.specs.Listing.{rows-names, rows-slots, rowing-start, rowing-end, rowing-asks, rowing-next}
use Rattle.graph_rows.proofs.write_out_edges.Goals as goal

pub out_edges-i-items-requires : goal.out_edges-i-items-requires
out_edges-i-items-requires c = rows-names c.requires

pub loop-i-init : goal.loop-i-init
loop-i-init c =
    let b = begun c.into_iter-i-iterator.ensures.into_iter_gives c.out_edges-i-items.ensures in
    (over-named b.over (rows-names c.requires), tt, b.over, rowing-start c.requires b.first)

pub copy_row-requires : goal.copy_row-requires
copy_row-requires c = rowing-asks c.requires c.loop-i.invariant.3 (turned (rows-slots c.requires) c.loop-i.invariant.2 c.in-Some.ensures.steps).next

pub loop-i-preserved : goal.loop-i-preserved
loop-i-preserved c =
    let u = turned (rows-slots c.requires) c.loop-i.invariant.2 c.in-Some.ensures.steps in
    (over-named u.over (rows-names c.requires), tt, u.over, rowing-next c.requires c.loop-i.invariant.3 u.next _ _ c.copy_row.ensures u.behind)

pub returns : goal.returns
returns c = rowing-end c.requires c.loop-i.invariant.3 (turned (rows-slots c.requires) c.loop-i.invariant.2 c.in-None.ensures.steps).next
