-- `sole_out` meets its contract: the edge found is the only one that leaves v, which has no tree and is not the sink. Assumes nothing.
use Rattle.std.proofs.Common.{sym}
use Rattle.out_edges.specs.Walked.{over-named, turned}
use Rattle.pivotal_edges.specs.Walk.{next-asks, here-slots}
use Rattle.search_ground.specs.Tables.{sole-empty, sole-more, sole-one}
use Rattle.search_ground.proofs.sole_out.Goals as goal

pub out_edges-outs-requires : goal.out_edges-outs-requires
out_edges-outs-requires c = next-asks c.requires

pub next-requires : goal.next-requires
next-requires c = over-named c.out_edges-outs.ensures.over (next-asks c.requires)

pub returns-in_err-first : goal.returns-in_err-first
returns-in_err-first c =
    let f = turned (here-slots c.requires) c.out_edges-outs.ensures.over c.in_err-first.ensures.steps in
    rw c.from_residual.ensures (sole-empty _ _ _ _ _ c.requires (rw c.out_edges-outs.ensures.first at f.next))

pub returns-then-is_some-2 : goal.returns-then-is_some-2
returns-then-is_some-2 c =
    let f = turned (here-slots c.requires) c.out_edges-outs.ensures.over c.in_ok-first.ensures.steps in
    let s = turned (here-slots c.requires) f.over c.next-2.ensures.steps in
    sole-more _ _ _ _ _ c.requires (rw c.out_edges-outs.ensures.first at f.next) f.behind s.next (sym c.if-is_some-2.ensures)

pub returns : goal.returns
returns c =
    let f = turned (here-slots c.requires) c.out_edges-outs.ensures.over c.in_ok-first.ensures.steps in
    let s = turned (here-slots c.requires) f.over c.next-2.ensures.steps in
    sole-one _ _ _ _ _ c.requires (rw c.out_edges-outs.ensures.first at f.next) f.behind c.if-v-sink.false c.root_slot.ensures (sym c.if-is_some.ensures) s.next (sym c.if-is_some-2.ensures)
