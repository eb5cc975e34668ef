use Rattle.std.proofs.Common.{sym, ◌∙◌, arith}
use Rattle.out_edges.specs.Walked.{begun, over-named, turned}
use Rattle.pivotal_edges.specs.Walk.{next-asks, next-in, next_row, here-slots}
use Rattle.pivotal_edges.specs.Lists.{lister-start, lister-end, lister-mark, lister-room, lister-next, listed-none}
use Rattle.pivotal_edges.proofs.list_out.Goals as goal

pub returns-then-not-forks : goal.returns-then-not-forks
returns-then-not-forks c = listed-none c.requires (sym c.forks.ensures ∙ c.if-not-forks.true)

pub out_edges-i-items-requires : goal.out_edges-i-items-requires
out_edges-i-items-requires c = next-asks c.requires.here

pub loop-i-init : goal.loop-i-init
loop-i-init c =
    let b = begun c.into_iter-i-iterator.ensures.into_iter_gives c.out_edges-i-items.ensures in
    (over-named b.over (next-asks c.requires.here), tt, b.over, lister-start c.requires b.first)

pub list_edge-found-requires : goal.list_edge-found-requires
list_edge-found-requires c =
    let n = (turned (here-slots c.requires.here) c.loop-i.invariant.2 c.in-Some.ensures.steps).next in
    (next_row c.requires.here n, lister-mark c.requires c.loop-i.invariant.3 n, (let h = next-in c.requires.here n in let g = c.requires.here.linked.few in omega arith), lister-room c.requires c.loop-i.invariant.3 n)

pub loop-i-preserved : goal.loop-i-preserved
loop-i-preserved c =
    let u = turned (here-slots c.requires.here) c.loop-i.invariant.2 c.in-Some.ensures.steps in
    (over-named u.over (next-asks c.requires.here), tt, u.over, lister-next c.requires c.loop-i.invariant.3 u.next u.behind c.list_edge-found.auto.out c.list_edge-found.ensures)

pub returns : goal.returns
returns c = lister-end c.requires c.loop-i.invariant.3 (turned (here-slots c.requires.here) c.loop-i.invariant.2 c.in-None.ensures.steps).next (sym c.forks.ensures ∙ c.if-not-forks.false)
