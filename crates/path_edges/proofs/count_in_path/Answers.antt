use Rattle.std.proofs.Common.{◌∙◌, inr, arith}
use Rattle.path_store.specs.Walk.{bit-is}
use Rattle.path_store.specs.Climbs.{stepped, climbs-on}
use Rattle.path_edges.specs.Path.{told_now, table-climbs, upward-fits, upward-next, upward-end-fits, upward-end}
use Rattle.path_edges.proofs.count_in_path.Goals as goal

pub overflow_add-k : goal.overflow_add-k
overflow_add-k c =
    let x = stepped c.loop-link.invariant.2 c.in-Some.ensures.steps in
    omega
    (arith, told_now c.args.paths.records.now c.args.path _ c.loop-link.invariant.3 x.told, upward-fits _ _ _ _ _ _ c.requires _ _ _ _ (omega arith) c.loop-link.invariant.4 _ x.next.1 _ (rw x.next.0 at c.count_piece-k.ensures))

pub loop-link-preserved : goal.loop-link-preserved
loop-link-preserved c =
    let x = stepped c.loop-link.invariant.2 c.in-Some.ensures.steps in
    (climbs-on (table-climbs _ _ _ _ _ c.requires) c.loop-link.invariant.4.low x, tt, x.paths, inr (told_now c.args.paths.records.now c.args.path _ c.loop-link.invariant.3 x.told), rw x.next.2 (upward-next _ _ _ _ _ _ c.requires _ _ _ _ (omega arith) c.loop-link.invariant.4 _ x.next.1 _ (rw x.next.0 at c.count_piece-k.ensures)))

pub overflow_add-result : goal.overflow_add-result
overflow_add-result c =
    let x = stepped c.loop-link.invariant.2 c.in-None.ensures.steps in
    omega
    (arith, told_now c.args.paths.records.now c.args.path _ c.loop-link.invariant.3 x.told, upward-end-fits _ _ _ _ _ _ c.requires _ _ _ _ (omega arith) c.loop-link.invariant.4 _ x.next (c.from.ensures ∙ bit-is _))

pub returns : goal.returns
returns c =
    let x = stepped c.loop-link.invariant.2 c.in-None.ensures.steps in
    upward-end _ _ _ _ _ _ c.requires _ _ _ _ (omega arith) c.loop-link.invariant.4 _ x.next (c.from.ensures ∙ bit-is _)
