use Rattle.threading_node.specs.Turns.{begun, turned, turned-none}
use Rattle.threading_tree.specs.Read.{readable-rowed, summing_start, summing-end, summing-slot, summing-next, summing-fits}
use Rattle.threading_tree.proofs.Trees.total_out_for_branch.Goals as goal

pub loop-s-init : goal.loop-s-init
loop-s-init c =
    let b = begun c.into_iter-s-iterator.ensures.into_iter_gives c.siblings_from-s-items.ensures in
    (rw (b.over, b.first) (readable-rowed _ _ _ _ c.requires), tt, b.over, rw b.first (summing_start _ _ _ _ c.requires.0, c.requires.1))

pub evidence_count-requires : goal.evidence_count-requires
evidence_count-requires c =
    let u = turned c.loop-s.invariant.2 c.in-Some.ensures.steps in
    summing-slot _ _ _ _ c.requires.0 _ _ c.loop-s.invariant.3 _ u.here

pub overflow_add-total : goal.overflow_add-total
overflow_add-total c =
    let u = turned c.loop-s.invariant.2 c.in-Some.ensures.steps in
    record { fits = summing-fits _ _ _ _ c.requires.0 _ _ c.loop-s.invariant.3 _ u.here _ c.evidence_count.ensures c.evidence_count.type_inv }

pub loop-s-preserved : goal.loop-s-preserved
loop-s-preserved c =
    let u = turned c.loop-s.invariant.2 c.in-Some.ensures.steps in (
      u.left c.loop-s.invariant.0,
      tt,
      u.over,
      summing-next _ _ _ _ c.requires.0 _ _ c.loop-s.invariant.3 _ u.here _ c.evidence_count.ensures _ u.behind c.evidence_count.type_inv,
    )

pub returns : goal.returns
returns c = summing-end _ _ _ _ c.requires.0 _ _ c.loop-s.invariant.3 (turned-none c.in-None.ensures.steps)
