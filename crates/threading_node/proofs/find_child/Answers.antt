use Rattle.std.proofs.Common.{sym}
use Rattle.threading_node.specs.Ends.{ends_of, before-less, behind-less, eq_ends-true}
use Rattle.threading_node.specs.Cells.{searching-start, searching-end, turn-slot, stops-before, stops-there, goes_on}
use Rattle.threading_node.specs.Turns.{begun, turned, turned-none}
use Rattle.threading_node.proofs.find_child.Goals as goal

pub loop-s-init : goal.loop-s-init
loop-s-init c =
    let b = begun c.into_iter-s-iterator.ensures.into_iter_gives c.siblings_from-s-items.ensures in
    (rw (b.over, b.first) c.requires, tt, b.over, rw b.first (searching-start _ _ _ c.requires))

pub edge_of-sibling-requires : goal.edge_of-sibling-requires
edge_of-sibling-requires c =
    let u = turned c.loop-s.invariant.2 c.in-Some.ensures.steps in
    turn-slot _ _ _ _ _ c.loop-s.invariant.3 _ u.here

pub returns-then-eq : goal.returns-then-eq
returns-then-eq c =
    let u = turned c.loop-s.invariant.2 c.in-Some.ensures.steps in
    stops-there _ _ _ _ _ c.loop-s.invariant.3 _ u.here _ c.edge_of-sibling.ensures
    (sym (eq_ends-true (ends_of c.edge_of-sibling.result) (ends_of c.args.edge) (sym c.if-eq.ensures)))

pub returns-else-eq : goal.returns-else-eq
returns-else-eq c =
    let u = turned c.loop-s.invariant.2 c.in-Some.ensures.steps in
    stops-before _ _ _ _ _ c.loop-s.invariant.3 _ u.here _ c.edge_of-sibling.ensures
    (behind-less (ends_of c.edge_of-sibling.result) (ends_of c.args.edge) (sym c.if-precedes.ensures) (sym c.if-eq.ensures))

pub loop-s-preserved : goal.loop-s-preserved
loop-s-preserved c =
    let u = turned c.loop-s.invariant.2 c.in-Some.ensures.steps in (
      u.left c.loop-s.invariant.0,
      tt,
      u.over,
      goes_on _ _ _ _ _ c.loop-s.invariant.3 _ u.here _ c.edge_of-sibling.ensures _ u.behind
          (before-less (ends_of c.edge_of-sibling.result) (ends_of c.args.edge) (sym c.if-precedes.ensures)),
    )

pub returns : goal.returns
returns c = searching-end _ _ _ _ _ c.loop-s.invariant.3 (turned-none c.in-None.ensures.steps)
