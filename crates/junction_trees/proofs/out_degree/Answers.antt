use Rattle.junction_trees.specs.Degrees.{counted_start, counted-yes, counted-no, counted-end}
use Rattle.junction_trees.proofs.out_degree.Goals as goal
use Rattle.junction_trees.proofs.out_degree.Goals.{then-is_some, else-is_some}

pub loop-c-init : goal.loop-c-init
loop-c-init c = counted_start _ _

pub loop-c-preserved : goal.loop-c-preserved
loop-c-preserved c =
    elim c.if-is_some.branch [
      | then-is_some w ↦ counted-yes _ _ _ _ _ _ _ c.loop-c.invariant c.loop-c-test.true c.out_edge.ensures c.is_some.ensures w.if-is_some.true w.n-is
      | else-is_some w ↦ counted-no _ _ _ _ _ _ _ c.loop-c.invariant c.loop-c-test.true c.out_edge.ensures c.is_some.ensures w.if-is_some.false w.n-is
    ]

pub returns : goal.returns
returns c = counted-end _ _ _ _ c.loop-c.invariant c.loop-c-test.false
