use Rattle.std.proofs.Common.{arith}
use Rattle.usable_stretches.specs.Turns.{begun, over-lies, turned}
use Rattle.junction_trees.specs.Roots.{finding-kept}
use Rattle.junction_trees.specs.Reads.{read-start, read-end, read_fits, read-run, read_next, read-stop}
use Rattle.junction_trees.proofs.walk_read.Goals as goal

pub loop-run-init : goal.loop-run-init
loop-run-init c =
    let b = begun c.into_iter-run-iterator.ensures.into_iter_gives c.usable_runs-run-items.ensures in
    (over-lies b.over c.requires.0.in_b c.requires.0.in-q, tt, b.over, λ sq. rw b.first (read-start c.requires.0 c.args.sample.quality sq))

pub overflow_add-n : goal.overflow_add-n
overflow_add-n c =
    let u = turned c.loop-run.invariant.2 c.in-Some.ensures.steps in
    let e = u.gives.1 in
    let h = read_fits c.requires.0 c.args.sample.quality c.loop-run.invariant.3 u.gives.0 u.gives.2 in
    omega arith

pub walk_run-r-requires : goal.walk_run-r-requires
walk_run-r-requires c =
    let u = turned c.loop-run.invariant.2 c.in-Some.ensures.steps in (
      rw u.gives.1 (read-run c.requires.0 c.args.sample.quality c.loop-run.invariant.3 u.gives.0 u.gives.2),
      finding-kept (c.loop-run.invariant.3 0).frame.kept _ _ c.requires.1,
    )

pub returns-in_default : goal.returns-in_default
returns-in_default c =
    let u = turned c.loop-run.invariant.2 c.in-Some.ensures.steps in
    read-stop c.requires.0 c.args.sample.quality c.loop-run.invariant.3 u.gives.0 u.gives.2 _ _ _ _ (rw u.gives.1 at c.walk_run-r.ensures) _ c.in_default.is

pub loop-run-preserved : goal.loop-run-preserved
loop-run-preserved c =
    let u = turned c.loop-run.invariant.2 c.in-Some.ensures.steps in (
      over-lies u.over c.requires.0.in_b c.requires.0.in-q,
      tt,
      u.over,
      λ sq. rw u.gives.3
          (read_next c.requires.0 c.args.sample.quality c.loop-run.invariant.3 u.gives.0 u.gives.2 _ _ _ _ (rw u.gives.1 at c.walk_run-r.ensures) _ c.in-Ok.is c.walk_run-r.auto.nodes c.walk_run-r.auto.active sq),
    )

pub returns : goal.returns
returns c =
    let u = turned c.loop-run.invariant.2 c.in-None.ensures.steps in
    read-end c.requires.0 c.args.sample.quality c.loop-run.invariant.3 u.gives
