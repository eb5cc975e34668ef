use Rattle.std.proofs.Common.{refl, ◌∙◌, arith}
use Rattle.kmer_threading.specs.Indexes.{keeps-stop, keeps-next}
use Rattle.usable_stretches.specs.Turns.{begun, over-lies, turned}
use Rattle.read_threading.specs.Reads.{read-start, read-end, read-run, read_next, read-stop}
use Rattle.read_threading.proofs.thread_read.Goals as goal

pub loop-run-init : goal.loop-run-init
loop-run-init c =
    let b = begun c.into_iter-run-iterator.ensures.into_iter_gives c.usable_runs-run-items.ensures in
    (over-lies b.over c.requires.0.in_b c.requires.0.in-q, tt, b.over, rw b.first (read-start c.requires.0 c.args.d.now.sample.quality c.args.sequence), c.requires.1, refl)

pub overflow_sub-origin : goal.overflow_sub-origin
overflow_sub-origin c =
    let u = turned c.loop-run.invariant.2 c.in-Some.ensures.steps in
    let e = u.gives.1 in
    let f = c.loop-run.invariant.3.from in
    omega arith

pub overflow_cast-origin : goal.overflow_cast-origin
overflow_cast-origin c =
    let u = turned c.loop-run.invariant.2 c.in-Some.ensures.steps in
    let e = u.gives.1 in
    let r = read-run c.requires.0 c.args.d.now.sample.quality c.args.sequence c.loop-run.invariant.3 u.gives.0 u.gives.2 in
    let i = r.inside in
    let s = r.small in
    record { fits = omega arith }

pub overflow_add-n : goal.overflow_add-n
overflow_add-n c =
    let u = turned c.loop-run.invariant.2 c.in-Some.ensures.steps in
    let e = u.gives.1 in
    let r = read-run c.requires.0 c.args.d.now.sample.quality c.args.sequence c.loop-run.invariant.3 u.gives.0 u.gives.2 in
    let i = r.inside in
    let s = r.small in
    omega arith

pub thread_run-r-requires : goal.thread_run-r-requires
thread_run-r-requires c =
    let u = turned c.loop-run.invariant.2 c.in-Some.ensures.steps in
    (rw u.gives.1 (read-run c.requires.0 c.args.d.now.sample.quality c.args.sequence c.loop-run.invariant.3 u.gives.0 u.gives.2), c.loop-run.invariant.4)

pub returns-in_default : goal.returns-in_default
returns-in_default c =
    let u = turned c.loop-run.invariant.2 c.in-Some.ensures.steps in (
      read-stop c.requires.0 c.args.d.now.sample.quality c.args.sequence c.loop-run.invariant.3 u.gives.0 u.gives.2 _ _ _ _ _ (rw u.gives.1 at c.thread_run-r.ensures.0) c.in_default.is,
      keeps-stop _ _ _ _ _ _ _ c.in_default.is,
    )

pub loop-run-preserved : goal.loop-run-preserved
loop-run-preserved c =
    let u = turned c.loop-run.invariant.2 c.in-Some.ensures.steps in (
      over-lies u.over c.requires.0.in_b c.requires.0.in-q,
      tt,
      u.over,
      rw u.gives.3
          (read_next c.requires.0 c.args.d.now.sample.quality c.args.sequence c.loop-run.invariant.3 u.gives.0 u.gives.2 _ _ _ _ (rw u.gives.1 at c.thread_run-r.ensures.0) c.in-Ok.is c.thread_run-r.auto.vertices c.thread_run-r.auto.edges),
      keeps-next _ _ _ _ _ _ _ c.thread_run-r.ensures.1 c.in-Ok.is,
      c.thread_run-r.auto.index ∙ c.loop-run.invariant.5,
    )

pub returns : goal.returns
returns c =
    let u = turned c.loop-run.invariant.2 c.in-None.ensures.steps in
    (read-end c.requires.0 c.args.d.now.sample.quality c.args.sequence c.loop-run.invariant.3 u.gives, c.loop-run.invariant.4)
