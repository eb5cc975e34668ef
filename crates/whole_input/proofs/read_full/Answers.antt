-- `read_full` meets its contract. Assumes nothing.
use Rattle.std.proofs.Common.{refl, ◌∙◌, arith}
use Rattle.whole_input.specs.Readings.{joined, joined-none}
use Rattle.std.proofs.KnownBytes.{Consumes-nil}
use Rattle.std.proofs.lemmas.List.{length-drop}
use Rattle.whole_input.proofs.read_full.Goals as goal

pub loop-done-init : goal.loop-done-init
loop-done-init g c = (omega arith, refl, Consumes-nil _)

pub read_behind-requires : goal.read_behind-requires
read_behind-requires g c = c.loop-done.invariant.0

pub shape_of-bytes-in_err-n : goal.shape_of-bytes-in_err-n
shape_of-bytes-in_err-n g c = c.read_behind.auto.bytes ∙ c.loop-done.invariant.1

pub shape_of-bytes-then-n-eq0 : goal.shape_of-bytes-then-n-eq0
shape_of-bytes-then-n-eq0 g c = c.read_behind.auto.bytes ∙ c.loop-done.invariant.1

pub returns-then-n-eq0 : goal.returns-then-n-eq0
returns-then-n-eq0 g c =
    record {
      within = omega (arith, c.loop-done.invariant.0, c.read_behind.auto.bytes);
      input =
          (let h = c.in_ok-n.ensures.input in
          let left = h.1 c.if-n-eq0.true (omega (arith, c.loop-done-test.true, c.read_behind.auto.bytes, length-drop c.loop-done.done c.read_behind.new.bytes)) in
          (joined-none _ _ _ _ _ _ _ c.read_behind.ensures.front c.loop-done.invariant.2 h.0 c.if-n-eq0.true, λ l. left));
    }

pub overflow_add-done : goal.overflow_add-done
overflow_add-done g c = omega (arith, c.in_ok-n.ensures.within, c.loop-done.invariant.0)

pub loop-done-smaller : goal.loop-done-smaller
loop-done-smaller g c = omega (arith, c.in_ok-n.ensures.within, c.loop-done.invariant.0, c.read_behind.auto.bytes, c.if-n-eq0.false)

pub loop-done-preserved : goal.loop-done-preserved
loop-done-preserved g c = (omega (arith, c.in_ok-n.ensures.within, c.loop-done.invariant.0, c.read_behind.auto.bytes), c.read_behind.auto.bytes ∙ c.loop-done.invariant.1, joined _ _ _ _ _ _ _ c.read_behind.ensures.front c.loop-done.invariant.2 c.in_ok-n.ensures.input.0)

pub shape_of-bytes : goal.shape_of-bytes
shape_of-bytes g c = c.loop-done.invariant.1

pub returns : goal.returns
returns g c =
    record {
      within = c.loop-done.invariant.0;
      input = (c.loop-done.invariant.2, λ l. absurd (omega (arith, c.loop-done-test.false)));
    }
