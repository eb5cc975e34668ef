-- `read_column` meets its contract. The invariant: i entries are decoded. Assumes nothing.
use Rattle.std.proofs.Common.{arith}
use Rattle.paths_text.specs.Entries.{decode-start, decode-next, column-ragged, column-long, column-read}
use Rattle.paths_text.proofs.column.read_column.Goals as goal
use Rattle.paths_text.proofs.column.read_column.Goals.{then-size-ne0-via-then-size-ne0, then-size-ne0-via-else-size-ne0+then-size-gt4096}

pub returns-then-size-ne0 : goal.returns-then-size-ne0
returns-then-size-ne0 c =
    elim c.then-size-ne0.branch [
      | then-size-ne0-via-then-size-ne0 w ↦ column-ragged _ _ w.if-size-ne0.true
      | then-size-ne0-via-else-size-ne0+then-size-gt4096 w ↦ column-long _ _ w.if-size-ne0.false w.if-size-gt4096.true
    ]

pub loop-i-init : goal.loop-i-init
loop-i-init c = decode-start _ _

pub overflow_mul-i : goal.overflow_mul-i
overflow_mul-i c = omega (arith, c.loop-i-test.true)

pub word_at-requires : goal.word_at-requires
word_at-requires c = omega (arith, c.loop-i-test.true)

pub offset_bounds-column-i : goal.offset_bounds-column-i
offset_bounds-column-i c = omega (arith, c.loop-i-test.true, c.if-size-gt4096.false)

pub bounds-column-i : goal.bounds-column-i
bounds-column-i c =
    omega
    (arith, c.loop-i-test.true, c.if-size-gt4096.false, c.requires, c.loop-i.invariant.same)

pub loop-i-preserved : goal.loop-i-preserved
loop-i-preserved c =
    decode-next c.loop-i.invariant _ _ (omega (arith, c.loop-i-test.true))
    c.word_at.ensures c.float_of.ensures

pub shape_of-column : goal.shape_of-column
shape_of-column c = c.loop-i.invariant.same

pub returns : goal.returns
returns c =
    column-read _ _ _ _ c.if-size-ne0.false c.if-size-gt4096.false
    c.requires c.loop-i.invariant c.loop-i-test.false
