-- `read_start` meets its contract: the first read starts at 0, each other where the one before it ends. Assumes nothing.
use Prim.Native.Nat.{◌-◌}
use native.Mathlib.Omega.{arith}
use Rattle.origins.specs.Laws.{first-start, later-start}
use Rattle.origins.proofs.read_start.Goals as goal

pub returns-then-read-lt1 : goal.returns-then-read-lt1
returns-then-read-lt1 c = first-start _ _ c.if-read-lt1.true

pub overflow_cast-result : goal.overflow_cast-result
overflow_cast-result c = omega (arith, c.shared_slice_known-1.given (c.args.read - 1))

pub returns : goal.returns
returns c = later-start _ _ c.if-read-lt1.false
