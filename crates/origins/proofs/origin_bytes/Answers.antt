-- `origin_bytes` meets its contract: a part lies inside its slice. Assumes nothing.
use Rattle.std.specs.Prelude.{◌≡◌, suc, ◌+◌, ◌-◌}
use Rattle.std.proofs.Common.{arith}
use Rattle.origins.proofs.origin_bytes.Goals as goal

pub overflow_add-result : goal.overflow_add-result
overflow_add-result c = let i = rw c.in-Ok-Reads.field-0-is at c.in-Ok-Reads.ensures.inside in omega (arith, i.1)

pub returns-in-Ok-Reads : goal.returns-in-Ok-Reads
returns-in-Ok-Reads c =
    let b = rw c.in-Ok-Reads.field-0-is at c.in-Ok-Reads.ensures.bytes in
    let e : c.in-Ok-Reads.start + (c.args.s.k + 1) - c.in-Ok-Reads.start ≡ suc c.args.s.k = omega arith in
    rw e b
