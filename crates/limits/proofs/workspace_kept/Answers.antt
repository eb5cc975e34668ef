-- `workspace_kept` meets its contract. Assumes nothing.
use Rattle.std.proofs.Common.{arith, inl, inr}
use Rattle.limits.specs.Tests.{is-kept, not-kept}
use Rattle.limits.proofs.workspace_kept.Goals as goal

pub returns-in-1-to-7 : goal.returns-in-1-to-7
returns-in-1-to-7 c = is-kept c.args.number (omega arith) (omega arith)

pub returns-in_default : goal.returns-in_default
returns-in_default c = not-kept c.args.number (inl (omega arith))

pub returns-in_default-2 : goal.returns-in_default-2
returns-in_default-2 c = not-kept c.args.number (inr (omega arith))
