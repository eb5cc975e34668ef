-- `ends_fit` meets its contract: one test after the other decides as all together do. Assumes nothing.
use Rattle.std.proofs.Common.{rules}
use Rattle.definition.specs.Limits.{ends_fit}
use Rattle.limits.proofs.ends_fit.Goals as goal

pub returns-then-ends-le512 : goal.returns-then-ends-le512
unfolding ends_fit
returns-then-ends-le512 c = search rules

pub returns-else-ends-le512 : goal.returns-else-ends-le512
unfolding ends_fit
returns-else-ends-le512 c = search rules
