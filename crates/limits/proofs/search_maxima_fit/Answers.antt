-- `search_maxima_fit` meets its contract: one test after the other decides as all together do. Assumes nothing.
use Rattle.std.proofs.Common.{rules}
use Rattle.definition.specs.Limits.{search_maxima_fit}
use Rattle.limits.proofs.search_maxima_fit.Goals as goal

pub returns-then-in_range-2 : goal.returns-then-in_range-2
unfolding search_maxima_fit
returns-then-in_range-2 c = search rules

pub returns-else-in_range-2 : goal.returns-else-in_range-2
unfolding search_maxima_fit
returns-else-in_range-2 c = search rules
