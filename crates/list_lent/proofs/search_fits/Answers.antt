-- `search_fits` meets its contract: one test after the other decides as all together do. Assumes nothing.
use Rattle.std.proofs.Common.{rules}
use Rattle.definition.specs.Limits.{is_long_enough}
use Rattle.list_lent.proofs.search_fits.Goals as goal

pub returns-then-told-l-10 : goal.returns-then-told-l-10
unfolding is_long_enough
returns-then-told-l-10 c = search rules

pub returns-else-told-l-10 : goal.returns-else-told-l-10
unfolding is_long_enough
returns-else-told-l-10 c = search rules
