-- `lent_fits` meets its contract: the tests of all slices decide together. Assumes nothing.
use Rattle.std.proofs.Common.{rules}
use Rattle.definition.specs.Limits.{is_long_enough}
use Rattle.graph_call.proofs.lent_fits.Goals as goal

pub returns-then-tables-l-4 : goal.returns-then-tables-l-4
unfolding is_long_enough
returns-then-tables-l-4 c = search rules

pub returns-else-tables-l-4 : goal.returns-else-tables-l-4
unfolding is_long_enough
returns-else-tables-l-4 c = search rules
