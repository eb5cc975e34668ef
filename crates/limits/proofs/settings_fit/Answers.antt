-- `settings_fit` meets its contract: one test after the other decides as all together do. Assumes nothing.
use Rattle.std.proofs.Common.{rules}
use Rattle.definition.specs.Limits.{settings_fit}
use Rattle.limits.proofs.settings_fit.Goals as goal

pub returns-then-graph_maxima_fit : goal.returns-then-graph_maxima_fit
unfolding settings_fit
returns-then-graph_maxima_fit c = search rules

pub returns-else-graph_maxima_fit : goal.returns-else-graph_maxima_fit
unfolding settings_fit
returns-else-graph_maxima_fit c = search rules
