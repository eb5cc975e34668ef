use Rattle.std.proofs.Common.{◌+◌, option_map, unwrap_or}
use Rattle.path_edges.specs.Visit.{Visiting}
use Rattle.path_edges.proofs.has_visited.Given as goal

abbrev pub invariant-loop-up : goal.invariant-loop-up
invariant-loop-up l = Visiting l.chains.index.now l.chains.targets.now l.source l.paths.records.now l.path l.v l.up

abbrev pub decreases-loop-up : goal.decreases-loop-up
decreases-loop-up l = unwrap_or (option_map (λ r. r + 1) l.up) 0
