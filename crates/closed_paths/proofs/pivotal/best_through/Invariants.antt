use Rattle.closed_paths.specs.Best.{Searching}
use Rattle.closed_paths.proofs.pivotal.best_through.Given as goal

abbrev pub invariant-loop-path : goal.invariant-loop-path
invariant-loop-path l =
    Searching l.chains.index.now l.chains.targets.now l.source l.paths.records.now l.paths.scores.now l.v l.closed l.path-index l.best
