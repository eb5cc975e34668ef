use Rattle.closed_paths.specs.Best.{later-less, later-none, later-some}
use Rattle.closed_paths.proofs.pivotal.later.Goals.{then-outscored-via-then-outscored, then-outscored-via-else-outscored+then-count_in_path-eq0}
use Rattle.closed_paths.proofs.pivotal.later.Goals as goal

pub returns-then-outscored : goal.returns-then-outscored
returns-then-outscored c =
    elim c.then-outscored.branch [
      | then-outscored-via-then-outscored w ↦ later-less _ _ _ c.args.paths.records.now c.args.paths.scores.now _ _ _ _ c.outscored.ensures w.if-outscored.true
      | then-outscored-via-else-outscored+then-count_in_path-eq0 w ↦
          later-none _ _ _ _ c.args.paths.scores.now _ _ _ _ c.outscored.ensures w.if-outscored.false _ w.count_in_path.ensures w.if-count_in_path-eq0.true
    ]

pub returns : goal.returns
returns c = later-some _ _ _ _ c.args.paths.scores.now _ _ _ _ c.outscored.ensures c.if-outscored.false _ c.count_in_path.ensures c.if-count_in_path-eq0.false
