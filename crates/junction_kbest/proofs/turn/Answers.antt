-- `turn` meets its contract. Assumes nothing.
use Rattle.junction_kbest.specs.Loop.{turn-next, turn-pivot}
use Rattle.junction_kbest.specs.Pivot.{made_in}
use Rattle.junction_kbest.proofs.turn.Goals as goal

pub next_path-requires : goal.next_path-requires
next_path-requires c = turn-next _ _ _ _ _ _ _ _ _ _ _ _ _ _ _ _ c.requires c.if-p-gt0.true

pub returns-then-p-gt0 : goal.returns-then-p-gt0
returns-then-p-gt0 c = made_in _ _ _ _ _ _ _ _ _ _ _ _ _ _ _ _ _ _ _ _ _ _ c.next_path.ensures

pub try_pivotal-requires : goal.try_pivotal-requires
try_pivotal-requires c = turn-pivot _ _ _ _ _ _ _ _ _ _ _ _ _ _ _ _ c.requires c.if-p-gt0.false

pub returns : goal.returns
returns c = c.try_pivotal.ensures.is _ _ _ _
