-- `next_path` meets its contract: the laws of Next, by what the callees answer. Assumes nothing.
use Rattle.junction_kbest.specs.Next.{next-over, next-takes, next-path-asks, next-refused, next-counts, next-pushes, next-pushed}
use Rattle.junction_kbest.proofs.next_path.Goals as goal

pub returns-then-too_many : goal.returns-then-too_many
returns-then-too_many c = next-over _ _ _ _ _ _ _ _ _ _ _ _ _ _ _ c.too_many.ensures c.if-too_many.true c.requires.some

pub take_first-t-requires : goal.take_first-t-requires
take_first-t-requires c = next-takes _ _ _ _ _ _ _ _ _ _ _ _ _ _ _ c.requires

pub take_path-r-requires : goal.take_path-r-requires
take_path-r-requires c = next-path-asks _ _ _ _ _ _ _ _ _ _ _ _ _ _ _ c.too_many.ensures c.if-too_many.false _ _ c.take_first-t.ensures c.take_first-t.auto.queue _ c.requires

pub returns-in_default : goal.returns-in_default
returns-in_default c = next-refused _ _ _ _ _ _ _ _ _ _ _ _ _ _ _ c.too_many.ensures c.if-too_many.false _ _ c.take_first-t.ensures c.take_first-t.auto.queue _ _ _ _ _ _ (rw c.unwrap_err.ensures at c.take_path-r.ensures) _

pub first_new-requires : goal.first_new-requires
first_new-requires c = next-counts _ _ _ _ _ _ _ _ _ _ _ _ _ _ _ c.too_many.ensures c.if-too_many.false _ _ c.take_first-t.ensures c.take_first-t.auto.queue _ _ _ _ _ _ c.in-Ok.ensures _ c.requires

pub push_turn-requires : goal.push_turn-requires
push_turn-requires c = next-pushes _ _ _ _ _ _ _ _ _ _ _ _ _ _ _ c.too_many.ensures c.if-too_many.false _ _ c.take_first-t.ensures c.take_first-t.auto.queue _ _ _ _ _ _ c.in-Ok.ensures _ c.first_new.ensures _ c.requires

pub returns : goal.returns
returns c = next-pushed _ _ _ _ _ _ _ _ _ _ _ _ _ _ _ c.too_many.ensures c.if-too_many.false _ _ c.take_first-t.ensures c.take_first-t.auto.queue _ _ _ _ _ _ c.in-Ok.ensures _ c.first_new.ensures _ c.take_path-r.auto.paths c.take_path-r.auto.scores c.take_path-r.auto.active c.take_path-r.auto.closed c.push_turn.auto.queue _ c.push_turn.ensures
