use Rattle.std.proofs.Common.{ap}
use Rattle.path_store.specs.declared.records.PathRecord.{PathRecord}
use Rattle.path_list.specs.Ranks.{ready-spells, above-higher, above_lower, above-tails}
use Rattle.path_list.proofs.lists.Lists.stands_above.Goals as goal

pub returns-then-b-a : goal.returns-then-b-a
returns-then-b-a c = above-higher _ _ c.requires.0 _ _ _ _ (ap (λ (x : PathRecord). x.score) c.row-a.ensures) (ap (λ (x : PathRecord). x.score) c.row-b.ensures) c.if-b-a.true

pub returns-then-a-b : goal.returns-then-a-b
returns-then-a-b c = above_lower _ _ c.requires.0 _ _ _ _ (ap (λ (x : PathRecord). x.score) c.row-a.ensures) (ap (λ (x : PathRecord). x.score) c.row-b.ensures) c.if-b-a.false c.if-a-b.true

pub greater_bases-requires : goal.greater_bases-requires
greater_bases-requires c = (ready-spells _ _ c.requires.0 _ _ c.requires.1 c.walk.ensures, ready-spells _ _ c.requires.0 _ _ c.requires.2 c.walk-2.ensures)

pub returns : goal.returns
returns c = above-tails _ _ c.requires.0 _ _ _ _ (ap (λ (x : PathRecord). x.score) c.row-a.ensures) (ap (λ (x : PathRecord). x.score) c.row-b.ensures) c.if-b-a.false c.if-a-b.false _ _ c.walk.ensures c.walk-2.ensures _ c.greater_bases.ensures
