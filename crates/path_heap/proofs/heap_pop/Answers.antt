use Rattle.std.proofs.Common.{refl, ◌-◌, arith}
use Rattle.path_heap.specs.First.{Known, leads, leads-order}
use Rattle.laws.specs.Heaps.{pop-one, pop-hole, pop-end}
use Rattle.path_heap.proofs.Laws.{popped}
use Rattle.path_heap.proofs.heap_pop.Goals as goal

pub returns-then-m-eq0 : goal.returns-then-m-eq0
returns-then-m-eq0 c = popped c.args.scores.now c.args.queue.now c.args.n _ _ (pop-one (leads c.args.scores.now) (leads-order c.args.scores.now) (Known c.args.scores.now) c.args.queue.now c.args.n (omega arith))

pub raise-requires : goal.raise-requires
raise-requires c = pop-hole (leads c.args.scores.now) (leads-order c.args.scores.now) (Known c.args.scores.now) c.args.queue.now c.args.n (c.args.n - 1) c.requires.0 c.requires.1 refl c.if-m-eq0.false _ c.sink_hole-i.result c.sink_hole-i.ensures.0 c.sink_hole-i.ensures.1

pub returns : goal.returns
returns c = popped c.args.scores.now c.args.queue.now c.args.n _ _ (pop-end (leads c.args.scores.now) (leads-order c.args.scores.now) (Known c.args.scores.now) c.args.queue.now c.args.n (c.args.n - 1) c.requires.0 c.requires.1 refl c.if-m-eq0.false _ c.sink_hole-i.result c.sink_hole-i.ensures.0 _ c.raise.ensures)
