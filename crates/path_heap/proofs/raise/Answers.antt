use Rattle.std.proofs.Common.{sym, ◌∙◌, arith}
use Rattle.path_heap.specs.First.{Known, leads, leads-order}
use Rattle.laws.specs.Heaps.{raise-path, raise-known, raise-next}
use Rattle.path_heap.proofs.raise.Goals as goal

pub leads-requires : goal.leads-requires
leads-requires c = (raise-path (leads c.args.scores.now) (leads-order c.args.scores.now) (Known c.args.scores.now) c.args.queue.now c.args.n c.args.hole c.args.path c.loop-i.queue c.loop-i.i c.loop-i.invariant, raise-known (leads c.args.scores.now) (leads-order c.args.scores.now) (Known c.args.scores.now) c.args.queue.now c.args.n c.args.hole c.args.path c.loop-i.queue c.loop-i.i c.loop-i.invariant (omega arith))

pub loop-i-preserved : goal.loop-i-preserved
loop-i-preserved c = raise-next (leads c.args.scores.now) (leads-order c.args.scores.now) (Known c.args.scores.now) c.args.queue.now c.args.n c.args.hole c.args.path c.loop-i.queue c.loop-i.i c.loop-i.invariant (omega arith) (sym c.leads.ensures ∙ c.if-not-leads.false)
