use Rattle.std.proofs.Common.{sym, ◌∙◌}
use Rattle.path_heap.specs.First.{leads, leads-order}
use Rattle.laws.specs.Heaps.{child-only, child-right, child-left}
use Rattle.path_heap.proofs.child.Goals as goal

pub returns-then-b-m : goal.returns-then-b-m
returns-then-b-m c = child-only (leads c.args.scores.now) (leads-order c.args.scores.now) c.args.queue.now c.args.m c.args.i c.requires.1 c.if-b-m.true

pub returns-then-leads : goal.returns-then-leads
returns-then-leads c = child-right (leads c.args.scores.now) (leads-order c.args.scores.now) c.args.queue.now c.args.m c.args.i c.if-b-m.false (sym c.leads.ensures ∙ c.if-leads.true)

pub returns : goal.returns
returns c = child-left (leads c.args.scores.now) (leads-order c.args.scores.now) c.args.queue.now c.args.m c.args.i c.if-b-m.false (sym c.leads.ensures ∙ c.if-leads.false)
