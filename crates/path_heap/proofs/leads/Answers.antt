-- `leads` meets its contract. Assumes nothing.
use Rattle.std.proofs.Common.{sym}
use Rattle.path_heap.specs.First.{leads-more, leads-less, leads-tie}
use Rattle.path_heap.proofs.leads.Goals as goal

pub returns-then-y-x : goal.returns-then-y-x
returns-then-y-x c = sym (leads-more c.args.scores.now c.args.a c.args.b c.requires.0 c.requires.1 c.if-y-x.true)

pub returns-then-x-y : goal.returns-then-x-y
returns-then-x-y c = sym (leads-less c.args.scores.now c.args.a c.args.b c.requires.0 c.requires.1 c.if-x-y.true)

pub returns : goal.returns
returns c = sym (leads-tie c.args.scores.now c.args.a c.args.b c.requires.0 c.requires.1 c.if-y-x.false c.if-x-y.false)
