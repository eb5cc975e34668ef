use Rattle.std.proofs.Common.{ap, ◌∙◌, set}
use Rattle.pivotal_edges.specs.Queue.{shifted}
use Rattle.pivotal_edges.proofs.put_at.Goals as goal

pub returns : goal.returns
returns c = ap (λ l. set l c.args.p c.args.x) c.copy_within.ensures.after ∙ shifted c.args.queue.now c.args.p c.args.tail c.requires.0 c.requires.1 c.args.x
