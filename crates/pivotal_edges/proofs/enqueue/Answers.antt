use Rattle.pivotal_edges.specs.Queue.{enqueued}
use Rattle.pivotal_edges.proofs.enqueue.Goals as goal

pub returns : goal.returns
returns c = enqueued c.args.edges.now c.args.queue.now _ _ _ _ _ c.requires.1 c.place-p.ensures c.put_at.ensures
