use Rattle.pivotal_edges.specs.Queues.{one_known}
use Rattle.pivotal_edges.proofs.queue_edge.Goals as goal

pub enqueue-requires : goal.enqueue-requires
enqueue-requires c = (one_known c.requires, c.requires.fits c.if-visited-i-ne0.false)
