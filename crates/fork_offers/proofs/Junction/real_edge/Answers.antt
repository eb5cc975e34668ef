-- `fork_offers::Junction::real_edge` meets its contract.
use Rattle.fork_offers.specs.Real.{real-elsewhere}
use Rattle.fork_offers.proofs.Junction.real_edge.Goals as goal

pub returns-then-edge-self : goal.returns-then-edge-self
returns-then-edge-self c = real-elsewhere _ _ _ _ _ _ _ c.edge_of-edge.ensures c.if-edge-self.true
