-- `path_extensions::list_offers` meets its contract.
use Rattle.path_extensions.specs.Vertex.{lists-asks, lists-listed}
use Rattle.path_extensions.proofs.list_offers.Goals as goal

pub applicable_next_edges-requires : goal.applicable_next_edges-requires
applicable_next_edges-requires c = lists-asks c.requires c.at-count.ensures

pub returns : goal.returns
returns c = lists-listed c.requires c.at-count.ensures c.applicable_next_edges.ensures
