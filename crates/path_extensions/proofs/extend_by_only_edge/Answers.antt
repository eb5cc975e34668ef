-- `path_extensions::extend_by_only_edge` meets its contract.
use Rattle.path_extensions.specs.Alone.{alone-ends, alone-asks, alone-made}
use Rattle.path_extensions.proofs.extend_by_only_edge.Goals as goal

pub returns-then-not-goes_on : goal.returns-then-not-goes_on
returns-then-not-goes_on c = alone-ends c.requires c.goes_on.ensures c.if-not-goes_on.true

pub extend_with_edges-requires : goal.extend_with_edges-requires
extend_with_edges-requires c = alone-asks c.requires c.goes_on.ensures c.if-not-goes_on.false

pub returns : goal.returns
returns c = alone-made c.requires c.goes_on.ensures c.if-not-goes_on.false c.extend_with_edges.ensures
