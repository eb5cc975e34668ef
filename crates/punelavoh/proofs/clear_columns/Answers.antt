-- `clear_columns` meets its contract. Assumes nothing.
use Rattle.std.specs.Float.Ieee.{of_bits, of_fields}
use Rattle.punelavoh.specs.Records.{cleared_by}
use Rattle.punelavoh.proofs.clear_columns.Goals as goal

pub returns : goal.returns
unfolding of_bits of_fields
returns c = cleared_by _ _ _ _ _ _ _ _ c.columns_told-n.ensures c.clear.ensures c.clear-2.ensures c.clear-3.ensures
