-- `refuse` meets its contract. Assumes nothing.
use Rattle.std.proofs.Common.{sym, arith}
use Rattle.paths.specs.Printing.{refused-room, shown-refused}
use Rattle.paths.proofs.answer.refuse.Goals as goal

pub write_refused-requires : goal.write_refused-requires
write_refused-requires c = refused-room _ _ (omega arith) c.requires

pub returns : goal.returns
returns c = rw (sym c.from.ensures) (shown-refused _ _ c.from.result _ (omega arith) c.write_refused.ensures)
