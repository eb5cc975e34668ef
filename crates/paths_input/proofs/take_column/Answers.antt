-- `take_column` meets its contract. Assumes nothing.
use Rattle.paths_input.specs.Columns.{taken-some}
use Rattle.paths_input.proofs.take_column.Goals as goal

pub returns : goal.returns
returns c =
    rw (c.in_ok-n.ensures.ok_part, c.ok_or-2.ensures.value) (
    taken-some c.args.bytes.now c.in_ok-n.n _ _ _ c.read_column.ensures c.read_column.auto.column c.requires.1
    )
