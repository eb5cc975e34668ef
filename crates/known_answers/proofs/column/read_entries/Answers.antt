-- `column::read_entries` meets its contract: the entries stand in the column, which keeps its length. Assumes nothing.
use Rattle.paths_text.specs.Entries.{entries-fit}
use Rattle.known_answers.proofs.column.read_entries.Goals as goal

pub returns : goal.returns
returns c = entries-fit _ _ _ _ c.read_column.ensures c.read_column.auto.column
