-- `run` meets its contract. Assumes nothing.
use Rattle.whole_input.specs.Readings.{input_of}
use Rattle.paths.specs.Printing.{answered-prints}
use Rattle.paths.proofs.run.Goals as goal

pub returns : goal.returns
returns g c = answered-prints _ (input_of c.read_file-file.result c.read_file-file.new.bytes) _ _ _ c.answer.ensures c.take_column-entries.ensures.is
