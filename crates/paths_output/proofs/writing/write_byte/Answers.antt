-- `write_byte` meets its contract. Assumes nothing.
use Rattle.paths_output.specs.Written.{wrote_one}
use Rattle.paths_output.proofs.writing.write_byte.Goals as goal

pub returns : goal.returns
returns c = wrote_one _ _ _ c.requires
