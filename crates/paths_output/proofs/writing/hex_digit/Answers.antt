-- `hex_digit` meets its contract. Assumes nothing.
use Rattle.std.proofs.Common.{arith}
use Rattle.paths_output.specs.Digits.{hex_digit-low, hex_digit-high}
use Rattle.paths_output.proofs.writing.hex_digit.Goals as goal

pub returns-in-0-to-9 : goal.returns-in-0-to-9
returns-in-0-to-9 c = hex_digit-low _ (omega arith)

pub returns-in_default : goal.returns-in_default
returns-in_default c = hex_digit-high _ (omega arith)
