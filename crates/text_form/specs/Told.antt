-- An answer of a function of the program, as an option of the definition, which has a type of its own for them.
use Rattle.std.specs.Prelude.{Option as Maybe, Some, None}
use Rattle.std.proofs.Math.Option.{Option, none, some}

abbrev pub told : {A : Type 0} → Maybe A → Option A
told None = none
told (Some a) = some a
