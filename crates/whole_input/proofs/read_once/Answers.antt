-- `read_once` meets its contract. Assumes nothing.
use Rattle.std.proofs.Common.{refl}
use Rattle.whole_input.specs.Readings.{took-within, gave, kept}
use Rattle.whole_input.proofs.read_once.Goals as goal

pub returns : goal.returns
returns g c =
    record {
      within = took-within _ _ _ _ c.read.ensures.bound c.read.auto.buf refl;
      input = gave _ _ _ _ _ c.read.ensures.bytes refl;
      kept = kept _ _ _ _ c.read.ensures.bytes;
    }
