-- `read_end` meets its contract. Assumes nothing.
use Rattle.std.proofs.Common.{arith}
use Rattle.whole_input.specs.Readings.{ended-within, ends-at}
use Rattle.whole_input.proofs.read_end.Goals as goal

pub returns : goal.returns
returns g c =
    record {
      within = ended-within _ _ _ c.ended_at.ensures;
      input = ends-at _ _ _ _ _ _ c.read_once-got.ensures.input (omega (arith, c.read_once-got.auto.bytes)) c.ended_at.ensures;
    }
