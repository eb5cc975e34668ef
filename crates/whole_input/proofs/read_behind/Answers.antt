-- `read_behind` meets its contract. Assumes nothing.
use Rattle.std.proofs.Common.{◌-◌, length, drop, le_refl}
use Rattle.std.proofs.lemmas.Slice.{take-put_mid_below}
use Rattle.std.specs.Result.{result_ok}
use Rattle.whole_input.specs.Readings.{took-part, gave-behind}
use Rattle.whole_input.proofs.read_behind.Goals as goal

pub returns : goal.returns
returns g c =
    record {
      within = took-part (result_ok c.read_once.result) (length c.args.bytes.now - c.args.done) (drop c.args.done c.args.bytes.now) c.read_once.ensures.within;
      front = take-put_mid_below _ _ _ _ _ (le_refl _) c.requires;
      input = gave-behind _ _ _ _ _ _ c.requires c.read_once.ensures.input;
      kept = c.read_once.ensures.kept;
    }
