-- `write_bytes` meets its contract. Assumes nothing.
use Rattle.std.proofs.Common.{refl}
use Rattle.paths_output.specs.Written.{copied}
use Rattle.paths_output.proofs.writing.write_bytes.Goals as goal

pub returns : goal.returns
returns c = record { is = copied c.args.at c.args.text.now _ c.args.out.now c.copy_from_slice.ensures.after; next = refl }
