use Rattle.std.proofs.Common.{refl}
use Rattle.closed_paths.specs.Writing.{copying-next}
use Rattle.closed_paths.proofs.writing.write_field.Goals as goal

pub loop-i-preserved : goal.loop-i-preserved
loop-i-preserved c = copying-next _ _ _ _ _ _ c.loop-i.invariant _ c.loop-i-test.true refl
