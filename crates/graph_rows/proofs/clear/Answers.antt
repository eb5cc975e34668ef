-- `clear` meets its contract. Assumes nothing.
use Rattle.std.proofs.Common.{arith}
use Rattle.graph_rows.specs.Zeros.{zeros-more, zeros-all}
use Rattle.graph_rows.proofs.clear.Goals as goal

pub loop-word-preserved : goal.loop-word-preserved
loop-word-preserved g c = zeros-more _ _ _ (omega arith) c.loop-word.invariant

pub returns : goal.returns
returns g c = zeros-all _ _ _ _ _ c.requires c.loop-word.auto.word-items (omega arith) (omega arith) c.loop-word.invariant
