-- `KmerSize::try_from` meets its contract: the upper limit by its test, the lower one by the size that was tried. Assumes nothing.
use Rattle.bio_ids.specs.Sizes.{k-above, k-tried, k-size}
use Rattle.bio_ids.proofs.KmerSizeTryFromU32.try_from.Goals as goal

pub returns-then-k-gt128 : goal.returns-then-k-gt128
returns-then-k-gt128 c = (k-above c.args.k c.if-k-gt128.true, tt)

pub returns : goal.returns
returns c = (k-tried _ _ c.try_new.ensures c.if-k-gt128.false, k-size _ _ c.try_new.ensures)
