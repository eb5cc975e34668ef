-- `KmerSize::try_new` meets its contract. Assumes nothing.
use Rattle.bio_ids.specs.Sizes.{too_small, is-size}
use Rattle.bio_ids.proofs.KmerSize.try_new.Goals as goal

pub returns-then-k-lt2 : goal.returns-then-k-lt2
returns-then-k-lt2 c = too_small c.args.k c.if-k-lt2.true

pub returns : goal.returns
returns c = is-size c.args.k c.if-k-lt2.false
