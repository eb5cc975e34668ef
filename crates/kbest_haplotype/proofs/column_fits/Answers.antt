-- `column_fits` meets its contract, by a law for each return. Assumes nothing.
use Rattle.kbest_haplotype.specs.Columns.{too_short, too_long, not-zero, by-climb}
use Rattle.kbest_haplotype.proofs.column_fits.Goals as goal

pub returns-then-column-lt2 : goal.returns-then-column-lt2
returns-then-column-lt2 c = too_short c.args.column.now c.if-column-lt2.true

pub returns-then-column-gt65536 : goal.returns-then-column-gt65536
returns-then-column-gt65536 c = too_long c.args.column.now c.if-column-gt65536.true c.if-column-lt2.false

pub returns-then-column : goal.returns-then-column
returns-then-column c = not-zero c.args.column.now c.if-column-lt2.false c.if-column-gt65536.false c.if-column.true

pub column_climbs-requires : goal.column_climbs-requires
column_climbs-requires c = tt

pub returns : goal.returns
returns c = by-climb c.args.column.now c.if-column-lt2.false c.if-column-gt65536.false _ c.if-column.false c.column_climbs.ensures
