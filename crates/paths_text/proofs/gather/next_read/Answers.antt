-- `next_read` meets its contract: the pair is there, and joins. Assumes nothing.
use Rattle.std.proofs.Common.{arith, refl}
use Rattle.paths_text.specs.Gather.{next-there, next-joins}
use Rattle.paths_text.proofs.gather.next_read.Goals as goal

pub unwrap-lines-requires : goal.unwrap-lines-requires
unwrap-lines-requires c = next-there c.requires c.read_pair.result c.read_pair.ensures

pub overflow_sub-more : goal.overflow_sub-more
overflow_sub-more c = let p = rw c.unwrap-lines.ensures at c.read_pair.ensures in p.rising

pub join_read-requires : goal.join_read-requires
join_read-requires c = next-joins c.requires _ (rw c.unwrap-lines.ensures at c.read_pair.ensures)

pub overflow_cast-ends : goal.overflow_cast-ends
overflow_cast-ends c =
    let p = rw c.unwrap-lines.ensures at c.read_pair.ensures in
    let x = p.rising in
    let y = p.behind in
    let z = p.inside in
    omega (arith, c.requires.room, c.requires.small)

pub overflow_add-result : goal.overflow_add-result
overflow_add-result c =
    let p = rw c.unwrap-lines.ensures at c.read_pair.ensures in
    let z = p.inside in
    omega (arith, c.requires.small)

pub returns : goal.returns
returns c =
    record {
      lines = _;
      pair = rw c.unwrap-lines.ensures at c.read_pair.ensures;
      at = refl;
      bases = refl;
      reads = refl;
      text = c.join_read.ensures;
      ends = refl;
    }
