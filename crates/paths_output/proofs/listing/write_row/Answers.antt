-- `write_row` meets its contract. Assumes nothing.
use Rattle.paths_output.specs.Listing.{line_at}
use Rattle.paths_output.proofs.listing.write_row.Goals as goal

pub write_path-requires : goal.write_path-requires
unfolding line_at
write_path-requires c =
    (c.requires.0.score, c.requires.1)

pub shape_of-out : goal.shape_of-out
shape_of-out c = c.write_path.auto.out

pub returns : goal.returns
unfolding line_at
returns c = c.write_path.ensures
