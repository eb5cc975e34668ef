-- `join_read` meets its contract: both lines are brought behind the reads before, and the qualities before change places with the bases. Assumes nothing.
use Rattle.std.proofs.Common.{arith, ◌∙◌}
use Rattle.paths_text.specs.Moves.{bases-move, quals-move, rotate-asks, joined}
use Rattle.paths_text.proofs.gather.join_read.Goals as goal

pub overflow_add-behind : goal.overflow_add-behind
overflow_add-behind c =
    omega (arith, c.requires.room, c.requires.rising, c.requires.behind, c.requires.inside, c.well_formed.0.0)

pub overflow_sub-more : goal.overflow_sub-more
overflow_sub-more c = c.requires.rising

pub move_bytes-requires : goal.move_bytes-requires
move_bytes-requires c =
    bases-move c.args.text.now c.args.end c.args.size c.args.at c.args.bases c.args.qualities c.requires

pub overflow_add-bases : goal.overflow_add-bases
overflow_add-bases c =
    omega (arith, c.requires.behind, c.requires.inside, c.well_formed.0.0)

pub overflow_add-behind-2 : goal.overflow_add-behind-2
overflow_add-behind-2 c =
    omega (arith, c.requires.room, c.requires.rising, c.requires.behind, c.requires.inside, c.well_formed.0.0)

pub move_bytes-requires-2 : goal.move_bytes-requires-2
move_bytes-requires-2 c =
    quals-move c.args.text.now c.args.end c.args.size c.args.at c.args.bases c.args.qualities c.requires _
    c.move_bytes.ensures

pub overflow_add-behind-3 : goal.overflow_add-behind-3
overflow_add-behind-3 c =
    omega (arith, c.requires.room, c.requires.rising, c.requires.behind, c.requires.inside, c.well_formed.0.0)

pub rotate-requires : goal.rotate-requires
rotate-requires c =
    rotate-asks c.args.text.now c.args.end c.args.size c.args.at c.args.bases c.args.qualities
    c.requires _ c.move_bytes.ensures _
    c.move_bytes-2.ensures

pub shape_of-text : goal.shape_of-text
shape_of-text c =
    c.rotate.auto.text ∙ c.move_bytes-2.auto.text ∙ c.move_bytes.auto.text

pub returns : goal.returns
returns c =
    joined c.args.text.now c.args.end c.args.size c.args.at c.args.bases c.args.qualities c.requires _
    c.move_bytes.ensures _ c.move_bytes-2.ensures _
    c.rotate.ensures
