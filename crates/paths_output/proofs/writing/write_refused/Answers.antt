-- `write_refused` meets its contract. Assumes nothing.
use Rattle.std.proofs.Common.{◌∙◌}
use Rattle.definition.specs.Text.{refused_word}
use Rattle.paths_output.specs.Written.{piece-room, piece-done, last-room, piece-last}
use Rattle.paths_output.specs.Lines.{numbered, refused-begin}
use Rattle.paths_output.proofs.writing.write_refused.Goals as goal

pub write_bytes-next-requires : goal.write_bytes-next-requires
write_bytes-next-requires c =
    piece-room refused_word _ (refused-begin c.args.number c.args.out.now c.args.at c.requires)

pub write_number-requires : goal.write_number-requires
write_number-requires c =
    last-room (numbered c.args.number 10)
    (piece-done refused_word _ (refused-begin c.args.number c.args.out.now c.args.at c.requires) c.write_bytes-next.ensures c.write_bytes-next.auto.out)

pub shape_of-out : goal.shape_of-out
shape_of-out c = c.write_number.auto.out ∙ c.write_bytes-next.auto.out

pub returns : goal.returns
returns c =
    piece-last (numbered c.args.number 10)
    (piece-done refused_word _ (refused-begin c.args.number c.args.out.now c.args.at c.requires) c.write_bytes-next.ensures c.write_bytes-next.auto.out)
    c.write_number.ensures
