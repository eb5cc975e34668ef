-- `write_number` meets its contract. Assumes nothing.
use Rattle.std.proofs.Common.{arith, ◌∙◌, [], ◌∷◌, ◌++◌}
use Rattle.definition.specs.Text.{decimal}
use Rattle.paths_output.specs.Written.{begin, piece-room, piece-done, last-room, piece-last}
use Rattle.paths_output.proofs.writing.write_number.Goals as goal

pub write_decimal-next-requires : goal.write_decimal-next-requires
write_decimal-next-requires c =
    piece-room (decimal c.args.n) (c.args.stop ∷ [])
    (begin c.args.out.now c.args.at (decimal c.args.n ++ c.args.stop ∷ []) c.requires)

pub write_byte-requires : goal.write_byte-requires
write_byte-requires c =
    let b = last-room (c.args.stop ∷ [])
    (piece-done (decimal c.args.n) _ (begin c.args.out.now c.args.at (decimal c.args.n ++ c.args.stop ∷ []) c.requires) c.write_decimal-next.ensures c.write_decimal-next.auto.out)
    in
    omega arith

pub shape_of-out : goal.shape_of-out
shape_of-out c = c.write_byte.auto.out ∙ c.write_decimal-next.auto.out

pub returns : goal.returns
returns c =
    piece-last (c.args.stop ∷ [])
    (piece-done (decimal c.args.n) _ (begin c.args.out.now c.args.at (decimal c.args.n ++ c.args.stop ∷ []) c.requires) c.write_decimal-next.ensures c.write_decimal-next.auto.out)
    c.write_byte.ensures
