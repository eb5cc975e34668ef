-- `write_first` meets its contract. Assumes nothing.
use Rattle.std.proofs.Common.{◌∙◌}
use Rattle.definition.specs.Text.{decimal, paths_word, pushes_word}
use Rattle.paths_output.specs.Written.{piece-room, piece-done, last-room, piece-last}
use Rattle.paths_output.specs.Lines.{numbered, first-begin}
use Rattle.paths_output.proofs.writing.write_first.Goals as goal

pub write_bytes-listed-requires : goal.write_bytes-listed-requires
write_bytes-listed-requires c =
    piece-room paths_word _ (first-begin c.args.paths c.args.pushes c.args.out.now c.args.at c.requires)

pub write_decimal-word-requires : goal.write_decimal-word-requires
write_decimal-word-requires c =
    piece-room (decimal c.args.paths) _
    (piece-done paths_word _ (first-begin c.args.paths c.args.pushes c.args.out.now c.args.at c.requires) c.write_bytes-listed.ensures c.write_bytes-listed.auto.out)

pub write_bytes-pushed-requires : goal.write_bytes-pushed-requires
write_bytes-pushed-requires c =
    piece-room pushes_word _
    (piece-done (decimal c.args.paths) _ (piece-done paths_word _ (first-begin c.args.paths c.args.pushes c.args.out.now c.args.at c.requires) c.write_bytes-listed.ensures c.write_bytes-listed.auto.out) c.write_decimal-word.ensures c.write_decimal-word.auto.out)

pub write_number-requires : goal.write_number-requires
write_number-requires c =
    last-room (numbered c.args.pushes 10)
    (piece-done pushes_word _ (piece-done (decimal c.args.paths) _ (piece-done paths_word _ (first-begin c.args.paths c.args.pushes c.args.out.now c.args.at c.requires) c.write_bytes-listed.ensures c.write_bytes-listed.auto.out) c.write_decimal-word.ensures c.write_decimal-word.auto.out) c.write_bytes-pushed.ensures c.write_bytes-pushed.auto.out)

pub shape_of-out : goal.shape_of-out
shape_of-out c =
    c.write_number.auto.out ∙ c.write_bytes-pushed.auto.out ∙ c.write_decimal-word.auto.out ∙ c.write_bytes-listed.auto.out

pub returns : goal.returns
returns c =
    piece-last (numbered c.args.pushes 10)
    (piece-done pushes_word _ (piece-done (decimal c.args.paths) _ (piece-done paths_word _ (first-begin c.args.paths c.args.pushes c.args.out.now c.args.at c.requires) c.write_bytes-listed.ensures c.write_bytes-listed.auto.out) c.write_decimal-word.ensures c.write_decimal-word.auto.out) c.write_bytes-pushed.ensures c.write_bytes-pushed.auto.out)
    c.write_number.ensures
