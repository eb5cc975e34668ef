-- `write_path` meets its contract, piece by piece. Assumes nothing.
use Rattle.std.proofs.Common.{arith, ◌∙◌, [], ◌∷◌, to_bits}
use lib.Ieee.{binary64}
use Rattle.definition.specs.Text.{hexadecimal}
use Rattle.paths_output.specs.Written.{piece-room, piece-done, last-room, piece-last}
use Rattle.paths_output.specs.Digits.{length-hexadecimal}
use Rattle.paths_output.specs.Lines.{numbered, path-begin}
use Rattle.paths_output.proofs.writing.write_path.Goals as goal

pub write_number-a-requires : goal.write_number-a-requires
write_number-a-requires c =
    piece-room (numbered c.args.rank 32) _
    (path-begin c.args.score c.args.closing c.args.edges c.args.bases.now c.args.rank c.args.out.now c.args.at c.requires.1)

pub write_hexadecimal-b-requires : goal.write_hexadecimal-b-requires
write_hexadecimal-b-requires c =
    let h = piece-room (hexadecimal 16 (to_bits binary64 c.args.score)) _
    (piece-done (numbered c.args.rank 32) _ (path-begin c.args.score c.args.closing c.args.edges c.args.bases.now c.args.rank c.args.out.now c.args.at c.requires.1) c.write_number-a.ensures c.write_number-a.auto.out)
    in
    let l = length-hexadecimal 16 (to_bits binary64 c.args.score) in
    omega arith

pub write_byte-c-requires : goal.write_byte-c-requires
write_byte-c-requires c =
    let h = piece-room (32 ∷ []) _
    (piece-done (hexadecimal 16 (to_bits binary64 c.args.score)) _ (piece-done (numbered c.args.rank 32) _ (path-begin c.args.score c.args.closing c.args.edges c.args.bases.now c.args.rank c.args.out.now c.args.at c.requires.1) c.write_number-a.ensures c.write_number-a.auto.out) c.write_hexadecimal-b.ensures c.write_hexadecimal-b.auto.out)
    in
    omega arith

pub write_number-d-requires : goal.write_number-d-requires
write_number-d-requires c =
    piece-room (numbered c.args.closing 32) _
    (piece-done (32 ∷ []) _ (piece-done (hexadecimal 16 (to_bits binary64 c.args.score)) _ (piece-done (numbered c.args.rank 32) _ (path-begin c.args.score c.args.closing c.args.edges c.args.bases.now c.args.rank c.args.out.now c.args.at c.requires.1) c.write_number-a.ensures c.write_number-a.auto.out) c.write_hexadecimal-b.ensures c.write_hexadecimal-b.auto.out) c.write_byte-c.ensures c.write_byte-c.auto.out)

pub write_number-e-requires : goal.write_number-e-requires
write_number-e-requires c =
    piece-room (numbered c.args.edges 32) _
    (piece-done (numbered c.args.closing 32) _ (piece-done (32 ∷ []) _ (piece-done (hexadecimal 16 (to_bits binary64 c.args.score)) _ (piece-done (numbered c.args.rank 32) _ (path-begin c.args.score c.args.closing c.args.edges c.args.bases.now c.args.rank c.args.out.now c.args.at c.requires.1) c.write_number-a.ensures c.write_number-a.auto.out) c.write_hexadecimal-b.ensures c.write_hexadecimal-b.auto.out) c.write_byte-c.ensures c.write_byte-c.auto.out) c.write_number-d.ensures c.write_number-d.auto.out)

pub write_bytes-f-requires : goal.write_bytes-f-requires
write_bytes-f-requires c =
    piece-room c.args.bases.now _
    (piece-done (numbered c.args.edges 32) _ (piece-done (numbered c.args.closing 32) _ (piece-done (32 ∷ []) _ (piece-done (hexadecimal 16 (to_bits binary64 c.args.score)) _ (piece-done (numbered c.args.rank 32) _ (path-begin c.args.score c.args.closing c.args.edges c.args.bases.now c.args.rank c.args.out.now c.args.at c.requires.1) c.write_number-a.ensures c.write_number-a.auto.out) c.write_hexadecimal-b.ensures c.write_hexadecimal-b.auto.out) c.write_byte-c.ensures c.write_byte-c.auto.out) c.write_number-d.ensures c.write_number-d.auto.out) c.write_number-e.ensures c.write_number-e.auto.out)

pub write_byte-requires : goal.write_byte-requires
write_byte-requires c =
    let h = last-room (10 ∷ [])
    (piece-done c.args.bases.now _ (piece-done (numbered c.args.edges 32) _ (piece-done (numbered c.args.closing 32) _ (piece-done (32 ∷ []) _ (piece-done (hexadecimal 16 (to_bits binary64 c.args.score)) _ (piece-done (numbered c.args.rank 32) _ (path-begin c.args.score c.args.closing c.args.edges c.args.bases.now c.args.rank c.args.out.now c.args.at c.requires.1) c.write_number-a.ensures c.write_number-a.auto.out) c.write_hexadecimal-b.ensures c.write_hexadecimal-b.auto.out) c.write_byte-c.ensures c.write_byte-c.auto.out) c.write_number-d.ensures c.write_number-d.auto.out) c.write_number-e.ensures c.write_number-e.auto.out) c.write_bytes-f.ensures c.write_bytes-f.auto.out)
    in
    omega arith

pub shape_of-out : goal.shape_of-out
shape_of-out c =
    c.write_byte.auto.out ∙ c.write_bytes-f.auto.out ∙ c.write_number-e.auto.out ∙ c.write_number-d.auto.out ∙ c.write_byte-c.auto.out ∙ c.write_hexadecimal-b.auto.out ∙ c.write_number-a.auto.out

pub returns : goal.returns
returns c =
    piece-last (10 ∷ [])
    (piece-done c.args.bases.now _ (piece-done (numbered c.args.edges 32) _ (piece-done (numbered c.args.closing 32) _ (piece-done (32 ∷ []) _ (piece-done (hexadecimal 16 (to_bits binary64 c.args.score)) _ (piece-done (numbered c.args.rank 32) _ (path-begin c.args.score c.args.closing c.args.edges c.args.bases.now c.args.rank c.args.out.now c.args.at c.requires.1) c.write_number-a.ensures c.write_number-a.auto.out) c.write_hexadecimal-b.ensures c.write_hexadecimal-b.auto.out) c.write_byte-c.ensures c.write_byte-c.auto.out) c.write_number-d.ensures c.write_number-d.auto.out) c.write_number-e.ensures c.write_number-e.auto.out) c.write_bytes-f.ensures c.write_bytes-f.auto.out)
    c.write_byte.ensures
