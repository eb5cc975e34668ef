-- `word_at` meets its contract. Assumes nothing.
use Rattle.std.proofs.Common.{◌≡◌, ◌∙◌, ap, length, take, drop, arith, length-take-le, length-drop}
use Rattle.definition.specs.Text.{lowest_first}
use Rattle.text_form.specs.Parts.{part_rest}
use Rattle.paths_text.specs.Entries.{word-is}
use Rattle.paths_text.proofs.column.word_at.Goals as goal

pub returns : goal.returns
returns c =
    let f = rw c.unwrap-word.ensures at c.first_chunk.ensures.cases in
    let e : c.unwrap-word.result.now ≡ take 8 (drop c.args.at c.args.bytes.now) = rw (part_rest c.args.at c.args.bytes.now) at f.same in
    let d = length-drop c.args.at c.args.bytes.now in
    let l : length c.unwrap-word.result.now ≡ 8 = ap length e ∙ length-take-le 8 (drop c.args.at c.args.bytes.now) (omega arith) in
    c.from_le_bytes.ensures ∙ word-is c.unwrap-word.result.now l ∙ ap lowest_first e
