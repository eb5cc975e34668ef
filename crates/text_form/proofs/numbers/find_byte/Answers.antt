-- `find_byte` meets its contract: the library's search finds the first place. Assumes nothing.
use Rattle.std.proofs.Common.{ℕ, eqb, rules, tests}
use Rattle.std.proofs.lemmas.Iterator.{YieldsList-from_slice}
use Rattle.std.proofs.lemmas.Iterator.Search.{position_from_yields_List}
use Rattle.text_form.specs.Parts.{found-first}
use Rattle.text_form.proofs.numbers.find_byte.Goals as goal

pub returns : goal.returns
returns c =
    found-first c.args.byte c.args.text.now _
    (position_from_yields_List (λ (b : ℕ). eqb b c.args.byte) _ _ _ c.position.ensures.ran (YieldsList-from_slice c.args.text.now cc) (λ x b q k. search (rules, tests)))
