-- `qualities_fit` meets its contract. Assumes nothing.
use Rattle.std.proofs.Common.{◌∙◌, rules, tests}
use Rattle.std.proofs.lemmas.Iterator.{YieldsList-from_slice}
use Rattle.std.proofs.lemmas.Iterator.Search.{all_from_yields_List}
use Rattle.std.specs.Char.{is_ascii_graphic}
use Rattle.text_form.specs.Reads.{graphic-all}
use Rattle.text_form.proofs.reads.qualities_fit.Goals as goal

pub returns : goal.returns
returns c =
    all_from_yields_List is_ascii_graphic _ _ _ c.all.ensures.ran (YieldsList-from_slice c.args.line.now cc) (λ x b q k. search (rules, tests))
    ∙ graphic-all c.args.line.now
