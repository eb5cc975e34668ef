-- What the program prints, by what its parts answered.
use Rattle.std.specs.Prelude.{◌≡◌, refl, Bool, true, ◌&&◌, length, Float}
use Rattle.std.proofs.Common.{sym, ap, ◌∙◌, List, [], ℕ, zero, suc, ◌<◌, ◌≤◌, arith, leb, eqb, leb-true}
use Rattle.std.proofs.Math.Option.{Option, none, some}
use Rattle.laws.specs.Lists.{all, last_or}
use Rattle.laws.specs.ListLaws.{and_left, and_right}
use Rattle.definition.specs.Refusal.{first_broken}
use Rattle.definition.specs.Limits.{Input, rising, ends_fit, reads_fit, is_long_enough, list_rules}
use Rattle.definition.specs.Listing.{Answer, answer}
use Rattle.definition.specs.Text.{Text, text_of, column_of, with, text_rules, sample_of, input_of, size_of, even_read, ends_from, all_bases, asked_within, graph_maxima, search_maxima, after_text, answer_to, refused_line, printed_of, printed}
use Rattle.limits.specs.Rules.{none-broken}
use Rattle.limits.specs.Handed as L
use Rattle.text_form.specs.Numbers.{asked_of, asked-within, asked-same}
use Rattle.paths_text.specs.Gather.{length-ends}
use Rattle.paths_text.specs.Checks.{Handed, sample-is}
use Rattle.text_form.specs.declared.header.Settings.{Settings}

-- ---- 14

pub prints-no-text : (input file : Option (List ℕ)) → with input text_of ≡ none → refused_line 14 ≡ printed input file
unfolding printed printed_of answer_to
prints-no-text input file e = rw (e, answer_to)

pub prints-no-column : (input file : Option (List ℕ)) → with file column_of ≡ none → refused_line 14 ≡ printed input file
unfolding printed printed_of answer_to
prints-no-column input file f = go (with input text_of) refl
  where
    go : (o : Option Text) → with input text_of ≡ o → refused_line 14 ≡ printed_of (answer_to input file)
    go none e = rw (e, answer_to)
    go (some t) e = rw (e, answer_to, f)

-- ---- 1 to 5, and the call for the list

module _ (input file : Option (List ℕ)) (t : Text) (c : List Float) (e : with input text_of ≡ some t) (f : with file column_of ≡ some c) where
  answer-is : answer_to input file ≡ after_text t c (first_broken (text_rules t))
  unfolding answer_to
  answer-is = rw (e, answer_to, f)

  pub prints-refused : (n : ℕ) → n ≡ first_broken (text_rules t) → 0 < n → refused_line n ≡ printed input file
  unfolding printed printed_of after_text
  prints-refused zero h k = absurd (omega arith)
  prints-refused (suc n) h k = sym (ap printed_of (answer-is ∙ ap (after_text t c) (sym h)))

  pub prints-answer : 0 ≡ first_broken (text_rules t) → (a : Answer Float) → a ≡ answer (input_of t c) [] [] → printed_of a ≡ printed input file
  unfolding printed after_text
  prints-answer h a g = ap printed_of (g ∙ sym (answer-is ∙ ap (after_text t c) (sym h)))

-- slices as long as told change nothing
module _ (i : Input) (told lent : List ℕ) (h : is_long_enough told lent ≡ true) where
  pub answer-lent : answer i told lent ≡ answer i [] []
  unfolding answer list_rules is_long_enough
  answer-lent = rw h

-- ---- what an accepted text hands on

module _ {s : Settings} {reference ends bases qualities : List ℕ} {count : ℕ} {even : Bool} (t : Text)
    (d : Handed s reference ends bases qualities count even t) (z : 0 ≡ first_broken (text_rules t)) where
  hold : (all even_read t.reads && reads_fit (sample_of t)) ≡ true × asked_within t.header.asked ≡ true
  unfolding text_rules
  hold =
      let p = none-broken (text_rules t) (omega arith, (omega arith, (omega arith, (omega arith, (omega arith, tt))))) (sym z) in
      (p.1.1.1.0, p.1.1.1.1.0)

  pub is-even : even ≡ true
  is-even = d.even_is ∙ and_left (all even_read t.reads) (reads_fit (sample_of t)) hold.0

  pub are-few : count ≤ 512
  unfolding reads_fit ends_fit sample_of
  are-few =
      let es : List ℕ = ends_from 0 t.reads in
      let bs : List ℕ = all_bases t.reads in
      let x = and_right (all even_read t.reads) (reads_fit (sample_of t)) hold.0 in
      let y = and_left (rising 0 es && eqb (last_or 0 es) (length bs) && leb (length es) 512 && leb (length bs) 32768) (eqb (length (sample_of t).qualities) (length bs)) x in
      let w = and_left (rising 0 es && eqb (last_or 0 es) (length bs) && leb (length es) 512) (leb (length bs) 32768) y in
      let v = and_right (rising 0 es && eqb (last_or 0 es) (length bs)) (leb (length es) 512) w in
      let u = leb-true (length es) 512 v in
      let l = length-ends 0 t.reads in
      let c = d.count-is in
      omega arith

  asked_is : s.asked ≡ asked_of t.header.asked
  asked_is = ap (λ (x : Settings). x.asked) d.settings

  pub asked-most : s.asked ≤ 8
  asked-most =
      let e = asked_is in
      let h = leb-true (asked_of t.header.asked) 8 (sym (asked-within t.header.asked) ∙ hold.1) in
      omega arith

  -- the input of the call, as it is handed over, is the text's
  pub input-is : (c : List Float)
      → L.input_of (L.sample_of s.k s.quality reference ends bases qualities) s.asked s.threshold s.recovery graph_maxima search_maxima c ≡ input_of t c
  unfolding input_of
  input-is c =
      let a : s.asked ≡ size_of t.header.asked =
      asked_is ∙ asked-same t.header.asked (let e = asked_is in let h = asked-most in omega arith)
      in
      let th : s.threshold ≡ t.header.threshold = ap (λ (x : Settings). x.threshold) d.settings in
      let r : s.recovery ≡ t.header.recovery = ap (λ (x : Settings). x.recovery) d.settings in
      let m = sample-is t d is-even are-few in
      rw (m, a, th, r)
