-- The program's own refusals among 1 to 5, parted as the code checks them.
use Rattle.std.specs.Prelude.{◌≡◌, Bool, ◌&&◌, List, [], ◌∷◌, ◌++◌, ℕ, ◌<◌, ◌≤◌, length}
use Rattle.std.proofs.Common.{refl, sym, ap, ◌∙◌, arith, true, false, leb, eqb, le-leb}
use borrow.Author.Tests.{lt-leb}
use Rattle.laws.specs.Lists.{all, last_or}
use Rattle.definition.specs.Refusal.{Rule, first_broken}
use Rattle.definition.specs.Limits.{Sample, rising, ends_fit, reads_fit, sample_rules}
use Rattle.definition.specs.Text.{Text, text_rules, sample_of, size_of, even_read, ends_from, all_bases, all_qualities, asked_within}
use Rattle.limits.specs.Rules.{rule, reference_rules, broken, holds, all_hold, first-broken, first-hold, reference-numbered, sample-numbered}
use Rattle.limits.specs.Handed as L
use Rattle.text_form.specs.Numbers.{k-within, asked-within}
use Rattle.text_form.specs.Headers.{shown}
use Rattle.paths_text.specs.Gather.{length-ends}
use Rattle.text_form.specs.declared.header.Settings.{Settings}

-- what is handed to `check_text` is the text t
pub record Handed (s : Settings) (reference ends bases qualities : List ℕ) (count : ℕ) (even : Bool) (t : Text) : Type 0 where
  pub settings : s ≡ shown t.header
  pub reference-is : reference ≡ t.reference
  pub count-is : count ≡ length t.reads
  pub even_is : even ≡ all even_read t.reads
  pub reads : even ≡ true → count ≤ 512
      → (ends ≡ ends_from 0 t.reads) × (bases ≡ all_bases t.reads) × (qualities ≡ all_qualities t.reads)

-- the rules of a text behind those of its reference
text-parts : (t : Text) → reference_rules (size_of t.header.k) t.reference
    ++ (rule 4 (all even_read t.reads && reads_fit (sample_of t)) ∷ rule 5 (asked_within t.header.asked) ∷ []) ≡ text_rules t
unfolding reference_rules text_rules
text-parts t = let e = k-within t.header.k in rw (← e)

-- and behind those of its sample
sample-parts : (t : Text) → all even_read t.reads ≡ true → sample_rules (sample_of t) ++ (rule 5 (asked_within t.header.asked) ∷ []) ≡ text_rules t
unfolding sample_rules text_rules sample_of
sample-parts t h = let e = k-within t.header.k in rw (e, h)

module _ {s : Settings} {reference ends bases qualities : List ℕ} {count : ℕ} {even : Bool} (t : Text)
    (d : Handed s reference ends bases qualities count even t) where
  k-is : s.k ≡ size_of t.header.k
  k-is = ap (λ (x : Settings). x.k) d.settings

  reference-same : reference_rules s.k reference ≡ reference_rules (size_of t.header.k) t.reference
  reference-same = ap (λ (x : ℕ). reference_rules x reference) k-is ∙ ap (reference_rules (size_of t.header.k)) d.reference-is

  pub reads-refused : (r : ℕ) → ((rest : List Rule) → r ≡ first_broken (reference_rules s.k reference ++ (rule 4 false ∷ rest)))
      → (all even_read t.reads && reads_fit (sample_of t)) ≡ false → r ≡ first_broken (text_rules t)
  reads-refused r f h =
      let rest : List Rule = rule 5 (asked_within t.header.asked) ∷ [] in
      f rest
      ∙ ap (λ (x : List Rule). first_broken (x ++ (rule 4 false ∷ rest))) reference-same
      ∙ ap (λ (x : Bool). first_broken (reference_rules (size_of t.header.k) t.reference ++ (rule 4 x ∷ rest))) (sym h)
      ∙ ap first_broken (text-parts t)

  pub uneven : even ≡ false → (all even_read t.reads && reads_fit (sample_of t)) ≡ false
  uneven e = let f : all even_read t.reads ≡ false = sym d.even_is ∙ e in rw f

  pub too_many : 512 < count → (all even_read t.reads && reads_fit (sample_of t)) ≡ false
  unfolding reads_fit ends_fit sample_of
  too_many h =
      let l = length-ends 0 t.reads in
      let c = d.count-is in
      let f : leb (length (ends_from 0 t.reads)) 512 ≡ false = lt-leb (length (ends_from 0 t.reads)) 512 (omega arith) in
      rw f
      (go (all even_read t.reads) (rising 0 (ends_from 0 t.reads) && eqb (last_or 0 (ends_from 0 t.reads)) (length (all_bases t.reads)))
      (leb (length (all_bases t.reads)) 32768)
      (eqb (length (all_qualities t.reads)) (length (all_bases t.reads))))
    where
      go : (a b x y : Bool) → (a && (b && false && x && y)) ≡ false
      go true true x y = refl
      go true false x y = refl
      go false b x y = refl

  module _ (e : even ≡ true) (h : count ≤ 512) where
    evens : all even_read t.reads ≡ true
    evens = sym d.even_is ∙ e

    pub sample-is : L.sample_of s.k s.quality reference ends bases qualities ≡ sample_of t
    unfolding sample_of
    sample-is =
        let r = d.reads e h in
        let q : s.quality ≡ t.header.quality = ap (λ (x : Settings). x.quality) d.settings in
        rw (k-is, q, d.reference-is, r.0, r.1, r.2)

    module _ (n : ℕ) (f : n ≡ first_broken (sample_rules (L.sample_of s.k s.quality reference ends bases qualities))) where
      told : n ≡ first_broken (sample_rules (sample_of t))
      told = f ∙ ap (λ (x : Sample). first_broken (sample_rules x)) sample-is

      pub sample-refused : 0 < n → n ≡ first_broken (text_rules t)
      sample-refused k = first-broken (sample_rules (sample_of t)) (rule 5 (asked_within t.header.asked) ∷ []) n told k ∙ ap first_broken (sample-parts t evens)

    module _ (f : 0 ≡ first_broken (sample_rules (L.sample_of s.k s.quality reference ends bases qualities))) where
      asked_is : asked_within t.header.asked ≡ leb s.asked 8
      asked_is = asked-within t.header.asked ∙ ap (λ (x : ℕ). leb x 8) (ap (λ (x : Settings). x.asked) (sym d.settings))

      last : first_broken (rule 5 (asked_within t.header.asked) ∷ []) ≡ first_broken (text_rules t)
      last =
          first-hold (sample_rules (sample_of t)) (rule 5 (asked_within t.header.asked) ∷ []) (sample-numbered (sample_of t)) (told 0 f)
          ∙ ap first_broken (sample-parts t evens)

      pub paths-refused : 8 < s.asked → 5 ≡ first_broken (text_rules t)
      paths-refused l = broken 5 (asked_within t.header.asked) [] (asked_is ∙ lt-leb s.asked 8 l) ∙ last

      pub text-accepted : s.asked ≤ 8 → 0 ≡ first_broken (text_rules t)
      text-accepted l = all_hold ∙ holds 5 (asked_within t.header.asked) [] (asked_is ∙ le-leb s.asked 8 l) ∙ last

-- 1 to 3, then 4
module _ (k : ℕ) (reference : List ℕ) (rest : List Rule) where
  abbrev rules : List Rule
  rules = reference_rules k reference ++ (rule 4 false ∷ rest)

  pub reference-fails : (n : ℕ) → n ≡ first_broken (reference_rules k reference) → 0 < n → n ≡ first_broken rules
  reference-fails n e h = first-broken (reference_rules k reference) (rule 4 false ∷ rest) n e h

  pub fourth-fails : 0 ≡ first_broken (reference_rules k reference) → 4 ≡ first_broken rules
  fourth-fails e = broken 4 false rest refl ∙ first-hold (reference_rules k reference) (rule 4 false ∷ rest) (reference-numbered k reference) e
