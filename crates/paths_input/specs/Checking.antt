-- The text as it was read, and checked.
use Rattle.std.specs.Prelude.{◌≡◌, refl, ◌⊎◌, List, ℕ, Result, Ok, Err}
use Rattle.std.proofs.Common.{ap, inl, inr, arith}
use Rattle.std.proofs.Math.Option.{Option, none, some}
use Rattle.definition.specs.Refusal.{first_broken}
use Rattle.definition.specs.Text.{Text, text_rules}
use Rattle.paths_text.specs.Sources.{Ready}
use Rattle.paths_text.specs.declared.source.Source.{Source}
use Rattle.refusals.specs.Numbers.{number}
use Rattle.refusals.specs.declared.Refusal.{Refusal}
use Rattle.refusals.specs.declared.Refusal.TheVariants.{Malformed}

-- what `check_input` answers
abbrev pub CheckSays : Option Text → List ℕ → List ℕ → Result Source Refusal → Type 0
CheckSays none T E r = r ≡ Err Malformed
CheckSays (some t) T E (Ok s) = (0 ≡ first_broken (text_rules t)) × Ready T E s t
CheckSays (some t) T E (Err e) = number e ≡ first_broken (text_rules t)

module _ (T' E' : List ℕ) where
  -- what was refused
  pub check-number : (o : Option Text) (e : Refusal) → CheckSays o T' E' (Err e)
      → ((o ≡ none) × (number e ≡ 14)) ⊎ ((t : Text) × (o ≡ some t) × (number e ≡ first_broken (text_rules t)))
  check-number none e q = let g : e ≡ Malformed = cc in inl (refl, ap number g)
  check-number (some t) e q = inr (t, refl, q)

  -- what was not
  pub check-fine : (o : Option Text) (s : Source) → CheckSays o T' E' (Ok s) → (t : Text) × (o ≡ some t) × (0 ≡ first_broken (text_rules t)) × Ready T' E' s t
  check-fine none s q = let z : ◌≡◌ {A = ℕ} 0 1 = cc in absurd (omega arith)
  check-fine (some t) s q = (t, refl, q.0, q.1)
