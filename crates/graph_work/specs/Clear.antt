-- The tables that the build asks to be zero. Assumes nothing.
use Rattle.std.specs.Prelude.{◌≡◌, refl, List, ℕ, zero, suc, length, get_or, replicate}
use Rattle.std.proofs.Common.{ap, ◌∙◌}
use Rattle.std.proofs.lemmas.List.{length-replicate}

abbrev pub zeros : ℕ → List ℕ
zeros n = replicate n 0

zero-at : (n i : ℕ) → get_or (zeros n) i 0 ≡ 0
zero-at zero i = refl
zero-at (suc n) zero = refl
zero-at (suc n) (suc i) = zero-at n i

pub record Zero (w w' : List ℕ) : Type 0 where
  pub size : length w' ≡ length w
  pub zeros : (i : ℕ) → get_or w' i 0 ≡ 0

-- a slice that is filled with zeros
pub zero_of : {w w' : List ℕ} → w' ≡ zeros (length w) → Zero w w'
zero_of {w} {w'} e = record { size = ap length e ∙ length-replicate (length w) 0; zeros = λ i. rw e (zero-at (length w) i) }

pub record Cleared (wv wv' wi wi' wx wx' : List ℕ) : Type 0 where
  pub vertices : Zero wv wv'
  pub index : Zero wi wi'
  pub nodes : Zero wx wx'
