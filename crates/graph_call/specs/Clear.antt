-- Workspace that is zero throughout. Assumes nothing.
use Rattle.std.specs.Prelude.{◌≡◌, List, ◌++◌, ℕ, ◌≤◌, length, drop, take}
use Rattle.std.proofs.Common.{sym, ap, ◌∙◌, length-take-le}
use Rattle.definition.specs.Calls.{written_at}
use Rattle.graph_rows.specs.Zeros.{written-zeros}
use Rattle.graph_work.specs.Clear.{zeros}

-- the part of the length told is zero, and what is beyond is as it was
pub cleared-part : (n : ℕ) (w p : List ℕ) → n ≤ length w → p ≡ zeros (length (take n w)) → p ++ drop n w ≡ written_at 0 (zeros n) w
cleared-part n w p h e = ap (λ (l : List ℕ). l ++ drop n w) (e ∙ ap zeros (length-take-le n w h)) ∙ sym (written-zeros 0 n w)

pub record Zeroed (wv wv' we we' wi wi' wx wx' wo wo' : List ℕ) : Type 0 where
  pub w-vertices : wv' ≡ zeros (length wv)
  pub w-edges : we' ≡ zeros (length we)
  pub w-index : wi' ≡ zeros (length wi)
  pub w-nodes : wx' ≡ zeros (length wx)
  pub w-open : wo' ≡ zeros (length wo)
