-- The scan of a run: the loop that looks for its end.
use Rattle.std.specs.Prelude.{◌≡◌, Bool, true, List, ℕ, ◌<◌, ◌≤◌, get_or}

-- all bytes from p to q are usable
pub record Running (good : ℕ → ℕ → Bool) (bs qs : List ℕ) (p e q : ℕ) : Type 0 where
  pub from : p ≤ q
  pub to : q ≤ e
  pub all : (j : ℕ) → p ≤ j → j < q → good (get_or bs j 0) (get_or qs j 0) ≡ true
