-- Rule 7: laws of `is_long_enough`, for a call that tests one slice after the other. Assumes nothing.
use Rattle.std.specs.Prelude.{◌≡◌, refl, true, false, List, [], ◌∷◌, ℕ, ◌<◌, ◌≤◌, leb}
use Rattle.std.proofs.Common.{leb-true, le-leb}
use Rattle.std.proofs.lemmas.Bool.{lt-leb}
use Rattle.laws.specs.ListLaws.{and_left, and_right}
use Rattle.definition.specs.Limits.{is_long_enough}

pub is-short : (n l : ℕ) (ns ls : List ℕ) → l < n → false ≡ is_long_enough (n ∷ ns) (l ∷ ls)
unfolding is_long_enough
is-short n l ns ls h = rw (lt-leb n l h)

pub no_short : (n l : ℕ) (ns ls : List ℕ) → n ≤ l → is_long_enough ns ls ≡ is_long_enough (n ∷ ns) (l ∷ ls)
unfolding is_long_enough
no_short n l ns ls h = rw (le-leb n l h)

pub none-short : true ≡ is_long_enough [] []
unfolding is_long_enough
none-short = refl

pub long-head : (n l : ℕ) (ns ls : List ℕ) → is_long_enough (n ∷ ns) (l ∷ ls) ≡ true → (n ≤ l) × (is_long_enough ns ls ≡ true)
unfolding is_long_enough
long-head n l ns ls h = (leb-true n l (and_left (leb n l) (is_long_enough ns ls) h), and_right (leb n l) (is_long_enough ns ls) h)
