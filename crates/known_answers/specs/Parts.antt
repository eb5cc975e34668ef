-- Lists in the data: the length of each, then its elements, then the next. Assumes nothing.
use Rattle.std.specs.Prelude.{◌≡◌, ℕ, ◌<◌, List, [], ◌∷◌, length, take, drop, Option, MatchOption}
use Rattle.std.proofs.Common.{arith}
use Rattle.std.proofs.lemmas.List.{length-drop}
use denote.Ref.{Bor}
use Rattle.known_answers.specs.declared.numbers.Lists.{Lists}

-- the first list of some numbers, and what is behind it; one that the numbers cut short ends with them
abbrev pub Parted : List ℕ → List ℕ → List ℕ → Type 0
Parted [] list behind = (list ≡ []) × (behind ≡ [])
Parted (n ∷ rest) list behind = (list ≡ take n rest) × (behind ≡ drop n rest)

-- a step gave the first list of those left, and left the others
abbrev pub Steps : Lists → Option (Bor (List ℕ)) → Lists → Type 0
Steps s r t = MatchOption r ((s.0.now ≡ []) × (t.0.now ≡ [])) (λ l. (0 < length s.0.now) × Parted s.0.now l.now t.0.now)

-- so fewer are left
pub fewer : (numbers list behind : List ℕ) → 0 < length numbers → Parted numbers list behind → length behind < length numbers
fewer [] list behind h p = absurd (omega arith)
fewer (n ∷ rest) list behind h p = let e = p.1 in rw e (let l = length-drop n rest in omega arith)
