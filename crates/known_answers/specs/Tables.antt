-- What a call leaves in the tables of the workspace that it was lent. Assumes nothing.
use Rattle.std.specs.Prelude.{ℕ, List, nat_lt, ◌&&◌, if◌then◌else◌}
use Rattle.agreement.specs.Agree.{Left}

-- what tells the elements of a table where they were told: after refusals 1 to 7 what they were lent as, else zero
abbrev pub value_left : ℕ → ℕ → ℕ
value_left lent refusal = if nat_lt 0 refusal && nat_lt refusal 8 then lent else 0

-- a table of numbers: as far as it was told it holds that value, and behind that it is as it was lent
abbrev pub TableLeft : List ℕ → ℕ → ℕ → Type 0
TableLeft xs told refusal = Left (λ x. x) xs told (value_left 2863311530 refusal) 2863311530
