-- Laws of Booleans: the two cases as equations, and what clashes.
use Rattle.std.specs.Prelude.{◌≡◌, refl, ◌⊎◌, Bool, true, false, ◌||◌}
use Rattle.std.proofs.Common.{sym, ◌∙◌, inl, inr}
use Rattle.laws.specs.ListLaws.{clash}

pub Bool-cases : (t : Bool) → (t ≡ true) ⊎ (t ≡ false)
Bool-cases true = inl refl
Bool-cases false = inr refl

-- a test is not both
pub both_ways : {A : Type 0} {t : Bool} → t ≡ true → t ≡ false → A
both_ways p q = clash (sym p ∙ q)

pub or_split : (a b : Bool) → (a || b) ≡ true → (a ≡ true) ⊎ (b ≡ true)
or_split true b h = inl refl
or_split false b h = inr h

pub or_right : (a : Bool) → (a || true) ≡ true
or_right true = refl
or_right false = refl

pub or-false : (a : Bool) → (a || false) ≡ a
or-false true = refl
or-false false = refl
