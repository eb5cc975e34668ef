-- A link of the table, 0 for none, and the slot that it leads to.
use Rattle.std.specs.Prelude.{◌≡◌, refl, ℕ, zero, suc, ◌<◌, Option, Some, None}
use Rattle.std.proofs.Common.{arith}

abbrev pub slot_at : ℕ → Option ℕ
slot_at zero = None
slot_at (suc s) = Some (suc s)

abbrev pub link_to : Option ℕ → ℕ
link_to None = 0
link_to (Some s) = s

-- a slot that a link can lead to
abbrev pub Linked : Option ℕ → Type 0
Linked None = Unit {0}
Linked (Some s) = 0 < s

pub link_is : (l : ℕ) → link_to (slot_at l) ≡ l
link_is zero = refl
link_is (suc l) = refl

pub linked_at : (l : ℕ) → Linked (slot_at l)
linked_at zero = tt
linked_at (suc l) = omega arith

-- a slot that is there is not 0, and one that is not is told by 0
pub some-link : (o : Option ℕ) (s : ℕ) → Linked o → o ≡ Some s → s ≡ 0 → ⊥
some-link o s h e z = let k : Linked (Some s) = rw e at h in omega arith

pub none-link : (o : Option ℕ) → ((s : ℕ) → o ≡ Some s → ⊥) → link_to o ≡ 0
none-link None h = refl
none-link (Some s) h = absurd (h s refl)
