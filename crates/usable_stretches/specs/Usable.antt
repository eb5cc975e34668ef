-- The test for a usable byte, in the code's steps. Assumes nothing.
use Rattle.std.specs.Prelude.{◌≡◌, refl, Bool, true, false, ◌&&◌, ℕ, leb}
use Rattle.std.proofs.Common.{◌∙◌}
use Rattle.definition.specs.Limits.{is_base}
use Rattle.definition.specs.Stretch.{usable}

pub usable-is : (least b q : ℕ) (t : Bool) → t ≡ is_base b → t ≡ true → leb least q ≡ usable least b q
unfolding usable
usable-is least b q t h e = rw (← h, e)

pub usable-not : (least b q : ℕ) (t : Bool) → t ≡ is_base b → t ≡ false → t ≡ usable least b q
unfolding usable
usable-not least b q t h e = rw (← h, e)

and-yes : (x : Bool) → x ≡ (x && true)
and-yes true = refl
and-yes false = refl

and-no : (x : Bool) → false ≡ (x && false)
and-no true = refl
and-no false = refl

-- the same where the quality is looked at first
pub usable-fine : (least b q : ℕ) (t : Bool) → t ≡ is_base b → leb least q ≡ true → t ≡ usable least b q
unfolding usable
usable-fine least b q t h e = rw e (h ∙ and-yes (is_base b))

pub usable-poor : (least b q : ℕ) → leb least q ≡ false → leb least q ≡ usable least b q
unfolding usable
usable-poor least b q e = rw e (and-no (is_base b))
