-- The order of scores, and the list's order on rows, which is a strict weak order where the scores are fine.
use mathlib.Core.Path.{◌≡◌, refl, sym}
use Prim.Native.Nat.{ℕ}
use mathlib.Core.Bool.{Bool, true, false, not, ◌&&◌}
use mathlib.Core.Option.{some}
use Rattle.laws.specs.ListLaws.{clash, or-none}
use Rattle.laws.specs.Numbers.{compare_list, is_gt, list-flip, list-through}
use Rattle.laws.specs.Insertion.{StrictOrder}
use Rattle.definition.specs.Score.{Scoring}
use Rattle.definition.specs.Listing.{Row, above}

-- What is asked of a scoring's `less`: it goes one way only, and what is not less goes on through the scores that are `Fine`.
pub record Ordered {S : Type 0} (𝓢 : Scoring S) (Fine : S → Type 0) : Type 0 where
  pub one_way : (x y : S) → 𝓢.less x y ≡ true → 𝓢.less y x ≡ false
  pub through : (x y z : S) → Fine y → 𝓢.less x y ≡ false → 𝓢.less y z ≡ false → 𝓢.less x z ≡ false

-- The search makes only fine scores: the first is fine, and so is a fine one with a penalty.
pub record Keeps {S : Type 0} (𝓢 : Scoring S) (Fine : S → Type 0) : Type 0 where
  pub start_fine : Fine 𝓢.start
  pub plus-fine : (x d : S) (n t : ℕ) → Fine x → 𝓢.penalty n t ≡ some d → Fine (𝓢.plus x d)

-- ---- rows

module _ {S : Type 0} {𝓢 : Scoring S} {Fine : S → Type 0} (O : Ordered 𝓢 Fine) where
  -- above goes one way only
  above-flip : (q r : Row S) → above 𝓢 q r ≡ true → above 𝓢 r q ≡ false
  unfolding above
  above-flip q r e = go (𝓢.less r.score q.score) (𝓢.less q.score r.score) refl refl
    where
      go : (a b : Bool) → 𝓢.less r.score q.score ≡ a → 𝓢.less q.score r.score ≡ b → above 𝓢 r q ≡ false
      go true b f g = rw (O.one_way r.score q.score f, f)
      go false true f g = clash (sym (rw (f, g) at e))
      go false false f g = rw (f, g) (list-flip q.bases r.bases (rw (f, g) at e))

  -- what is not above goes on
  above-through : (a b c : Row S) → Fine a.score → Fine b.score → Fine c.score → above 𝓢 a b ≡ false → above 𝓢 b c ≡ false → above 𝓢 a c ≡ false
  unfolding above
  above-through a b c fa fb fc h k = go (𝓢.less a.score c.score) refl
    where
      h' : (𝓢.less b.score a.score ≡ false) × ((not (𝓢.less a.score b.score) && is_gt (compare_list a.bases b.bases)) ≡ false)
      h' = or-none (𝓢.less b.score a.score) _ h

      k' : (𝓢.less c.score b.score ≡ false) × ((not (𝓢.less b.score c.score) && is_gt (compare_list b.bases c.bases)) ≡ false)
      k' = or-none (𝓢.less c.score b.score) _ k

      ca : 𝓢.less c.score a.score ≡ false
      ca = O.through c.score b.score a.score fb k'.0 h'.0

      go : (t : Bool) → 𝓢.less a.score c.score ≡ t → above 𝓢 a c ≡ false
      go true e = rw (ca, e)
      go false e =
          let ab : 𝓢.less a.score b.score ≡ false = O.through a.score c.score b.score fc e k'.0 in
          let bc : 𝓢.less b.score c.score ≡ false = O.through b.score a.score c.score fa h'.0 e in
          rw (ca, e) (list-through a.bases b.bases c.bases (rw ab at h'.1) (rw bc at k'.1))

  -- so sorting and keeping commute
  pub above-order : StrictOrder (above 𝓢) (λ r. Fine r.score)
  above-order = record { flip = above-flip; through = above-through }
