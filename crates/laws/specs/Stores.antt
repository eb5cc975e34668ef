-- Runs of stores into a list: one after the other, and from the back.
use Rattle.std.specs.Prelude.{◌≡◌, refl, List, [], ◌∷◌, ◌++◌, ℕ, suc, ◌+◌, ◌<◌, ◌≤◌, length, set, take, drop}
use Rattle.std.proofs.Common.{ap, ◌∙◌, arith}
use Rattle.std.proofs.lemmas.List.Edits.{sets, sets-eq}
use Rattle.std.proofs.lemmas.List.{set_comm, take-append-le}
use Rattle.std.proofs.Math.Seq.{take-length}

module _ {A : Type 0} where
  pub sets-append : (l : List A) (i : ℕ) (a b : List A) → sets l i (a ++ b) ≡ sets (sets l i a) (i + length a) b
  sets-append l i [] b = let e : i + 0 ≡ i = omega arith in rw e
  sets-append l i (x ∷ a) b =
      let e : i + suc (length a) ≡ suc i + length a = omega arith in
      rw e (sets-append (set l i x) (suc i) a b)

  -- a store before a run of stores may come after it
  pub set-sets : (l : List A) (i : ℕ) (x : A) (j : ℕ) (b : List A) → i < j → set (sets l j b) i x ≡ sets (set l i x) j b
  set-sets l i x j [] h = refl
  set-sets l i x j (y ∷ b) h =
      set-sets (set l j y) i x (suc j) b (omega arith) ∙ ap (λ (m : List A). sets m (suc j) b) (set_comm l j i y x (omega arith))

  -- the second part may be stored first
  pub sets-back : (l : List A) (i : ℕ) (a b : List A) → sets (sets l (i + length a) b) i a ≡ sets l i (a ++ b)
  sets-back l i [] b = let e : i + 0 ≡ i = omega arith in rw e
  sets-back l i (x ∷ a) b =
      let e : i + suc (length a) ≡ suc i + length a = omega arith in
      ap (λ (m : List A). sets m (suc i) a) (set-sets l i x (i + suc (length a)) b (omega arith))
      ∙ ap (λ (k : ℕ). sets (sets (set l i x) k b) (suc i) a) e
      ∙ sets-back (set l i x) (suc i) a b

  -- what was stored at the front is read there
  pub take-sets : (l vs : List A) → length vs ≤ length l → take (length vs) (sets l 0 vs) ≡ vs
  take-sets l vs h =
      ap (λ (x : List A). take (length vs) x) (sets-eq vs l 0 (omega arith))
      ∙ take-append-le (length vs) vs (drop (0 + length vs) l) (omega arith)
      ∙ take-length vs

  -- one store behind a run of stores
  pub sets_more : (l : List A) (i : ℕ) (a : List A) (x : A) → sets l i (a ++ x ∷ []) ≡ set (sets l i a) (i + length a) x
  sets_more l i a x = sets-append l i a (x ∷ [])
