-- The waiting list always stands by falling score, so the path that is taken is one of the greatest score.
use mathlib.Core.Path.{◌≡◌, refl, subst}
use mathlib.Core.Logic.{◌⊎◌, inl, inr}
use Prim.Native.Nat.{ℕ}
use native.Mathlib.Omega.{arith}
use mathlib.Core.Bool.{Bool, true, false}
use mathlib.Core.List.{List, [], ◌∷◌}
use lib.Dec.{leb, ltb}
use lib.ListN.{length}
use Rattle.laws.specs.ListLaws.{All, nil, cons, all_head, all_tail, all-mono}
use Rattle.laws.specs.Insertion.{insert}
use Rattle.definition.specs.Score.{Scoring}
use Rattle.definition.specs.Search.{SearchInput, Path, State, Made, at_end, broken, made, more, ended, full, ahead, wait, push, push_all, advance, push_made, turn}
use Rattle.theorems.proofs.Order.{Ordered, Keeps}
use Rattle.theorems.proofs.Walks.{Good, GoodState, advance-made}
use Rattle.theorems.proofs.Runs.{all-wait}

-- none has a greater score than one before it
abbrev pub Queue : {S : Type 0} → Scoring S → List (Path S) → Type 0
Queue 𝓢 [] = Unit {0}
Queue 𝓢 (p ∷ ps) = All (λ q. 𝓢.less p.score q.score ≡ false) ps × Queue 𝓢 ps

module _ {S : Type 0} {𝓢 : Scoring S} {Fine : S → Type 0} (O : Ordered 𝓢 Fine) (K : Keeps 𝓢 Fine) (f : SearchInput) where
  wait-queue : (p : Path S) (qs : List (Path S)) → All (Good Fine f) qs → Queue 𝓢 qs → Queue 𝓢 (wait 𝓢 p qs)
  unfolding wait ahead insert
  wait-queue p [] a w = (nil, tt)
  wait-queue p (q ∷ qs) a w = go (𝓢.less q.score p.score) refl (wait-queue p qs (all_tail a) w.1)
    where
      go : (b : Bool) → 𝓢.less q.score p.score ≡ b → Queue 𝓢 (wait 𝓢 p qs) → Queue 𝓢 (wait 𝓢 p (q ∷ qs))
      go true e ih =
          let h : 𝓢.less p.score q.score ≡ false = O.one_way q.score p.score e in
          rw (e, insert) (cons h (all-mono (λ x k. O.through p.score q.score x.score (all_head a).fine h k) w.0), w)
      go false e ih = rw (e, insert) (all-wait 𝓢 p e w.0, ih)

  pushed-queue : (limit : ℕ) (ps : List (Path S)) (s s' : State S) → All (Good Fine f) ps → All (Good Fine f) s.waiting → Queue 𝓢 s.waiting
      → push_all 𝓢 limit ps s ≡ more s' → Queue 𝓢 s'.waiting
  unfolding push_all push
  pushed-queue limit [] s s' a g w t = let e : s ≡ s' = cc in subst (λ (x : State S). Queue 𝓢 x.waiting) e w
  pushed-queue limit (p ∷ ps) s s' a g w t = go (ltb s.pushes limit) refl (pushed-queue limit ps (push 𝓢 p s) s' (all_tail a))
    where
      go : (b : Bool) → ltb s.pushes limit ≡ b
          → (All (Good Fine f) (wait 𝓢 p s.waiting) → Queue 𝓢 (wait 𝓢 p s.waiting) → push_all 𝓢 limit ps (push 𝓢 p s) ≡ more s' → Queue 𝓢 s'.waiting)
          → Queue 𝓢 s'.waiting
      go false e ih = let h : full s (p ∷ ps) ≡ more s' = rw (e, push_all) at t in let z : ◌≡◌ {A = ℕ} 0 1 = cc in absurd (omega arith)
      go true e ih = ih (all-wait 𝓢 p (all_head a) g) (wait-queue p s.waiting g w) (rw (e, push_all) at t)

  -- a turn keeps the order (the first state's one path is in order)
  pub turn-queue : (asked limit : ℕ) (s s' : State S) → GoodState Fine f s → Queue 𝓢 s.waiting → turn 𝓢 f asked limit s ≡ more s' → Queue 𝓢 s'.waiting
  unfolding turn push_made
  turn-queue asked limit s s' g w t = go (leb asked (length s.closed)) refl
    where
      behind : (s₁ : State S) → (s₁.waiting ≡ []) ⊎ ((p : Path S) × (s.waiting ≡ p ∷ s₁.waiting)) → Queue 𝓢 s₁.waiting
      behind s₁ (inl e) = rw e tt
      behind s₁ (inr (p, e)) = (rw e at w).1

      after : (m : Made S) → advance 𝓢 f s s.waiting s.pivotal ≡ m → push_made 𝓢 limit s m ≡ more s' → Queue 𝓢 s'.waiting
      after at_end e h = let z : ◌≡◌ {A = ℕ} 0 1 = cc in absurd (omega arith)
      after (broken n) e h = let z : ◌≡◌ {A = ℕ} 0 1 = cc in absurd (omega arith)
      after (made s₁ ps) e h =
          let r = advance-made K f s s₁ s.waiting s.pivotal ps refl refl g e in
          pushed-queue limit ps s₁ s' r.paths r.good.waiting (behind s₁ r.taken) h

      go : (b : Bool) → leb asked (length s.closed) ≡ b → Queue 𝓢 s'.waiting
      go true e = let h : ended s ≡ more s' = rw (e, turn) at t in let z : ◌≡◌ {A = ℕ} 0 1 = cc in absurd (omega arith)
      go false e = after (advance 𝓢 f s s.waiting s.pivotal) refl (rw (e, turn) at t)
