-- Which numbers keep the workspace.
use Rattle.std.specs.Prelude.{◌≡◌, refl, ℕ, ◌+◌, ◌<◌, ◌≤◌, Bool, true, false, not, ◌⊎◌, eqb}
use Rattle.std.proofs.Common.{sym, ◌∙◌, arith, inl, inr, ne_eqb}
use Rattle.std.proofs.lemmas.Bool.{not-true, not-false, eqb-false}
use Rattle.laws.specs.ListLaws.{or-none}
use Rattle.definition.specs.Refusal.{returned, keeps_workspace}

-- ---- "Workspace after"

-- the table says "unchanged" of 1 to 7,
pub is-kept : (n : ℕ) → 1 ≤ n → n < 8 → true ≡ keeps_workspace n
unfolding keeps_workspace returned
is-kept n l h = go (keeps_workspace n) refl
  where
    go : (b : Bool) → keeps_workspace n ≡ b → true ≡ keeps_workspace n
    go true e = sym e
    go false e =
        let a = or-none (eqb n 1) _ e in
        let b = or-none (eqb n 2) _ a.1 in
        let c = or-none (eqb n 3) _ b.1 in
        let d = or-none (eqb n 4) _ c.1 in
        let f = or-none (eqb n 5) _ d.1 in
        let g = or-none (eqb n 6) _ f.1 in
        let k = or-none (eqb n 7) _ g.1 in
        let m = above 7 (above 6 (above 5 (above 4 (above 3 (above 2 (above 1 l a.0) b.0) c.0) d.0) f.0) g.0) k.0 in
        absurd (omega arith)
      where
        above : (m : ℕ) → m ≤ n → eqb n m ≡ false → m + 1 ≤ n
        above m h e = omega (arith, eqb-false n m e)

-- and of no other number
pub not-kept : (n : ℕ) → (n < 1) ⊎ (8 ≤ n) → false ≡ keeps_workspace n
unfolding keeps_workspace returned
not-kept n h =
    rw (ne_eqb n 1 (other 1 (omega arith) (omega arith)), ne_eqb n 2 (other 2 (omega arith) (omega arith)), ne_eqb n 3 (other 3 (omega arith) (omega arith)), ne_eqb n 4 (other 4 (omega arith) (omega arith)), ne_eqb n 5 (other 5 (omega arith) (omega arith)), ne_eqb n 6 (other 6 (omega arith) (omega arith)), ne_eqb n 7 (other 7 (omega arith) (omega arith)))
  where
    other : (m : ℕ) → 1 ≤ m → m < 8 → n ≡ m → ⊥
    other m a b e = go h
      where
        go : (n < 1) ⊎ (8 ≤ n) → ⊥
        go (inl l) = omega arith
        go (inr l) = omega arith
