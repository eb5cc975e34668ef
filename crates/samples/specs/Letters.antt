-- Which letters are bases: a law for each return of the test. Assumes nothing.
use Rattle.std.specs.Prelude.{◌≡◌, ℕ, true, false, ◌⊎◌}
use Rattle.std.proofs.Common.{inl, inr, ne_eqb}
use Rattle.definition.specs.Limits.{is_base}

pub is-letter : (b : ℕ) → (b ≡ 65) ⊎ ((b ≡ 67) ⊎ ((b ≡ 71) ⊎ ((b ≡ 78) ⊎ (b ≡ 84)))) → true ≡ is_base b
unfolding is_base
is-letter b (inl e) = rw e
is-letter b (inr (inl e)) = rw e
is-letter b (inr (inr (inl e))) = rw e
is-letter b (inr (inr (inr (inl e)))) = rw e
is-letter b (inr (inr (inr (inr e)))) = rw e

pub no-letter : (b : ℕ) → ((b ≡ 65) ⊎ ((b ≡ 67) ⊎ ((b ≡ 71) ⊎ ((b ≡ 78) ⊎ (b ≡ 84)))) → ⊥) → false ≡ is_base b
unfolding is_base
no-letter b n =
    rw (ne_eqb b 65 (λ e. n (inl e)), ne_eqb b 67 (λ e. n (inr (inl e))), ne_eqb b 71 (λ e. n (inr (inr (inl e)))), ne_eqb b 84 (λ e. n (inr (inr (inr (inr e))))), ne_eqb b 78 (λ e. n (inr (inr (inr (inl e))))))
