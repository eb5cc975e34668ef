-- Numbers as the writers make them: the last digit behind the digits before it.
use Rattle.std.specs.Prelude.{◌≡◌, refl, Bool, true, false, List, [], ◌∷◌, ◌++◌, ℕ, zero, suc, ◌+◌, ◌-◌, ◌*◌, ◌/◌, ◌%◌, ◌<◌, ◌≤◌, leb, length}
use Rattle.std.proofs.Common.{sym, ap, ◌∙◌, arith, length-append, leb-true, leb-false, le-leb}
use Rattle.std.proofs.lemmas.Bool.{lt-leb}
use Rattle.definition.specs.Text.{decimal_within, decimal, hex_digit, hexadecimal}
use Rattle.paths_output.specs.Written.{Wrote, wrote_then, written-sets}

-- ---- decimal

small-within : (f n : ℕ) → n ≤ f → n ≤ 9 → decimal_within f n ≡ (48 + n) ∷ []
unfolding decimal_within
small-within zero n h l = let e : n ≡ 0 = omega arith in rw e
small-within (suc f) n h l = rw (le-leb n 9 l, decimal_within)

large-within : (f n : ℕ) → 9 < n → decimal_within (suc f) n ≡ decimal_within f (n / 10) ++ (48 + n % 10) ∷ []
unfolding decimal_within
large-within f n l = rw (lt-leb n 9 l, decimal_within)

-- more digits than enough make no difference
same-within : (f g n : ℕ) → n ≤ f → n ≤ g → decimal_within f n ≡ decimal_within g n
same-within zero g n h k = small-within 0 n h (omega arith) ∙ sym (small-within g n k (omega arith))
same-within (suc f) zero n h k = small-within (suc f) n h (omega arith) ∙ sym (small-within 0 n k (omega arith))
same-within (suc f) (suc g) n h k = go (leb n 9) refl (same-within f g (n / 10))
  where
    go : (b : Bool) → leb n 9 ≡ b → (n / 10 ≤ f → n / 10 ≤ g → decimal_within f (n / 10) ≡ decimal_within g (n / 10)) → decimal_within (suc f) n ≡ decimal_within (suc g) n
    go true e ih = small-within (suc f) n h (leb-true n 9 e) ∙ sym (small-within (suc g) n k (leb-true n 9 e))
    go false e ih =
        let l = leb-false n 9 e in
        large-within f n l ∙ ap (λ (x : List ℕ). x ++ (48 + n % 10) ∷ []) (ih (omega arith) (omega arith)) ∙ sym (large-within g n l)

pub decimal-small : (n : ℕ) → n ≤ 9 → decimal n ≡ (48 + n) ∷ []
unfolding decimal
decimal-small n h = small-within n n (omega arith) h

pub decimal-large : (n : ℕ) → 9 < n → decimal n ≡ decimal (n / 10) ++ (48 + n % 10) ∷ []
unfolding decimal
decimal-large zero h = absurd (omega arith)
decimal-large (suc n) h =
    large-within n (suc n) h
    ∙ ap (λ (x : List ℕ). x ++ (48 + suc n % 10) ∷ []) (same-within n (suc n / 10) (suc n / 10) (omega arith) (omega arith))

length-large : (n : ℕ) → 9 < n → length (decimal n) ≡ length (decimal (n / 10)) + 1
length-large n h = ap length (decimal-large n h) ∙ length-append (decimal (n / 10)) ((48 + n % 10) ∷ [])

-- each digit more is a number ten times as large
longer-most : (M d : ℕ) → 0 < d → ((n : ℕ) → n ≤ M → length (decimal n) ≤ d) → (n : ℕ) → n ≤ M * 10 + 9 → length (decimal n) ≤ d + 1
longer-most M d p ih n h = go (leb n 9) refl
  where
    go : (b : Bool) → leb n 9 ≡ b → length (decimal n) ≤ d + 1
    go true e = let k = ap length (decimal-small n (leb-true n 9 e)) in omega arith
    go false e = let k = length-large n (leb-false n 9 e) in let j = ih (n / 10) (omega arith) in omega arith

-- a number of 32 bits has at most ten digits
pub decimal-most : (n : ℕ) → n < 4294967296 → length (decimal n) ≤ 10
decimal-most n h = m9 n (omega arith)
  where
    m0 : (n : ℕ) → n ≤ 9 → length (decimal n) ≤ 1
    m0 n h = let k = ap length (decimal-small n h) in omega arith

    m1 : (n : ℕ) → n ≤ 99 → length (decimal n) ≤ 2
    m1 = longer-most 9 1 (omega arith) m0

    m2 : (n : ℕ) → n ≤ 999 → length (decimal n) ≤ 3
    m2 = longer-most 99 2 (omega arith) m1

    m3 : (n : ℕ) → n ≤ 9999 → length (decimal n) ≤ 4
    m3 = longer-most 999 3 (omega arith) m2

    m4 : (n : ℕ) → n ≤ 99999 → length (decimal n) ≤ 5
    m4 = longer-most 9999 4 (omega arith) m3

    m5 : (n : ℕ) → n ≤ 999999 → length (decimal n) ≤ 6
    m5 = longer-most 99999 5 (omega arith) m4

    m6 : (n : ℕ) → n ≤ 9999999 → length (decimal n) ≤ 7
    m6 = longer-most 999999 6 (omega arith) m5

    m7 : (n : ℕ) → n ≤ 99999999 → length (decimal n) ≤ 8
    m7 = longer-most 9999999 7 (omega arith) m6

    m8 : (n : ℕ) → n ≤ 999999999 → length (decimal n) ≤ 9
    m8 = longer-most 99999999 8 (omega arith) m7

    m9 : (n : ℕ) → n ≤ 9999999999 → length (decimal n) ≤ 10
    m9 = longer-most 999999999 9 (omega arith) m8

-- ---- hexadecimal

pub length-hexadecimal : (d n : ℕ) → length (hexadecimal d n) ≡ d
unfolding hexadecimal
length-hexadecimal zero n = refl
length-hexadecimal (suc d) n =
    let a = length-append (hexadecimal d (n / 16)) (hex_digit (n % 16) ∷ []) in
    let b = length-hexadecimal d (n / 16) in
    omega arith

pub hexadecimal-none : (d n : ℕ) → d ≡ 0 → hexadecimal d n ≡ []
unfolding hexadecimal
hexadecimal-none zero n e = refl
hexadecimal-none (suc d) n e = absurd (omega arith)

pub hexadecimal-more : (d n : ℕ) → (d ≡ 0 → ⊥) → hexadecimal d n ≡ hexadecimal (d - 1) (n / 16) ++ hex_digit (n % 16) ∷ []
unfolding hexadecimal
hexadecimal-more zero n e = absurd (e refl)
hexadecimal-more (suc d) n e =
    let k : suc d - 1 ≡ d = omega arith in
    ap (λ (c : ℕ). hexadecimal c (n / 16) ++ hex_digit (n % 16) ∷ []) (sym k)

pub hex_digit-low : (d : ℕ) → d ≤ 9 → 48 + d ≡ hex_digit d
unfolding hex_digit
hex_digit-low d h = rw (le-leb d 9 h)

pub hex_digit-high : (d : ℕ) → 9 < d → 97 + (d - 10) ≡ hex_digit d
unfolding hex_digit
hex_digit-high d h = rw (lt-leb d 9 h) (omega arith)

-- ---- what the writers of numbers ask and tell

module _ (n : ℕ) where
  pub small-room : (at : ℕ) (out : List ℕ) → n ≤ 9 → at + length (decimal n) ≤ length out → at < length out
  small-room at out h r = let e = ap length (decimal-small n h) in omega arith

  pub small-wrote : {old new : List ℕ} {at r : ℕ} → n ≤ 9 → Wrote old new at ((48 + n) ∷ []) r → Wrote old new at (decimal n) r
  small-wrote h w = rw (decimal-small n h) w

  pub large-room : (at : ℕ) (out : List ℕ) → 9 < n → at + length (decimal n) ≤ length out → at + length (decimal (n / 10)) ≤ length out
  large-room at out h r = let e = length-large n h in omega arith

  pub large-next : (at : ℕ) {p l m : ℕ} → 9 < n → at + length (decimal n) ≤ l → p ≡ at + length (decimal (n / 10)) → m ≡ l → p < m
  large-next at h r e k = let f = length-large n h in omega arith

  pub large-wrote : {old mid new : List ℕ} {at p r : ℕ} → 9 < n → at + length (decimal n) ≤ length old
      → Wrote old mid at (decimal (n / 10)) p → Wrote mid new p ((48 + n % 10) ∷ []) r → Wrote old new at (decimal n) r
  large-wrote h k v w = rw (decimal-large n h) (wrote_then (let f = length-large n h in omega arith) v w)

module _ (d n : ℕ) where
  pub hex-none : (out : List ℕ) (at : ℕ) → d ≡ 0 → at + d ≤ length out → Wrote out out at (hexadecimal d n) at
  hex-none out at e h =
      rw (hexadecimal-none d n e) (record { is = sym (written-sets at [] out (omega arith)); next = omega arith })

  pub hex-next : (at : ℕ) {p l m : ℕ} → (d ≡ 0 → ⊥) → at + d ≤ l → p ≡ at + length (hexadecimal (d - 1) (n / 16)) → m ≡ l → p < m
  hex-next at h r e k = let f = length-hexadecimal (d - 1) (n / 16) in omega arith

  pub hex-wrote : {old mid new : List ℕ} {at p r x : ℕ} → (d ≡ 0 → ⊥) → at + d ≤ length old → x ≡ hex_digit (n % 16)
      → Wrote old mid at (hexadecimal (d - 1) (n / 16)) p → Wrote mid new p (x ∷ []) r → Wrote old new at (hexadecimal d n) r
  hex-wrote h k e v w =
      rw (hexadecimal-more d n h, ← e) (wrote_then (let f = length-hexadecimal (d - 1) (n / 16) in omega arith) v w)
