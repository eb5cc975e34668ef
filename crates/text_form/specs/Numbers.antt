-- Decimal numbers as they are read: digit by digit, given up where the size passes that of every i32.
use Rattle.std.specs.Prelude.{◌≡◌, Bool, true, false, cond, leb, ℕ, suc, ◌+◌, ◌-◌, ◌*◌, ◌<◌, ◌≤◌, List, [], ◌∷◌, ℤ, pos, negsuc, neg_ℤ, length, get_or, take, drop, refl, FitsSigned, eqb, unsigned_abs, Result, Ok, Err}
use Rattle.std.proofs.Common.{sym, ap, ◌∙◌, add-one, arith, SFits, leb-true, leb-false, le-leb, drop_of_length-le}
use Rattle.std.proofs.Math.Seq.{drop-cons}
use Rattle.std.specs.Cmp.Lexicographic.{pointwise}
use Rattle.std.specs.Char.{is_ascii_digit}
use Rattle.std.proofs.Math.Option.{Option, none, some}
use Rattle.std.specs.Int.{w32, FitsUnsignedBits}
use Rattle.std.specs.Result.{result_ok, result_unwrap_or, OkIff}
use Rattle.std.proofs.lemmas.Bool.{lt-leb}
use Rattle.laws.specs.Numbers.{within}
use Rattle.definition.specs.Limits.{k_fits}
use Rattle.definition.specs.Text.{digits_from, magnitude, not_negative, negative, number, byte_of, size_of, k_within, asked_within}
use Rattle.text_form.specs.Told.{told}

-- sizes that an i32 has
unfoldable pub bounded : Option ℕ → Option ℕ
bounded none = none
bounded (some n) = cond (leb n 2147483648) (some n) none

-- the paths asked as they are handed on: a number below 0 is as good as one above 8
abbrev pub asked_of : ℤ → ℕ
asked_of (pos n) = n
asked_of (negsuc n) = 9

-- ---- one digit more

digit-in : (v b : ℕ) → 48 ≤ b → b ≤ 57 → digits_from v (b ∷ []) ≡ some (v * 10 + (b - 48))
unfolding digits_from
digit-in v b h k = rw (le-leb 48 b h, le-leb b 57 k, digits_from)

module _ (v b : ℕ) where
  pub digit-out : is_ascii_digit b ≡ false → none ≡ bounded (digits_from v (b ∷ []))
  unfolding digits_from bounded
  digit-out h = let e : within 48 57 b ≡ false = h in rw (e, digits_from)

  pub digit-beyond : 48 ≤ b → b ≤ 57 → 2147483648 < v * 10 + (b - 48) → none ≡ bounded (digits_from v (b ∷ []))
  unfolding bounded
  digit-beyond h k l = rw (digit-in v b h k, lt-leb (v * 10 + (b - 48)) 2147483648 l)

  pub digit-taken : 48 ≤ b → b ≤ 57 → v * 10 + (b - 48) ≤ 2147483648 → some (v * 10 + (b - 48)) ≡ bounded (digits_from v (b ∷ []))
  unfolding bounded
  digit-taken h k l = rw (digit-in v b h k, le-leb (v * 10 + (b - 48)) 2147483648 l)

-- ---- all digits

-- a size beyond stays beyond
grown : (v : ℕ) (bs : List ℕ) → 2147483648 < v → bounded (digits_from v bs) ≡ none
unfolding digits_from bounded
grown v [] h = rw (lt-leb v 2147483648 h)
grown v (b ∷ bs) h = go (within 48 57 b) refl (grown (v * 10 + (b - 48)) bs (omega arith))
  where
    go : (t : Bool) → within 48 57 b ≡ t → bounded (digits_from (v * 10 + (b - 48)) bs) ≡ none → bounded (digits_from v (b ∷ bs)) ≡ none
    go true e ih = rw (e, digits_from) ih
    go false e ih = rw (e, digits_from)

-- where one digit more can't be taken, nor can more
more-none : (v b : ℕ) (bs : List ℕ) → none ≡ bounded (digits_from v (b ∷ [])) → bounded (digits_from v (b ∷ bs)) ≡ none
unfolding digits_from bounded
more-none v b bs e = go (within 48 57 b) refl
  where
    big : (t : Bool) → leb (v * 10 + (b - 48)) 2147483648 ≡ t → within 48 57 b ≡ true → bounded (digits_from (v * 10 + (b - 48)) bs) ≡ none
    big true f g =
        let z : none ≡ some (v * 10 + (b - 48)) = rw (g, digits_from, f) at e in
        let w : ◌≡◌ {A = ℕ} 0 1 = cc in
        absurd (omega arith)
    big false f g = grown (v * 10 + (b - 48)) bs (leb-false (v * 10 + (b - 48)) 2147483648 f)

    go : (t : Bool) → within 48 57 b ≡ t → bounded (digits_from v (b ∷ bs)) ≡ none
    go true f = rw (f, digits_from) (big (leb (v * 10 + (b - 48)) 2147483648) refl f)
    go false f = rw (f, digits_from)

more-some : (v b w : ℕ) (bs : List ℕ) → some w ≡ bounded (digits_from v (b ∷ [])) → (digits_from v (b ∷ bs) ≡ digits_from w bs) × (w ≤ 2147483648)
unfolding digits_from bounded
more-some v b w bs e = go (within 48 57 b) refl
  where
    big : (t : Bool) → leb (v * 10 + (b - 48)) 2147483648 ≡ t → within 48 57 b ≡ true → (digits_from v (b ∷ bs) ≡ digits_from w bs) × (w ≤ 2147483648)
    big true f g =
        let z : some w ≡ some (v * 10 + (b - 48)) = rw (g, digits_from, f) at e in
        let y : w ≡ v * 10 + (b - 48) = cc in
        let l = leb-true (v * 10 + (b - 48)) 2147483648 f in
        (rw (g, digits_from) (ap (λ (n : ℕ). digits_from n bs) (sym y)), omega arith)
    big false f g =
        let z : some w ≡ none = rw (g, digits_from, f) at e in
        let y : ◌≡◌ {A = ℕ} 0 1 = cc in
        absurd (omega arith)

    go : (t : Bool) → within 48 57 b ≡ t → (digits_from v (b ∷ bs) ≡ digits_from w bs) × (w ≤ 2147483648)
    go true f = big (leb (v * 10 + (b - 48)) 2147483648) refl f
    go false f =
        let z : some w ≡ none = rw (f, digits_from) at e in
        let y : ◌≡◌ {A = ℕ} 0 1 = cc in
        absurd (omega arith)

-- the digits from `place` on, behind digits of this value, are worth what all are
pub record Reading (digits : List ℕ) (value place : ℕ) : Type 0 where
  pub whole : digits_from value (drop place digits) ≡ digits_from 0 digits
  pub small : value ≤ 2147483648

module _ {digits : List ℕ} {value place : ℕ} (s : Reading digits value place) where
  pub read-end : length digits ≤ place → some value ≡ bounded (digits_from 0 digits)
  unfolding digits_from bounded
  read-end h =
      let f : drop place digits ≡ [] = drop_of_length-le digits h in
      rw (← s.whole, f, digits_from, le-leb value 2147483648 s.small)

  module _ (h : place < length digits) where
    next : drop place digits ≡ get_or digits place 0 ∷ drop (suc place) digits
    next = drop-cons digits place 0 h

    pub read-stop : none ≡ bounded (digits_from value (get_or digits place 0 ∷ [])) → none ≡ bounded (digits_from 0 digits)
    read-stop e =
        sym (ap bounded (sym s.whole ∙ ap (digits_from value) next) ∙ more-none value (get_or digits place 0) (drop (suc place) digits) e)

    pub read_next : (v : ℕ) → some v ≡ bounded (digits_from value (get_or digits place 0 ∷ [])) → Reading digits v (place + 1)
    read_next v e =
        let g = more-some value (get_or digits place 0) v (drop (suc place) digits) e in
        record {
          whole = ap (λ (n : ℕ). digits_from v (drop n digits)) (add-one place) ∙ sym g.0 ∙ ap (digits_from value) (sym next) ∙ s.whole;
          small = g.1;
        }

-- ---- signs

pub bounded-some : (o : Option ℕ) (n : ℕ) → some n ≡ bounded o → (o ≡ some n) × (n ≤ 2147483648)
unfolding bounded
bounded-some none n e = let z : ◌≡◌ {A = ℕ} 0 1 = cc in absurd (omega arith)
bounded-some (some m) n e = go (leb m 2147483648) refl
  where
    go : (t : Bool) → leb m 2147483648 ≡ t → (some m ≡ some n) × (n ≤ 2147483648)
    go true f = let z : some n ≡ some m = rw f at e in let y : n ≡ m = cc in let l = leb-true m 2147483648 f in (sym z, omega arith)
    go false f = let z : some n ≡ none = rw f at e in let y : ◌≡◌ {A = ℕ} 0 1 = cc in absurd (omega arith)

bounded-none : (o : Option ℕ) → none ≡ bounded o → (negative o ≡ none) × (not_negative o ≡ none)
unfolding bounded negative not_negative
bounded-none none e = (refl, refl)
bounded-none (some m) e = go (leb m 2147483648) refl
  where
    go : (t : Bool) → leb m 2147483648 ≡ t → (negative (some m) ≡ none) × (not_negative (some m) ≡ none)
    go true f = let z : none ≡ some m = rw f at e in let y : ◌≡◌ {A = ℕ} 0 1 = cc in absurd (omega arith)
    go false f = let l = leb-false m 2147483648 f in (rw f, rw (lt-leb m 2147483647 (omega arith)))

-- without a digit there is no magnitude
pub magnitude-none : (digits : List ℕ) → length digits ≡ 0 → none ≡ bounded (magnitude digits)
unfolding bounded magnitude
magnitude-none [] h = refl
magnitude-none (b ∷ bs) h = absurd (omega arith)

pub magnitude-some : (digits : List ℕ) → 0 < length digits → digits_from 0 digits ≡ magnitude digits
unfolding magnitude
magnitude-some [] h = absurd (omega arith)
magnitude-some (b ∷ bs) h = refl

-- a part begins with a hyphen if its first byte is taken off as one
number-hyphen : (part : List ℕ) → pointwise eqb (take 1 part) (45 ∷ []) ≡ true → number part ≡ negative (magnitude (drop 1 part))
unfolding number
number-hyphen [] h = let z : ◌≡◌ {A = ℕ} 0 1 = cc in absurd (omega arith)
number-hyphen (b ∷ bs) h = go (eqb b 45) refl
  where
    go : (t : Bool) → eqb b 45 ≡ t → number (b ∷ bs) ≡ negative (magnitude bs)
    go true e = rw (e, number)
    go false e = let f : false ≡ true = rw e at h in let z : ◌≡◌ {A = ℕ} 0 1 = cc in absurd (omega arith)

number-plain : (part : List ℕ) → pointwise eqb (take 1 part) (45 ∷ []) ≡ false → number part ≡ not_negative (magnitude part)
unfolding number magnitude not_negative
number-plain [] h = refl
number-plain (b ∷ bs) h = go (eqb b 45) refl
  where
    go : (t : Bool) → eqb b 45 ≡ t → number (b ∷ bs) ≡ not_negative (magnitude (b ∷ bs))
    go true e = let f : true ≡ false = rw e at h in let z : ◌≡◌ {A = ℕ} 0 1 = cc in absurd (omega arith)
    go false e = rw (e, number)

module _ (part : List ℕ) where
  module _ (h : pointwise eqb (take 1 part) (45 ∷ []) ≡ true) where
    pub negative-bad : none ≡ bounded (magnitude (drop 1 part)) → none ≡ number part
    negative-bad e = sym (number-hyphen part h ∙ (bounded-none (magnitude (drop 1 part)) e).0)

    pub negative-good : (n : ℕ) → some n ≡ bounded (magnitude (drop 1 part)) → some (neg_ℤ (pos n)) ≡ number part
    unfolding negative
    negative-good n e =
        let b = bounded-some (magnitude (drop 1 part)) n e in
        sym (number-hyphen part h ∙ rw (b.0, le-leb n 2147483648 b.1))

  module _ (h : pointwise eqb (take 1 part) (45 ∷ []) ≡ false) where
    pub positive-bad : none ≡ bounded (magnitude part) → none ≡ number part
    positive-bad e = sym (number-plain part h ∙ (bounded-none (magnitude part) e).1)

    pub positive-good : {E : Type 0} (n : ℕ) (r : Result ℤ E) → some n ≡ bounded (magnitude part) → OkIff r (FitsSigned w32 (pos n)) (pos n)
        → told (result_ok r) ≡ number part
    unfolding not_negative
    positive-good n (Err x) e k =
        let b = bounded-some (magnitude part) n e in
        sym (number-plain part h ∙ rw (b.0, lt-leb n 2147483647 (go (leb n 2147483647) refl)))
      where
        go : (t : Bool) → leb n 2147483647 ≡ t → 2147483647 < n
        go true f = let l = leb-true n 2147483647 f in absurd (k (record { sfits = omega arith }))
        go false f = leb-false n 2147483647 f
    positive-good n (Ok z) e k =
        let b = bounded-some (magnitude part) n e in
        let f = k.0.sfits in
        ap (λ (x : ℤ). some x) k.1 ∙ sym (number-plain part h ∙ rw (b.0, le-leb n 2147483647 (omega arith)))

-- ---- what the settings ask of a value

module _ {E : Type 0} where
  pub byte-told : (z : ℤ) (r : Result ℕ E) → OkIff r (FitsUnsignedBits 8 z) (unsigned_abs z) → told (result_ok r) ≡ byte_of z
  unfolding byte_of
  byte-told (pos n) (Ok m) h = let e : m ≡ n = h.1 in rw (e, le-leb n 255 (omega (arith, h.0)))
  byte-told (pos n) (Err e) h = rw (lt-leb n 255 (omega (arith, h)))
  byte-told (negsuc n) (Ok m) h = absurd (h.0)
  byte-told (negsuc n) (Err e) h = refl

  pub size-told : (z : ℤ) (r : Result ℕ E) → SFits w32 z → OkIff r (FitsUnsignedBits 32 z) (unsigned_abs z) → result_unwrap_or r 0 ≡ size_of z
  unfolding size_of
  size-told (pos n) (Ok m) f h = h.1
  size-told (pos n) (Err e) f h = absurd (let g = f.sfits in h (omega arith))
  size-told (negsuc n) (Ok m) f h = absurd (h.0)
  size-told (negsuc n) (Err e) f h = refl

pub k-within : (z : ℤ) → k_within z ≡ k_fits (size_of z)
unfolding k_within size_of k_fits
k-within (pos n) = refl
k-within (negsuc n) = refl

pub asked-within : (z : ℤ) → asked_within z ≡ leb (asked_of z) 8
unfolding asked_within
asked-within (pos n) = refl
asked-within (negsuc n) = refl

pub asked-same : (z : ℤ) → asked_of z ≤ 8 → asked_of z ≡ size_of z
unfolding size_of
asked-same (pos n) h = refl
asked-same (negsuc n) h = absurd (omega arith)
