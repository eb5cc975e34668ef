-- The column file decoded: numbers of eight bytes, and the floats that they are the patterns of.
use Rattle.std.specs.Prelude.{◌≡◌, refl, Bool, true, false, not, ◌&&◌, List, [], ◌∷◌, ◌++◌, ℕ, zero, suc, ◌+◌, ◌*◌, ◌/◌, ◌%◌, ◌<◌, ◌≤◌, T, eqb, Option as Maybe, Some, None, length, take, drop, get_or, set, Float, IfSome}
use Rattle.std.proofs.Common.{sym, ap, ◌∙◌, arith, add-one, zero-add, length-set, length-append, drop-cons, drop-drop, take_all, le-leb, eq-eqb, ne_eqb}
use Rattle.std.proofs.Math.Option.{Option, none, some}
use Rattle.std.proofs.lemmas.List.Edits.{sets}
use Rattle.std.specs.Int.{w64, from_le_bytes}
use Rattle.std.specs.Float.{nan, binary64}
use Rattle.std.specs.Float.Ieee.{of_bits, of_fields, nan_bits}
use Rattle.std.proofs.lemmas.Bool.{lt-leb}
use Rattle.definition.specs.Text.{lowest_first, entries, column_of}
use Rattle.laws.specs.Stores.{sets_more}
use Rattle.definition.specs.Calls.{written_at}
use Rattle.paths_output.specs.Written.{written-sets}

-- what the definition reads is there, or the file is malformed and nothing is changed
abbrev pub Decoded : Option (List Float) → List Float → List Float → Maybe ℕ → Type 0
Decoded none old now r = (r ≡ None) × (now ≡ old)
Decoded (some es) old now r = (r ≡ Some (length es)) × (now ≡ written_at 0 es old)

-- ---- a number of eight bytes

lowest_step : (n at next : ℕ) (bs : List ℕ) → at < length bs → next ≡ suc at
    → lowest_first (take (suc n) (drop at bs)) ≡ get_or bs at 0 + 256 * lowest_first (take n (drop next bs))
unfolding lowest_first
lowest_step n at next bs h e = rw (e, drop-cons bs at 0 h)

pub word-is : (w : List ℕ) → length w ≡ 8 → from_le_bytes w64 w ≡ lowest_first w
unfolding lowest_first
word-is w l =
    let s0 = lowest_step 7 0 1 w (omega arith) (omega arith) in
    let s1 = lowest_step 6 1 2 w (omega arith) (omega arith) in
    let s2 = lowest_step 5 2 3 w (omega arith) (omega arith) in
    let s3 = lowest_step 4 3 4 w (omega arith) (omega arith) in
    let s4 = lowest_step 3 4 5 w (omega arith) (omega arith) in
    let s5 = lowest_step 2 5 6 w (omega arith) (omega arith) in
    let s6 = lowest_step 1 6 7 w (omega arith) (omega arith) in
    let s7 = lowest_step 0 7 8 w (omega arith) (omega arith) in
    let e : lowest_first (take 8 w) ≡ lowest_first w = ap lowest_first (take_all 8 w (omega arith)) in
    omega arith

-- ---- the float of a pattern

pub not-nan-exponent : (b : ℕ) → (b % 9223372036854775808 / 4503599627370496 ≡ 2047 → ⊥) → T (not (nan_bits binary64 b))
unfolding nan_bits
not-nan-exponent b h = rw (ne_eqb (b % 9223372036854775808 / 4503599627370496) 2047 h) tt

pub not-nan-digits : (b : ℕ) → b % 4503599627370496 ≡ 0 → T (not (nan_bits binary64 b))
unfolding nan_bits
not-nan-digits b h = rw (eq-eqb (b % 4503599627370496) 0 h) (go (eqb (b % 9223372036854775808 / 4503599627370496) 2047))
  where
    go : (t : Bool) → T (not (t && false))
    go true = tt
    go false = tt

pub nan-bits : (b : ℕ) → b % 9223372036854775808 / 4503599627370496 ≡ 2047 → (b % 4503599627370496 ≡ 0 → ⊥) → nan ≡ of_bits binary64 b
unfolding of_bits of_fields
nan-bits b h k = rw (h, ne_eqb (b % 4503599627370496) 0 k)

-- the code's NaN
pub the_nan : of_bits binary64 9221120237041090560 ≡ nan
unfolding of_bits of_fields
the_nan = refl

-- ---- the entries

length-entries : (n : ℕ) (bs : List ℕ) → length (entries n bs) ≡ n
unfolding entries
length-entries zero bs = refl
length-entries (suc n) bs = ap suc (length-entries n (drop 8 bs))

entries-more : (n : ℕ) (bs : List ℕ) → entries (suc n) bs ≡ entries n bs ++ of_bits binary64 (lowest_first (take 8 (drop (n * 8) bs))) ∷ []
unfolding entries
entries-more zero bs = refl
entries-more (suc n) bs =
    let e : 8 + n * 8 ≡ suc n * 8 = omega arith in
    ap (λ (l : List Float). of_bits binary64 (lowest_first (take 8 bs)) ∷ l) (entries-more n (drop 8 bs))
    ∙ rw (drop-drop (n * 8) 8 bs, e)

-- i entries are decoded
pub record Decoding (bs : List ℕ) (old now : List Float) (i : ℕ) : Type 0 where
  pub is : now ≡ sets old 0 (entries i bs)
  pub inside : i * 8 ≤ length bs
  pub same : length now ≡ length old

pub decode-start : (bs : List ℕ) (old : List Float) → Decoding bs old old 0
unfolding entries
decode-start bs old = record { is = refl; inside = omega arith; same = refl }

module _ {bs : List ℕ} {old now : List Float} {i : ℕ} (d : Decoding bs old now i) where
  pub decode-next : (x : Float) (w : ℕ) → i * 8 + 8 ≤ length bs → w ≡ lowest_first (take 8 (drop (i * 8) bs)) → x ≡ of_bits binary64 w
      → Decoding bs old (set now i x) (i + 1)
  decode-next x w h e f =
      let l = length-entries i bs in
      let g : x ≡ of_bits binary64 (lowest_first (take 8 (drop (i * 8) bs))) = f ∙ ap (of_bits binary64) e in
      record {
        is =
            ap (λ (y : List Float). set y i x) d.is
            ∙ sym (rw (zero-add (length (entries i bs)), l) at (sets_more old 0 (entries i bs) x))
            ∙ ap (λ (y : Float). sets old 0 (entries i bs ++ y ∷ [])) g
            ∙ ap (λ (y : List Float). sets old 0 y) (sym (entries-more i bs))
            ∙ ap (λ (n : ℕ). sets old 0 (entries n bs)) (sym (add-one i));
        inside = omega arith;
        same = length-set now i x ∙ d.same;
      }

ragged-none : (bs : List ℕ) → (length bs % 8 ≡ 0 → ⊥) → column_of bs ≡ none
unfolding column_of
ragged-none bs h = rw (ne_eqb (length bs % 8) 0 h, column_of)

long-none : (bs : List ℕ) → length bs % 8 ≡ 0 → 4096 < length bs → column_of bs ≡ none
unfolding column_of
long-none bs e h = rw (eq-eqb (length bs % 8) 0 e, lt-leb (length bs) 4096 h, column_of)

read_some : (bs : List ℕ) → length bs % 8 ≡ 0 → length bs ≤ 4096 → column_of bs ≡ some (entries (length bs / 8) bs)
unfolding column_of
read_some bs e h = rw (eq-eqb (length bs % 8) 0 e, le-leb (length bs) 4096 h, column_of)

pub column-ragged : (bs : List ℕ) (old : List Float) → (length bs % 8 ≡ 0 → ⊥) → Decoded (column_of bs) old old None
column-ragged bs old h = rw (ragged-none bs h) (refl, refl)

pub column-long : (bs : List ℕ) (old : List Float) → length bs % 8 ≡ 0 → 4096 < length bs → Decoded (column_of bs) old old None
column-long bs old e h = rw (long-none bs e h) (refl, refl)

pub column-read : (bs : List ℕ) (old now : List Float) (i : ℕ) → length bs % 8 ≡ 0 → length bs ≤ 4096 → 512 ≤ length old
    → Decoding bs old now i → length bs / 8 ≤ i → Decoded (column_of bs) old now (Some (length bs / 8))
column-read bs old now i e h r d k =
    let n : i ≡ length bs / 8 = (let z = d.inside in omega arith) in
    let l = length-entries (length bs / 8) bs in
    rw (read_some bs e h) (
      ap (λ (m : ℕ). Some m) (sym l),
      d.is ∙ ap (λ (m : ℕ). sets old 0 (entries m bs)) n ∙ sym (written-sets 0 (entries (length bs / 8) bs) old (omega arith)),
    )

-- as many entries as the column has places for
pub entries-fit : (o : Option (List Float)) (old now : List Float) (r : Maybe ℕ) → Decoded o old now r → length now ≡ length old → IfSome r (λ n. n ≤ length old)
unfolding written_at
entries-fit none old now r q k = let e = q.0 in rw e tt
entries-fit (some es) old now r q k =
    let a = length-append es (drop (0 + length es) old) in
    let f : length now ≡ length (es ++ drop (0 + length es) old) = ap length q.1 in
    let e = q.0 in
    rw e (omega arith)
