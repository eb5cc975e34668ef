-- The logarithm column, entry by entry: finiteness by comparisons, and the laws of the loop that reads it.
use Rattle.std.specs.Prelude.{◌≡◌, refl, ℕ, ◌+◌, ◌<◌, ◌≤◌, Bool, ◌&&◌, List, ◌∷◌, length, Float}
use Rattle.std.proofs.Common.{sym, ◌∙◌, add-one, drop_of_length-le, drop-cons}
use Rattle.std.proofs.Math.Path.{ap}
use Rattle.std.proofs.Math.Bool.{true, false, and-false}
use Rattle.std.proofs.Math.ListN.{drop, get_or}
use Rattle.std.specs.Float.Ieee.{nan, le, eq, ne, of_bits, of_fields}
use Rattle.std.specs.Float.{inf, fin, binary64}
use Rattle.std.proofs.Common.{le-leb}
use Rattle.std.proofs.lemmas.Bool.{lt-leb, not-true, not-false}
use Rattle.laws.specs.ListLaws.{clash}
use Rattle.definition.specs.Limits.{is_finite, climbing, column_fits, float_zero, sixteen}

-- the code's 0.0 and 16.0
pub bits-zero : of_bits binary64 0 ≡ float_zero
unfolding of_bits of_fields
bits-zero = refl

pub bits-sixteen : of_bits binary64 4625196817309499392 ≡ sixteen
unfolding of_bits of_fields
bits-sixteen = refl

-- what lies between a finite number and 16 is finite
finite-between : (x y : Float) → is_finite x ≡ true → (le x y && le y sixteen) ≡ true → is_finite y ≡ true
unfolding is_finite le
finite-between nan y h k = clash (sym h)
finite-between (inf s) y h k = clash (sym h)
finite-between (fin s m e) nan h k = clash (sym k)
finite-between (fin s m e) (inf true) h k = clash (sym k)
finite-between (fin s m e) (inf false) h k = clash (sym k)
finite-between (fin s m e) (fin t n d) h k = refl

-- so the two comparisons decide as the three tests of an entry do
entry : (x y : Float) → is_finite x ≡ true → (is_finite y && le x y && le y sixteen) ≡ (le x y && le y sixteen)
entry x y h = go (le x y && le y sixteen) refl
  where
    regroup : (a b c : Bool) → (a && b && c) ≡ (a && (b && c))
    regroup true b c = refl
    regroup false b c = refl

    go : (t : Bool) → (le x y && le y sixteen) ≡ t → (is_finite y && le x y && le y sixteen) ≡ (le x y && le y sixteen)
    go true e = regroup (is_finite y) (le x y) (le y sixteen) ∙ (rw (e, finite-between x y h e))
    go false e = regroup (is_finite y) (le x y) (le y sixteen) ∙ (rw (e, and-false (is_finite y)))

-- ---- the loop

-- `last` is the entry before place n, and what is left to read from there decides as the whole does.
pub record Climbing (column : List Float) (last : Float) (n : ℕ) : Type 0 where
  pub finite : is_finite last ≡ true
  pub rest : climbing last (drop n column) ≡ climbing float_zero (drop 1 column)

pub climbing-start : (column : List Float) → Climbing column (of_bits binary64 0) 1
unfolding is_finite
climbing-start column = rw bits-zero record { finite = refl; rest = refl }

-- one entry read: y is at place n
module _ (column : List Float) (last : Float) (n : ℕ) (left : Climbing column last n) where
  pub climbing-end : length column ≤ n → true ≡ climbing float_zero (drop 1 column)
  unfolding climbing
  climbing-end h = ap (climbing last) (sym (drop_of_length-le column h)) ∙ left.rest

  module _ (inside : n < length column) where
    step : climbing last (drop n column) ≡ (le last (get_or column n nan) && le (get_or column n nan) sixteen && climbing (get_or column n nan) (drop (n + 1) column))
    unfolding climbing
    step =
        let y = get_or column n nan in
        ap (climbing last) (drop-cons column n nan inside ∙ ap (λ (m : ℕ). y ∷ drop m column) (sym (add-one n)))
        ∙ ap (λ (b : Bool). b && climbing y (drop (n + 1) column)) (entry last y left.finite)

    module _ (r : Bool) (tested : r ≡ (le last (get_or column n nan) && le (get_or column n nan) sixteen)) where
      pub climbing-stop : r ≡ false → false ≡ climbing float_zero (drop 1 column)
      climbing-stop h =
          ap (λ (b : Bool). b && climbing (get_or column n nan) (drop (n + 1) column)) (sym h ∙ tested) ∙ sym step ∙ left.rest

      pub climbing-next : r ≡ true → Climbing column (get_or column n nan) (n + 1)
      climbing-next h =
          record {
            finite = finite-between last (get_or column n nan) left.finite (sym tested ∙ h);
            rest = ap (λ (b : Bool). b && climbing (get_or column n nan) (drop (n + 1) column)) (sym h ∙ tested) ∙ sym step ∙ left.rest;
          }

-- ---- the whole column, a law for each return

pub too_short : (column : List Float) → length column < 2 → false ≡ column_fits column
unfolding column_fits
too_short column h = rw (lt-leb 2 (length column) h)

pub too_long : (column : List Float) → 65536 < length column → 2 ≤ length column → false ≡ column_fits column
unfolding column_fits
too_long column h k = rw (le-leb 2 (length column) k, lt-leb (length column) 65536 h)

module _ (column : List Float) (low : 2 ≤ length column) (high : length column ≤ 65536) where
  pub not-zero : ne (get_or column 1 nan) (of_bits binary64 0) ≡ true → false ≡ column_fits column
  unfolding column_fits ne
  not-zero h =
      let z : eq (get_or column 1 nan) float_zero ≡ false = not-true _ (rw bits-zero at h) in
      rw (le-leb 2 (length column) low, le-leb (length column) 65536 high, z)

  pub by-climb : (r : Bool) → ne (get_or column 1 nan) (of_bits binary64 0) ≡ false → r ≡ climbing float_zero (drop 1 column) → r ≡ column_fits column
  unfolding column_fits ne
  by-climb r h k =
      let z : eq (get_or column 1 nan) float_zero ≡ true = not-false _ (rw bits-zero at h) in
      k ∙ (rw (le-leb 2 (length column) low, le-leb (length column) 65536 high, z))
