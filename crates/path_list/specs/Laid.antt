-- Rows of a slice, each `stride` places after the one before: written one after the other, and read back.
use Rattle.std.specs.Prelude.{◌≡◌, ◌⊎◌, List, [], ◌∷◌, ◌++◌, ℕ, zero, suc, ◌+◌, ◌*◌, ◌<◌, ◌≤◌}
use Rattle.std.proofs.Math.Path.{refl, sym, ap}
use Rattle.std.proofs.Common.{◌∙◌, inl, inr, mul-le-mul_right, add-one, length-drop, take-append-drop, drop_at, append_assoc, arith}
use Rattle.std.proofs.Math.ListN.{length, take, drop}
use Rattle.std.proofs.lemmas.List.Edits.{sets}
use Rattle.std.proofs.Math.Seq.{sets-eq, length-sets, take-append_seam, length-take-le}
use Rattle.std.proofs.lemmas.List.{take-append-le, drop-append-le}
use Rattle.laws.specs.Rows.{rows, length-rows, rows_more, rows_none}
use Rattle.laws.specs.Sorting.{same_or}
use Rattle.definition.specs.Calls.{written_at, written_rows}

-- i rows of i come before the row i
pub row_low : (i n stride : ℕ) → i < n → i * stride + stride ≤ n * stride
row_low i n stride h = let a : suc i * stride ≤ n * stride = mul-le-mul_right stride h in omega (arith, suc-row i stride)
  where
    suc-row : (i s : ℕ) → suc i * s ≡ i * s + s
    suc-row i s = omega arith

module _ {A : Type 0} where
  -- stores are the definition's writing
  pub sets-written : (l : List A) (p : ℕ) (xs : List A) → p + length xs ≤ length l → sets l p xs ≡ written_at p xs l
  unfolding written_at
  sets-written l p xs h = sets-eq xs l p h ∙ append_assoc (take p l) xs (drop (p + length xs) l)

  pub length-written_at : (l : List A) (p : ℕ) (xs : List A) → p + length xs ≤ length l → length (written_at p xs l) ≡ length l
  length-written_at l p xs h = ap (λ (m : List A). length m) (sym (sets-written l p xs h)) ∙ length-sets l p xs

  -- what lies in the first of two lists
  in-first : (a b : List A) (p n : ℕ) → p + n ≤ length a → take n (drop p (a ++ b)) ≡ take n (drop p a)
  in-first a b p n h =
      ap (λ (l : List A). take n l) (drop-append-le p a b (omega arith))
      ∙ take-append-le n (drop p a) b (let z = length-drop p a in omega arith)

  -- places before the row stay
  pub written-before : (l : List A) (q : ℕ) (xs : List A) (p n : ℕ) → p + n ≤ q → q ≤ length l → take n (drop p (written_at q xs l)) ≡ take n (drop p l)
  unfolding written_at
  written-before l q xs p n h k =
      let z : length (take q l) ≡ q = length-take-le q l k in
      in-first (take q l) (xs ++ drop (q + length xs) l) p n (omega arith)
      ∙ sym (in-first (take q l) (drop q l) p n (omega arith))
      ∙ ap (λ (m : List A). take n (drop p m)) (take-append-drop q l)

  -- and the row is read where it was written
  pub written_read : (l : List A) (q : ℕ) (xs : List A) → q ≤ length l → take (length xs) (drop q (written_at q xs l)) ≡ xs
  unfolding written_at
  written_read l q xs k =
      ap (λ (m : List A). take (length xs) m) (drop_at (take q l) (xs ++ drop (q + length xs) l) q (length-take-le q l k))
      ∙ take-append_seam xs (drop (q + length xs) l)

  module _ (stride : ℕ) where
    -- one row more
    rows_behind : (p : ℕ) (xs : List (List A)) (x : List A) (old : List A)
        → written_rows stride p (xs ++ x ∷ []) old ≡ written_at (p + length xs * stride) x (written_rows stride p xs old)
    unfolding written_rows
    rows_behind p [] x old = let z : p + 0 * stride ≡ p = omega arith in rw z
    rows_behind p (y ∷ xs) x old =
        let z : p + suc (length xs) * stride ≡ p + stride + length xs * stride = omega arith in
        rw z (rows_behind (p + stride) xs x (written_at p y old))

    pub none_written : (old : List A) → written_rows stride 0 [] old ≡ old
    unfolding written_rows
    none_written old = refl

-- the first i rows stand in the slice
pub record Laid (stride : ℕ) (row : ℕ → List ℕ) (old : List ℕ) (i : ℕ) (out : List ℕ) : Type 0 where
  pub is : out ≡ written_rows stride 0 (rows row i) old
  pub size : length out ≡ length old

module _ (stride : ℕ) (row : ℕ → List ℕ) (old : List ℕ) where
  pub laid-start : Laid stride row old 0 old
  laid-start = record { is = sym (ap (λ (l : List (List ℕ)). written_rows stride 0 l old) (rows_none row) ∙ none_written stride old); size = refl }

  rows_next : (i : ℕ) → written_rows stride 0 (rows row (suc i)) old ≡ written_at (i * stride) (row i) (written_rows stride 0 (rows row i) old)
  rows_next i =
      let z : 0 + length (rows row i) * stride ≡ i * stride = rw (length-rows row i) (omega arith) in
      ap (λ (l : List (List ℕ)). written_rows stride 0 l old) (rows_more row row i (row i) refl (λ j h. refl))
      ∙ rows_behind stride 0 (rows row i) (row i) old
      ∙ ap (λ p. written_at p (row i) (written_rows stride 0 (rows row i) old)) z

  pub laid_next : (i : ℕ) (out out' : List ℕ) → Laid stride row old i out → i * stride + length (row i) ≤ length old → out' ≡ written_at (i * stride) (row i) out
      → Laid stride row old (i + 1) out'
  laid_next i out out' L h e =
      rw (add-one i)
      (record {
        is = e ∙ ap (λ (l : List ℕ). written_at (i * stride) (row i) l) L.is ∙ sym (rows_next i);
        size = ap (λ (l : List ℕ). length l) e ∙ length-written_at out (i * stride) (row i) (let z = L.size in omega arith) ∙ L.size;
      })

  -- by stores
  pub laid-sets : (i : ℕ) (out out' : List ℕ) → Laid stride row old i out → i * stride + length (row i) ≤ length old → out' ≡ sets out (i * stride) (row i)
      → Laid stride row old (i + 1) out'
  laid-sets i out out' L h e = laid_next i out out' L h (e ∙ sets-written out (i * stride) (row i) (let z = L.size in omega arith))

  -- the row j, where every row fits between the places
  laid-length : (i : ℕ) → ((j : ℕ) → j < i → j * stride + length (row j) ≤ length old) → length (written_rows stride 0 (rows row i) old) ≡ length old
  laid-length zero h = ap (λ (l : List ℕ). length l) (sym laid-start.is)
  laid-length (suc i) h =
      let ih = laid-length i (λ j k. h j (omega arith)) in
      ap (λ (l : List ℕ). length l) (rows_next i)
      ∙ length-written_at (written_rows stride 0 (rows row i) old) (i * stride) (row i) (let z = h i (omega arith) in omega arith)
      ∙ ih

  read : (i j : ℕ) → j < i → ((j : ℕ) → j < i → length (row j) ≤ stride) → i * stride ≤ length old
      → take (length (row j)) (drop (j * stride) (written_rows stride 0 (rows row i) old)) ≡ row j
  read zero j l s r = absurd (omega arith)
  read (suc i) j l s r = go (λ k. read i j k (λ j h. s j (omega arith)) (omega (arith, row_low i (suc i) stride (omega arith)))) (same_or j i l)
    where
      long : length (written_rows stride 0 (rows row i) old) ≡ length old
      long = laid-length i (λ j h. (let a = s j (omega arith) in let b = row_low j (suc i) stride (omega arith) in omega arith))

      go : (j < i → take (length (row j)) (drop (j * stride) (written_rows stride 0 (rows row i) old)) ≡ row j) → (j ≡ i) ⊎ (j < i)
          → take (length (row j)) (drop (j * stride) (written_rows stride 0 (rows row (suc i)) old)) ≡ row j
      go up (inl e) =
          rw (e, rows_next i) (written_read (written_rows stride 0 (rows row i) old) (i * stride) (row i) (let a = row_low i (suc i) stride (omega arith) in let b = long in omega arith))
      go up (inr k) =
          let a = s j (omega arith) in
          let b = row_low j i stride k in
          let d = row_low i (suc i) stride (omega arith) in
          let q = long in
          rw (rows_next i)
          (written-before (written_rows stride 0 (rows row i) old) (i * stride) (row i) (j * stride) (length (row j)) (omega arith) (omega arith)
          ∙ up k)

  pub laid-read : (i j : ℕ) (out : List ℕ) → Laid stride row old i out → j < i → ((j : ℕ) → j < i → length (row j) ≤ stride) → i * stride ≤ length old
      → take (length (row j)) (drop (j * stride) out) ≡ row j
  laid-read i j out L l s r = ap (λ (x : List ℕ). take (length (row j)) (drop (j * stride) x)) L.is ∙ read i j l s r
