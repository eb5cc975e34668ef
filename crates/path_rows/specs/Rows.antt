-- What the writer of the rows leaves behind: the definition's rows from place 0 on, and the rest of the lent slice as it was.
use Rattle.std.specs.Prelude.{◌≡◌, false, ℕ, zero, suc, ◌+◌, ◌≤◌, ◌<◌, get_or, set, take, drop, Float}
use Rattle.std.proofs.Common.{sym, ap, ◌∙◌, arith, length-set, refl, List, [], ◌∷◌, ◌++◌, append_assoc, map, length}
use Rattle.std.proofs.lemmas.List.{length-map}
use Rattle.std.proofs.lemmas.List.Edits.{sets}
use Rattle.std.proofs.Math.Seq.{sets-eq}
use Rattle.std.specs.Float.{nan}
use Rattle.laws.specs.Rows.{rows, length-rows, rows_more, rows_same}
use Rattle.laws.specs.Stores.{sets_more}
use Rattle.definition.specs.Calls.{written_at}
use Rattle.definition.specs.Calls as defs
use Rattle.path_rows.specs.declared.PathRow.{PathRow}

-- a record of the lent slice, as the definition's
abbrev pub told : PathRow → defs.PathRow
told r = record { score = r.score; closing = r.closing; edges = r.edges; is_ref = r.is_ref }

-- row i of the columns
abbrev pub row_at : List Float → List ℕ → List ℕ → ℕ → PathRow
row_at ss cs es i = record { score = get_or ss i nan; closing = get_or cs i 0; edges = get_or es i 0; is_ref = false }

-- rs with its first n rows written
abbrev pub written : List Float → List ℕ → List ℕ → ℕ → List PathRow → List PathRow
written ss cs es zero rs = rs
written ss cs es (suc k) rs = set (written ss cs es k rs) k (row_at ss cs es k)

-- the first n rows of the columns
pub finished : List Float → List ℕ → List ℕ → ℕ → List defs.PathRow
finished ss cs es n = rows (λ i. told (row_at ss cs es i)) n

-- the slice holds the n rows of the columns, and then what it held
pub record Filled (ss : List Float) (cs es : List ℕ) (n : ℕ) (rs rs' : List PathRow) : Type 0 where
  pub is : map told rs' ≡ written_at 0 (finished ss cs es n) (map told rs)

-- ---- `written` is that

map-set : (rs : List PathRow) (i : ℕ) (r : PathRow) → map told (set rs i r) ≡ set (map told rs) i (told r)
map-set [] i r = refl
map-set (x ∷ rs) zero r = refl
map-set (x ∷ rs) (suc i) r = ap (λ (l : List defs.PathRow). told x ∷ l) (map-set rs i r)

module _ (ss : List Float) (cs es : List ℕ) where
  pub length-written : (n : ℕ) (rs : List PathRow) → length (written ss cs es n rs) ≡ length rs
  length-written zero rs = refl
  length-written (suc k) rs = length-set (written ss cs es k rs) k (row_at ss cs es k) ∙ length-written k rs

  length-finished : (n : ℕ) → length (finished ss cs es n) ≡ n
  unfolding finished
  length-finished n = length-rows (λ i. told (row_at ss cs es i)) n

  finished-more : (n : ℕ) → finished ss cs es (suc n) ≡ finished ss cs es n ++ told (row_at ss cs es n) ∷ []
  unfolding finished
  finished-more n = rows_more (λ i. told (row_at ss cs es i)) (λ i. told (row_at ss cs es i)) n (told (row_at ss cs es n)) refl (λ j m. refl)

  finished-none : finished ss cs es 0 ≡ []
  unfolding finished
  finished-none = none (rows (λ i. told (row_at ss cs es i)) 0) (length-rows (λ i. told (row_at ss cs es i)) 0)
    where
      none : (l : List defs.PathRow) → length l ≡ 0 → l ≡ []
      none [] e = refl
      none (x ∷ l) e = absurd (omega arith)

  -- the rows one by one
  pub finished-is : (n : ℕ) (row : ℕ → defs.PathRow) → ((i : ℕ) → i < n → told (row_at ss cs es i) ≡ row i) → finished ss cs es n ≡ rows row n
  unfolding finished
  finished-is n row h = rows_same (λ i. told (row_at ss cs es i)) row n h

  stored : (n : ℕ) (rs : List PathRow) → map told (written ss cs es n rs) ≡ sets (map told rs) 0 (finished ss cs es n)
  stored zero rs = rw finished-none
  stored (suc n) rs =
      map-set (written ss cs es n rs) n (row_at ss cs es n)
      ∙ ap (λ (l : List defs.PathRow). set l n (told (row_at ss cs es n))) (stored n rs)
      ∙ ap (λ (i : ℕ). set (sets (map told rs) 0 (finished ss cs es n)) i (told (row_at ss cs es n))) (let a = length-finished n in omega arith)
      ∙ sym (sets_more (map told rs) 0 (finished ss cs es n) (told (row_at ss cs es n)))
      ∙ ap (λ (l : List defs.PathRow). sets (map told rs) 0 l) (sym (finished-more n))

  pub filled : (n : ℕ) (rs : List PathRow) → n ≤ length rs → Filled ss cs es n rs (written ss cs es n rs)
  unfolding written_at
  filled n rs l =
      record {
        is =
            stored n rs
            ∙ sets-eq (finished ss cs es n) (map told rs) 0 (let a = length-finished n in let b = length-map rs told in omega arith)
            ∙ append_assoc (take 0 (map told rs)) (finished ss cs es n) (drop (0 + length (finished ss cs es n)) (map told rs));
      }
