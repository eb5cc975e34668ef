-- The column file as it was read.
use Rattle.std.specs.Prelude.{◌≡◌, refl, List, ◌++◌, ℕ, ◌+◌, ◌≤◌, length, take, drop, Float, Option as Maybe, Some, None, Result, Ok, Err}
use Rattle.std.proofs.Common.{sym, ap, ◌∙◌, arith, length-append}
use Rattle.std.proofs.Math.Option.{Option, none, some}
use Rattle.std.proofs.Math.Seq.{take-append_seam}
use Rattle.std.specs.Option.{ok_or}
use Rattle.definition.specs.Calls.{written_at}
use Rattle.definition.specs.Text.{column_of, with}
use Rattle.whole_input.specs.Readings.{input_of}
use Rattle.paths_text.specs.Entries.{Decoded}
use Rattle.refusals.specs.declared.Refusal.{Refusal}
use Rattle.refusals.specs.declared.Refusal.TheVariants.{Malformed}

-- the column that was read stands at the front of c
abbrev pub column_read : Result ℕ Refusal → List Float → Option (List Float)
column_read (Ok m) c = some (take m c)
column_read (Err e) c = none

-- as many entries as there are places for
abbrev pub EntriesFit : Result ℕ Refusal → ℕ → Type 0
EntriesFit (Ok m) size = m ≤ size
EntriesFit (Err e) size = e ≡ Malformed

-- what `take_column` answers, for the column of the file
pub record ColumnTaken (column : Option (List Float)) (new : List Float) (r : Result ℕ Refusal) : Type 0 where
  pub is : column ≡ column_read r new
  pub fits : EntriesFit r 512

taken-decoded : (o : Option (List Float)) (old new : List Float) (r : Maybe ℕ) → Decoded o old new r → length new ≡ length old → length old ≡ 512
    → ColumnTaken o new (ok_or r Malformed)
unfolding written_at
taken-decoded none old new r q k l = let e = q.0 in rw e (record { is = refl; fits = refl })
taken-decoded (some es) old new r q k l =
    let e = q.0 in
    let a = length-append es (drop (0 + length es) old) in
    let f : length new ≡ length (es ++ drop (0 + length es) old) = ap length q.1 in
    let m : length es ≤ 512 = omega arith in
    let t : es ≡ take (length es) new = sym (ap (take (length es)) q.1 ∙ take-append_seam es (drop (0 + length es) old)) in
    rw e (record { is = ap (λ (x : List Float). some x) t; fits = m })

module _ (bytes : List ℕ) where
  pub taken-none : (new : List Float) → ColumnTaken (with (input_of None bytes) column_of) new (Err Malformed)
  taken-none new = record { is = refl; fits = refl }

  pub taken-some : (n : ℕ) (old new : List Float) (r : Maybe ℕ) → Decoded (column_of (take n bytes)) old new r → length new ≡ length old → length old ≡ 512
      → ColumnTaken (with (input_of (Some n) bytes) column_of) new (ok_or r Malformed)
  taken-some n old new r q k l = taken-decoded (column_of (take n bytes)) old new r q k l
