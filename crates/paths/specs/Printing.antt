-- What stands in the buffer at the end.
use Rattle.std.specs.Prelude.{◌≡◌, refl, ◌⊎◌, List, ◌++◌, ℕ, ◌+◌, ◌%◌, ◌<◌, ◌≤◌, length, take, drop, Float, eqb}
use Rattle.std.proofs.Common.{sym, ap, ◌∙◌, inl, inr, arith}
use Rattle.std.proofs.Math.Bool.{and-false}
use Rattle.std.proofs.Math.Option.{Option, none, some}
use Rattle.std.proofs.Math.Seq.{take-append_seam}
use Rattle.std.proofs.lemmas.Bool.{lt-leb}
use Rattle.definition.specs.Refusal.{first_broken}
use Rattle.definition.specs.Calls.{written_at}
use Rattle.definition.specs.Text.{Text, text_of, column_of, with, text_rules, refused_line, printed}
use Rattle.paths_output.specs.Written.{Wrote}
use Rattle.paths_output.specs.Lines.{refused-most}
use Rattle.paths_text.specs.Program.{prints-no-text, prints-no-column, prints-refused}
use Rattle.std.specs.Prelude.{Err}
use Rattle.refusals.specs.declared.Refusal.{Refusal}
use Rattle.refusals.specs.declared.Refusal.TheVariants.{Malformed}
use Rattle.refusals.specs.Numbers.{number, number-positive}
use Rattle.paths_input.specs.Checking.{CheckSays, check-number}

-- ---- the buffer

-- the first r bytes are the lines
pub record Shown (new lines : List ℕ) (r : ℕ) : Type 0 where
  pub fits : r ≤ 2491
  pub is : take r new ≡ lines

pub shown-wrote : (old new lines : List ℕ) (r : ℕ) → length lines ≤ 2491 → Wrote old new 0 lines r → Shown new lines r
unfolding written_at
shown-wrote old new lines r h w =
    let e : r ≡ length lines = (let n = w.next in omega arith) in
    record {
      fits = omega arith;
      is = ap (take r) w.is ∙ ap (λ (n : ℕ). take n (lines ++ drop (0 + length lines) old)) e ∙ take-append_seam lines (drop (0 + length lines) old);
    }

pub refused-room : (n size : ℕ) → n < 4294967296 → 2491 ≤ size → 0 + length (refused_line n) ≤ size
refused-room n size h l = let m = refused-most n h in omega arith

pub shown-refused : (old new : List ℕ) (n r : ℕ) → n < 4294967296 → Wrote old new 0 (refused_line n) r → Shown new (refused_line n) r
shown-refused old new n r h w = shown-wrote old new (refused_line n) r (let m = refused-most n h in omega arith) w

-- what `answer` leaves: what the definition prints for the input, and for every file of that column
pub record Answered (input : Option (List ℕ)) (column : Option (List Float)) (new : List ℕ) (r : ℕ) : Type 0 where
  pub fits : r ≤ 2491
  pub prints : (file : Option (List ℕ)) → with file column_of ≡ column → take r new ≡ printed input file

-- what the program hands on to be written: what the definition prints for some input and file, since no contract says what C reads
pub record Printed (new : List ℕ) (r : ℕ) : Type 0 where
  pub fits : r ≤ 2491
  pub input : Option (List ℕ)
  pub file : Option (List ℕ)
  pub is : take r new ≡ printed input file

pub answered-prints : (input file : Option (List ℕ)) (column : Option (List Float)) (new : List ℕ) (r : ℕ) → Answered input column new r → with file column_of ≡ column
    → Printed new r
answered-prints input file column new r a e = record { fits = a.fits; input = input; file = file; is = a.prints file e }

-- ---- 14, and what is refused by the text alone

module _ (input : Option (List ℕ)) (new : List ℕ) (r : ℕ) (e : Refusal) (h : Shown new (refused_line (number e)) r) where
  pub no-column : e ≡ Malformed → Answered input none new r
  no-column m = record { fits = h.fits; prints = λ file f. h.is ∙ ap (λ (x : Refusal). refused_line (number x)) m ∙ prints-no-column input file f }

  pub check-refused : (T E : List ℕ) → CheckSays (with input text_of) T E (Err e) → (c : List Float) → Answered input (some c) new r
  check-refused T E q c = record { fits = h.fits; prints = λ file g. h.is ∙ go file g (check-number T E (with input text_of) e q) }
    where
      go : (file : Option (List ℕ)) → with file column_of ≡ some c
          → ((with input text_of ≡ none) × (number e ≡ 14)) ⊎ ((t : Text) × (with input text_of ≡ some t) × (number e ≡ first_broken (text_rules t)))
          → refused_line (number e) ≡ printed input file
      go file g (inl y) = ap refused_line y.1 ∙ prints-no-text input file y.0
      go file g (inr y) = prints-refused input file y.0 c y.1 g (number e) y.2 (number-positive e)

-- ---- an input or a file longer than the buffer prints what one prints that could not be read whole, so that one answer may stand for both

long-text : (bytes : List ℕ) → 8192 < length bytes → text_of bytes ≡ none
unfolding text_of
long-text bytes h = rw (lt-leb (length bytes) 8192 h, text_of)

pub longer-text : (bytes : List ℕ) (file : Option (List ℕ)) → 8192 < length bytes → printed (some bytes) file ≡ printed none file
longer-text bytes file h = sym (prints-no-text (some bytes) file (long-text bytes h)) ∙ prints-no-text none file refl

long-column : (bytes : List ℕ) → 8192 < length bytes → column_of bytes ≡ none
unfolding column_of
long-column bytes h = rw (lt-leb (length bytes) 4096 (omega arith), and-false (eqb (length bytes % 8) 0), column_of)

pub longer-file : (input : Option (List ℕ)) (bytes : List ℕ) → 8192 < length bytes → printed input (some bytes) ≡ printed input none
longer-file input bytes h = sym (prints-no-column input (some bytes) (long-column bytes h)) ∙ prints-no-column input none refl
