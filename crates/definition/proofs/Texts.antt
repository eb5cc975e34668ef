-- The program `paths` on case 6: its text as it is read, the column file, and the whole output as 01 prints it; and the borders of the text's form.
-- Everything is computed from the definitions.
use mathlib.Core.Path.{◌≡◌, refl}
use mathlib.Core.List.{List, [], ◌∷◌, ◌++◌, map}
use mathlib.Core.Option.{Option, none, some}
use Prim.Native.Nat.{ℕ}
use lib.ListN.{replicate}
use lib.Ieee.{Float, add, sub, lt, eq, le, to_bits, of_bits}
use Rattle.definition.specs.Refusal.{open_refusal}
use Rattle.definition.specs.Score.{open_score}
use Rattle.definition.specs.Limits.{Input, open_limits}
use Rattle.definition.specs.Stretch.{open_stretch}
use Rattle.definition.specs.Threading.{open_threading}
use Rattle.definition.specs.Evidence.{open_evidence}
use Rattle.definition.specs.Search.{open_search}
use Rattle.definition.specs.Building.{open_building}
use Rattle.definition.specs.Listing.{open_listing}
use Rattle.definition.specs.Text.{Text, text_of, column_of, input_of, printed, refused_line, open_text}
use Rattle.definition.proofs.Examples.{seq_r, seq_a, sample, ask}

-- "Case 6, with `3 10 5 5 0` and qualities `IIIIIII`"
abbrev pub input : List ℕ
input =
    -- 3 10 5 5 0
    51 ∷ 32 ∷ 49 ∷ 48 ∷ 32 ∷ 53 ∷ 32 ∷ 53 ∷ 32 ∷ 48 ∷ 10 ∷
    -- CAACTGG
    67 ∷ 65 ∷ 65 ∷ 67 ∷ 84 ∷ 71 ∷ 71 ∷ 10 ∷
    -- CAAGTGG
    67 ∷ 65 ∷ 65 ∷ 71 ∷ 84 ∷ 71 ∷ 71 ∷ 10 ∷
    -- IIIIIII
    73 ∷ 73 ∷ 73 ∷ 73 ∷ 73 ∷ 73 ∷ 73 ∷ 10 ∷
    -- CAACTGG
    67 ∷ 65 ∷ 65 ∷ 67 ∷ 84 ∷ 71 ∷ 71 ∷ 10 ∷
    -- IIIIIII
    73 ∷ 73 ∷ 73 ∷ 73 ∷ 73 ∷ 73 ∷ 73 ∷ 10 ∷ []

-- "Column 0, 0, 1, 1.5, 2 (places 0 to 4)", "eight bytes each, lowest first"
abbrev pub file : List ℕ
file =
    0 ∷ 0 ∷ 0 ∷ 0 ∷ 0 ∷ 0 ∷ 0 ∷ 0 ∷
    0 ∷ 0 ∷ 0 ∷ 0 ∷ 0 ∷ 0 ∷ 0 ∷ 0 ∷
    0 ∷ 0 ∷ 0 ∷ 0 ∷ 0 ∷ 0 ∷ 240 ∷ 63 ∷
    0 ∷ 0 ∷ 0 ∷ 0 ∷ 0 ∷ 0 ∷ 248 ∷ 63 ∷
    0 ∷ 0 ∷ 0 ∷ 0 ∷ 0 ∷ 0 ∷ 0 ∷ 64 ∷ []

-- "prints whole"
abbrev pub output : List ℕ
output =
    -- paths 2 pushes 7
    112 ∷ 97 ∷ 116 ∷ 104 ∷ 115 ∷ 32 ∷ 50 ∷ 32 ∷ 112 ∷ 117 ∷ 115 ∷ 104 ∷ 101 ∷ 115 ∷ 32 ∷ 55 ∷ 10 ∷
    -- 1 bff0000000000000 2 4 CAAGTGG
    49 ∷ 32 ∷ 98 ∷ 102 ∷ 102 ∷ 48 ∷ 48 ∷ 48 ∷ 48 ∷ 48 ∷ 48 ∷ 48 ∷ 48 ∷ 48 ∷ 48 ∷ 48 ∷ 48 ∷ 48 ∷ 32 ∷ 50 ∷ 32 ∷ 52 ∷ 32 ∷ 67 ∷ 65 ∷ 65 ∷ 71 ∷ 84 ∷ 71 ∷ 71 ∷ 10 ∷
    -- 2 bff0000000000000 1 4 CAACTGG
    50 ∷ 32 ∷ 98 ∷ 102 ∷ 102 ∷ 48 ∷ 48 ∷ 48 ∷ 48 ∷ 48 ∷ 48 ∷ 48 ∷ 48 ∷ 48 ∷ 48 ∷ 48 ∷ 48 ∷ 48 ∷ 32 ∷ 49 ∷ 32 ∷ 52 ∷ 32 ∷ 67 ∷ 65 ∷ 65 ∷ 67 ∷ 84 ∷ 71 ∷ 71 ∷ 10 ∷ []

-- the input that a text and a column make
abbrev read : Option Text → Option (List Float) → Option Input
read none c = none
read (some t) none = none
read (some t) (some c) = some (input_of t c)

-- the text and the file are case 6 of the table
pub case6-read : read (text_of input) (column_of file) ≡ some (ask (sample 3 seq_r (seq_a ∷ seq_r ∷ [])) 5)
unfolding open_text of_bits
case6-read = refl

pub case6-printed : printed (some input) (some file) ≡ output
unfolding open_refusal open_score open_limits open_stretch open_threading open_evidence open_search open_building open_listing open_text add sub lt eq le to_bits of_bits
case6-printed = refl

-- ---- the borders of the form, each with the number that it prints

pub record Border : Type 0 where
  pub text : Option (List ℕ)
  pub held : Option (List ℕ)
  pub number : ℕ

-- the reference ACGTA
abbrev plain : List ℕ
plain = 65 ∷ 67 ∷ 71 ∷ 84 ∷ 65 ∷ 10 ∷ []

-- an empty reference line
abbrev no_base : List ℕ
no_base = 10 ∷ []

-- reads A and CG with qualities II and I
abbrev uneven : List ℕ
uneven = 65 ∷ 67 ∷ 71 ∷ 84 ∷ 65 ∷ 10 ∷ 65 ∷ 10 ∷ 73 ∷ 73 ∷ 10 ∷ 67 ∷ 71 ∷ 10 ∷ 73 ∷ 10 ∷ []

-- one line behind the reference
abbrev single : List ℕ
single = 65 ∷ 67 ∷ 71 ∷ 84 ∷ 65 ∷ 10 ∷ 65 ∷ 10 ∷ []

-- no line feed at the end
abbrev unended : List ℕ
unended = 65 ∷ 67 ∷ 71 ∷ 84 ∷ 65 ∷ 10 ∷ 65 ∷ 10 ∷ 73 ∷ []

-- a quality of byte 32
abbrev low_quality : List ℕ
low_quality = 65 ∷ 67 ∷ 71 ∷ 84 ∷ 65 ∷ 10 ∷ 65 ∷ 10 ∷ 32 ∷ 10 ∷ []

-- a quality of byte 127
abbrev high_quality : List ℕ
high_quality = 65 ∷ 67 ∷ 71 ∷ 84 ∷ 65 ∷ 10 ∷ 65 ∷ 10 ∷ 127 ∷ 10 ∷ []

-- a carriage return behind the reference
abbrev returned : List ℕ
returned = 65 ∷ 67 ∷ 71 ∷ 84 ∷ 65 ∷ 13 ∷ 10 ∷ []

-- a first line, and what stands behind its line feed
abbrev under : List ℕ → List ℕ → ℕ → Border
under first rest n = record { text = some (first ++ 10 ∷ rest); held = some file; number = n }

-- a text of this form, and a file that is missing, could not be read whole, or has so many bytes
abbrev over : Option (List ℕ) → ℕ → Border
over f n = record { text = some input; held = f; number = n }

-- standard input that could not be read whole, whatever came before
abbrev unread : Option (List ℕ) → Border
unread f = record { text = none; held = f; number = 14 }

pub borders : List Border
borders =
    -- a number is an optional hyphen and digits: a plus sign is none
    under (43 ∷ 51 ∷ 32 ∷ 49 ∷ 48 ∷ 32 ∷ 53 ∷ 32 ∷ 53 ∷ 32 ∷ 48 ∷ []) plain 14
    -- nor is a hyphen alone, or nothing between two spaces
    ∷ under (45 ∷ 32 ∷ 49 ∷ 48 ∷ 32 ∷ 53 ∷ 32 ∷ 53 ∷ 32 ∷ 48 ∷ []) plain 14
    ∷ under (51 ∷ 32 ∷ 32 ∷ 49 ∷ 48 ∷ 32 ∷ 53 ∷ 32 ∷ 53 ∷ 32 ∷ 48 ∷ []) plain 14
    -- no space stands before the first number or behind the last
    ∷ under (32 ∷ 51 ∷ 32 ∷ 49 ∷ 48 ∷ 32 ∷ 53 ∷ 32 ∷ 53 ∷ 32 ∷ 48 ∷ []) plain 14
    ∷ under (51 ∷ 32 ∷ 49 ∷ 48 ∷ 32 ∷ 53 ∷ 32 ∷ 53 ∷ 32 ∷ 48 ∷ 32 ∷ []) plain 14
    -- four numbers, six numbers
    ∷ under (51 ∷ 32 ∷ 49 ∷ 48 ∷ 32 ∷ 53 ∷ 32 ∷ 53 ∷ []) plain 14
    ∷ under (51 ∷ 32 ∷ 49 ∷ 48 ∷ 32 ∷ 53 ∷ 32 ∷ 53 ∷ 32 ∷ 48 ∷ 32 ∷ 48 ∷ []) plain 14
    -- beyond i32; the least i32 with a reference of wrong length
    ∷ under (51 ∷ 32 ∷ 49 ∷ 48 ∷ 32 ∷ 53 ∷ 32 ∷ 50 ∷ 49 ∷ 52 ∷ 55 ∷ 52 ∷ 56 ∷ 51 ∷ 54 ∷ 52 ∷ 56 ∷ 32 ∷ 48 ∷ []) plain 14
    ∷ under (51 ∷ 32 ∷ 49 ∷ 48 ∷ 32 ∷ 53 ∷ 32 ∷ 45 ∷ 50 ∷ 49 ∷ 52 ∷ 55 ∷ 52 ∷ 56 ∷ 51 ∷ 54 ∷ 52 ∷ 56 ∷ 32 ∷ 48 ∷ []) no_base 2
    -- minimum quality above 255, recovery 2
    ∷ under (51 ∷ 32 ∷ 50 ∷ 53 ∷ 54 ∷ 32 ∷ 53 ∷ 32 ∷ 53 ∷ 32 ∷ 48 ∷ []) plain 14
    ∷ under (51 ∷ 32 ∷ 49 ∷ 48 ∷ 32 ∷ 53 ∷ 32 ∷ 53 ∷ 32 ∷ 50 ∷ []) plain 14
    -- k negative is 1, whatever comes behind; paths negative or above 8 is 5, behind 1 to 4
    ∷ under (45 ∷ 51 ∷ 32 ∷ 49 ∷ 48 ∷ 32 ∷ 57 ∷ 32 ∷ 53 ∷ 32 ∷ 48 ∷ []) no_base 1
    ∷ under (51 ∷ 32 ∷ 49 ∷ 48 ∷ 32 ∷ 45 ∷ 49 ∷ 32 ∷ 53 ∷ 32 ∷ 48 ∷ []) plain 5
    ∷ under (51 ∷ 32 ∷ 49 ∷ 48 ∷ 32 ∷ 57 ∷ 32 ∷ 53 ∷ 32 ∷ 48 ∷ []) plain 5
    ∷ under (51 ∷ 32 ∷ 49 ∷ 48 ∷ 32 ∷ 57 ∷ 32 ∷ 53 ∷ 32 ∷ 48 ∷ []) uneven 4
    -- an empty reference line is 2; leading zeros and -0 are taken
    ∷ under (48 ∷ 48 ∷ 51 ∷ 32 ∷ 48 ∷ 49 ∷ 48 ∷ 32 ∷ 48 ∷ 53 ∷ 32 ∷ 45 ∷ 48 ∷ 32 ∷ 45 ∷ 48 ∷ []) no_base 2
    -- two lines of unequal length are 4, also where all bases are as many as all qualities
    ∷ under (51 ∷ 32 ∷ 49 ∷ 48 ∷ 32 ∷ 53 ∷ 32 ∷ 53 ∷ 32 ∷ 48 ∷ []) uneven 4
    -- a single read line is 14, and so are a last line without its line feed, a byte below 33 or above 126 among the qualities
    ∷ under (51 ∷ 32 ∷ 49 ∷ 48 ∷ 32 ∷ 53 ∷ 32 ∷ 53 ∷ 32 ∷ 48 ∷ []) single 14
    ∷ under (51 ∷ 32 ∷ 49 ∷ 48 ∷ 32 ∷ 53 ∷ 32 ∷ 53 ∷ 32 ∷ 48 ∷ []) unended 14
    ∷ under (51 ∷ 32 ∷ 49 ∷ 48 ∷ 32 ∷ 53 ∷ 32 ∷ 53 ∷ 32 ∷ 48 ∷ []) low_quality 14
    ∷ under (51 ∷ 32 ∷ 49 ∷ 48 ∷ 32 ∷ 53 ∷ 32 ∷ 53 ∷ 32 ∷ 48 ∷ []) high_quality 14
    -- a carriage return is 14 in the first line and 3 in the reference
    ∷ under (51 ∷ 32 ∷ 49 ∷ 48 ∷ 32 ∷ 53 ∷ 32 ∷ 53 ∷ 32 ∷ 48 ∷ 13 ∷ []) plain 14
    ∷ under (51 ∷ 32 ∷ 49 ∷ 48 ∷ 32 ∷ 53 ∷ 32 ∷ 53 ∷ 32 ∷ 48 ∷ []) returned 3
    -- nothing, and one line
    ∷ record { text = some []; held = some file; number = 14 }
    ∷ record { text = some (51 ∷ 10 ∷ []); held = some file; number = 14 }
    -- a text too long
    ∷ under (replicate 8192 51) plain 14
    -- standard input not read whole: 14, also where the file is missing, ragged, or of no entry
    ∷ unread (some file)
    ∷ unread none
    ∷ unread (some (replicate 12 0))
    ∷ unread (some [])
    -- a file missing or not read whole, ragged, too long: 14; none or one entry: 6
    ∷ over none 14
    -- also where the text alone would be refused by 1
    ∷ record { text = some (45 ∷ 51 ∷ 32 ∷ 49 ∷ 48 ∷ 32 ∷ 57 ∷ 32 ∷ 53 ∷ 32 ∷ 48 ∷ 10 ∷ plain); held = none; number = 14 }
    ∷ over (some (replicate 12 0)) 14
    ∷ over (some (replicate 4104 0)) 14
    ∷ over (some []) 6
    ∷ over (some (replicate 8 0)) 6
    ∷ []

pub borders-printed : map (λ (b : Border). printed b.text b.held) borders ≡ map (λ (b : Border). refused_line b.number) borders
unfolding borders open_refusal open_score open_limits open_stretch open_threading open_evidence open_search open_building open_listing open_text add sub lt eq le to_bits of_bits
borders-printed = refl
