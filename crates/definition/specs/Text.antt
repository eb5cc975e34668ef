-- The program `paths` ("Potatoes on paper"): its text, the column file, and what it prints, as functions of the bytes read.
use Rattle.std.specs.Prelude.{ℕ, zero, suc, ◌+◌, ◌*◌, ◌-◌, ◌/◌, ◌%◌, Bool, true, false, ◌&&◌, cond, List, [], ◌∷◌, ◌++◌, map, ℤ, pos, negsuc, neg_ℤ, leb, eqb, length, take, drop, Float}
use Rattle.std.proofs.Math.Option.{Option, none, some}
use Rattle.std.specs.Float.{binary64}
use Rattle.std.specs.Float.Ieee.{of_bits, to_bits}
use Rattle.laws.specs.Lists.{all}
use Rattle.laws.specs.Numbers.{within}
use Rattle.definition.specs.Refusal.{Rule, first_broken}
use Rattle.definition.specs.Limits.{Sample, GraphMaxima, SearchMaxima, Input, k_fits, reference_fits, reference_bases, reads_fit}
use Rattle.definition.specs.Listing.{Row, Answer, refusal, listed, answer}

-- ---- bytes of the text

abbrev pub line_feed : ℕ
line_feed = 10

abbrev pub blank : ℕ
blank = 32

abbrev pub hyphen : ℕ
hyphen = 45

-- ---- parts that a byte ends

-- a byte in front of the first part; without a part, it has no end
abbrev pub longer : ℕ → Option (List (List ℕ)) → Option (List (List ℕ))
longer b none = none
longer b (some []) = none
longer b (some (p ∷ ps)) = some ((b ∷ p) ∷ ps)

-- a part in front of the others
abbrev pub in_front : {A : Type 0} → A → Option (List A) → Option (List A)
in_front p none = none
in_front p (some ps) = some (p ∷ ps)

-- the parts of a text that the byte `stop` ends, each without it; none where bytes stand behind the last one
unfoldable pub parts : ℕ → List ℕ → Option (List (List ℕ))
parts stop [] = some []
parts stop (b ∷ bs) = elim (eqb b stop) [ true ↦ in_front [] (parts stop bs) | false ↦ longer b (parts stop bs) ]

-- ---- numbers: "decimal i32"

-- the value of decimal digits behind digits of value n; none where a byte is not a digit
unfoldable pub digits_from : ℕ → List ℕ → Option ℕ
digits_from n [] = some n
digits_from n (b ∷ bs) = elim (within 48 57 b) [ true ↦ digits_from (n * 10 + (b - 48)) bs | false ↦ none ]

-- at least one digit
unfoldable pub magnitude : List ℕ → Option ℕ
magnitude [] = none
magnitude (b ∷ bs) = digits_from 0 (b ∷ bs)

-- "i32": from -2,147,483,648 to 2,147,483,647
unfoldable pub not_negative : Option ℕ → Option ℤ
not_negative none = none
not_negative (some n) = cond (leb n 2147483647) (some (pos n)) none

unfoldable pub negative : Option ℕ → Option ℤ
negative none = none
negative (some n) = cond (leb n 2147483648) (some (neg_ℤ (pos n))) none

-- digits, with a hyphen in front of them where the number is negative; there is no other sign, and zeros may lead
unfoldable pub number : List ℕ → Option ℤ
number [] = none
number (b ∷ bs) = elim (eqb b hyphen) [ true ↦ negative (magnitude bs) | false ↦ not_negative (magnitude (b ∷ bs)) ]

-- ---- the first line

-- k and the paths asked as they stand, whether or not within limits
pub record Header : Type 0 where
  pub k : ℤ
  pub quality : ℕ
  pub asked : ℤ
  pub threshold : ℤ
  pub recovery : Bool

-- "minimum quality (0 to 255)"
unfoldable pub byte_of : ℤ → Option ℕ
byte_of (pos n) = cond (leb n 255) (some n) none
byte_of (negsuc n) = none

-- "recovery (0 or 1)"
unfoldable pub flag_of : ℤ → Option Bool
flag_of (pos zero) = some false
flag_of (pos (suc zero)) = some true
flag_of (pos (suc (suc n))) = none
flag_of (negsuc n) = none

module _ {A B : Type 0} where
  -- go on with what there is
  abbrev pub with : Option A → (A → Option B) → Option B
  with none f = none
  with (some a) f = f a

-- exactly five
unfoldable pub settings : List ℤ → Option Header
settings [] = none
settings (k ∷ []) = none
settings (k ∷ q ∷ []) = none
settings (k ∷ q ∷ n ∷ []) = none
settings (k ∷ q ∷ n ∷ t ∷ []) = none
settings (k ∷ q ∷ n ∷ t ∷ r ∷ []) =
    with (byte_of q) (λ quality. with (flag_of r) (λ recovery. some (record { k = k; quality = quality; asked = n; threshold = t; recovery = recovery })))
settings (k ∷ q ∷ n ∷ t ∷ r ∷ x ∷ xs) = none

-- each part is a number
unfoldable pub numbers : List (List ℕ) → Option (List ℤ)
numbers [] = some []
numbers (p ∷ ps) = elim (number p) [ none ↦ none | some z ↦ in_front z (numbers ps) ]

-- "one space apart": with one more space behind the last, each number is ended by a space
unfoldable pub header : List ℕ → Option Header
header line = with (parts blank (line ++ blank ∷ [])) (λ ps. with (numbers ps) settings)

-- ---- the reads

-- a read as it stands: its bases, and its qualities as values
pub record ReadLines : Type 0 where
  pub bases : List ℕ
  pub qualities : List ℕ

-- "byte less 33, bytes 33 to 126"
unfoldable pub is_quality : ℕ → Bool
is_quality b = within 33 126 b

unfoldable pub values : List ℕ → List ℕ
values q = map (λ (b : ℕ). b - 33) q

-- "two lines a read, bases and qualities"
unfoldable pub reads_of : List (List ℕ) → Option (List ReadLines)
reads_of [] = some []
reads_of (b ∷ []) = none
reads_of (b ∷ q ∷ ls) = elim (all is_quality q) [ true ↦ in_front (record { bases = b; qualities = values q }) (reads_of ls) | false ↦ none ]

-- ---- the text

pub record Text : Type 0 where
  pub header : Header
  pub reference : List ℕ
  pub reads : List ReadLines

unfoldable pub from_lines : List (List ℕ) → Option Text
from_lines [] = none
from_lines (h ∷ []) = none
from_lines (h ∷ r ∷ ls) = with (header h) (λ s. with (reads_of ls) (λ rs. some (record { header = s; reference = r; reads = rs })))

-- "input 8,192 bytes"; "lines ended by line feeds"; none is "text not of this form or too long"
unfoldable pub text_of : List ℕ → Option Text
text_of input = elim (leb (length input) 8192) [ true ↦ with (parts line_feed input) from_lines | false ↦ none ]

-- ---- the column file

-- a number written lowest byte first
unfoldable pub lowest_first : List ℕ → ℕ
lowest_first [] = 0
lowest_first (b ∷ bs) = b + 256 * lowest_first bs

-- n entries of eight bytes each
unfoldable pub entries : ℕ → List ℕ → List Float
entries zero bs = []
entries (suc n) bs = of_bits binary64 (lowest_first (take 8 bs)) ∷ entries n (drop 8 bs)

-- "eight bytes each, lowest first, at most 512 entries": none is a file ragged or too long
unfoldable pub column_of : List ℕ → Option (List Float)
column_of bs = elim (eqb (length bs % 8) 0 && leb (length bs) 4096) [ true ↦ some (entries (length bs / 8) bs) | false ↦ none ]

-- ---- what is asked of the call for the list

-- a number below 0 counts as 0 where it has already been refused
unfoldable pub size_of : ℤ → ℕ
size_of (pos n) = n
size_of (negsuc n) = 0

-- the reads one behind the other, n bases standing before them
unfoldable pub ends_from : ℕ → List ReadLines → List ℕ
ends_from n [] = []
ends_from n (r ∷ rs) = (n + length r.bases) ∷ ends_from (n + length r.bases) rs

unfoldable pub all_bases : List ReadLines → List ℕ
all_bases [] = []
all_bases (r ∷ rs) = r.bases ++ all_bases rs

unfoldable pub all_qualities : List ReadLines → List ℕ
all_qualities [] = []
all_qualities (r ∷ rs) = r.qualities ++ all_qualities rs

unfoldable pub sample_of : Text → Sample
sample_of t =
    record {
      k = size_of t.header.k;
      quality = t.header.quality;
      reference = t.reference;
      ends = ends_from 0 t.reads;
      bases = all_bases t.reads;
      qualities = all_qualities t.reads;
    }

-- "maxima 128 vertices, 256 edges, 256 tree nodes, 128 path edges, 8 active trees, 128 pushes"
unfoldable pub graph_maxima : GraphMaxima
graph_maxima = record { vertices = 128; edges = 256; nodes = 256 }

unfoldable pub search_maxima : SearchMaxima
search_maxima = record { path_edges = 128; active = 8; pushes = 128 }

unfoldable pub input_of : Text → List Float → Input
input_of t c =
    record {
      sample = sample_of t;
      asked = size_of t.header.asked;
      threshold = t.header.threshold;
      recovery = t.header.recovery;
      graph_maxima = graph_maxima;
      search_maxima = search_maxima;
      column = c;
    }

-- ---- the program's own refusals among 1 to 5

unfoldable pub k_within : ℤ → Bool
k_within (pos n) = k_fits n
k_within (negsuc n) = false

-- "Paths asked above 8 print `refused 5`", and so do paths below 0
unfoldable pub asked_within : ℤ → Bool
asked_within (pos n) = leb n 8
asked_within (negsuc n) = false

-- "a read's two lines of unequal length, `refused 4`"
unfoldable pub even_read : ReadLines → Bool
even_read r = eqb (length r.bases) (length r.qualities)

abbrev rule : ℕ → Bool → Rule
rule n b = record { number = n; holds = b }

-- each in its place of the table's order
unfoldable pub text_rules : Text → List Rule
text_rules t =
    rule 1 (k_within t.header.k)
    ∷ rule 2 (reference_fits (size_of t.header.k) t.reference)
    ∷ rule 3 (reference_bases t.reference)
    ∷ rule 4 (all even_read t.reads && reads_fit (sample_of t))
    ∷ rule 5 (asked_within t.header.asked)
    ∷ []

-- The slices lent are as long as told, so that 7 is not met.
unfoldable pub after_text : Text → List Float → ℕ → Answer Float
after_text t c zero = answer (input_of t c) [] []
after_text t c (suc n) = refusal (suc n)

-- "`refused 14`, before all others"; `input` is none where standard input could not be read whole, `file` where the column file is missing or could not be
unfoldable pub answer_to : Option (List ℕ) → Option (List ℕ) → Answer Float
answer_to input file =
    elim (with input text_of) [
      | none ↦ refusal 14
      | some t ↦ elim (with file column_of) [ none ↦ refusal 14 | some c ↦ after_text t c (first_broken (text_rules t)) ]
    ]

-- ---- what is printed

-- decimal digits, of which there are no more than `most` and one
unfoldable pub decimal_within : ℕ → ℕ → List ℕ
decimal_within zero n = (48 + n % 10) ∷ []
decimal_within (suc most) n = elim (leb n 9) [ true ↦ (48 + n) ∷ [] | false ↦ decimal_within most (n / 10) ++ (48 + n % 10) ∷ [] ]

-- n has no more than n digits and one
unfoldable pub decimal : ℕ → List ℕ
decimal n = decimal_within n n

-- digits 0 to 9 and a to f
unfoldable pub hex_digit : ℕ → ℕ
hex_digit d = cond (leb d 9) (48 + d) (87 + d)

-- the lowest `digits` hexadecimal digits
unfoldable pub hexadecimal : ℕ → ℕ → List ℕ
hexadecimal zero n = []
hexadecimal (suc digits) n = hexadecimal digits (n / 16) ++ hex_digit (n % 16) ∷ []

-- `paths `
abbrev pub paths_word : List ℕ
paths_word = 112 ∷ 97 ∷ 116 ∷ 104 ∷ 115 ∷ 32 ∷ []

-- ` pushes `
abbrev pub pushes_word : List ℕ
pushes_word = 32 ∷ 112 ∷ 117 ∷ 115 ∷ 104 ∷ 101 ∷ 115 ∷ 32 ∷ []

-- `refused `
abbrev pub refused_word : List ℕ
refused_word = 114 ∷ 101 ∷ 102 ∷ 117 ∷ 115 ∷ 101 ∷ 100 ∷ 32 ∷ []

-- "rank from 1, score's bits in hexadecimal, closing number, edges, bases"
unfoldable pub path_line : ℕ → Float → ℕ → ℕ → List ℕ → List ℕ
path_line rank score closing edges bases =
    decimal rank
    ++ (blank ∷ hexadecimal 16 (to_bits binary64 score)
    ++ (blank ∷ decimal closing ++ (blank ∷ decimal edges ++ (blank ∷ bases ++ line_feed ∷ []))))

unfoldable pub path_lines : ℕ → List (Row Float) → List ℕ
path_lines rank [] = []
path_lines rank (r ∷ rs) = path_line rank r.score r.closing r.edges r.bases ++ path_lines (suc rank) rs

-- "paths listed and pushes"
unfoldable pub first_line : ℕ → ℕ → List ℕ
first_line paths pushes = paths_word ++ (decimal paths ++ (pushes_word ++ (decimal pushes ++ line_feed ∷ [])))

-- "A refusal prints `refused` and its number"
unfoldable pub refused_line : ℕ → List ℕ
refused_line n = refused_word ++ (decimal n ++ line_feed ∷ [])

unfoldable pub printed_of : Answer Float → List ℕ
printed_of (refusal n) = refused_line n
printed_of (listed rs pushes longest) = first_line (length rs) pushes ++ path_lines 1 rs

-- the whole standard output, for standard input and what `column.f64` holds, where they could be read whole
unfoldable pub printed : Option (List ℕ) → Option (List ℕ) → List ℕ
printed input file = printed_of (answer_to input file)

-- A key: to unfold it is to unfold every definition of this file. The worked cases compute with it; a proof names only what it needs.
unfoldable pub open_text : Unit {0}
unfolding parts digits_from magnitude not_negative negative number byte_of flag_of settings numbers header is_quality values reads_of from_lines text_of lowest_first entries column_of size_of ends_from all_bases all_qualities sample_of graph_maxima search_maxima input_of k_within asked_within even_read text_rules after_text answer_to decimal_within decimal hex_digit hexadecimal path_line path_lines first_line refused_line printed_of printed
open_text = tt
