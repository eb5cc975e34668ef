-- The lines behind the first as they are read: pair by pair, each with what is left behind it.
use Rattle.std.specs.Prelude.{◌≡◌, Bool, true, false, ◌&&◌, ℕ, ◌+◌, ◌-◌, ◌<◌, ◌≤◌, eqb, leb, List, [], ◌∷◌, ◌++◌, length, take, drop, refl, Option as Maybe, Some, None}
use Rattle.std.proofs.Common.{sym, ap, ◌∙◌, arith, length-append, length-drop, append-nil, leb-true, leb-false, le-leb}
use Rattle.std.proofs.Math.Bool.{and-true}
use Rattle.std.proofs.Math.Option.{Option, none, some}
use Rattle.std.proofs.lemmas.List.{length-map}
use Rattle.std.proofs.lemmas.Bool.{lt-leb}
use Rattle.std.proofs.Math.Seq.{slice, length-slice, drop-length}
use Rattle.std.specs.List.{list_all}
use Rattle.std.specs.Char.{is_ascii_graphic}
use Rattle.laws.specs.Lists.{all}
use Rattle.definition.specs.Text.{Header, ReadLines, Text, parts, header, is_quality, values, reads_of, from_lines, text_of, even_read, with, in_front}
use Rattle.text_form.specs.Parts.{first_at, line_first, line-unended}
use Rattle.text_form.specs.Headers.{shown, HeaderSays}
use Rattle.text_form.specs.declared.header.Settings.{Settings}
use Rattle.text_form.specs.declared.reads.Lines.{Lines}
use Rattle.text_form.specs.declared.reads.Tally.{Tally}
use Rattle.text_form.specs.declared.reads.Layout.{Layout}

-- ---- what the answers say

-- the reads from place `at` on
unfoldable pub reads_from : List ℕ → ℕ → Option (List ReadLines)
reads_from text at = with (parts 10 (drop at text)) reads_of

-- a read whose bases end at b and whose qualities end at q
abbrev pub read_at : List ℕ → ℕ → ℕ → ℕ → ReadLines
read_at text at b q = record { bases = slice at b text; qualities = values (slice (b + 1) q text) }

pub record PairAt (text : List ℕ) (at : ℕ) (l : Lines) : Type 0 where
  pub reads : reads_from text at ≡ in_front (read_at text at l.bases l.qualities) (reads_from text (l.qualities + 1))
  pub rising : at ≤ l.bases
  pub behind : l.bases < l.qualities
  pub inside : l.qualities < length text
  pub good : all is_quality (slice (l.bases + 1) l.qualities text) ≡ true

abbrev pub PairSays : List ℕ → ℕ → Maybe Lines → Type 0
PairSays text at (Some l) = PairAt text at l
PairSays text at None = reads_from text at ≡ none

abbrev pub ScanSays : Maybe Tally → Option (List ReadLines) → Type 0
ScanSays r none = r ≡ None
ScanSays r (some rs) = r ≡ Some (record { count = length rs; even = all even_read rs })

-- where the parts of a text stand
pub record Laid (text : List ℕ) (l : Layout) (t : Text) : Type 0 where
  pub settings : l.settings ≡ shown t.header
  pub reference : slice l.reference l.past text ≡ t.reference
  pub reads : reads_from text l.reads ≡ some t.reads
  pub count : l.tally.count ≡ length t.reads
  pub even : l.tally.even ≡ all even_read t.reads
  pub small : length text ≤ 8192
  pub rising : l.reference ≤ l.past
  pub behind : l.reads ≡ l.past + 1
  pub inside : l.reads ≤ length text

abbrev pub FormSays : List ℕ → Maybe Layout → Option Text → Type 0
FormSays text r none = r ≡ None
FormSays text r (some t) = (l : Layout) × (r ≡ Some l) × Laid text l t

-- ---- the qualities

pub graphic-all : (line : List ℕ) → list_all is_ascii_graphic line ≡ all is_quality line
unfolding is_quality
graphic-all [] = refl
graphic-all (b ∷ bs) = ap (λ (t : Bool). is_ascii_graphic b && t) (graphic-all bs)

-- ---- a pair of lines

no_lines : (text : List ℕ) → parts 10 (drop (length text) text) ≡ some []
unfolding parts
no_lines text = rw (drop-length text)

-- what reads_of does by a test
abbrev tested : Option (List ReadLines) → Bool → Option (List ReadLines)
tested o t = elim t [ true ↦ o | false ↦ none ]

reads-test : (b q : List ℕ) (ls : List (List ℕ)) → reads_of (b ∷ q ∷ ls) ≡ tested (in_front (record { bases = b; qualities = values q }) (reads_of ls)) (all is_quality q)
unfolding reads_of
reads-test b q ls = refl

reads-good : (b q : List ℕ) (ls : List (List ℕ)) → all is_quality q ≡ true
    → reads_of (b ∷ q ∷ ls) ≡ in_front (record { bases = b; qualities = values q }) (reads_of ls)
reads-good b q ls e = reads-test b q ls ∙ ap (tested (in_front (record { bases = b; qualities = values q }) (reads_of ls))) e

reads-bad : (b q : List ℕ) (ls : List (List ℕ)) → all is_quality q ≡ false → reads_of (b ∷ q ∷ ls) ≡ none
reads-bad b q ls e = reads-test b q ls ∙ ap (tested (in_front (record { bases = b; qualities = values q }) (reads_of ls))) e

pair-good : (b q : List ℕ) (o : Option (List (List ℕ))) → all is_quality q ≡ true
    → with (in_front b (in_front q o)) reads_of ≡ in_front (record { bases = b; qualities = values q }) (with o reads_of)
pair-good b q none e = refl
pair-good b q (some ls) e = reads-good b q ls e

pair-bad : (b q : List ℕ) (o : Option (List (List ℕ))) → all is_quality q ≡ false → with (in_front b (in_front q o)) reads_of ≡ none
pair-bad b q none e = refl
pair-bad b q (some ls) e = reads-bad b q ls e

module _ (text : List ℕ) (at : ℕ) where
  pub bases-unended : at < length text → first_at 10 (drop at text) ≡ length (drop at text) → reads_from text at ≡ none
  unfolding reads_from
  bases-unended h k = let f = line-unended text at h k in rw f

  module _ (n : ℕ) (e : n ≡ first_at 10 (drop at text)) (k : n < length (drop at text)) where
    abbrev b : ℕ
    b = at + n

    first-line : parts 10 (drop at text) ≡ in_front (slice at b text) (parts 10 (drop (b + 1) text))
    first-line = line_first text at n e k

    pub qualities-unended : first_at 10 (drop (b + 1) text) ≡ length (drop (b + 1) text) → reads_from text at ≡ none
    unfolding reads_from reads_of
    qualities-unended m = go (leb (length text) (b + 1)) refl
      where
        go : (t : Bool) → leb (length text) (b + 1) ≡ t → with (parts 10 (drop at text)) reads_of ≡ none
        go true x =
            let l = length-drop at text in
            let y : b + 1 ≡ length text = (let z = leb-true (length text) (b + 1) x in omega arith) in
            let w : parts 10 (drop (b + 1) text) ≡ some [] = ap (λ (n : ℕ). parts 10 (drop n text)) y ∙ no_lines text in
            rw (first-line, w)
        go false x =
            let y = leb-false (length text) (b + 1) x in
            let w = line-unended text (b + 1) y m in
            rw (first-line, w)

    module _ (i : ℕ) (f : i ≡ first_at 10 (drop (b + 1) text)) (m : i < length (drop (b + 1) text)) where
      abbrev q : ℕ
      q = b + 1 + i

      both-lines : parts 10 (drop at text) ≡ in_front (slice at b text) (in_front (slice (b + 1) q text) (parts 10 (drop (q + 1) text)))
      both-lines = first-line ∙ ap (in_front (slice at b text)) (line_first text (b + 1) i f m)

      pub qualities-bad : false ≡ all is_quality (slice (b + 1) q text) → reads_from text at ≡ none
      unfolding reads_from
      qualities-bad x =
          ap (λ (o : Option (List (List ℕ))). with o reads_of) both-lines
          ∙ pair-bad (slice at b text) (slice (b + 1) q text) (parts 10 (drop (q + 1) text)) (sym x)

      pub pair_read : true ≡ all is_quality (slice (b + 1) q text) → PairAt text at (record { bases = b; qualities = q })
      unfolding reads_from
      pair_read x =
          let l = length-drop (b + 1) text in
          record {
            reads =
                ap (λ (o : Option (List (List ℕ))). with o reads_of) both-lines
                ∙ pair-good (slice at b text) (slice (b + 1) q text) (parts 10 (drop (q + 1) text)) (sym x);
            rising = omega arith;
            behind = omega arith;
            inside = omega arith;
            good = sym x;
          }

-- ---- all reads

-- reads in front of those still to come
abbrev ahead : List ReadLines → Option (List ReadLines) → Option (List ReadLines)
ahead [] o = o
ahead (r ∷ rs) o = in_front r (ahead rs o)

ahead_more : (rs : List ReadLines) (r : ReadLines) (o : Option (List ReadLines)) → ahead rs (in_front r o) ≡ ahead (rs ++ r ∷ []) o
ahead_more [] r o = refl
ahead_more (x ∷ rs) r o = ap (in_front x) (ahead_more rs r o)

ahead_none : (rs : List ReadLines) → ahead rs none ≡ none
ahead_none [] = refl
ahead_none (r ∷ rs) = ap (in_front r) (ahead_none rs)

ahead-some : (rs l : List ReadLines) → ahead rs (some l) ≡ some (rs ++ l)
ahead-some [] l = refl
ahead-some (r ∷ rs) l = ap (in_front r) (ahead-some rs l)

pub all-last : (rs : List ReadLines) (r : ReadLines) → all even_read (rs ++ r ∷ []) ≡ (all even_read rs && even_read r)
all-last [] r = and-true (even_read r)
all-last (x ∷ rs) r = go (even_read x) (all-last rs r)
  where
    go : (t : Bool) → all even_read (rs ++ r ∷ []) ≡ (all even_read rs && even_read r) → (t && all even_read (rs ++ r ∷ [])) ≡ (t && all even_read rs && even_read r)
    go true e = e
    go false e = refl

-- `count` reads are taken, all even or not, and those from `at` on are left
pub record Scanning (text : List ℕ) (from at count : ℕ) (even : Bool) : Type 0 where
  pub done : List ReadLines
  pub whole : reads_from text from ≡ ahead done (reads_from text at)
  pub many : count ≡ length done
  pub flag : even ≡ all even_read done
  pub inside : at ≤ length text
  pub few : count ≤ at

pub scan-start : (text : List ℕ) (from : ℕ) → from ≤ length text → Scanning text from from 0 true
scan-start text from h = record { done = []; whole = refl; many = refl; flag = refl; inside = h; few = omega arith }

length-values : (q : List ℕ) → length (values q) ≡ length q
unfolding values
length-values q = length-map q (λ (b : ℕ). b - 33)

even_is : (text : List ℕ) (at b q : ℕ) → at ≤ b → b < q → q < length text → eqb (b - at) (q - b - 1) ≡ even_read (read_at text at b q)
unfolding even_read
even_is text at b q h k l =
    let x : length (slice at b text) ≡ b - at = length-slice at b text (omega arith) in
    let y : length (values (slice (b + 1) q text)) ≡ q - (b + 1) = length-values (slice (b + 1) q text) ∙ length-slice (b + 1) q text (omega arith) in
    let z : q - (b + 1) ≡ q - b - 1 = omega arith in
    rw (x, y, z)

module _ {text : List ℕ} {from at count : ℕ} {even : Bool} (s : Scanning text from at count even) where
  pub scan-end : length text ≤ at → ScanSays (Some (record { count = count; even = even })) (reads_from text from)
  unfolding reads_from reads_of
  scan-end h =
      let e : at ≡ length text = (let k = s.inside in omega arith) in
      let f : reads_from text at ≡ some [] = ap (reads_from text) e ∙ ap (λ (o : Option (List (List ℕ))). with o reads_of) (no_lines text) in
      let g : reads_from text from ≡ some s.done = s.whole ∙ ap (ahead s.done) f ∙ ahead-some s.done [] ∙ ap (λ (l : List ReadLines). some l) (append-nil s.done) in
      rw (g, s.many, s.flag) refl

  pub scan-stop : reads_from text at ≡ none → ScanSays None (reads_from text from)
  scan-stop f =
      let g : reads_from text from ≡ none = s.whole ∙ ap (ahead s.done) f ∙ ahead_none s.done in
      rw g refl

  module _ (l : Lines) (p : PairAt text at l) where
    pub scan-next : (t : Bool) → t ≡ (even && eqb (l.bases - at) (l.qualities - l.bases - 1)) → Scanning text from (l.qualities + 1) (count + 1) t
    scan-next t e =
        let R : ReadLines = read_at text at l.bases l.qualities in
        let x = p.rising in
        let y = p.behind in
        let z = p.inside in
        let u = s.few in
        record {
          done = s.done ++ R ∷ [];
          whole = s.whole ∙ ap (ahead s.done) p.reads ∙ ahead_more s.done R (reads_from text (l.qualities + 1));
          many = ap (λ (n : ℕ). n + 1) s.many ∙ sym (length-append s.done (R ∷ []));
          flag =
              e
              ∙ ap (λ (w : Bool). w && eqb (l.bases - at) (l.qualities - l.bases - 1)) s.flag
              ∙ ap (λ (w : Bool). all even_read s.done && w) (even_is text at l.bases l.qualities x y z)
              ∙ sym (all-last s.done R);
          inside = omega arith;
          few = omega arith;
        }

-- ---- the whole text

text-long : (text : List ℕ) → 8192 < length text → text_of text ≡ none
unfolding text_of
text-long text h = rw (lt-leb (length text) 8192 h, text_of)

text-short : (text : List ℕ) → length text ≤ 8192 → text_of text ≡ with (parts 10 text) from_lines
unfolding text_of
text-short text h = rw (le-leb (length text) 8192 h, text_of)

pub form-long : (text : List ℕ) → 8192 < length text → FormSays text None (text_of text)
form-long text h = let e = text-long text h in rw e refl

abbrev text_with : List ℕ → Option Header → Option (List ReadLines) → Option Text
text_with r h o = with h (λ s. with o (λ rs. some (record { header = s; reference = r; reads = rs })))

no_reads : (r : List ℕ) (h : Option Header) → none ≡ text_with r h none
no_reads r none = refl
no_reads r (some s) = refl

lines-text : (h r : List ℕ) (o : Option (List (List ℕ))) → with (in_front h (in_front r o)) from_lines ≡ text_with r (header h) (with o reads_of)
unfolding from_lines
lines-text h r none = no_reads r (header h)
lines-text h r (some ls) = refl

header-good : (o : Option Header) (s : Settings) → HeaderSays (Some s) o → (h : Header) × (o ≡ some h) × (s ≡ shown h)
header-good none s q = let z : ◌≡◌ {A = ℕ} 0 1 = cc in absurd (omega arith)
header-good (some h) s q = (h, refl, (let f : s ≡ shown h = cc in f))

header-bad : (o : Option Header) → HeaderSays None o → o ≡ none
header-bad none q = refl
header-bad (some h) q = let z : ◌≡◌ {A = ℕ} 0 1 = cc in absurd (omega arith)

scan-bad : (o : Option (List ReadLines)) → ScanSays None o → o ≡ none
scan-bad none q = refl
scan-bad (some rs) q = let z : ◌≡◌ {A = ℕ} 0 1 = cc in absurd (omega arith)

scan_good : (o : Option (List ReadLines)) (t : Tally) → ScanSays (Some t) o
    → (rs : List ReadLines) × (o ≡ some rs) × (t ≡ record { count = length rs; even = all even_read rs })
scan_good none t q = let z : ◌≡◌ {A = ℕ} 0 1 = cc in absurd (omega arith)
scan_good (some rs) t q = (rs, refl, (let f : t ≡ record { count = length rs; even = all even_read rs } = cc in f))

module _ (text : List ℕ) (small : length text ≤ 8192) where
  none-says : text_of text ≡ none → FormSays text None (text_of text)
  none-says f = rw f refl

  pub first-unended : first_at 10 text ≡ length text → FormSays text None (text_of text)
  unfolding from_lines parts
  first-unended k = none-says (text-short text small ∙ go text refl)
    where
      go : (t : List ℕ) → text ≡ t → with (parts 10 text) from_lines ≡ none
      go [] x = rw x
      go (b ∷ bs) x =
          let l = ap length x in
          let f : parts 10 (drop 0 text) ≡ none = line-unended text 0 (omega arith) k in
          rw f

  module _ (a : ℕ) (e : a ≡ first_at 10 text) (k : a < length text) where
    first_ended : parts 10 text ≡ in_front (take a text) (parts 10 (drop (a + 1) text))
    first_ended = let z : 0 + a ≡ a = omega arith in let f = line_first text 0 a e k in rw z at f

    pub second-unended : first_at 10 (drop (a + 1) text) ≡ length (drop (a + 1) text) → FormSays text None (text_of text)
    unfolding from_lines
    second-unended m = none-says (text-short text small ∙ go (leb (length text) (a + 1)) refl)
      where
        go : (t : Bool) → leb (length text) (a + 1) ≡ t → with (parts 10 text) from_lines ≡ none
        go true x =
            let y : a + 1 ≡ length text = (let z = leb-true (length text) (a + 1) x in omega arith) in
            let w : parts 10 (drop (a + 1) text) ≡ some [] = ap (λ (n : ℕ). parts 10 (drop n text)) y ∙ no_lines text in
            ap (λ (o : Option (List (List ℕ))). with o from_lines) (first_ended ∙ ap (in_front (take a text)) w)
        go false x =
            let y = leb-false (length text) (a + 1) x in
            let w = line-unended text (a + 1) y m in
            ap (λ (o : Option (List (List ℕ))). with o from_lines) (first_ended ∙ ap (in_front (take a text)) w)

    module _ (n : ℕ) (f : n ≡ first_at 10 (drop (a + 1) text)) (m : n < length (drop (a + 1) text)) where
      abbrev past : ℕ
      past = a + 1 + n

      text-is : text_of text ≡ text_with (slice (a + 1) past text) (header (take a text)) (reads_from text (past + 1))
      unfolding reads_from
      text-is =
          text-short text small
          ∙ ap (λ (o : Option (List (List ℕ))). with o from_lines) (first_ended ∙ ap (in_front (take a text)) (line_first text (a + 1) n f m))
          ∙ lines-text (take a text) (slice (a + 1) past text) (parts 10 (drop (past + 1) text))

      pub form-header : HeaderSays None (header (take a text)) → FormSays text None (text_of text)
      form-header q =
          let y = header-bad (header (take a text)) q in
          none-says (text-is ∙ ap (λ (o : Option Header). text_with (slice (a + 1) past text) o (reads_from text (past + 1))) y)

      pub form-reads : ScanSays None (reads_from text (past + 1)) → FormSays text None (text_of text)
      form-reads q =
          let y = scan-bad (reads_from text (past + 1)) q in
          none-says
          (text-is
          ∙ ap (text_with (slice (a + 1) past text) (header (take a text))) y
          ∙ sym (no_reads (slice (a + 1) past text) (header (take a text))))

      pub form-read : (s : Settings) → HeaderSays (Some s) (header (take a text)) → (t : Tally) → ScanSays (Some t) (reads_from text (past + 1))
          → FormSays text (Some (record { settings = s; reference = a + 1; past = past; reads = past + 1; tally = t })) (text_of text)
      form-read s q t y =
          let u = header-good (header (take a text)) s q in
          let v = scan_good (reads_from text (past + 1)) t y in
          let w = length-drop (a + 1) text in
          let i : text_of text ≡ some (record { header = u.0; reference = slice (a + 1) past text; reads = v.0 }) =
          text-is
          ∙ ap (λ (o : Option Header). text_with (slice (a + 1) past text) o (reads_from text (past + 1))) u.1
          ∙ ap (text_with (slice (a + 1) past text) (some u.0)) v.1
          in
          rw i (
            record { settings = s; reference = a + 1; past = past; reads = past + 1; tally = t },
            refl,
            record {
              settings = u.2;
              reference = refl;
              reads = v.1;
              count = ap (λ (n : Tally). n.count) v.2;
              even = ap (λ (n : Tally). n.even) v.2;
              small = small;
              rising = omega arith;
              behind = refl;
              inside = omega arith;
            },
          )
