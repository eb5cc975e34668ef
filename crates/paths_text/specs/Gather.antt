-- The reads brought together one by one: what stands together, and what is left.
use Rattle.std.specs.Prelude.{◌≡◌, refl, true, set, drop, Option as Maybe, Some, None, IsSome}
use Rattle.std.proofs.Common.{sym, ap, ◌∙◌, length-append, drop_of_length-le, List, [], ◌∷◌, ◌++◌, append_assoc, append-nil, ℕ, suc, ◌+◌, ◌-◌, ◌<◌, ◌≤◌, arith, length, eqb-true}
use Rattle.std.proofs.Math.Option.{Option, none, some}
use Rattle.std.proofs.Math.Decide.{dec_lt}
use Rattle.std.proofs.Math.ListN.{length-map}
use Rattle.std.proofs.Math.Seq.{slice, length-slice}
use Rattle.std.proofs.lemmas.List.Edits.{sets}
use Rattle.laws.specs.Lists.{all}
use Rattle.laws.specs.ListLaws.{and_left, and_right}
use Rattle.laws.specs.Stores.{sets_more}
use Rattle.definition.specs.Text.{ReadLines, values, all_bases, all_qualities, ends_from, even_read, parts, reads_of, with, in_front}
use Rattle.definition.specs.Calls.{written_at}
use Rattle.paths_output.specs.Written.{written-sets, length-written, written-more}
use Rattle.text_form.specs.Reads.{reads_from, read_at, PairAt, PairSays}
use Rattle.paths_text.specs.Moves.{Joins, drop-written, written_over, slice-here}
use Rattle.text_form.specs.declared.reads.Lines.{Lines}
use Rattle.paths_text.specs.declared.gather.Gathering.{Gathering}

-- what is asked: a text whose reads from place `from` on are even, and a place for the end of each
pub record Gathers (T E : List ℕ) (from count : ℕ) : Type 0 where
  pub reads : List ReadLines
  pub are : reads_from T from ≡ some reads
  pub many : count ≡ length reads
  pub even : all even_read reads ≡ true
  pub room : count ≤ length E
  pub small : length T ≤ 8192
  pub inside : from ≤ length T

-- what is promised: all bases from there on, all qualities behind them, and the ends; nothing else is touched
pub record Gathered (T E T' E' : List ℕ) (from : ℕ) (reads : List ReadLines) (bases : ℕ) : Type 0 where
  pub text : T' ≡ written_at from (all_bases reads ++ all_qualities reads) T
  pub ends : E' ≡ written_at 0 (ends_from 0 reads) E
  pub bases-many : bases ≡ length (all_bases reads)
  pub qualities-many : bases ≡ length (all_qualities reads)
  pub inside : (from + bases) + bases ≤ length T

-- some reads are gathered, the others are left
pub record Going (T₀ E₀ : List ℕ) (from : ℕ) (reads : List ReadLines) (T E : List ℕ) (g : Gathering) : Type 0 where
  pub done : List ReadLines
  pub rest : List ReadLines
  pub whole : done ++ rest ≡ reads
  pub left : reads_from T g.at ≡ some rest
  pub text : T ≡ written_at from (all_bases done ++ all_qualities done) T₀
  pub same : length T ≡ length T₀
  pub bases-many : g.bases ≡ length (all_bases done)
  pub qualities-many : g.bases ≡ length (all_qualities done)
  pub many : g.reads ≡ length done
  pub even : all even_read rest ≡ true
  pub ends : E ≡ sets E₀ 0 (ends_from 0 done)
  pub ends_same : length E ≡ length E₀
  pub room : (from + g.bases) + g.bases ≤ g.at
  pub inside : g.at ≤ length T
  pub small : length T ≤ 8192

go-start : (T E : List ℕ) (from count : ℕ) (a : Gathers T E from count) → Going T E from a.reads T E (record { at = from; bases = 0; reads = 0 })
unfolding all_bases all_qualities ends_from
go-start T E from count a =
    record {
      done = [];
      rest = a.reads;
      whole = refl;
      left = a.are;
      text = sym (written-sets from [] T (let x = a.inside in omega arith));
      same = refl;
      bases-many = refl;
      qualities-many = refl;
      many = refl;
      even = a.even;
      ends = refl;
      ends_same = refl;
      room = omega arith;
      inside = a.inside;
      small = a.small;
    }

-- ---- one read more at the end

bases-last : (rs : List ReadLines) (r : ReadLines) → all_bases (rs ++ r ∷ []) ≡ all_bases rs ++ r.bases
unfolding all_bases
bases-last [] r = append-nil r.bases
bases-last (x ∷ rs) r = ap (λ (l : List ℕ). x.bases ++ l) (bases-last rs r) ∙ sym (append_assoc x.bases (all_bases rs) r.bases)

qualities-last : (rs : List ReadLines) (r : ReadLines) → all_qualities (rs ++ r ∷ []) ≡ all_qualities rs ++ r.qualities
unfolding all_qualities
qualities-last [] r = append-nil r.qualities
qualities-last (x ∷ rs) r = ap (λ (l : List ℕ). x.qualities ++ l) (qualities-last rs r) ∙ sym (append_assoc x.qualities (all_qualities rs) r.qualities)

ends_last : (n : ℕ) (rs : List ReadLines) (r : ReadLines) (e : ℕ) → e ≡ (n + length (all_bases rs)) + length r.bases
    → ends_from n (rs ++ r ∷ []) ≡ ends_from n rs ++ e ∷ []
unfolding ends_from all_bases
ends_last n [] r e h = let f : n + length r.bases ≡ e = omega arith in rw f
ends_last n (x ∷ rs) r e h =
    let l = length-append x.bases (all_bases rs) in
    ap (λ (t : List ℕ). (n + length x.bases) ∷ t) (ends_last (n + length x.bases) rs r e (omega arith))

pub length-ends : (n : ℕ) (rs : List ReadLines) → length (ends_from n rs) ≡ length rs
unfolding ends_from
length-ends n [] = refl
length-ends n (x ∷ rs) = ap suc (length-ends (n + length x.bases) rs)

-- ---- the next read

-- the reads from a place on are those of what stands from there on
same_reads : (T U : List ℕ) (at : ℕ) → drop at T ≡ drop at U → reads_from T at ≡ reads_from U at
unfolding reads_from
same_reads T U at e = ap (λ (l : List ℕ). with (parts 10 l) reads_of) e

-- a read is left, and it is the first
next-is : (r : ReadLines) (o : Option (List ReadLines)) (rest : List ReadLines) → some rest ≡ in_front r o → (more : List ReadLines) × (o ≡ some more) × (rest ≡ r ∷ more)
next-is r none rest e = let z : ◌≡◌ {A = ℕ} 0 1 = cc in absurd (omega arith)
next-is r (some l) rest e = (l, refl, (let f : rest ≡ r ∷ l = cc in f))

-- what one step asks: a read is left, even, and there is a place for its end
pub record Nexts (T E : List ℕ) (from : ℕ) (g : Gathering) : Type 0 where
  pub read : ReadLines
  pub more : List ReadLines
  pub left : reads_from T g.at ≡ some (read ∷ more)
  pub even : even_read read ≡ true
  pub room : (from + g.bases) + g.bases ≤ g.at
  pub before : g.at < length T
  pub small : length T ≤ 8192
  pub end : g.reads < length E

-- what one step does: the two lines at `at` join the reads before, and the read's end is told
pub record Nexted (T E T' E' : List ℕ) (from : ℕ) (g g' : Gathering) : Type 0 where
  pub lines : Lines
  pub pair : PairAt T g.at lines
  pub at : g'.at ≡ lines.qualities + 1
  pub bases : g'.bases ≡ g.bases + (lines.bases - g.at)
  pub reads : g'.reads ≡ g.reads + 1
  pub text :
      T'
      ≡ written_at (from + g.bases)
      (slice g.at lines.bases T ++ (slice (from + g.bases) ((from + g.bases) + g.bases) T ++ values (slice (lines.bases + 1) lines.qualities T)))
      T
  pub ends : E' ≡ set E g.reads g'.bases

module _ {T E : List ℕ} {from : ℕ} {g : Gathering} (n : Nexts T E from g) where
  -- the next two lines are there
  pub next-there : (r : Maybe Lines) → PairSays T g.at r → IsSome r
  next-there (Some l) q = refl
  next-there None q =
      let f : none ≡ some (n.read ∷ n.more) = sym q ∙ n.left in
      let z : ◌≡◌ {A = ℕ} 0 1 = cc in
      absurd (omega arith)

  module _ (l : Lines) (p : PairAt T g.at l) where
    pub next-joins : Joins T (from + g.bases) g.bases g.at l.bases l.qualities
    next-joins = record { room = n.room; rising = p.rising; behind = p.behind; inside = p.inside; good = p.good }

-- ---- all of it

-- the loop's state
pub record Loop (T₀ E₀ : List ℕ) (from count : ℕ) (T E : List ℕ) (g : Gathering) : Type 0 where
  pub asked : Gathers T₀ E₀ from count
  pub going : Going T₀ E₀ from asked.reads T E g

pub loop-start : (T E : List ℕ) (from count : ℕ) → Gathers T E from count → Loop T E from count T E (record { at = from; bases = 0; reads = 0 })
loop-start T E from count a = record { asked = a; going = go-start T E from count a }

no-reads-left : (T : List ℕ) (at : ℕ) → length T ≤ at → reads_from T at ≡ some []
unfolding reads_from parts reads_of
no-reads-left T at h = let e : drop at T ≡ [] = drop_of_length-le T {i = at} h in rw e

module _ {T₀ E₀ : List ℕ} {from count : ℕ} {T E : List ℕ} {g : Gathering} (s : Loop T₀ E₀ from count T E g) where
  parts-of : (rest : List ReadLines) → s.going.rest ≡ rest → g.reads < count → (r : ReadLines) × (more : List ReadLines) × (s.going.rest ≡ r ∷ more)
  parts-of [] e h =
      let a = length-append s.going.done s.going.rest in
      let b = ap length s.going.whole in
      let c = s.asked.many in
      let d = s.going.many in
      let f = ap length e in
      absurd (omega arith)
  parts-of (r ∷ more) e h = (r, more, e)

  pub loop-asks : g.reads < count → Nexts T E from g
  loop-asks h =
      let o = s.going in
      let p = parts-of o.rest refl h in
      let e : all even_read (p.0 ∷ p.1) ≡ true = ap (all even_read) (sym p.2) ∙ o.even in
      let l : reads_from T g.at ≡ some (p.0 ∷ p.1) = o.left ∙ ap (λ (x : List ReadLines). some x) p.2 in
      record {
        read = p.0;
        more = p.1;
        left = l;
        even = and_left (even_read p.0) (all even_read p.1) e;
        room = o.room;
        before = inside (dec_lt g.at (length T)) l;
        small = o.small;
        end = (let x = o.ends_same in let y = s.asked.room in omega arith);
      }
    where
      inside : Dec (g.at < length T) → {r : ReadLines} {more : List ReadLines} → reads_from T g.at ≡ some (r ∷ more) → g.at < length T
      inside (yes k) l = k
      inside (no k) {r} {more} l =
          let e : some [] ≡ some (r ∷ more) = sym (no-reads-left T g.at (omega arith)) ∙ l in
          let z : ◌≡◌ {A = ℕ} 0 1 = cc in
          absurd (omega arith)

  module _ {T' E' : List ℕ} {g' : Gathering} (w : Nexted T E T' E' from g g') (k_t : length T' ≡ length T) (k_e : length E' ≡ length E) where
    abbrev b : ℕ
    b = w.lines.bases

    abbrev q : ℕ
    q = w.lines.qualities

    abbrev R : ReadLines
    R = read_at T g.at b q

    abbrev B : List ℕ
    B = all_bases s.going.done

    abbrev Q : List ℕ
    Q = all_qualities s.going.done

    -- the read is the first of those left
    split : (more : List ReadLines) × (reads_from T (q + 1) ≡ some more) × (s.going.rest ≡ R ∷ more)
    split = next-is R (reads_from T (q + 1)) s.going.rest (sym s.going.left ∙ w.pair.reads)

    flags : all even_read (R ∷ split.0) ≡ true
    flags = ap (all even_read) (sym split.2) ∙ s.going.even

    long-bases : length R.bases ≡ b - g.at
    long-bases = length-slice g.at b T (let x = w.pair.behind in let y = w.pair.inside in omega arith)

    long-values : length R.qualities ≡ q - (b + 1)
    unfolding values
    long-values =
        length-map (slice (b + 1) q T) (λ (x : ℕ). x - 33)
        ∙ length-slice (b + 1) q T (let y = w.pair.inside in omega arith)

    equal-lines : length R.bases ≡ length R.qualities
    unfolding even_read
    equal-lines = eqb-true (length R.bases) (length R.qualities) (and_left (even_read R) (all even_read split.0) flags)

    -- the text before the step, by its last stores
    under : List ℕ
    under = written_at from B T₀

    fits : ((from + length B) + length Q ≤ length T₀) × (length under ≡ length T₀)
    unfolding under
    fits =
        let x = s.going.room in
        let y = s.going.inside in
        let z = s.going.same in
        let u = s.going.bases-many in
        let v = s.going.qualities-many in
        let f : (from + length B) + length Q ≤ length T₀ = omega arith in
        (f, length-written from B T₀ (omega arith))

    before-is : T ≡ written_at (from + length B) Q under
    unfolding under
    before-is = s.going.text ∙ sym (written-more from B Q T₀ fits.0)

    abbrev Y : List ℕ
    Y = R.bases ++ (Q ++ R.qualities)

    place_is : from + g.bases ≡ from + length B
    place_is = let u = s.going.bases-many in omega arith

    held : slice (from + g.bases) ((from + g.bases) + g.bases) T ≡ Q
    held =
        let v = s.going.qualities-many in
        let f = fits in
        let z : (from + length B) + g.bases ≡ (from + length B) + length Q = omega arith in
        ap (λ (i : ℕ). slice i (i + g.bases) T) place_is
        ∙ ap (λ (i : ℕ). slice (from + length B) i T) z
        ∙ ap (slice (from + length B) ((from + length B) + length Q)) before-is
        ∙ slice-here (from + length B) Q under (let a = f.0 in let c = f.1 in omega arith)

    long-Y : length Y ≡ (b - g.at) + (length Q + (b - g.at))
    long-Y =
        let a = length-append R.bases (Q ++ R.qualities) in
        let c = length-append Q R.qualities in
        let d = long-bases in
        let e = equal-lines in
        omega arith

    -- all that is written lies before the next read
    behind : (from + length B) + length Y ≤ q
    behind =
        let a = long-Y in
        let c = long-bases in
        let d = long-values in
        let e = equal-lines in
        let x = s.going.room in
        let u = s.going.bases-many in
        let v = s.going.qualities-many in
        let i = w.pair.rising in
        let j = w.pair.behind in
        omega arith

    step_is : T' ≡ written_at (from + length B) Y T
    step_is =
        w.text
        ∙ ap (λ (x : List ℕ). written_at (from + g.bases) (R.bases ++ (x ++ R.qualities)) T) held
        ∙ ap (λ (i : ℕ). written_at i Y T) place_is

    text-is : T' ≡ written_at from (all_bases (s.going.done ++ R ∷ []) ++ all_qualities (s.going.done ++ R ∷ [])) T₀
    unfolding under
    text-is =
        let f = fits in
        let h = behind in
        let y = long-Y in
        let i = w.pair.inside in
        let z = s.going.same in
        let o : List ℕ = R.qualities in
        step_is
        ∙ ap (written_at (from + length B) Y) before-is
        ∙ written_over (from + length B) Q under (let a = f.0 in let c = f.1 in omega arith) Y (omega arith) (let c = f.1 in omega arith)
        ∙ written-more from B Y T₀ (omega arith)
        ∙ ap (λ (x : List ℕ). written_at from x T₀)
        (sym (append_assoc B R.bases (Q ++ o))
        ∙ ap (λ (x : List ℕ). x ++ (Q ++ o)) (sym (bases-last s.going.done R))
        ∙ ap (λ (x : List ℕ). all_bases (s.going.done ++ R ∷ []) ++ x) (sym (qualities-last s.going.done R)))

    left_is : reads_from T' g'.at ≡ some split.0
    left_is =
        let h = behind in
        let i = w.pair.inside in
        let e : drop (q + 1) T' ≡ drop (q + 1) T = ap (drop (q + 1)) step_is ∙ drop-written (from + length B) Y T (omega arith) (q + 1) (omega arith) in
        ap (reads_from T') w.at ∙ same_reads T' T (q + 1) e ∙ split.1

    ends-are : E' ≡ sets E₀ 0 (ends_from 0 (s.going.done ++ R ∷ []))
    ends-are =
        let l = length-ends 0 s.going.done in
        let m = s.going.many in
        let u = s.going.bases-many in
        let c = long-bases in
        let d = w.bases in
        let i : g.reads ≡ 0 + length (ends_from 0 s.going.done) = omega arith in
        w.ends
        ∙ ap (λ (x : List ℕ). set x g.reads g'.bases) s.going.ends
        ∙ ap (λ (k : ℕ). set (sets E₀ 0 (ends_from 0 s.going.done)) k g'.bases) i
        ∙ sym (sets_more E₀ 0 (ends_from 0 s.going.done) g'.bases)
        ∙ ap (sets E₀ 0) (sym (ends_last 0 s.going.done R g'.bases (omega arith)))

    pub loop-next : Loop T₀ E₀ from count T' E' g'
    loop-next =
        let o = s.going in
        let bl = length-append B R.bases in
        let ql = length-append Q R.qualities in
        let bl' = ap length (bases-last o.done R) in
        let ql' = ap length (qualities-last o.done R) in
        let dl = length-append o.done (R ∷ []) in
        let c = long-bases in
        let e = equal-lines in
        let d = w.bases in
        let u = o.bases-many in
        let v = o.qualities-many in
        let m = o.many in
        let n = w.reads in
        let h = behind in
        let y = long-Y in
        let i = w.pair.inside in
        let a = w.at in
        let k = o.small in
        record {
          asked = s.asked;
          going =
              record {
                done = o.done ++ R ∷ [];
                rest = split.0;
                whole = append_assoc o.done (R ∷ []) split.0 ∙ ap (λ (x : List ReadLines). o.done ++ x) (sym split.2) ∙ o.whole;
                left = left_is;
                text = text-is;
                same = k_t ∙ o.same;
                bases-many = omega arith;
                qualities-many = omega arith;
                many = omega arith;
                even = and_right (even_read R) (all even_read split.0) flags;
                ends = ends-are;
                ends_same = k_e ∙ o.ends_same;
                room = omega arith;
                inside = omega arith;
                small = omega arith;
              };
        }

  pub loop-end : count ≤ g.reads → (reads : List ReadLines) → reads_from T₀ from ≡ some reads → Gathered T₀ E₀ T E from reads g.bases
  loop-end h reads e =
      let o = s.going in
      let a = length-append o.done o.rest in
      let b = ap length o.whole in
      let c = s.asked.many in
      let d = o.many in
      let z : o.rest ≡ [] = empty o.rest (omega arith) in
      let f : o.done ≡ s.asked.reads = sym (append-nil o.done) ∙ ap (λ (x : List ReadLines). o.done ++ x) (sym z) ∙ o.whole in
      let i : some s.asked.reads ≡ some reads = sym s.asked.are ∙ e in
      let j : s.asked.reads ≡ reads = cc in
      let k : o.done ≡ reads = f ∙ j in
      let l = length-ends 0 o.done in
      let m = s.asked.room in
      rw (← k)
      (record {
        text = o.text;
        ends = o.ends ∙ sym (written-sets 0 (ends_from 0 o.done) E₀ (omega arith));
        bases-many = o.bases-many;
        qualities-many = o.qualities-many;
        inside = (let x = o.room in let y = o.inside in let w = o.same in omega arith);
      })
    where
      empty : (l : List ReadLines) → length l ≡ 0 → l ≡ []
      empty [] h = refl
      empty (x ∷ xs) h = absurd (omega arith)
