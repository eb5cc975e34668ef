-- The text read: its parts in the buffer are what the definition hands to the call for the list.
use Rattle.std.specs.Prelude.{◌≡◌, true, false, Option as Maybe, Some, None}
use Rattle.std.proofs.Common.{refl, sym, ap, ◌∙◌, drop-drop, List, ◌++◌, append_assoc, ℕ, ◌+◌, ◌<◌, ◌≤◌, arith, length, take, drop, length-append}
use Rattle.std.proofs.Math.Option.{Option, none, some}
use Rattle.std.proofs.Math.Seq.{slice, take-append_seam, drop-append_seam}
use Rattle.laws.specs.ListLaws.{clash}
use Rattle.definition.specs.Text.{Text, ReadLines, text_of, all_bases, all_qualities, ends_from}
use Rattle.definition.specs.Calls.{written_at}
use Rattle.text_form.specs.Parts.{take-slice, part, part_slice}
use Rattle.text_form.specs.Reads.{reads_from, Laid, FormSays}
use Rattle.paths_text.specs.Moves.{drop_here, slice-before}
use Rattle.paths_text.specs.Gather.{Gathers, Gathered, length-ends}
use Rattle.paths_text.specs.Checks.{Handed}
use Rattle.samples.specs.declared.Sample.{Sample}
use Rattle.text_form.specs.declared.reads.Layout.{Layout}
use Rattle.paths_text.specs.declared.source.Source.{Source}

abbrev pub ungathered : Layout → Source
ungathered l =
    record {
      settings = l.settings;
      reference = l.reference;
      past = l.past;
      bases = l.reads;
      qualities = l.reads;
      end = l.reads;
      ends = 0;
      tally = l.tally;
    }

abbrev gathered : Layout → ℕ → Source
gathered l n =
    record {
      settings = l.settings;
      reference = l.reference;
      past = l.past;
      bases = l.reads;
      qualities = l.reads + n;
      end = (l.reads + n) + n;
      ends = l.tally.count;
      tally = l.tally;
    }

-- the parts of the text T and the ends E are those of t, and lie within them
pub record Ready (T E : List ℕ) (s : Source) (t : Text) : Type 0 where
  pub handed :
      Handed s.settings (part s.reference s.past T) (take s.ends E) (part s.bases s.qualities T) (part s.qualities s.end T)
      s.tally.count s.tally.even t
  pub reference-rises : s.reference ≤ s.past
  pub bases-behind : s.past ≤ s.bases
  pub bases-rise : s.bases ≤ s.qualities
  pub qualities-rise : s.qualities ≤ s.end
  pub inside : s.end ≤ length T
  pub ends-inside : s.ends ≤ length E

-- the parts lie within the text and the ends
pub record Parted (T E : List ℕ) (s : Source) : Type 0 where
  pub reference-rises : s.reference ≤ s.past
  pub bases-behind : s.past ≤ s.bases
  pub bases-rise : s.bases ≤ s.qualities
  pub qualities-rise : s.qualities ≤ s.end
  pub inside : s.end ≤ length T
  pub ends-inside : s.ends ≤ length E

pub parted-of : {T E : List ℕ} {s : Source} {t : Text} → Ready T E s t → Parted T E s
parted-of d =
    record {
      reference-rises = d.reference-rises;
      bases-behind = d.bases-behind;
      bases-rise = d.bases-rise;
      qualities-rise = d.qualities-rise;
      inside = d.inside;
      ends-inside = d.ends-inside;
    }

-- the parts, as the calls take them
pub record Sampled (T E : List ℕ) (s : Source) (r : Sample) : Type 0 where
  pub k : r.k ≡ s.settings.k
  pub quality : r.quality ≡ s.settings.quality
  pub reference : r.text.reference.now ≡ part s.reference s.past T
  pub bases : r.text.bases.now ≡ part s.bases s.qualities T
  pub ends : r.ends.now ≡ take s.ends E
  pub qualities : r.qualities.now ≡ part s.qualities s.end T

abbrev pub TextSays : Option Text → List ℕ → List ℕ → List ℕ → List ℕ → Maybe Source → Type 0
TextSays none T T' E E' r = (r ≡ None) × (T' ≡ T) × (E' ≡ E)
TextSays (some t) T T' E E' r = (s : Source) × (r ≡ Some s) × Ready T' E' s t

form-none : (T : List ℕ) (o : Option Text) → FormSays T None o → o ≡ none
form-none T none q = refl
form-none T (some t) q = let e : Some q.0 ≡ None = sym q.1 in let z : ◌≡◌ {A = ℕ} 0 1 = cc in absurd (omega arith)

form-some : (T : List ℕ) (o : Option Text) (l : Layout) → FormSays T (Some l) o → (t : Text) × (o ≡ some t) × Laid T l t
form-some T none l q = let z : ◌≡◌ {A = ℕ} 0 1 = cc in absurd (omega arith)
form-some T (some t) l q =
    let e : Some l ≡ Some q.0 = q.1 in
    let g : l ≡ q.0 = cc in
    (t, refl, rw g q.2)

module _ (T E : List ℕ) where
  pub text-none : FormSays T None (text_of T) → TextSays (text_of T) T T E E None
  text-none q = let e = form-none T (text_of T) q in rw e (refl, refl, refl)

  module _ (l : Layout) (q : FormSays T (Some l) (text_of T)) where
    said : (t : Text) × (text_of T ≡ some t) × Laid T l t
    said = form-some T (text_of T) l q

    -- reads that are refused are left where they are
    left : (s : Source) → s ≡ ungathered l → (l.tally.even ≡ true → l.tally.count ≤ 512 → ⊥) → TextSays (text_of T) T T E E (Some s)
    left s x k =
        let d = said.2 in
        let e = said.1 in
        let r = d.rising in
        let b = d.behind in
        rw e (
          s,
          refl,
          rw x
              (record {
                handed =
                    record {
                      settings = d.settings;
                      reference-is = part_slice l.reference l.past T r ∙ d.reference;
                      count-is = d.count;
                      even_is = d.even;
                      reads = λ a c. absurd (k a c);
                    };
                reference-rises = r;
                bases-behind = omega arith;
                bases-rise = omega arith;
                qualities-rise = omega arith;
                inside = d.inside;
                ends-inside = omega arith;
              }),
        )

    pub text-uneven : (s : Source) → s ≡ ungathered l → l.tally.even ≡ false → TextSays (text_of T) T T E E (Some s)
    text-uneven s x k = left s x (λ a c. clash (sym a ∙ k))

    pub text-many : (s : Source) → s ≡ ungathered l → 512 < l.tally.count → TextSays (text_of T) T T E E (Some s)
    text-many s x k = left s x (λ a c. (omega arith))

    module _ (even : l.tally.even ≡ true) (few : l.tally.count ≤ 512) (room : 512 ≤ length E) where
      pub gather-asks : Gathers T E l.reads l.tally.count
      gather-asks =
          let d = said.2 in
          record {
            reads = said.0.reads;
            are = d.reads;
            many = d.count;
            even = sym d.even ∙ even;
            room = omega arith;
            small = d.small;
            inside = d.inside;
          }

      module _ (T' E' : List ℕ) (n : ℕ) (g : (reads : List ReadLines) → reads_from T l.reads ≡ some reads → Gathered T E T' E' l.reads reads n)
          (k_t : length T' ≡ length T) (k_e : length E' ≡ length E) where
        G : Gathered T E T' E' l.reads said.0.reads n
        G = g said.0.reads said.2.reads

        -- so the places told do not wrap
        pub gathered-fits : (l.reads + n) + n ≤ 8192
        gathered-fits = let a = G.inside in let b = said.2.small in omega arith

        B : List ℕ
        B = all_bases said.0.reads

        Q : List ℕ
        Q = all_qualities said.0.reads

        long : (l.reads + length (B ++ Q) ≤ length T) × (n ≡ length B) × (n ≡ length Q)
        unfolding B Q
        long =
            let a = length-append (all_bases said.0.reads) (all_qualities said.0.reads) in
            let b = G.bases-many in
            let c = G.qualities-many in
            let fits = G.inside in
            let h : l.reads + length (all_bases said.0.reads ++ all_qualities said.0.reads) ≤ length T = omega arith in
            (h, b, c)

        written : T' ≡ written_at l.reads (B ++ Q) T
        unfolding B Q
        written = G.text

        from-here : drop l.reads T' ≡ B ++ (Q ++ drop (l.reads + length (B ++ Q)) T)
        from-here = ap (drop l.reads) written ∙ drop_here l.reads (B ++ Q) T long.0 ∙ append_assoc B Q (drop (l.reads + length (B ++ Q)) T)

        bases-part : slice l.reads (l.reads + n) T' ≡ B
        bases-part =
            let Z : List ℕ = drop (l.reads + length (B ++ Q)) T in
            sym (take-slice n l.reads T') ∙ ap (take n) from-here ∙ ap (λ (i : ℕ). take i (B ++ (Q ++ Z))) long.1 ∙ take-append_seam B (Q ++ Z)

        qualities-part : slice (l.reads + n) ((l.reads + n) + n) T' ≡ Q
        qualities-part =
            let Z : List ℕ = drop (l.reads + length (B ++ Q)) T in
            sym (take-slice n (l.reads + n) T')
            ∙ ap (take n) (sym (drop-drop n l.reads T'))
            ∙ ap (λ (x : List ℕ). take n (drop n x)) from-here
            ∙ ap (λ (i : ℕ). take n (drop i (B ++ (Q ++ Z)))) long.1
            ∙ ap (take n) (drop-append_seam B (Q ++ Z))
            ∙ ap (λ (i : ℕ). take i (Q ++ Z)) long.2
            ∙ take-append_seam Q Z

        ends-part : take l.tally.count E' ≡ ends_from 0 said.0.reads
        unfolding written_at
        ends-part =
            let xs : List ℕ = ends_from 0 said.0.reads in
            let c : l.tally.count ≡ length xs = said.2.count ∙ sym (length-ends 0 said.0.reads) in
            ap (take l.tally.count) G.ends ∙ ap (λ (i : ℕ). take i (xs ++ drop (0 + length xs) E)) c ∙ take-append_seam xs (drop (0 + length xs) E)

        reference-part : slice l.reference l.past T' ≡ said.0.reference
        reference-part =
            let b = said.2.behind in
            ap (slice l.reference l.past) written
            ∙ slice-before l.reads (B ++ Q) T long.0 l.reference l.past (omega arith)
            ∙ said.2.reference

        pub text-gathered : TextSays (text_of T) T T' E E' (Some (gathered l n))
        unfolding B Q
        text-gathered =
            let fits = G.inside in
            let d = said.2 in
            let e = said.1 in
            let r = d.rising in
            let b = d.behind in
            rw e (
              gathered l n,
              refl,
              record {
                handed =
                    record {
                      settings = d.settings;
                      reference-is = part_slice l.reference l.past T' r ∙ reference-part;
                      count-is = d.count;
                      even_is = d.even;
                      reads =
                          λ a c. (
                            ends-part,
                            part_slice l.reads (l.reads + n) T' (omega arith) ∙ bases-part,
                            part_slice (l.reads + n) ((l.reads + n) + n) T' (omega arith) ∙ qualities-part,
                          );
                    };
                reference-rises = r;
                bases-behind = omega arith;
                bases-rise = omega arith;
                qualities-rise = omega arith;
                inside = omega arith;
                ends-inside = omega arith;
              },
            )
