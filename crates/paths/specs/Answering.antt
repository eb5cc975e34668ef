-- The lines written from the columns of the call for the list are those that the definition prints.
use Rattle.std.specs.Prelude.{◌≡◌, false, not, Float}
use Rattle.std.proofs.Math.Path.{refl, ap, subst}
use Rattle.std.proofs.Common.{sym, ◌∙◌, mul-le-mul}
use mathlib.Core.List.{List, [], ◌∷◌, ◌++◌}
use Rattle.std.proofs.Math.Option.{Option, some}
use Prim.Native.Nat.{ℕ, zero, suc, ◌+◌, ◌*◌, ◌<◌, ◌≤◌}
use native.Mathlib.Omega.{arith}
use Rattle.std.proofs.Math.Dec.{T}
use Rattle.std.proofs.Math.ListN.{length, get_or}
use Rattle.std.specs.Float.{nan}
use Rattle.std.specs.Float.Ieee.{is_nan}
use Rattle.laws.specs.ListLaws.{All, cons, all-mono, all-zip}
use Rattle.definition.specs.Refusal.{first_broken}
use Rattle.definition.specs.Limits.{Input, bases_stride}
use Rattle.definition.specs.Listing.{Row, Answer, refusal, listed, answer}
use Rattle.definition.specs.Text.{Text, text_of, with, text_rules, graph_maxima, search_maxima, first_line, refused_line, printed_of}
use Rattle.theorems.proofs.Demand.{paths-spelled, no_nan, within-bounds}
use Rattle.theorems.proofs.Late.{no_zero}
use Rattle.list_lent.specs.Lent.{told_of, lent_of}
use Rattle.list_work.specs.Outcome.{Outputs, Tables, outputs_after, written_list, summary}
use Rattle.list_call.specs.Within.{lengths_of, Called}
use Rattle.list_interface.specs.declared.ListAnswer.{ListAnswer}
use Rattle.paths_output.specs.Listing.{Columns, Held, one_more, lines_from, list-prints, list-most}
use Rattle.paths_output.specs.Lines.{refused-most}
use Rattle.paths_text.specs.Rows.{Sized, held-listed}
use Rattle.paths_text.specs.Sources.{Ready}
use Rattle.paths_text.specs.Program.{prints-answer, answer-lent, input-is}
use Rattle.paths_output.specs.Written.{Wrote}
use Rattle.std.specs.Prelude.{Ok}
use Rattle.paths_text.specs.declared.source.Source.{Source}
use Rattle.paths_input.specs.Checking.{CheckSays, check-fine}
use Rattle.paths.specs.Printing.{Shown, shown-wrote, Answered}
use Rattle.paths.specs.Asking.{Accepted, accepted, input_here, Lends, slices-long}

-- ---- the lines of an answer over its columns

module _ (scores : List Float) (closings edges bases : List ℕ) (k : ℕ) where
  abbrev lines_by : ℕ → ℕ → ℕ → List ℕ
  lines_by zero paths pushes = first_line paths pushes ++ lines_from scores closings edges bases k 0 paths
  lines_by (suc n) paths pushes = refused_line (suc n)

  abbrev pub lines_of : ListAnswer → List ℕ
  lines_of a = lines_by a.refusal a.paths a.pushes

  pub lines-refused : (a : ListAnswer) {old new : List ℕ} {r : ℕ} → a.refusal < 4294967296 → 0 < a.refusal → Wrote old new 0 (refused_line a.refusal) r
      → Shown new (lines_of a) r
  lines-refused a {old} {new} {r} m h w = go a.refusal h (shown-wrote old new (refused_line a.refusal) r (let x = refused-most a.refusal m in omega arith) w)
    where
      go : (n : ℕ) → 0 < n → Shown new (refused_line n) r → Shown new (lines_by n a.paths a.pushes) r
      go zero h s = absurd (omega arith)
      go (suc n) h s = s

  pub lines-listed : (a : ListAnswer) {old new : List ℕ} {r : ℕ} → Columns scores closings edges bases k a.paths
      → ((i : ℕ) → get_or closings i 0 < 4294967296) → a.pushes < 4294967296 → a.refusal ≤ 0
      → Wrote old new 0 (first_line a.paths a.pushes ++ lines_from scores closings edges bases k 0 a.paths) r → Shown new (lines_of a) r
  lines-listed a {old} {new} {r} c s p h w =
      go a.refusal h
      (shown-wrote old new (first_line a.paths a.pushes ++ lines_from scores closings edges bases k 0 a.paths) r (list-most c s a.pushes p) w)
    where
      go : (n : ℕ) → n ≤ 0 → Shown new (lines_by 0 a.paths a.pushes) r → Shown new (lines_by n a.paths a.pushes) r
      go zero h s = s
      go (suc n) h s = absurd (omega arith)

-- ---- rows that are held

abbrev Number : Float → Type 0
Number x = T (not (is_nan x))

module _ {scores : List Float} {closings edges bases : List ℕ} {k : ℕ} where
  held-score : (i : ℕ) (rs : List (Row Float)) → Held scores closings edges bases k i rs → All (λ r. is_nan r.score ≡ false) rs
      → (j : ℕ) → j < length rs → T (not (is_nan (get_or scores (i + j) nan)))
  held-score i [] h a j l = absurd (omega arith)
  held-score i (r ∷ rs) (one_more x h) (cons p a) zero l =
      let z : i + 0 ≡ i = omega arith in
      let e : is_nan (get_or scores (i + 0) nan) ≡ false = ap (λ (n : ℕ). is_nan (get_or scores n nan)) z ∙ ap is_nan x.score ∙ p in
      rw e tt
  held-score i (r ∷ rs) (one_more x h) (cons p a) (suc j) l =
      let y : i + suc j ≡ (i + 1) + j = omega arith in
      subst (λ (n : ℕ). T (not (is_nan (get_or scores n nan)))) (sym y) (held-score (i + 1) rs h a j (omega arith))

  held-edges : (i : ℕ) (rs : List (Row Float)) → Held scores closings edges bases k i rs → All (λ r. r.edges ≤ 128) rs
      → (j : ℕ) → j < length rs → get_or edges (i + j) 0 ≤ 128
  held-edges i [] h a j l = absurd (omega arith)
  held-edges i (r ∷ rs) (one_more x h) (cons p a) zero l =
      let z : i + 0 ≡ i = omega arith in
      let e : get_or edges (i + 0) 0 ≡ r.edges = ap (λ (n : ℕ). get_or edges n 0) z ∙ x.edge_count in
      omega arith
  held-edges i (r ∷ rs) (one_more x h) (cons p a) (suc j) l =
      let y : i + suc j ≡ (i + 1) + j = omega arith in
      subst (λ (n : ℕ). get_or edges n 0 ≤ 128) (sym y) (held-edges (i + 1) rs h a j (omega arith))

-- ---- the call for the list

module _ (T E : List ℕ) (s : Source) (c : List Float) (o o' : Outputs) (w w' : Tables) (a : ListAnswer)
    (h : Called (input_here s T E c) 8 a o o' w w') (lent : Lends o w) (asked : s.settings.asked ≤ 8) (k_most : s.settings.k ≤ 128) where
  abbrev i : Input
  i = input_here s T E c

  abbrev k : ℕ
  k = s.settings.k

  abbrev said : Answer Float
  said = answer i (told_of i) (lent_of (lengths_of 8 o w))

  -- the rows of an accepted list stand in the columns
  module _ (rs : List (Row Float)) (p q : ℕ) (e : said ≡ listed rs p q) where
    bounded : (length rs ≤ 8) × (length rs * (k + 128) ≤ length o.bases)
    bounded =
        let b = within-bounds i (told_of i) (lent_of (lengths_of 8 o w)) rs p q e in
        let f : length rs ≤ 8 = (let g = b.rows_fit in omega arith) in
        let m : length rs * (k + 128) ≤ 8 * 256 = mul-le-mul {m₂ = 256} f (omega arith) in
        (f, omega (arith, lent.bases))

    sized : All (Sized k) rs
    sized =
        all-mono (λ r x. record { spelled = x.0.bases-fit; short = x.1 })
        (all-zip (paths-spelled i (told_of i) (lent_of (lengths_of 8 o w)) rs p q e) (within-bounds i (told_of i) (lent_of (lengths_of 8 o w)) rs p q e).edges_fit)

    held : Held o'.scores o'.closings o'.edges o'.bases k 0 rs
    unfolding outputs_after written_list bases_stride
    held =
        let f : o' ≡ written_list i rs o = h.listed.outputs ∙ ap (λ (x : Answer Float). outputs_after i x o) e in
        subst (λ (x : Outputs). Held x.scores x.closings x.edges x.bases k 0 rs) (sym f)
        (held-listed k rs o.scores o.closings o.edges o.bases sized bounded.1)

  pub lines_are : lines_of o'.scores o'.closings o'.edges o'.bases k a ≡ printed_of said
  unfolding summary printed_of
  lines_are = go said refl
    where
      go : (x : Answer Float) → said ≡ x → lines_of o'.scores o'.closings o'.edges o'.bases k a ≡ printed_of x
      go (refusal n) e =
          let f : a.refusal ≡ n = h.listed.refusal ∙ ap (λ (x : Answer Float). (summary x).refusal) e in
          refused n (no_zero i (told_of i) (lent_of (lengths_of 8 o w)) n e) f
        where
          refused : (n : ℕ) → 0 < n → a.refusal ≡ n → lines_of o'.scores o'.closings o'.edges o'.bases k a ≡ refused_line n
          refused zero l f = absurd (omega arith)
          refused (suc n) l f = ap (λ (m : ℕ). lines_by o'.scores o'.closings o'.edges o'.bases k m a.paths a.pushes) f
      go (listed rs p q) e =
          let f : a.refusal ≡ 0 = h.listed.refusal ∙ ap (λ (x : Answer Float). (summary x).refusal) e in
          let g : a.paths ≡ length rs = h.listed.paths ∙ ap (λ (x : Answer Float). (summary x).paths) e in
          let j : a.pushes ≡ p = h.listed.pushes ∙ ap (λ (x : Answer Float). (summary x).pushes) e in
          ap (λ (m : ℕ). lines_by o'.scores o'.closings o'.edges o'.bases k m a.paths a.pushes) f
          ∙ ap (λ (m : ℕ). lines_by o'.scores o'.closings o'.edges o'.bases k 0 m a.pushes) g
          ∙ ap (λ (m : ℕ). lines_by o'.scores o'.closings o'.edges o'.bases k 0 (length rs) m) j
          ∙ list-prints o'.scores o'.closings o'.edges o'.bases k rs p q (held rs p q e)

  module _ (kept-scores : length o'.scores ≡ length o.scores) (kept-closings : length o'.closings ≡ length o.closings)
      (kept-edges : length o'.edges ≡ length o.edges) (kept-bases : length o'.bases ≡ length o.bases) where
    pub columns-are : a.refusal ≤ 0 → Columns o'.scores o'.closings o'.edges o'.bases k a.paths
    unfolding summary
    columns-are z = go said refl
      where
        go : (x : Answer Float) → said ≡ x → Columns o'.scores o'.closings o'.edges o'.bases k a.paths
        go (refusal n) e =
            let f : a.refusal ≡ n = h.listed.refusal ∙ ap (λ (x : Answer Float). (summary x).refusal) e in
            let l = no_zero i (told_of i) (lent_of (lengths_of 8 o w)) n e in
            absurd (omega arith)
        go (listed rs p q) e =
            let g : a.paths ≡ length rs = h.listed.paths ∙ ap (λ (x : Answer Float). (summary x).paths) e in
            let b = bounded rs p q e in
            let few = b.0 in
            let room = b.1 in
            subst (λ (n : ℕ). Columns o'.scores o'.closings o'.edges o'.bases k n) (sym g)
            (record {
              score = λ j l. (let y : 0 + j ≡ j = omega arith in subst (λ (n : ℕ). Number (get_or o'.scores n nan)) y (held-score 0 rs (held rs p q e) (no_nan i (told_of i) (lent_of (lengths_of 8 o w)) rs p q e) j l));
              scored = omega (arith, lent.scores);
              closed = omega (arith, lent.closings);
              edged = omega (arith, lent.edges);
              edges_most = λ j l. (let y : 0 + j ≡ j = omega arith in subst (λ (n : ℕ). get_or o'.edges n 0 ≤ 128) y (held-edges 0 rs (held rs p q e) (within-bounds i (told_of i) (lent_of (lengths_of 8 o w)) rs p q e).edges_fit j l));
              k-most = k_most;
              paths-most = few;
              inside = omega arith;
            })

  -- they are those of the answer, since the arrays are as long as told
  pub lines-answer : lines_of o'.scores o'.closings o'.edges o'.bases k a ≡ printed_of (answer i [] [])
  lines-answer = lines_are ∙ ap printed_of (answer-lent i (told_of i) (lent_of (lengths_of 8 o w)) (slices-long s T E c o w lent asked k_most))

-- ---- the call over the arrays

module _ (T E : List ℕ) (s : Source) (c : List Float) (handed : Input) (o o' : Outputs) (w w' : Tables) (a : ListAnswer) (e : handed ≡ input_here s T E c)
    (h : Called handed 8 a o o' w w') (lent : Lends o w) (x : Accepted T E s) where
  called : Called (input_here s T E c) 8 a o o' w w'
  called = subst (λ (i : Input). Called i 8 a o o' w w') e h

  pub columns-here : length o'.scores ≡ length o.scores → length o'.closings ≡ length o.closings → length o'.edges ≡ length o.edges
      → length o'.bases ≡ length o.bases → a.refusal ≤ 0 → Columns o'.scores o'.closings o'.edges o'.bases s.settings.k a.paths
  columns-here = columns-are T E s c o o' w w' a called lent x.asked-few x.k-few

  pub shown-here : (new : List ℕ) (u : ℕ) → Shown new (lines_of o'.scores o'.closings o'.edges o'.bases s.settings.k a) u
      → Shown new (printed_of (answer (input_here s T E c) [] [])) u
  shown-here new u y = record { fits = y.fits; is = y.is ∙ lines-answer T E s c o o' w w' a called lent x.asked-few x.k-few }

-- ---- all of it

module _ (input : Option (List ℕ)) (T E : List ℕ) (s : Source) (q : CheckSays (with input text_of) T E (Ok s)) where
  fine : (t : Text) × (with input text_of ≡ some t) × (0 ≡ first_broken (text_rules t)) × Ready T E s t
  fine = check-fine T E (with input text_of) s q

  pub fine-accepted : Accepted T E s
  fine-accepted = accepted fine.0 fine.3 fine.2

  pub answer-shown : (c : List Float) (new : List ℕ) (u : ℕ) → Shown new (printed_of (answer (input_here s T E c) [] [])) u → Answered input (some c) new u
  unfolding graph_maxima search_maxima
  answer-shown c new u x =
      record {
        fits = x.fits;
        prints = λ file g. x.is
            ∙ prints-answer input file fine.0 c fine.1 g fine.2
            (answer (input_here s T E c) [] [])
            (ap (λ (y : Input). answer y [] []) (input-is fine.0 fine.3.handed fine.2 c));
      }
