-- What the call for the list leaves in columns, once it is written to the records and the columns are zero. Assumes nothing.
use Rattle.std.specs.Prelude.{◌≡◌, Bool, drop, replicate}
use Rattle.std.proofs.Math.Path.{refl, sym, ap}
use Rattle.std.proofs.Common.{subst, ◌∙◌, inl, inr, length-append, length-drop, ext_get_or, drop-drop}
use Rattle.std.proofs.Math.Bool.{true, false}
use mathlib.Core.List.{List, [], ◌∷◌, ◌++◌, map}
use Prim.Native.Nat.{ℕ, zero, suc, ◌+◌, ◌-◌, ◌<◌, ◌≤◌}
use native.Mathlib.Omega.{arith}
use Rattle.std.proofs.Math.ListN.{length, get_or, length-map, length-replicate, get_or-append}
use Rattle.std.proofs.Math.Seq.{drop-append-add}
use Rattle.std.specs.Float.Ieee.{Float}
use Rattle.std.specs.Float.{nan}
use Rattle.laws.specs.ListLaws.{clash, All, nil, cons}
use Rattle.laws.specs.Rows.{rows, length-rows, get_d_rows}
use Rattle.definition.specs.Limits.{Input, sample_rules, list_rules}
use Rattle.definition.specs.Refusal.{keeps_workspace, first_broken}
use Rattle.definition.specs.Score.{Scoring}
use Rattle.definition.specs.Search.{Closed}
use Rattle.definition.specs.Building.{Built}
use Rattle.definition.specs.Listing.{Row, row_of, Answer, refusal, listed, after_checks, answer}
use Rattle.definition.specs.Calls.{written_at, workspace_after, path_row, ListSlices, listed_slices, list_outcome, list_lent, list_call}
use Rattle.definition.specs.Calls as defs
use Rattle.theorems.proofs.Found.{Listing, all_listed}
use Rattle.theorems.proofs.Bounds.{bounded-listing}
use Rattle.theorems.proofs.Column.{column-keeps}
use Rattle.theorems.proofs.Checks.{accepted, some-pushes}
use Rattle.theorems.proofs.Late.{accepted-zero, list-keeps}
use Rattle.limits.specs.Rules.{none-broken}
use Rattle.slice_lengths.specs.Workspaces.{row_columns}
use Rattle.threading_node.specs.Front.{front, written-front}
use Rattle.list_interface.specs.declared.ListAnswer.{ListAnswer}
use Rattle.list_work.specs.Outcome.{Outputs, outputs_of, Tables, summary, written_list, outputs_after, Listed}
use Rattle.list_call.specs.Outcome.{tables_after, float_zero}
use Rattle.list_lent.specs.Lent.{told_of, lent_of, Long, long_of}
use Rattle.list_call.specs.Within.{lengths_of, Called}
use Rattle.path_rows.specs.declared.PathRow.{PathRow}
use Rattle.path_rows.specs.Rows.{told, row_at, finished, finished-is, Filled}
use Rattle.row_counts.specs.Told.{columns_told}
use Rattle.punelavoh.specs.Records.{ColumnsFit, Cleared, slices_of, CalledFor, ListCalled}

-- ---- lists written over from the front

module _ {A : Type 0} where
  written-wide : (xs old : List A) → length xs ≤ length (written_at 0 xs old)
  written-wide xs old = let a = ap length (written-front xs old) in let b = length-append xs (drop (length xs) old) in omega arith

  written-long : (xs old : List A) → length old ≤ length (written_at 0 xs old)
  written-long xs old =
      let a = ap length (written-front xs old) in
      let b = length-append xs (drop (length xs) old) in
      let c = length-drop (length xs) old in
      omega arith

  written_none : (old : List A) → written_at 0 [] old ≡ old
  written_none old = written-front [] old

  written_get : (xs old : List A) (i : ℕ) (d : A) → i < length xs → get_or (written_at 0 xs old) i d ≡ get_or xs i d
  written_get xs old i d l = ap (λ (w : List A). get_or w i d) (written-front xs old) ∙ get_or-append xs (drop (length xs) old) d i l

  drop-front : (n : ℕ) (ys old : List A) → length ys ≤ n → drop n (front ys old) ≡ drop n old
  drop-front n ys old l = go n (length ys) refl l
    where
      go : (n k : ℕ) → length ys ≡ k → k ≤ n → drop n (front ys old) ≡ drop n old
      go n k e h =
          let m : n ≡ length ys + (n - k) = omega arith in
          ap (λ (j : ℕ). drop j (front ys old)) m ∙ drop-append-add ys (drop (length ys) old) (n - k) ∙ drop-drop (n - k) (length ys) old
          ∙ ap (λ (j : ℕ). drop j old) (sym m)

  -- what was written is written over
  written_over : (xs ys old : List A) → length ys ≤ length xs → written_at 0 xs (written_at 0 ys old) ≡ written_at 0 xs old
  written_over xs ys old l =
      written-front xs (written_at 0 ys old)
      ∙ ap (λ (w : List A). xs ++ drop (length xs) w) (written-front ys old)
      ∙ ap (λ (w : List A). xs ++ w) (drop-front (length xs) ys old l)
      ∙ sym (written-front xs old)

  rows_back : (xs : List A) (d : A) (n : ℕ) → n ≡ length xs → rows (λ i. get_or xs i d) n ≡ xs
  rows_back xs d n e =
      ext_get_or d (rows (λ i. get_or xs i d) n) xs (length-rows (λ i. get_or xs i d) n ∙ e)
      (λ i l. get_d_rows (λ j. get_or xs j d) n i d (let a = length-rows (λ j. get_or xs j d) n in omega arith))

  all-at : {P : A → Type 0} {xs : List A} (i : ℕ) (d : A) → All P xs → i < length xs → P (get_or xs i d)
  all-at i d nil l = absurd (omega arith)
  all-at zero d (cons p ps) l = p
  all-at (suc i) d (cons p ps) l = all-at i d ps (omega arith)

map_at : {A B : Type 0} (f : A → B) (xs : List A) (i : ℕ) (d : A) (e : B) → i < length xs → get_or (map f xs) i e ≡ f (get_or xs i d)
map_at f [] i d e l = absurd (omega arith)
map_at f (x ∷ xs) zero d e l = refl
map_at f (x ∷ xs) (suc i) d e l = map_at f xs i d e (omega arith)

-- ---- what an answer promises

-- no more rows than asked, none marked as the reference; and where the workspace is not kept each slice is as long as told
pub record Sound (i : Input) (lent : ℕ) (o : Outputs) (a : Answer Float) : Type 0 where
  pub few : (rs : List (Row Float)) (p q : ℕ) → a ≡ listed rs p q → (length rs ≤ i.asked) × All (λ r. r.is_ref ≡ false) rs
  pub long : keeps_workspace (summary a).refusal ≡ false → (i.asked ≤ lent) × (i.asked ≤ length o.scores) × (i.asked ≤ length o.closings) × (i.asked ≤ length o.edges)

-- ---- the rows of the columns

blank : Row Float
blank = record { score = nan; closing = 0; edges = 0; is_ref = false; bases = []; origins = [] }

row-eq : (a b : defs.PathRow) → a.score ≡ b.score → a.closing ≡ b.closing → a.edges ≡ b.edges → a.is_ref ≡ b.is_ref → a ≡ b
row-eq a b p q r s = λ j. record { score = p j; closing = q j; edges = r j; is_ref = s j }

module _ (rs : List (Row Float)) (ss : List Float) (cs es : List ℕ) (flags : All (λ r. r.is_ref ≡ false) rs) where
  abbrev scores : List Float
  scores = written_at 0 (map (λ (r : Row Float). r.score) rs) ss

  abbrev closings : List ℕ
  closings = written_at 0 (map (λ (r : Row Float). r.closing) rs) cs

  abbrev edges : List ℕ
  edges = written_at 0 (map (λ (r : Row Float). r.edges) rs) es

  row_is : (i : ℕ) → i < length rs → told (row_at scores closings edges i) ≡ get_or (map path_row rs) i (path_row blank)
  unfolding path_row
  row_is i l =
      row-eq _ _
      (column (λ r. r.score) ss nan) (column (λ r. r.closing) cs 0) (column (λ r. r.edges) es 0) (sym (all-at i blank flags l))
      ∙ sym (map_at path_row rs i blank (path_row blank) l)
    where
      column : {B : Type 0} (f : Row Float → B) (old : List B) (d : B) → get_or (written_at 0 (map f rs) old) i d ≡ f (get_or rs i blank)
      column f old d = written_get (map f rs) old i d (let a = length-map rs f in omega arith) ∙ map_at f rs i blank d l

  finished-rows : finished scores closings edges (length rs) ≡ map path_row rs
  finished-rows =
      finished-is scores closings edges (length rs) (λ i. get_or (map path_row rs) i (path_row blank)) row_is
      ∙ rows_back (map path_row rs) (path_row blank) (length rs) (sym (length-map rs path_row))

-- ---- what the writer of the rows and the clearing ask

told-fits : (n asked k : ℕ) → (keeps_workspace n ≡ false → asked ≤ k) → columns_told n asked ≤ k
unfolding columns_told
told-fits n asked k h = go (keeps_workspace n) refl
  where
    go : (b : Bool) → keeps_workspace n ≡ b → columns_told n asked ≤ k
    go true e = rw (e, columns_told) (omega arith)
    go false e = rw (e, columns_told) (h e)

module _ (i : Input) (lent : ℕ) (r : ListAnswer) (o o' : Outputs) where
  rows_fit : (a : Answer Float) → Sound i lent o a → Listed i a r o o' → (n : ℕ) → n ≡ r.paths
      → (n ≤ lent) × (n ≤ length o'.scores) × (n ≤ length o'.closings) × (n ≤ length o'.edges)
  unfolding summary outputs_after written_list
  rows_fit (refusal m) s l n e = let z : n ≡ 0 = e ∙ l.paths in (omega arith, omega arith, omega arith, omega arith)
  rows_fit (listed rs p q) s l n e =
      let z : n ≡ length rs = e ∙ l.paths in
      let f = (s.few rs p q refl).0 in
      let g = (s.long accepted-zero).0 in
      let a : o' ≡ written_list i rs o = l.outputs in
      (omega arith, column (λ t. t.score) o.scores o'.scores n z (ap (λ (x : Outputs). x.scores) a), column (λ t. t.closing) o.closings o'.closings n z (ap (λ (x : Outputs). x.closings) a), column (λ t. t.edges) o.edges o'.edges n z (ap (λ (x : Outputs). x.edges) a))
    where
      column : {B : Type 0} (f : Row Float → B) (old new : List B) (m : ℕ) → m ≡ length rs → new ≡ written_at 0 (map f rs) old → m ≤ length new
      column f old new m z w =
          let a = written-wide (map f rs) old in
          let b = length-map rs f in
          let c = ap length w in
          omega arith

  -- no column became shorter
  no-shorter : (a : Answer Float) → Listed i a r o o' → (length o.scores ≤ length o'.scores) × (length o.closings ≤ length o'.closings) × (length o.edges ≤ length o'.edges)
  unfolding outputs_after written_list
  no-shorter (refusal m) l =
      (let e = ap (λ (x : Outputs). length x.scores) l.outputs in omega arith, let e = ap (λ (x : Outputs). length x.closings) l.outputs in omega arith, let e = ap (λ (x : Outputs). length x.edges) l.outputs in omega arith)
  no-shorter (listed rs p q) l =
      (column (λ t. t.score) o.scores o'.scores (ap (λ (x : Outputs). x.scores) l.outputs), column (λ t. t.closing) o.closings o'.closings (ap (λ (x : Outputs). x.closings) l.outputs), column (λ t. t.edges) o.edges o'.edges (ap (λ (x : Outputs). x.edges) l.outputs))
    where
      column : {B : Type 0} (f : Row Float → B) (old new : List B) → new ≡ written_at 0 (map f rs) old → length old ≤ length new
      column f old new w = let a = written-long (map f rs) old in let c = ap length w in omega arith

  columns-fit : (a : Answer Float) → Sound i lent o a → Listed i a r o o' → ColumnsFit (columns_told r.refusal i.asked) o'.scores o'.closings o'.edges
  columns-fit a s l =
      let g : keeps_workspace r.refusal ≡ false → (i.asked ≤ lent) × (i.asked ≤ length o.scores) × (i.asked ≤ length o.closings) × (i.asked ≤ length o.edges) = λ e. s.long (ap keeps_workspace (sym l.refusal) ∙ e) in
      let k = no-shorter a l in
      record {
        scores = told-fits r.refusal i.asked (length o'.scores) (λ e. let a = (g e).1 in let b = k.0 in omega arith);
        closings = told-fits r.refusal i.asked (length o'.closings) (λ e. let a = (g e).2 in let b = k.1 in omega arith);
        edges = told-fits r.refusal i.asked (length o'.edges) (λ e. let a = (g e).3 in let b = k.2 in omega arith);
      }

-- ---- the whole call

-- the columns, once they are zero as far as told
module _ {A : Type 0} (z : A) (asked : ℕ) (old : List A) where
  after-refusal : (n : ℕ) → written_at 0 (replicate (columns_told n asked) z) old ≡ workspace_after z n (row_columns asked) old
  unfolding columns_told workspace_after
  after-refusal n = go (keeps_workspace n) refl
    where
      go : (b : Bool) → keeps_workspace n ≡ b → written_at 0 (replicate (columns_told n asked) z) old ≡ workspace_after z n (row_columns asked) old
      go true e = rw (e, columns_told, workspace_after) (written_none old)
      go false e = rw (e, columns_told, workspace_after) refl

  after_list : (xs : List A) → length xs ≤ asked → written_at 0 (replicate (columns_told 0 asked) z) (written_at 0 xs old) ≡ workspace_after z 0 (row_columns asked) old
  unfolding columns_told workspace_after
  after_list xs l = rw (accepted-zero, columns_told, workspace_after) (written_over (replicate asked z) xs old (let a = length-replicate asked z in omega arith))

slices-eq : (a b : ListSlices) → a.rows ≡ b.rows → a.bases ≡ b.bases → a.sequences ≡ b.sequences → a.places ≡ b.places → a ≡ b
slices-eq a b p q r s = λ j. record { rows = p j; bases = q j; sequences = r j; places = s j }

module _ (i : Input) (lent : ℕ) (r : ListAnswer) (n : ℕ) (rs rs' : List PathRow) (o o' : Outputs) (w w' : Tables) (ss : List Float) (cs es : List ℕ) (e : n ≡ r.paths)
    (f : Filled o'.scores o'.closings o'.edges n rs rs') (c : Cleared (columns_told r.refusal i.asked) o'.scores ss o'.closings cs o'.edges es)
    (t : w' ≡ tables_after r.refusal i w) where
  no_rows : n ≡ 0 → written_at 0 (finished o'.scores o'.closings o'.edges n) (map told rs) ≡ map told rs
  no_rows z =
      ap (λ (m : ℕ). written_at 0 (finished o'.scores o'.closings o'.edges m) (map told rs)) z
      ∙ ap (λ (l : List defs.PathRow). written_at 0 l (map told rs))
      (finished-is o'.scores o'.closings o'.edges 0 (λ j. get_or [] j (path_row blank)) (λ j h. absurd (omega arith)) ∙ rows_back [] (path_row blank) 0 refl)
      ∙ written_none (map told rs)

  some-rows : (xs : List (Row Float)) → o' ≡ written_list i xs o → n ≡ length xs → All (λ x. x.is_ref ≡ false) xs
      → written_at 0 (finished o'.scores o'.closings o'.edges n) (map told rs) ≡ written_at 0 (map path_row xs) (map told rs)
  unfolding written_list
  some-rows xs g z flags =
      ap (λ (l : List defs.PathRow). written_at 0 l (map told rs))
      (ap (λ (x : Outputs). finished x.scores x.closings x.edges n) g
      ∙ ap (λ (m : ℕ). finished (written_list i xs o).scores (written_list i xs o).closings (written_list i xs o).edges m) z
      ∙ finished-rows xs o.scores o.closings o.edges flags)

  zeroed : {A : Type 0} (z : A) (old mid new : List A) (xs : List (Row Float)) (h : Row Float → A) → mid ≡ written_at 0 (map h xs) old → new ≡ written_at 0 (replicate (columns_told r.refusal i.asked) z) mid
      → r.refusal ≡ 0 → length xs ≤ i.asked → new ≡ workspace_after z r.refusal (row_columns i.asked) old
  zeroed {A} z old mid new xs h a b d k =
      b
      ∙ ap (λ (x : List A). written_at 0 (replicate (columns_told r.refusal i.asked) z) x) a
      ∙ ap (λ (m : ℕ). written_at 0 (replicate (columns_told m i.asked) z) (written_at 0 (map h xs) old)) d
      ∙ after_list z i.asked old (map h xs) (let q = length-map xs h in omega arith)
      ∙ ap (λ (m : ℕ). workspace_after z m (row_columns i.asked) old) (sym d)

  called-for : (a : Answer Float) → Sound i lent o a → Listed i a r o o'
      → CalledFor i (list_outcome i a (slices_of rs o)) r rs' o (outputs_of ss cs es o'.bases o'.sequences o'.places) w w'
  unfolding summary outputs_after written_list list_outcome listed_slices
  called-for (refusal m) s l =
      let g = l.outputs in
      record {
        refusal = l.refusal;
        paths = l.paths;
        pushes = l.pushes;
        mark-low = l.mark-low;
        mark-high = l.mark-high;
        slices = slices-eq _ _ (f.is ∙ no_rows (e ∙ l.paths)) (ap (λ (x : Outputs). x.bases) g) (ap (λ (x : Outputs). x.sequences) g) (ap (λ (x : Outputs). x.places) g);
        tables = t;
        scores = c.scores ∙ ap (λ (x : Outputs). written_at 0 (replicate (columns_told r.refusal i.asked) float_zero) x.scores) g ∙ after-refusal float_zero i.asked o.scores r.refusal;
        closings = c.closings ∙ ap (λ (x : Outputs). written_at 0 (replicate (columns_told r.refusal i.asked) 0) x.closings) g ∙ after-refusal 0 i.asked o.closings r.refusal;
        edges = c.edges ∙ ap (λ (x : Outputs). written_at 0 (replicate (columns_told r.refusal i.asked) 0) x.edges) g ∙ after-refusal 0 i.asked o.edges r.refusal;
      }
  called-for (listed xs p q) s l =
      let g : o' ≡ written_list i xs o = l.outputs in
      let k = s.few xs p q refl in
      record {
        refusal = l.refusal;
        paths = l.paths;
        pushes = l.pushes;
        mark-low = l.mark-low;
        mark-high = l.mark-high;
        slices = slices-eq _ _ (f.is ∙ some-rows xs g (e ∙ l.paths) k.1) (ap (λ (x : Outputs). x.bases) g) (ap (λ (x : Outputs). x.sequences) g) (ap (λ (x : Outputs). x.places) g);
        tables = t;
        scores = zeroed float_zero o.scores o'.scores ss xs (λ x. x.score) (ap (λ (x : Outputs). x.scores) g) c.scores l.refusal k.0;
        closings = zeroed 0 o.closings o'.closings cs xs (λ x. x.closing) (ap (λ (x : Outputs). x.closings) g) c.closings l.refusal k.0;
        edges = zeroed 0 o.edges o'.edges es xs (λ x. x.edges) (ap (λ (x : Outputs). x.edges) g) c.edges l.refusal k.0;
      }

-- ---- the definition's answer

abbrev answered : Input → ℕ → Outputs → Tables → Answer Float
answered i lent o w = answer i (told_of i) (lent_of (lengths_of lent o w))

row-flags : {S : Type 0} (b : Built) (cs : List (Closed S)) → All (λ r. r.is_ref ≡ false) (map (row_of b) cs)
unfolding row_of
row-flags b [] = nil
row-flags b (c ∷ cs) = cons refl (row-flags b cs)

flags : {S : Type 0} {𝓢 : Scoring S} (i : Input) (rs : List (Row S)) (p q : ℕ) → Listing 𝓢 i rs p q → All (λ r. r.is_ref ≡ false) rs
flags i rs p q (inl h) = rw h.1 nil
flags {𝓢 = 𝓢} i rs p q (inr h) = rw h.are (all_listed 𝓢 (row-flags h.graph h.state.closed))

module _ (i : Input) (lent : ℕ) (o : Outputs) (w : Tables) where
  few : (rs : List (Row Float)) (p q : ℕ) → answered i lent o w ≡ listed rs p q → (length rs ≤ i.asked) × All (λ r. r.is_ref ≡ false) rs
  few rs p q e =
      let a = accepted i (told_of i) (lent_of (lengths_of lent o w)) rs p q e in
      ((bounded-listing (column-keeps i.column a.0.column-fits) i rs p q (some-pushes i a.0) a.1).rows_fit, flags i rs p q a.1)

  long-told : first_broken (list_rules i (told_of i) (lent_of (lengths_of lent o w))) ≡ 0 → Long i.sample.k i.asked i.graph_maxima i.search_maxima (lengths_of lent o w)
  unfolding list_rules sample_rules
  long-told e =
      long_of i (lengths_of lent o w)
      (none-broken (list_rules i (told_of i) (lent_of (lengths_of lent o w))) (omega arith, (omega arith, (omega arith, (omega arith, (omega arith, (omega arith, (omega arith, tt))))))) e
      ).1.1.1.1.1.1.0

  long : keeps_workspace (summary (answered i lent o w)).refusal ≡ false
      → (i.asked ≤ lent) × (i.asked ≤ length o.scores) × (i.asked ≤ length o.closings) × (i.asked ≤ length o.edges)
  unfolding answer after_checks summary
  long h = go (first_broken (list_rules i (told_of i) (lent_of (lengths_of lent o w)))) refl
    where
      go : (n : ℕ) → first_broken (list_rules i (told_of i) (lent_of (lengths_of lent o w))) ≡ n
          → (i.asked ≤ lent) × (i.asked ≤ length o.scores) × (i.asked ≤ length o.closings) × (i.asked ≤ length o.edges)
      go zero e = let l = long-told e in (l.rows, l.row-scores, l.row-closings, l.row-edges)
      go (suc n) e =
          let z : keeps_workspace (suc n) ≡ false = rw e at h in
          let y : keeps_workspace (suc n) ≡ true = ap keeps_workspace (sym e) ∙ list-keeps i (told_of i) (lent_of (lengths_of lent o w)) (omega arith) in
          clash (sym y ∙ z)

  sound : Sound i lent o (answered i lent o w)
  sound = record { few = few; long = long }

-- ---- the call

pub rows-asked : (i : Input) (lent : ℕ) (r : ListAnswer) (o o' : Outputs) (w w' : Tables) (n : ℕ) → Called i lent r o o' w w' → n ≡ r.paths
    → (n ≤ lent) × (n ≤ length o'.scores) × (n ≤ length o'.closings) × (n ≤ length o'.edges)
rows-asked i lent r o o' w w' n h e = rows_fit i lent r o o' (answered i lent o w) (sound i lent o w) h.listed n e

pub columns-asked : (i : Input) (lent : ℕ) (r : ListAnswer) (o o' : Outputs) (w w' : Tables) → Called i lent r o o' w w'
    → ColumnsFit (columns_told r.refusal i.asked) o'.scores o'.closings o'.edges
columns-asked i lent r o o' w w' h = columns-fit i lent r o o' (answered i lent o w) (sound i lent o w) h.listed

pub list-called : (i : Input) (r : ListAnswer) (n : ℕ) (rs rs' : List PathRow) (o o' : Outputs) (w w' : Tables) (ss : List Float) (cs es : List ℕ)
    → Called i (length rs) r o o' w w' → n ≡ r.paths → Filled o'.scores o'.closings o'.edges n rs rs'
    → Cleared (columns_told r.refusal i.asked) o'.scores ss o'.closings cs o'.edges es
    → ListCalled i r rs rs' o (outputs_of ss cs es o'.bases o'.sequences o'.places) w w'
unfolding list_call list_lent
list-called i r n rs rs' o o' w w' ss cs es h e f c =
    subst (λ (m : ℕ). CalledFor i (list_outcome i (answer i (told_of i) (lent_of (lengths_of m o w))) (slices_of rs o)) r rs' o (outputs_of ss cs es o'.bases o'.sequences o'.places) w w')
    (sym (length-map rs told))
    (called-for i (length rs) r n rs rs' o o' w w' ss cs es e f c h.tables (answered i (length rs) o w) (sound i (length rs) o w) h.listed)
