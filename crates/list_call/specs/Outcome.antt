-- The workspace of the call for the list before and after, by the lengths told. Assumes nothing.
use Rattle.std.specs.Prelude.{◌≡◌, true, false, List, ℕ, pos, replicate, Float}
use Rattle.std.proofs.Common.{sym}
use Rattle.std.specs.Float.{fin}
use Rattle.definition.specs.Refusal.{keeps_workspace}
use Rattle.definition.specs.Limits.{Input}
use Rattle.definition.specs.Calls.{written_at, workspace_after}
use Rattle.slice_lengths.specs.declared.Workspace.{Workspace}
use Rattle.slice_lengths.specs.Lengths.{workspace_told}
use Rattle.list_work.specs.Outcome.{Tables}

abbrev pub float_zero : Float
float_zero = fin false 0 (pos 0)

-- what is told of the workspace
abbrev pub told_for : Input → Workspace
told_for i = workspace_told i.asked i.graph_maxima i.search_maxima

-- each slice by the length told, what it held, and how a slice of numbers and one of scores are left
abbrev pub tables_by : (ℕ → List ℕ → List ℕ) → (ℕ → List Float → List Float) → Workspace → Tables → Tables
tables_by f h t w =
    record {
      vertices = f t.vertices w.vertices;
      edges = f t.edges w.edges;
      index = f t.index w.index;
      nodes = f t.nodes w.nodes;
      targets = f t.targets w.targets;
      paths = f t.paths w.paths;
      scores = h t.scores w.scores;
      active = f t.active w.active;
      queue = f t.queue w.queue;
      closed = f t.closed w.closed;
      order = f t.order w.order;
      marks = f t.marks w.marks;
      walks = f t.walks w.walks;
    }

-- zero as far as told, and untouched beyond
abbrev pub zeroed_to : {A : Type 0} → A → ℕ → List A → List A
zeroed_to z n w = written_at 0 (replicate n z) w

unfoldable pub cleared_tables : Input → Tables → Tables
cleared_tables i w = tables_by (zeroed_to 0) (zeroed_to float_zero) (told_for i) w

-- "Workspace after", by the number answered
unfoldable pub tables_after : ℕ → Input → Tables → Tables
tables_after n i w = tables_by (workspace_after 0 n) (workspace_after float_zero n) (told_for i) w

-- where the table does not say "unchanged" of the number
cleared-after : {A : Type 0} (z : A) (n told : ℕ) (l : List A) → keeps_workspace n ≡ false → zeroed_to z told l ≡ workspace_after z n told l
unfolding workspace_after
cleared-after z n told l h = sym (rw (h, workspace_after))

pub after-work : (n : ℕ) (i : Input) (w : Tables) → keeps_workspace n ≡ false → cleared_tables i w ≡ tables_after n i w
unfolding cleared_tables tables_after
after-work n i w h = λ j. tables_by (λ told l. cleared-after 0 n told l h j) (λ told l. cleared-after float_zero n told l h j) (told_for i) w

-- where it does
same_after : {A : Type 0} (z : A) (n told : ℕ) (l : List A) → keeps_workspace n ≡ true → l ≡ workspace_after z n told l
unfolding workspace_after
same_after z n told l h = sym (rw (h, workspace_after))

pub after-checks : (n : ℕ) (i : Input) (w : Tables) → keeps_workspace n ≡ true → w ≡ tables_after n i w
unfolding tables_after
after-checks n i w h = λ j. tables_by (λ told l. same_after 0 n told l h j) (λ told l. same_after float_zero n told l h j) (told_for i) w
