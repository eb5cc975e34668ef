-- The whole search over the stores: what `find_junction_best_haplotypes` asks, and what it leaves.
use Rattle.std.specs.Prelude.{◌≡◌, Bool, true, Result, Ok, Err, List, ℕ, ◌+◌, ◌<◌, ◌≤◌, length, Float}
use Rattle.definition.specs.Limits.{column_fits}
use Rattle.definition.specs.Score.{column_scoring}
use Rattle.definition.specs.Evidence.{Branches}
use Rattle.definition.specs.Search.{SearchInput, State, Turn, ended, search}
use Rattle.tables.specs.Widths.{offer_numbers}
use Rattle.search_state.specs.Settings.{Setting}
use Rattle.search_state.specs.declared.Progress.{Progress}
use Rattle.search_state.specs.Ground.{Ground}
use Rattle.search_state.specs.State.{Holds, Room}
use Rattle.refusals.specs.declared.Refusal.{Refusal}
use Rattle.refusals.specs.Numbers.{number}
use Rattle.junction_kbest.specs.Turn.{Stopped}

-- the definition's search, by the settings
abbrev pub searched : List Float → SearchInput → Setting → Bool → Turn Float
searched column f g recovery = search (column_scoring column) f g.asked g.pushes recovery

pub record Finds (g : Setting) (vs es x index targets : List ℕ) (column : List Float) (t : List ℕ) (sc : List Float) (ac queue closed order marks walks : List ℕ) : Type 0 where
  pub input : SearchInput
  pub on_ground : Ground input g vs es x index targets
  pub fits : column_fits column ≡ true
  pub room : Room g t sc ac queue closed
  pub allowed : 0 < g.pushes
  pub order-room : g.edges ≤ length order
  pub marks-room : g.edges ≤ length marks
  pub queued : g.edges + g.edges ≤ length walks
  pub walks-room : g.most ≤ length walks
  pub rows : offer_numbers ≤ length walks

-- the search has ended: the stores hold its last state
pub record Ended (f : SearchInput) (g : Setting) (es x index targets : List ℕ) (column : List Float) (recovery : Bool) (t' : List ℕ) (sc' : List Float) (ac' queue' closed' order' marks' : List ℕ) (p : Progress) : Type 0 where
  pub branches : ℕ → List Branches
  pub closings : ℕ → ℕ
  pub state : State Float
  pub is : searched column f g recovery ≡ ended state
  pub holds : Holds f g es x index targets branches closings t' sc' ac' queue' closed' order' marks' p state

abbrev pub FoundBy : SearchInput → Setting → List ℕ → List ℕ → List ℕ → List ℕ → List Float → Bool → Result Progress Refusal → List ℕ → List Float → List ℕ → List ℕ → List ℕ → List ℕ → List ℕ → Type 0
FoundBy f g es x index targets column recovery (Ok p) t' sc' ac' queue' closed' order' marks' = Ended f g es x index targets column recovery t' sc' ac' queue' closed' order' marks' p
FoundBy f g es x index targets column recovery (Err k) t' sc' ac' queue' closed' order' marks' = Stopped (searched column f g recovery) (number k)

-- by the answer, for every search whose ground the tables are
pub record Found (g : Setting) (vs es x index targets : List ℕ) (column : List Float) (recovery : Bool) (r : Result Progress Refusal) (t' : List ℕ) (sc' : List Float) (ac' queue' closed' order' marks' : List ℕ) : Type 0 where
  pub is : (f : SearchInput) → Ground f g vs es x index targets → FoundBy f g es x index targets column recovery r t' sc' ac' queue' closed' order' marks'
