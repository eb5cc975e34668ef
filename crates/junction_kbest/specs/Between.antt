-- Between turns: the stores hold the definition's state, and there is room for whatever a turn makes.
use Rattle.std.specs.Prelude.{◌≡◌, true, Option, Some, None, Result, Ok, Err, List, ℕ, ◌+◌, ◌*◌, ◌<◌, ◌≤◌, length, Float}
use Rattle.std.proofs.Common.{mul-le-mul_right, arith}
use Rattle.definition.specs.Limits.{column_fits}
use Rattle.definition.specs.Score.{column_scoring}
use Rattle.definition.specs.Evidence.{Branches}
use Rattle.definition.specs.Search.{SearchInput, State, Turn, more, ended, turn}
use Rattle.theorems.proofs.Column.{NotNan, column-keeps}
use Rattle.theorems.proofs.Walks.{GoodState}
use Rattle.theorems.proofs.Turns.{turn_more}
use Rattle.tables.specs.Widths.{offer_numbers}
use Rattle.search_state.specs.Settings.{Setting}
use Rattle.search_state.specs.declared.Progress.{Progress}
use Rattle.search_state.specs.Ground.{Ground}
use Rattle.search_state.specs.State.{Holds, Made as Counted, Room}
use Rattle.path_queue.specs.Push.{AllPushed}
use Rattle.junction_kbest.specs.Turn.{Stopped}
use Rattle.junction_kbest.specs.Counts.{closed-many}
use Rattle.junction_kbest.specs.Extend.{Roomy}
use Rattle.refusals.specs.declared.Refusal.{Refusal}
use Rattle.refusals.specs.Numbers.{number}

-- what comes of a turn: the search goes on, it ends as it is, or a refusal
abbrev pub Turned : Type 0
Turned = Result (Option Progress) Refusal

-- the stores as a search f has them between turns
pub record At (f : SearchInput) (g : Setting) (vs es x index targets : List ℕ) (column : List Float) (bs : ℕ → List Branches) (closing : ℕ → ℕ) (t : List ℕ) (sc : List Float) (ac queue closed order marks : List ℕ)
    (p : Progress) (s : State Float) : Type 0 where
  pub on_ground : Ground f g vs es x index targets
  pub fits : column_fits column ≡ true
  pub holds : Holds f g es x index targets bs closing t sc ac queue closed order marks p s
  pub counted : Counted p 0
  pub good : GoodState NotNan f s
  pub room : Room g t sc ac queue closed

-- the definition's turn
abbrev pub turn_of : List Float → SearchInput → Setting → State Float → Turn Float
turn_of column f g s = turn (column_scoring column) f g.asked g.pushes s

-- a turn that goes on
pub record Onward (f : SearchInput) (g : Setting) (vs es x index targets : List ℕ) (column : List Float) (order t' : List ℕ) (sc' : List Float) (ac' queue' closed' marks' : List ℕ) (p' : Progress) (s : State Float) : Type 0 where
  pub branches : ℕ → List Branches
  pub closings : ℕ → ℕ
  pub state : State Float
  pub is : turn_of column f g s ≡ more state
  pub at : At f g vs es x index targets column branches closings t' sc' ac' queue' closed' order marks' p' state

-- the stores are as they were
pub record Rests (t : List ℕ) (sc : List Float) (ac queue closed marks t' : List ℕ) (sc' : List Float) (ac' queue' closed' marks' : List ℕ) : Type 0 where
  pub paths : t' ≡ t
  pub scores : sc' ≡ sc
  pub actives : ac' ≡ ac
  pub waiting : queue' ≡ queue
  pub closed_same : closed' ≡ closed
  pub marked : marks' ≡ marks

-- by what came of the turn
abbrev pub TurnBy : SearchInput → Setting → List ℕ → List ℕ → List ℕ → List ℕ → List ℕ → List Float → List ℕ → State Float → List ℕ → List Float → List ℕ → List ℕ → List ℕ → List ℕ → Turned → List ℕ → List Float → List ℕ → List ℕ → List ℕ → List ℕ → Type 0
TurnBy f g vs es x index targets column order s t sc ac queue closed marks (Ok (Some p')) t' sc' ac' queue' closed' marks' = Onward f g vs es x index targets column order t' sc' ac' queue' closed' marks' p' s
TurnBy f g vs es x index targets column order s t sc ac queue closed marks (Ok None) t' sc' ac' queue' closed' marks' = (turn_of column f g s ≡ ended s) × Rests t sc ac queue closed marks t' sc' ac' queue' closed' marks'
TurnBy f g vs es x index targets column order s t sc ac queue closed marks (Err k) t' sc' ac' queue' closed' marks' = Stopped (turn_of column f g s) (number k)

-- a turn whose last step pushes, by the answer of its pushes: it goes on, or is refused
abbrev pub PushedTurn : List Float → List ℕ → Setting → Progress → ℕ → List ℕ → Turned → Type 0
PushedTurn sc queue g q from queue' (Ok (Some p')) = AllPushed sc queue g q from queue' (Ok p')
PushedTurn sc queue g q from queue' (Ok None) = ⊥
PushedTurn sc queue g q from queue' (Err k) = AllPushed sc queue g q from queue' (Err k)

-- what a turn asks: the stores are those of some search, which is not to end yet
pub record TurnAsks (g : Setting) (vs es x index targets : List ℕ) (column : List Float) (t : List ℕ) (sc : List Float) (ac queue closed order marks walks : List ℕ) (p : Progress) : Type 0 where
  pub input : SearchInput
  pub branches : ℕ → List Branches
  pub closings : ℕ → ℕ
  pub state : State Float
  pub at : At input g vs es x index targets column branches closings t sc ac queue closed order marks p state
  pub unmet : p.closed < g.asked
  pub walks-room : g.most ≤ length walks
  pub rows : offer_numbers ≤ length walks

-- the same where paths wait, whatever the order of the pivotal edges
pub record NextTurn (g : Setting) (vs es x index targets : List ℕ) (column : List Float) (t : List ℕ) (sc : List Float) (ac queue closed marks walks : List ℕ) (p : Progress) : Type 0 where
  pub order : List ℕ
  pub asks : TurnAsks g vs es x index targets column t sc ac queue closed order marks walks p
  pub some : 0 < p.waiting

-- by the answer, for every search whose stores these are
pub record TurnMade (g : Setting) (vs es x index targets : List ℕ) (column : List Float) (t : List ℕ) (sc : List Float) (ac queue closed marks : List ℕ) (p : Progress) (r : Turned) (t' : List ℕ) (sc' : List Float)
    (ac' queue' closed' marks' : List ℕ) : Type 0 where
  pub is : (f : SearchInput) (bs : ℕ → List Branches) (closings : ℕ → ℕ) (order : List ℕ) (s : State Float) → At f g vs es x index targets column bs closings t sc ac queue closed order marks p s
      → p.closed < g.asked → TurnBy f g vs es x index targets column order s t sc ac queue closed marks r t' sc' ac' queue' closed' marks'

module _ (f : SearchInput) (g : Setting) (vs es x index targets : List ℕ) (column : List Float) (bs : ℕ → List Branches) (cl : ℕ → ℕ) (t : List ℕ) (sc : List Float) (ac queue closed order marks : List ℕ) (p : Progress)
    (s : State Float) (A : At f g vs es x index targets column bs cl t sc ac queue closed order marks p s) (unmet : p.closed < g.asked) where
  pub closed-unmet : length s.closed < g.asked
  closed-unmet = let z = closed-many A.holds in omega arith

  -- the number of records, and the room that there is
  records-few : p.records ≤ g.pushes + p.closed
  records-few = let a = A.counted in let b = A.holds.pushes-fit in omega arith

  pub roomy : Roomy g t sc ac closed p
  roomy =
      let r = records-few in
      let a = A.room.paths in
      let b = A.room.scores in
      let c = A.room.actives in
      let d = A.room.closed-room in
      let h = A.on_ground.pushes-fit in
      let k = A.on_ground.asked-fits in
      let m : (p.records + 9) * g.active ≤ (g.pushes + g.asked + 8) * g.active = mul-le-mul_right g.active (omega arith) in
      record { paths = omega arith; scores = omega arith; actives = omega arith; number = omega arith; closed-room = omega arith }

  -- a turn that goes on leaves a good state
  pub good-on : (s' : State Float) → turn_of column f g s ≡ more s' → GoodState NotNan f s'
  good-on s' e = (turn_more (column-keeps column A.fits) f g.pushes g.asked s s' A.good e).good

-- slices of the same lengths have the same room
pub room-kept : (g : Setting) (t : List ℕ) (sc : List Float) (ac queue closed t' : List ℕ) (sc' : List Float) (ac' queue' closed' : List ℕ) → length t' ≡ length t → length sc' ≡ length sc → length ac' ≡ length ac
    → length queue' ≡ length queue → length closed' ≡ length closed → Room g t sc ac queue closed → Room g t' sc' ac' queue' closed'
room-kept g t sc ac queue closed t' sc' ac' queue' closed' a b c d e R =
    let u = R.paths in
    let v = R.scores in
    let w = R.actives in
    let y = R.waiting in
    let z = R.closed-room in
    record { paths = omega arith; scores = omega arith; actives = omega arith; waiting = omega arith; closed-room = omega arith }
