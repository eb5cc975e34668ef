-- Turn after turn: what is left of the search from the state that the stores hold is the answer, and every turn lowers the measure.
use Rattle.std.specs.Prelude.{◌≡◌, refl, Bool, Some, None, Ok, Err, List, [], ℕ, ◌+◌, ◌-◌, ◌<◌, ◌≤◌, length, take, drop, Float}
use Rattle.std.proofs.Common.{ap, ◌∙◌, arith}
use Rattle.std.proofs.lemmas.List.{length-map}
use Rattle.definition.specs.Score.{column_scoring}
use Rattle.definition.specs.Threading.{Ends}
use Rattle.definition.specs.Evidence.{Branches}
use Rattle.definition.specs.Search.{SearchInput, State, first_state}
use Rattle.theorems.proofs.Column.{column-keeps}
use Rattle.theorems.proofs.Turns.{measure, turn_more, first_good}
use Rattle.tables.specs.Widths.{offer_numbers}
use Rattle.closed_paths.specs.Cross.{unvisited}
use Rattle.path_queue.specs.Begin.{Begun, begun_with}
use Rattle.search_state.specs.Settings.{Setting}
use Rattle.search_state.specs.declared.Progress.{Progress}
use Rattle.search_state.specs.Ground.{Ground, name_of}
use Rattle.refusals.specs.declared.Refusal.{Refusal}
use Rattle.refusals.specs.Numbers.{number}
use Rattle.junction_kbest.specs.Turn.{Stopped, fails, fills, turn-done}
use Rattle.junction_kbest.specs.Run.{rest, pivotal_for, rest-start, rest_ended, rest-failed, rest-full, rest_more}
use Rattle.junction_kbest.specs.Counts.{waiting-many, closed-many}
use Rattle.junction_kbest.specs.Between.{Turned, At, turn_of, Onward, TurnBy, TurnAsks, NextTurn, room-kept}
use Rattle.junction_kbest.specs.Pivot.{TurnMadeIn, PivotTurn}
use Rattle.junction_kbest.specs.Find.{searched, Finds, Found}

-- ---- one turn
module _ (g : Setting) (vs es x index targets : List ℕ) (column : List Float) (t : List ℕ) (sc : List Float) (ac queue closed order marks walks : List ℕ) (p : Progress)
    (A : TurnAsks g vs es x index targets column t sc ac queue closed order marks walks p) where
  pub turn-next : 0 < p.waiting → NextTurn g vs es x index targets column t sc ac queue closed marks walks p
  turn-next h = record { order = order; asks = A; some = h }

  pub turn-pivot : p.waiting ≤ 0 → PivotTurn es index targets t sc queue closed order marks walks g p
  turn-pivot h = record { vertices = vs; nodes = x; column = column; actives = ac; asks = A; none = omega arith }

-- ---- the loop

-- the measure, by the slices
abbrev pub turns_left : Setting → List ℕ → List ℕ → Progress → ℕ
turns_left g order marks p = (g.pushes - p.pushes) + p.waiting + length (unvisited (drop p.next (take p.pivotal order)) marks)

pub record Left (f : SearchInput) (g : Setting) (vs es x index targets : List ℕ) (column : List Float) (recovery : Bool) (t : List ℕ) (sc : List Float) (ac queue closed order marks : List ℕ) (p : Progress) : Type 0 where
  pub branches : ℕ → List Branches
  pub closings : ℕ → ℕ
  pub state : State Float
  pub at : At f g vs es x index targets column branches closings t sc ac queue closed order marks p state
  pub is : searched column f g recovery ≡ rest (column_scoring column) f g.asked g.pushes state

pub record Running (g : Setting) (vs es x index targets : List ℕ) (column : List Float) (recovery : Bool) (t : List ℕ) (sc : List Float) (ac queue closed order marks walks : List ℕ) (p : Progress) : Type 0 where
  pub input : SearchInput
  pub on_ground : Ground input g vs es x index targets
  pub run : (f : SearchInput) → Ground f g vs es x index targets → Left f g vs es x index targets column recovery t sc ac queue closed order marks p
  pub walks-room : g.most ≤ length walks
  pub rows : offer_numbers ≤ length walks

left_is : (f : SearchInput) (g : Setting) (vs es x index targets : List ℕ) (column : List Float) (bs : ℕ → List Branches) (cl : ℕ → ℕ) (t : List ℕ) (sc : List Float) (ac queue closed order marks : List ℕ) (p : Progress) (s : State Float)
    → At f g vs es x index targets column bs cl t sc ac queue closed order marks p s → measure g.pushes s ≡ turns_left g order marks p
left_is f g vs es x index targets column bs cl t sc ac queue closed order marks p s A =
    let a = waiting-many A.holds in
    let b = A.holds.pushes in
    let c : length s.pivotal ≡ length (unvisited (drop p.next (take p.pivotal order)) marks) =
    ap (λ (l : List Ends). length l) A.holds.pivotal ∙ length-map (unvisited (drop p.next (take p.pivotal order)) marks) (name_of es)
    in
    sums s.pushes p.pushes (length s.waiting) p.waiting (length s.pivotal) _ b a c
  where
    sums : (a b c d e h : ℕ) → a ≡ b → c ≡ d → e ≡ h → (g.pushes - a) + c + e ≡ (g.pushes - b) + d + h
    sums a b c d e h u v w = omega arith

module _ (g : Setting) (vs es x index targets : List ℕ) (column : List Float) (recovery : Bool) where
  -- ---- the start
  pub find-started : (t : List ℕ) (sc : List Float) (ac queue closed order marks walks : List ℕ) → Finds g vs es x index targets column t sc ac queue closed order marks walks
      → (t₁ : List ℕ) (sc₁ : List Float) (queue₁ order₁ marks₁ walks₁ : List ℕ) (p : Progress) → Begun g vs es t₁ sc₁ queue₁ order₁ marks₁ recovery p
      → length t₁ ≡ length t → length sc₁ ≡ length sc → length queue₁ ≡ length queue → length walks₁ ≡ length walks
      → Running g vs es x index targets column recovery t₁ sc₁ ac queue₁ closed order₁ marks₁ walks₁ p
  find-started t sc ac queue closed order marks walks F t₁ sc₁ queue₁ order₁ marks₁ walks₁ p B lt ls lq lw =
      let a = F.walks-room in
      let b = F.rows in
      record {
        input = F.input;
        on_ground = F.on_ground;
        run = λ f G.
            record {
              branches = λ r. [];
              closings = λ r. 0;
              state = first_state (column_scoring column) (pivotal_for f recovery);
              at =
                  record {
                    on_ground = G;
                    fits = F.fits;
                    holds = B.each f x index targets ac closed column G;
                    counted = counted p B.is;
                    good = first_good (column-keeps column F.fits) f recovery;
                    room = room-kept g t sc ac queue closed t₁ sc₁ ac queue₁ closed lt ls refl lq refl F.room;
                  };
              is = rest-start (column_scoring column) f g.asked g.pushes recovery F.allowed;
            };
        walks-room = omega arith;
        rows = omega arith;
      }
    where
      counted : (p : Progress) → p ≡ begun_with p.pivotal → p.records ≤ p.pushes + p.closed + 0
      counted p e =
          let a = ap (λ (q : Progress). q.records) e in
          let b = ap (λ (q : Progress). q.pushes) e in
          omega arith

  module _ (t : List ℕ) (sc : List Float) (ac queue closed order marks walks : List ℕ) (p : Progress) (R : Running g vs es x index targets column recovery t sc ac queue closed order marks walks p) where
    -- ---- as many have closed as are asked for
    pub find-met : g.asked ≤ p.closed → Found g vs es x index targets column recovery (Ok p) t sc ac queue closed order marks
    find-met h =
        record {
          is = λ f G.
              (let L = R.run f G in
              let c = closed-many L.at.holds in
              record {
                branches = L.branches;
                closings = L.closings;
                state = L.state;
                is =
                    L.is
                    ∙ rest_ended (column_scoring column) f g.asked g.pushes L.state (turn-done (column_scoring column) f g.asked g.pushes L.state (omega arith));
                holds = L.at.holds;
              });
        }

    module _ (unmet : p.closed < g.asked) where
      module _ (t₁ : List ℕ) (sc₁ : List Float) (ac₁ queue₁ closed₁ marks₁ : List ℕ) where
        abbrev Came : Turned → Type 0
        Came r = TurnMadeIn order g vs es x index targets column t sc ac queue closed marks p r t₁ sc₁ ac₁ queue₁ closed₁ marks₁

        by : (r : Turned) → Came r → (f : SearchInput) (G : Ground f g vs es x index targets)
            → TurnBy f g vs es x index targets column order (R.run f G).state t sc ac queue closed marks r t₁ sc₁ ac₁ queue₁ closed₁ marks₁
        by r M f G = let L = R.run f G in M.is f L.branches L.closings L.state L.at unmet

        -- ---- the turn is refused, or ends the search
        stopped_by : (f : SearchInput) (G : Ground f g vs es x index targets) (k : ℕ) → Stopped (turn_of column f g (R.run f G).state) k → Stopped (searched column f g recovery) k
        stopped_by f G k (fails e) = fails ((R.run f G).is ∙ rest-failed (column_scoring column) f g.asked g.pushes (R.run f G).state k e)
        stopped_by f G k (fills h s ps e) = fills h s ps ((R.run f G).is ∙ rest-full (column_scoring column) f g.asked g.pushes (R.run f G).state s ps e)

        pub find-refused : (k : Refusal) → Came (Err k) → Found g vs es x index targets column recovery (Err k) t₁ sc₁ ac₁ queue₁ closed₁ order marks₁
        find-refused k M = record { is = λ f G. stopped_by f G (number k) (by (Err k) M f G) }

        pub find-ended : Came (Ok None) → Found g vs es x index targets column recovery (Ok p) t₁ sc₁ ac₁ queue₁ closed₁ order marks₁
        find-ended M =
            record {
              is = λ f G.
                  (let L = R.run f G in
                  let B = by (Ok None) M f G in
                  let S = B.1 in
                  record {
                    branches = L.branches;
                    closings = L.closings;
                    state = L.state;
                    is = L.is ∙ rest_ended (column_scoring column) f g.asked g.pushes L.state B.0;
                    holds = rw (S.paths, S.scores, S.actives, S.waiting, S.closed_same, S.marked) L.at.holds;
                  });
            }

        -- ---- the turn goes on
        module _ (q : Progress) (M : Came (Ok (Some q))) where
          onward : (f : SearchInput) (G : Ground f g vs es x index targets) → Onward f g vs es x index targets column order t₁ sc₁ ac₁ queue₁ closed₁ marks₁ q (R.run f G).state
          onward f G = by (Ok (Some q)) M f G

          pub find-on : (walks₁ : List ℕ) → length walks₁ ≡ length walks → Running g vs es x index targets column recovery t₁ sc₁ ac₁ queue₁ closed₁ order marks₁ walks₁ q
          find-on walks₁ lw =
              let a = R.walks-room in
              let b = R.rows in
              record {
                input = R.input;
                on_ground = R.on_ground;
                run = λ f G.
                    (let L = R.run f G in
                    let O = onward f G in
                    record {
                      branches = O.branches;
                      closings = O.closings;
                      state = O.state;
                      at = O.at;
                      is =
                          L.is
                          ∙ rest_more (column-keeps column L.at.fits) f g.asked g.pushes L.state O.state L.at.good O.is;
                    });
                walks-room = omega arith;
                rows = omega arith;
              }

          pub find-less : turns_left g order marks₁ q < turns_left g order marks p
          find-less =
              let f = R.input in
              let L = R.run f R.on_ground in
              let O = onward f R.on_ground in
              let T = turn_more (column-keeps column L.at.fits) f g.pushes g.asked L.state O.state L.at.good O.is in
              let l = T.lower in
              let a = left_is f g vs es x index targets column L.branches L.closings t sc ac queue closed order marks p L.state L.at in
              let b = left_is f g vs es x index targets column O.branches O.closings t₁ sc₁ ac₁ queue₁ closed₁ order marks₁ q O.state O.at in
              omega arith

-- what the loop keeps: the search is running, and no slice has changed its length
pub record Looping (g : Setting) (vs es x index targets : List ℕ) (column : List Float) (recovery : Bool) (t₀ : List ℕ) (sc₀ : List Float) (ac₀ queue₀ closed₀ marks₀ walks₀ order t : List ℕ) (sc : List Float)
    (ac queue closed marks walks : List ℕ) (p : Progress) : Type 0 where
  pub running : Running g vs es x index targets column recovery t sc ac queue closed order marks walks p
  pub paths : length t ≡ length t₀
  pub scores : length sc ≡ length sc₀
  pub actives : length ac ≡ length ac₀
  pub waiting : length queue ≡ length queue₀
  pub closed-length : length closed ≡ length closed₀
  pub marked : length marks ≡ length marks₀
  pub walked : length walks ≡ length walks₀
