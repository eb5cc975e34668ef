-- A turn where nothing waits: the next pivotal edge is tried, and what is recovered is pushed.
use Rattle.std.specs.Prelude.{◌≡◌, refl, Some, None, Ok, Err, List, [], ℕ, ◌+◌, ◌*◌, ◌<◌, ◌≤◌, length, Float}
use Rattle.std.proofs.Common.{◌∙◌, mul-le-mul_right, arith}
use Rattle.definition.specs.Score.{column_scoring}
use Rattle.definition.specs.Evidence.{Branches}
use Rattle.definition.specs.Search.{SearchInput, State}
use Rattle.search_state.specs.Settings.{Setting}
use Rattle.search_state.specs.declared.Progress.{Progress}
use Rattle.refusals.specs.declared.Refusal.{Refusal}
use Rattle.refusals.specs.Numbers.{number}
use Rattle.search_state.specs.Ground.{name_of}
use Rattle.path_queue.specs.Scene.{Scene}
use Rattle.path_queue.specs.Push.{Ready, Pushes, pushes_from}
use Rattle.path_queue.specs.Enqueue.{Around, Resting, TriesNext, Remade, Tried}
use Rattle.junction_kbest.specs.Turn.{with_pivotal, fails, fills, turn-ended, turn-recovers, push-made, push-broken}
use Rattle.junction_kbest.specs.Counts.{none-wait}
use Rattle.junction_kbest.specs.Extend.{Roomy}
use Rattle.junction_kbest.specs.Next.{scene_of}
use Rattle.junction_kbest.specs.Between.{Turned, At, turn_of, TurnBy, PushedTurn, TurnAsks, TurnMade, closed-unmet, roomy, good-on, room-kept}

-- ---- what the contracts say

-- by the answer, for every search whose stores these are, where the pivotal edges stand in this order
pub record TurnMadeIn (order : List ℕ) (g : Setting) (vs es x index targets : List ℕ) (column : List Float) (t : List ℕ) (sc : List Float) (ac queue closed marks : List ℕ) (p : Progress) (r : Turned) (t' : List ℕ)
    (sc' : List Float) (ac' queue' closed' marks' : List ℕ) : Type 0 where
  pub is : (f : SearchInput) (bs : ℕ → List Branches) (closings : ℕ → ℕ) (s : State Float) → At f g vs es x index targets column bs closings t sc ac queue closed order marks p s → p.closed < g.asked
      → TurnBy f g vs es x index targets column order s t sc ac queue closed marks r t' sc' ac' queue' closed' marks'

pub made_in : (order : List ℕ) (g : Setting) (vs es x index targets : List ℕ) (column : List Float) (t : List ℕ) (sc : List Float) (ac queue closed marks : List ℕ) (p : Progress) (r : Turned) (t' : List ℕ) (sc' : List Float)
    (ac' queue' closed' marks' : List ℕ) → TurnMade g vs es x index targets column t sc ac queue closed marks p r t' sc' ac' queue' closed' marks'
    → TurnMadeIn order g vs es x index targets column t sc ac queue closed marks p r t' sc' ac' queue' closed' marks'
made_in order g vs es x index targets column t sc ac queue closed marks p r t' sc' ac' queue' closed' marks' M = record { is = λ f bs cl s A unmet. M.is f bs cl order s A unmet }

-- what a turn without waiting paths asks, of stores that it is not handed all of
pub record PivotTurn (es index targets t : List ℕ) (sc : List Float) (queue closed order marks walks : List ℕ) (g : Setting) (p : Progress) : Type 0 where
  pub vertices : List ℕ
  pub nodes : List ℕ
  pub column : List Float
  pub actives : List ℕ
  pub asks : TurnAsks g vertices es nodes index targets column t sc actives queue closed order marks walks p
  pub none : p.waiting ≡ 0

-- and what it leaves, whatever those are
pub record PivotMade (es index targets t : List ℕ) (sc : List Float) (queue closed order marks : List ℕ) (g : Setting) (p : Progress) (r : Turned) (t' : List ℕ) (sc' : List Float) (queue' : List ℕ) : Type 0 where
  pub is : (vs x ac : List ℕ) (column : List Float) → TurnMadeIn order g vs es x index targets column t sc ac queue closed marks p r t' sc' ac queue' closed marks

-- ---- the steps
module _ (g : Setting) (es index targets t : List ℕ) (sc : List Float) (queue closed order marks : List ℕ) (p : Progress) (none : p.waiting ≡ 0) where
  module _ (vs x ac : List ℕ) (column : List Float) (f : SearchInput) (bs : ℕ → List Branches) (cl : ℕ → ℕ) (s : State Float) (A : At f g vs es x index targets column bs cl t sc ac queue closed order marks p s)
      (unmet : p.closed < g.asked) where
    abbrev around : Around
    around = record { f = f; vs = vs; x = x; bs = bs; closing = cl; ac = ac; queue = queue }

    abbrev space : Roomy g t sc ac closed p
    space = roomy f g vs es x index targets column bs cl t sc ac queue closed order marks p s A unmet

    resting : Resting around es index targets t sc closed order marks g p s
    resting =
        let a = space.actives in
        let m : (p.records + 1) * g.active ≤ (p.records + 9) * g.active = mul-le-mul_right g.active (omega arith) in
        record { on_ground = A.on_ground; holds = A.holds; none = none; actives = omega arith }

    still : s.waiting ≡ []
    still = none-wait A.holds none

    still-unmet : length s.closed < g.asked
    still-unmet = closed-unmet f g vs es x index targets column bs cl t sc ac queue closed order marks p s A unmet

  pub pivot-asks : (walks : List ℕ) → PivotTurn es index targets t sc queue closed order marks walks g p → TriesNext es index targets t sc closed order marks walks g p
  pivot-asks walks P =
      let N = P.asks in
      let R = space P.vertices P.nodes P.actives P.column N.input N.branches N.closings N.state N.at N.unmet in
      let a = R.paths in
      let b = R.scores in
      let c = R.number in
      record {
        around = around P.vertices P.nodes P.actives P.column N.input N.branches N.closings N.state N.at N.unmet;
        state = N.state;
        resting = resting P.vertices P.nodes P.actives P.column N.input N.branches N.closings N.state N.at N.unmet;
        paths = omega arith;
        scores = omega arith;
        fits = omega arith;
        walk-room = N.walks-room;
      }

  module _ (t₁ : List ℕ) (sc₁ : List Float) where
    module _ (q : Progress) (X : Tried es index targets t sc closed order marks g p t₁ sc₁ (Ok (Some q))) (vs x ac : List ℕ) (column : List Float) (f : SearchInput) (bs : ℕ → List Branches) (cl : ℕ → ℕ) (s : State Float)
        (A : At f g vs es x index targets column bs cl t sc ac queue closed order marks p s) (unmet : p.closed < g.asked) where
      abbrev K : Remade (around vs x ac column f bs cl s A unmet) es index targets closed order marks g p s column t₁ sc₁ q
      K = X.1 (around vs x ac column f bs cl s A unmet) s column (resting vs x ac column f bs cl s A unmet)

      abbrev scene : Scene
      scene = scene_of f es x index targets K.bs cl t₁ ac closed order marks

      ready : Ready scene g sc₁ queue q p.records (with_pivotal s K.next.rest)
      ready =
          let w = X.0.waiting in
          record { holds = K.holds; low = X.0.low; new = K.new; later = λ i l. absurd (omega arith) }

      pushed-is : turn_of column f g s ≡ pushes_from column scene g sc₁ q p.records (with_pivotal s K.next.rest)
      pushed-is =
          turn-recovers (column_scoring column) f g.asked g.pushes s (still-unmet vs x ac column f bs cl s A unmet) (name_of es K.next.edge) K.next.rest
          (still vs x ac column f bs cl s A unmet) K.next.is _ K.gives
          ∙ push-made (column_scoring column) f g.asked g.pushes s (with_pivotal s K.next.rest) _

    pub pivot-pushes : (q : Progress) → Tried es index targets t sc closed order marks g p t₁ sc₁ (Ok (Some q)) → (walks : List ℕ) → PivotTurn es index targets t sc queue closed order marks walks g p → Pushes sc₁ queue g q p.records
    pivot-pushes q X walks P =
        let N = P.asks in
        record {
          scene = scene q X P.vertices P.nodes P.actives P.column N.input N.branches N.closings N.state N.at N.unmet;
          state = with_pivotal N.state (K q X P.vertices P.nodes P.actives P.column N.input N.branches N.closings N.state N.at N.unmet).next.rest;
          ready = ready q X P.vertices P.nodes P.actives P.column N.input N.branches N.closings N.state N.at N.unmet;
          room = N.at.room.waiting;
        }

    -- there is no edge to try, or it is refused
    pub pivot-ended : Tried es index targets t sc closed order marks g p t₁ sc₁ (Ok None) → PivotMade es index targets t sc queue closed order marks g p (Ok None) t₁ sc₁ queue
    pivot-ended X =
        record {
          is = λ vs x ac column. record {
            is = λ f bs cl s A unmet. (
              turn-ended (column_scoring column) f g.asked g.pushes s (still-unmet vs x ac column f bs cl s A unmet) (still vs x ac column f bs cl s A unmet)
                  (X.2 (around vs x ac column f bs cl s A unmet) s (resting vs x ac column f bs cl s A unmet)),
              record { paths = X.0; scores = X.1; actives = refl; waiting = refl; closed_same = refl; marked = refl },
            );
          };
        }

    pub pivot-refused : (k : Refusal) → Tried es index targets t sc closed order marks g p t₁ sc₁ (Err k) → PivotMade es index targets t sc queue closed order marks g p (Err k) t₁ sc₁ queue
    pivot-refused k X =
        record {
          is = λ vs x ac column. record {
            is = λ f bs cl s A unmet.
                (let B = X (around vs x ac column f bs cl s A unmet) s column (resting vs x ac column f bs cl s A unmet) in
                fails
                (turn-recovers (column_scoring column) f g.asked g.pushes s (still-unmet vs x ac column f bs cl s A unmet) (name_of es B.next.edge) B.next.rest
                (still vs x ac column f bs cl s A unmet) B.next.is _ B.gives
                ∙ push-broken (column_scoring column) f g.asked g.pushes s (number k)));
          };
        }

    module _ (lt : length t₁ ≡ length t) (ls : length sc₁ ≡ length sc) (queue₁ : List ℕ) (lq : length queue₁ ≡ length queue) (q : Progress) (X : Tried es index targets t sc closed order marks g p t₁ sc₁ (Ok (Some q))) where
      pub pivot-turn : (d : Turned) → PushedTurn sc₁ queue g q p.records queue₁ d → PivotMade es index targets t sc queue closed order marks g p d t₁ sc₁ queue₁
      pivot-turn (Err k) F =
          record {
            is = λ vs x ac column. record {
              is = λ f bs cl s A unmet.
                  (let E = F.each (scene q X vs x ac column f bs cl s A unmet) _ column (ready q X vs x ac column f bs cl s A unmet) in
                  fills F.number E.state E.left (pushed-is q X vs x ac column f bs cl s A unmet ∙ E.is));
            };
          }
      pivot-turn (Ok None) F = absurd F
      pivot-turn (Ok (Some n)) F =
          record {
            is = λ vs x ac column. record {
              is = λ f bs cl s A unmet.
                  (let E = F.each (scene q X vs x ac column f bs cl s A unmet) _ column (ready q X vs x ac column f bs cl s A unmet) in
                  let is = pushed-is q X vs x ac column f bs cl s A unmet ∙ E.is in
                  let c1 = F.counted.records in
                  let c2 = F.counted.closed in
                  let c3 = F.counted.pushes in
                  let m1 = X.0.low in
                  let m2 = X.0.closed in
                  let m3 = X.0.pushes in
                  let a = A.counted in
                  record {
                    branches = (K q X vs x ac column f bs cl s A unmet).bs;
                    closings = cl;
                    state = E.state;
                    is = is;
                    at =
                        record {
                          on_ground = A.on_ground;
                          fits = A.fits;
                          holds = E.holds;
                          counted = omega arith;
                          good = good-on f g vs es x index targets column bs cl t sc ac queue closed order marks p s A unmet E.state is;
                          room = room-kept g t sc ac queue closed t₁ sc₁ ac queue₁ closed lt ls refl lq refl A.room;
                        };
                  });
            };
          }
