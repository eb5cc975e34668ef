-- A turn where paths wait, by what each callee answers.
use Rattle.std.specs.Prelude.{◌≡◌, refl, Bool, true, false, Some, None, Ok, Err, cond, List, [], ◌∷◌, ℕ, ◌<◌, ◌≤◌, eqb, ltb, length, Float}
use Rattle.std.proofs.Common.{sym, ap, subst, ◌∙◌, arith, ltb-true, ltb-false}
use Rattle.definition.specs.Score.{column_scoring}
use Rattle.definition.specs.Evidence.{Branches}
use Rattle.definition.specs.Search.{SearchInput, State, Made, broken, take_path, push_made}
use Rattle.search_state.specs.Settings.{Setting}
use Rattle.search_state.specs.declared.Progress.{Progress}
use Rattle.refusals.specs.declared.Refusal.{Refusal}
use Rattle.refusals.specs.Numbers.{number}
use Rattle.search_state.specs.State.{path_of}
use Rattle.path_queue.specs.declared.Taking.{Taking}
use Rattle.path_queue.specs.Scene.{Scene}
use Rattle.path_queue.specs.Push.{Ready, Pushes, pushes_from, Pushed-all, AllPushed}
use Rattle.path_queue.specs.Take.{Takes, First}
use Rattle.path_queue.specs.Take as first
use Rattle.turn_rules.specs.Rules.{first_new}
use Rattle.junction_kbest.specs.Turn.{with_waiting, fails, fills, turn-over, turn-takes, push-made, push-broken}
use Rattle.junction_kbest.specs.Counts.{waiting-many, most-waiting}
use Rattle.junction_kbest.specs.Extend.{Makes}
use Rattle.junction_kbest.specs.Take.{Going, TakesPath, PathTaken}
use Rattle.junction_kbest.specs.Between.{Turned, At, turn_of, PushedTurn, NextTurn, TurnMade, closed-unmet, roomy, good-on, room-kept}

-- the first of a list that is not empty
record Head {A : Type 0} (xs : List A) : Type 0 where
  first : A
  rest : List A
  is : xs ≡ first ∷ rest

head_of : {A : Type 0} (xs : List A) → 0 < length xs → Head xs
head_of [] h = absurd (omega arith)
head_of (x ∷ xs) h = record { first = x; rest = xs; is = refl }

-- what is not read by the queue, as its scene
abbrev pub scene_of : SearchInput → List ℕ → List ℕ → List ℕ → List ℕ → (ℕ → List Branches) → (ℕ → ℕ) → List ℕ → List ℕ → List ℕ → List ℕ → List ℕ → Scene
scene_of f es x index targets bs cl t ac closed order marks =
    record { f = f; es = es; x = x; index = index; targets = targets; bs = bs; closing = cl; t = t; ac = ac; closed = closed; order = order; marks = marks }

module _ (g : Setting) (vs es x index targets : List ℕ) (column : List Float) (t : List ℕ) (sc : List Float) (ac queue closed marks : List ℕ) (p : Progress) where
  -- ---- too many wait
  pub next-over : (b : Bool) → b ≡ ltb (cond (eqb p.closed 0) 1000 10000) p.waiting → b ≡ true → 0 < p.waiting
      → TurnMade g vs es x index targets column t sc ac queue closed marks p (Ok None) t sc ac queue closed marks
  next-over b e h some =
      record {
        is = λ f bs cl order s A unmet.
            (let w = waiting-many A.holds in
            let m = most-waiting A.holds in
            let l = ltb-true (cond (eqb p.closed 0) 1000 10000) p.waiting (sym e ∙ h) in
            let k = head_of s.waiting (omega arith) in (
              turn-over (column_scoring column) f g.asked g.pushes s (closed-unmet f g vs es x index targets column bs cl t sc ac queue closed order marks p s A unmet) k.first k.rest k.is
                  (omega arith),
              record { paths = refl; scores = refl; actives = refl; waiting = refl; closed_same = refl; marked = refl },
            ));
      }

  module _ (walks : List ℕ) where
    pub next-takes : NextTurn g vs es x index targets column t sc ac queue closed marks walks p → Takes sc queue p
    next-takes P =
        let N = P.asks in
        record {
          scene = scene_of N.input es x index targets N.branches N.closings t ac closed P.order marks;
          setting = g;
          state = N.state;
          holds = N.at.holds;
          some = P.some;
        }

  module _ (b : Bool) (over : b ≡ ltb (cond (eqb p.closed 0) 1000 10000) p.waiting) (few : b ≡ false) (r : Taking) (queue₁ : List ℕ) (T : first.Taken sc queue p r queue₁)
      (lq : length queue₁ ≡ length queue) where
    module _ (f : SearchInput) (bs : ℕ → List Branches) (cl : ℕ → ℕ) (order : List ℕ) (s : State Float) (A : At f g vs es x index targets column bs cl t sc ac queue closed order marks p s) (unmet : p.closed < g.asked) where
      taken : First (scene_of f es x index targets bs cl t ac closed order marks) g sc p s r.path queue₁
      taken = T.each (scene_of f es x index targets bs cl t ac closed order marks) g s A.holds

      going : Going f g vs es x index targets column bs cl t sc ac queue₁ closed order marks r.left (with_waiting s taken.rest) r.path
      going =
          subst (λ (q : Progress). Going f g vs es x index targets column bs cl t sc ac queue₁ closed order marks q (with_waiting s taken.rest) r.path) (sym T.left)
          (record {
            on_ground = A.on_ground;
            fits = A.fits;
            holds = taken.holds;
            idle = taken.idle;
            apart = taken.apart;
            roomy =
                (let R = roomy f g vs es x index targets column bs cl t sc ac queue closed order marks p s A unmet in
                record { paths = R.paths; scores = R.scores; actives = R.actives; number = R.number; closed-room = R.closed-room });
          })

      -- the turn is what is made of the taken path, pushed
      turn_is : (m : Made Float) → take_path (column_scoring column) f (path_of f es index targets bs t sc r.path) (with_waiting s taken.rest) ≡ m
          → turn_of column f g s ≡ push_made (column_scoring column) g.pushes s m
      turn_is m e =
          let w = waiting-many A.holds in
          let k = most-waiting A.holds in
          let l = ltb-false (cond (eqb p.closed 0) 1000 10000) p.waiting (sym over ∙ few) in
          turn-takes (column_scoring column) f g.asked g.pushes s (closed-unmet f g vs es x index targets column bs cl t sc ac queue closed order marks p s A unmet)
          (path_of f es index targets bs t sc r.path) taken.rest taken.is (omega arith) m e

    pub next-path-asks : (walks : List ℕ) → NextTurn g vs es x index targets column t sc ac queue closed marks walks p → TakesPath g vs es x index targets column t sc ac closed marks walks r.left r.path
    next-path-asks walks P =
        let N = P.asks in
        record {
          input = N.input;
          branches = N.branches;
          closings = N.closings;
          queue = queue₁;
          order = P.order;
          state = with_waiting N.state (taken N.input N.branches N.closings P.order N.state N.at N.unmet).rest;
          all = going N.input N.branches N.closings P.order N.state N.at N.unmet;
          rows = N.rows;
        }

    module _ (t₁ : List ℕ) (sc₁ : List Float) (ac₁ closed₁ marks₁ : List ℕ) where
      abbrev want : (f : SearchInput) (bs : ℕ → List Branches) (cl : ℕ → ℕ) (order : List ℕ) (s : State Float) → At f g vs es x index targets column bs cl t sc ac queue closed order marks p s → p.closed < g.asked
          → Made Float
      want f bs cl order s A unmet = take_path (column_scoring column) f (path_of f es index targets bs t sc r.path) (with_waiting s (taken f bs cl order s A unmet).rest)

      pub next-refused : (k : Refusal) → PathTaken g vs es x index targets column t sc ac closed marks r.left r.path (Err k) t₁ sc₁ ac₁ closed₁ marks₁ → (queue' : List ℕ)
          → TurnMade g vs es x index targets column t sc ac queue closed marks p (Err k) t₁ sc₁ ac₁ queue' closed₁ marks₁
      next-refused k X queue' =
          record {
            is = λ f bs cl order s A unmet.
                (let w : want f bs cl order s A unmet ≡ broken (number k) =
                X.is f bs cl queue₁ order (with_waiting s (taken f bs cl order s A unmet).rest) (going f bs cl order s A unmet)
                in
                fails (turn_is f bs cl order s A unmet (broken (number k)) w ∙ push-broken (column_scoring column) f g.asked g.pushes s (number k)));
          }

      module _ (q : Progress) (X : PathTaken g vs es x index targets column t sc ac closed marks r.left r.path (Ok q) t₁ sc₁ ac₁ closed₁ marks₁) where
        module _ (f : SearchInput) (bs : ℕ → List Branches) (cl : ℕ → ℕ) (order : List ℕ) (s : State Float) (A : At f g vs es x index targets column bs cl t sc ac queue closed order marks p s)
            (unmet : p.closed < g.asked) where
          makes : Makes f g es x index targets queue₁ order r.left q (want f bs cl order s A unmet) t₁ sc₁ ac₁ closed₁ marks₁
          makes = X.is f bs cl queue₁ order (with_waiting s (taken f bs cl order s A unmet).rest) (going f bs cl order s A unmet)

        pub next-counts : (walks : List ℕ) → NextTurn g vs es x index targets column t sc ac queue closed marks walks p → (r.left.closed ≤ q.closed) × (first_new r.left q ≤ q.records)
        next-counts walks P =
            let N = P.asks in
            let M = makes N.input N.branches N.closings P.order N.state N.at N.unmet in
            (M.further.closed-low, M.further.low)

        -- ---- what was made is pushed
        module _ (from : ℕ) (at : from ≡ first_new r.left q) where
          module _ (f : SearchInput) (bs : ℕ → List Branches) (cl : ℕ → ℕ) (order : List ℕ) (s : State Float) (A : At f g vs es x index targets column bs cl t sc ac queue closed order marks p s)
              (unmet : p.closed < g.asked) where
            abbrev M : Makes f g es x index targets queue₁ order r.left q (want f bs cl order s A unmet) t₁ sc₁ ac₁ closed₁ marks₁
            M = makes f bs cl order s A unmet

            abbrev scene : Scene
            scene = scene_of f es x index targets M.branches M.closings t₁ ac₁ closed₁ order marks₁

            ready : Ready scene g sc₁ queue₁ q from M.state
            ready =
                let K = M.further in
                let low = K.low in
                let z = ap (λ (u : Progress). u.records) T.left in
                let y = ap (λ (u : Progress). u.waiting) T.left in
                record {
                  holds = M.holds;
                  low = omega arith;
                  new = λ u a b. M.new u (omega arith) b;
                  later = λ i l.
                      (let d = K.waiting in
                      let h = ((taken f bs cl order s A unmet).holds.idle i (omega arith)).known in
                      omega arith);
                }

            pushed-is : turn_of column f g s ≡ pushes_from column scene g sc₁ q from M.state
            pushed-is =
                turn_is f bs cl order s A unmet _ M.is
                ∙ push-made (column_scoring column) f g.asked g.pushes s M.state _
                ∙ ap (λ (n : ℕ). pushes_from column scene g sc₁ q n M.state) (sym at)

          pub next-pushes : (walks : List ℕ) → NextTurn g vs es x index targets column t sc ac queue closed marks walks p → Pushes sc₁ queue₁ g q from
          next-pushes walks P =
              let N = P.asks in
              let h = N.at.room.waiting in
              record {
                scene = scene N.input N.branches N.closings P.order N.state N.at N.unmet;
                state = (M N.input N.branches N.closings P.order N.state N.at N.unmet).state;
                ready = ready N.input N.branches N.closings P.order N.state N.at N.unmet;
                room = omega arith;
              }

          module _ (queue₂ : List ℕ) where
            next-full : (k : Refusal) → AllPushed sc₁ queue₁ g q from queue₂ (Err k) → TurnMade g vs es x index targets column t sc ac queue closed marks p (Err k) t₁ sc₁ ac₁ queue₂ closed₁ marks₁
            next-full k F =
                record {
                  is = λ f bs cl order s A unmet.
                      (let E = F.each (scene f bs cl order s A unmet) (M f bs cl order s A unmet).state column (ready f bs cl order s A unmet) in
                      fills F.number E.state E.left (pushed-is f bs cl order s A unmet ∙ E.is));
                }

            module _ (lt : length t₁ ≡ length t) (ls : length sc₁ ≡ length sc) (la : length ac₁ ≡ length ac) (lh : length closed₁ ≡ length closed) (lr : length queue₂ ≡ length queue₁) where
              next_more : (p' : Progress) → Pushed-all sc₁ queue₁ g q from queue₂ p' → TurnMade g vs es x index targets column t sc ac queue closed marks p (Ok (Some p')) t₁ sc₁ ac₁ queue₂ closed₁ marks₁
              next_more p' F =
                  record {
                    is = λ f bs cl order s A unmet.
                        (let E = F.each (scene f bs cl order s A unmet) (M f bs cl order s A unmet).state column (ready f bs cl order s A unmet) in
                        let is = pushed-is f bs cl order s A unmet ∙ E.is in
                        let K = (M f bs cl order s A unmet).further in
                        let c1 = F.counted.records in
                        let c2 = F.counted.closed in
                        let c3 = F.counted.pushes in
                        let k1 = K.low in
                        let k2 = K.closed-low in
                        let k3 = K.pushes in
                        let y1 = ap (λ (v : Progress). v.records) T.left in
                        let y2 = ap (λ (v : Progress). v.closed) T.left in
                        let y3 = ap (λ (v : Progress). v.pushes) T.left in
                        let a = A.counted in
                        record {
                          branches = (M f bs cl order s A unmet).branches;
                          closings = (M f bs cl order s A unmet).closings;
                          state = E.state;
                          is = is;
                          at =
                              record {
                                on_ground = A.on_ground;
                                fits = A.fits;
                                holds = E.holds;
                                counted = omega arith;
                                good = good-on f g vs es x index targets column bs cl t sc ac queue closed order marks p s A unmet E.state is;
                                room = room-kept g t sc ac queue closed t₁ sc₁ ac₁ queue₂ closed₁ lt ls la (lr ∙ lq) lh A.room;
                              };
                        });
                  }

              pub next-pushed : (d : Turned) → PushedTurn sc₁ queue₁ g q from queue₂ d → TurnMade g vs es x index targets column t sc ac queue closed marks p d t₁ sc₁ ac₁ queue₂ closed₁ marks₁
              next-pushed (Ok (Some p')) F = next_more p' F
              next-pushed (Ok None) F = absurd F
              next-pushed (Err k) F = next-full k F
