-- The steps of `extend_taken`, by what each callee answers.
use Rattle.std.specs.Prelude.{◌≡◌, Result, Ok, Err, List, ℕ, length, Float}
use Rattle.definition.specs.Evidence.{Branches}
use Rattle.definition.specs.Search.{SearchInput, State}
use Rattle.refusals.specs.declared.Refusal.{Refusal}
use Rattle.refusals.specs.Numbers.{number}
use Rattle.path_growth.specs.declared.Taken.{Taken}
use Rattle.search_state.specs.Settings.{Setting}
use Rattle.search_state.specs.declared.Progress.{Progress}
use Rattle.search_state.specs.Keep.{with_records}
use Rattle.path_closing.specs.Joins.{Joined, TreeAdded}
use Rattle.path_closing.specs.Closes.{Closes, ClosedOn, ClosedAt}
use Rattle.path_extensions.specs.One.{Answers, Run}
use Rattle.path_extensions.specs.Vertex.{Extends, Extensions, extensions_at}
use Rattle.definition.specs.Refusal.{refused}
use Rattle.search_state.specs.State.{path_of}
use Rattle.junction_kbest.specs.Extend.{Extending, ExtendsTaken, TakenExtended, joins, join-refused, closes, close-refused, takes, extends, extend-refused, all_made}

module _ (g : Setting) (vs es x index targets : List ℕ) (column : List Float) (t : List ℕ) (sc : List Float) (ac closed marks out : List ℕ) (p : Progress) (taken : Taken) where
  module _ (t₁ : List ℕ) (sc₁ : List Float) (ac₁ : List ℕ) where
    pub step-join-refused : (k : Refusal) → TreeAdded g vs x index targets t sc ac taken (Err k) t₁ sc₁ ac₁ → TakenExtended g vs es x index targets column t sc ac closed marks p taken (Err k) t₁ sc₁ ac₁ closed marks
    step-join-refused k X =
        record {
          is = λ f bs cl queue order s E.
              join-refused f g vs es x index targets column bs cl t sc ac queue closed order marks p s taken E (number k)
              (X.is f es bs p.records (joins f g vs es x index targets column bs cl t sc ac queue closed order marks p s taken E));
        }

    module _ (m : ℕ) (X : TreeAdded g vs x index targets t sc ac taken (Ok m) t₁ sc₁ ac₁) (lt : length t₁ ≡ length t) (ls : length sc₁ ≡ length sc) (la : length ac₁ ≡ length ac) where
      joined : (f : SearchInput) (bs : ℕ → List Branches) (cl : ℕ → ℕ) (queue order : List ℕ) (s : State Float) → Extending f g vs es x index targets column bs cl t sc ac queue closed order marks p s taken
          → Joined f g es x index targets bs t sc p.records taken t₁ sc₁ ac₁
      joined f bs cl queue order s E = X.is f es bs p.records (joins f g vs es x index targets column bs cl t sc ac queue closed order marks p s taken E)

      pub step-closes : ExtendsTaken g vs es x index targets column t sc ac closed marks out p taken → Closes g x index targets t₁ sc₁ ac₁ closed marks p taken
      step-closes P =
          let f = P.input in
          let J = joined f P.branches P.closings P.queue P.order P.state P.all in
          record {
            input = f;
            vertices = vs;
            edges = es;
            branches = J.branches;
            closings = P.closings;
            queue = P.queue;
            order = P.order;
            state = P.state;
            all = closes f g vs es x index targets column P.branches P.closings t sc ac P.queue closed P.order marks p P.state taken P.all t₁ sc₁ ac₁ J lt ls la;
          }

      module _ (t₂ : List ℕ) (sc₂ : List Float) (closed₂ marks₂ : List ℕ) where
        pub step-close-refused : (k : Refusal) → ClosedAt g x index targets t₁ sc₁ ac₁ closed marks p taken (Err k) t₂ sc₂ closed₂ marks₂
            → TakenExtended g vs es x index targets column t sc ac closed marks p taken (Err k) t₂ sc₂ ac₁ closed₂ marks₂
        step-close-refused k Y =
            record {
              is = λ f bs cl queue order s E.
                  (let J = joined f bs cl queue order s E in
                  close-refused f g vs es x index targets column bs cl t sc ac queue closed order marks p s taken E t₁ sc₁ ac₁ J lt ls la (number k)
                  (Y.is f vs es J.branches cl queue order s (closes f g vs es x index targets column bs cl t sc ac queue closed order marks p s taken E t₁ sc₁ ac₁ J lt ls la)));
            }

        module _ (q : Progress) (Y : ClosedAt g x index targets t₁ sc₁ ac₁ closed marks p taken (Ok q) t₂ sc₂ closed₂ marks₂) (lt₂ : length t₂ ≡ length t₁) (ls₂ : length sc₂ ≡ length sc₁) where
          module _ (f : SearchInput) (bs : ℕ → List Branches) (cl : ℕ → ℕ) (queue order : List ℕ) (s : State Float)
              (E : Extending f g vs es x index targets column bs cl t sc ac queue closed order marks p s taken) where
            abbrev J : Joined f g es x index targets bs t sc p.records taken t₁ sc₁ ac₁
            J = joined f bs cl queue order s E

            closed_on : ClosedOn f g es x index targets J.branches t₁ sc₁ ac₁ queue order p s taken q t₂ sc₂ closed₂ marks₂
            closed_on = Y.is f vs es J.branches cl queue order s (closes f g vs es x index targets column bs cl t sc ac queue closed order marks p s taken E t₁ sc₁ ac₁ J lt ls la)

          pub step-extends : ExtendsTaken g vs es x index targets column t sc ac closed marks out p taken → Extends g vs es x index targets column t₂ sc₂ ac₁ out q.records taken
          step-extends P =
              let f = P.input in
              extends f g vs es x index targets column P.branches P.closings t sc ac P.queue closed P.order marks p P.state taken P.all t₁ sc₁ ac₁
              (joined f P.branches P.closings P.queue P.order P.state P.all) lt ls la q t₂ sc₂ closed₂ marks₂
              (closed_on f P.branches P.closings P.queue P.order P.state P.all) lt₂ ls₂ out P.rows

          module _ (t₃ : List ℕ) (sc₃ : List Float) (ac₃ : List ℕ) where
            module _ (d : Result ℕ Refusal) (Z : Extensions g vs es x index targets column t₂ sc₂ ac₁ q.records taken d t₃ sc₃ ac₃) (f : SearchInput) (bs : ℕ → List Branches) (cl : ℕ → ℕ) (queue order : List ℕ)
                (s : State Float) (E : Extending f g vs es x index targets column bs cl t sc ac queue closed order marks p s taken) where
              abbrev C : ClosedOn f g es x index targets (joined f bs cl queue order s E).branches t₁ sc₁ ac₁ queue order p s taken q t₂ sc₂ closed₂ marks₂
              C = closed_on f bs cl queue order s E

              extended-by : Answers
                  (Run f g es x index targets C.branches t₂ sc₂ q.records taken.path t₃ sc₃ ac₃ 6 (extensions_at column taken.vertex f (path_of f es index targets C.branches t₂ sc₂ taken.path)))
                  (λ k. extensions_at column taken.vertex f (path_of f es index targets C.branches t₂ sc₂ taken.path) ≡ refused k) d
              extended-by =
                  Z.is f C.branches
                  (takes f g vs es x index targets column bs cl t sc ac queue closed order marks p s taken E t₁ sc₁ ac₁ (joined f bs cl queue order s E) lt ls la q t₂ sc₂ closed₂ marks₂ C lt₂ ls₂)

            pub step-extend-refused : (k : Refusal) → Extensions g vs es x index targets column t₂ sc₂ ac₁ q.records taken (Err k) t₃ sc₃ ac₃
                → TakenExtended g vs es x index targets column t sc ac closed marks p taken (Err k) t₃ sc₃ ac₃ closed₂ marks₂
            step-extend-refused k Z =
                record {
                  is = λ f bs cl queue order s E.
                      extend-refused f g vs es x index targets column bs cl t sc ac queue closed order marks p s taken E t₁ sc₁ ac₁ (joined f bs cl queue order s E) lt ls la q t₂ sc₂ closed₂ marks₂
                      (closed_on f bs cl queue order s E) lt₂ ls₂ (number k) (extended-by (Err k) Z f bs cl queue order s E);
                }

            pub step-made : (n : ℕ) → Extensions g vs es x index targets column t₂ sc₂ ac₁ q.records taken (Ok n) t₃ sc₃ ac₃
                → TakenExtended g vs es x index targets column t sc ac closed marks p taken (Ok (with_records q n)) t₃ sc₃ ac₃ closed₂ marks₂
            step-made n Z =
                record {
                  is = λ f bs cl queue order s E.
                      all_made f g vs es x index targets column bs cl t sc ac queue closed order marks p s taken E t₁ sc₁ ac₁ (joined f bs cl queue order s E) lt ls la q t₂ sc₂ closed₂ marks₂
                      (closed_on f bs cl queue order s E) lt₂ ls₂ n t₃ sc₃ ac₃ (extended-by (Ok n) Z f bs cl queue order s E);
                }
