-- How many paths wait and have closed, by the state's lists.
use Rattle.std.specs.Prelude.{◌≡◌, refl, Bool, cond, List, [], ◌∷◌, ℕ, eqb, length, take, Float}
use Rattle.std.proofs.Common.{sym, ap, ◌∙◌, arith, eq-eqb, ne_eqb, length-take-le}
use Rattle.std.proofs.lemmas.List.{length-map}
use Rattle.laws.specs.Lists.{is_empty}
use Rattle.definition.specs.Search.{SearchInput, Path, Closed, State}
use Rattle.definition.specs.Evidence.{Branches}
use Rattle.path_heap.specs.Heap.{waiting, waiting-length}
use Rattle.search_state.specs.Settings.{Setting}
use Rattle.search_state.specs.declared.Progress.{Progress}
use Rattle.search_state.specs.State.{path_of, closed_record, Holds}
use Rattle.junction_kbest.specs.Turn.{most_waiting}

module _ {f : SearchInput} {g : Setting} {es x index targets : List ℕ} {bs : ℕ → List Branches} {closing : ℕ → ℕ} {t : List ℕ} {sc : List Float} {ac queue closed order marks : List ℕ} {p : Progress}
    {s : State Float} (H : Holds f g es x index targets bs closing t sc ac queue closed order marks p s) where
  pub waiting-many : length s.waiting ≡ p.waiting
  waiting-many =
      ap (λ (l : List (Path Float)). length l) H.waiting
      ∙ length-map (waiting sc queue p.waiting) (path_of f es index targets bs t sc)
      ∙ waiting-length sc queue p.waiting

  pub closed-many : length s.closed ≡ p.closed
  closed-many =
      ap (λ (l : List (Closed Float)). length l) H.closed_is
      ∙ length-map (take p.closed closed) (closed_record es index targets closing t sc)
      ∙ length-take-le p.closed closed H.closed-room

  empty-is : (n : ℕ) (cs : List (Closed Float)) → length cs ≡ n → is_empty cs ≡ eqb n 0
  empty-is n [] e = sym (eq-eqb n 0 (sym e))
  empty-is n (c ∷ cs) e = sym (ne_eqb n 0 (λ z. omega arith))

  pub most-waiting : most_waiting s.closed ≡ cond (eqb p.closed 0) 1000 10000
  most-waiting = ap (λ (b : Bool). cond b 1000 10000) (empty-is p.closed s.closed closed-many)

  pub none-wait : p.waiting ≡ 0 → s.waiting ≡ []
  none-wait h = go s.waiting (waiting-many ∙ h)
    where
      go : (l : List (Path Float)) → length l ≡ 0 → l ≡ []
      go [] e = refl
      go (x ∷ l) e = absurd (omega arith)
