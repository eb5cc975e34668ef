-- The extension by the only edge that leaves a vertex.
use Rattle.std.specs.Prelude.{Ok, Err, ◌≡◌, refl, Bool, true, false, not, ◌||◌, List, [], ◌∷◌, map, ℕ, ◌+◌, ◌*◌, ◌<◌, eqb, leb, length, Float}
use Rattle.std.proofs.Common.{sym, ap, subst, ◌∙◌, arith}
use Rattle.laws.specs.Lists.{is_empty}
use Rattle.definition.specs.Refusal.{Result, ok, refused, and_then}
use Rattle.definition.specs.Score.{Scoring}
use Rattle.definition.specs.Evidence.{Branches}
use Rattle.definition.specs.Search.{SearchInput, Path, lengthen, extensions}
use Rattle.definition.specs.Search as defs
use Rattle.assembly.specs.Store.{edge_at}
use Rattle.fork_offers.specs.Actives.{actives-many}
use Rattle.path_growth.specs.declared.Taken.{Taken}
use Rattle.path_store.specs.Walk.{times}
use Rattle.path_store.specs.Cells.{trees_of, score_of}
use Rattle.path_edges.specs.Path.{edges}
use Rattle.path_growth.specs.View.{times-view}
use Rattle.search_state.specs.Settings.{Setting}
use Rattle.search_state.specs.Ground.{name_of}
use Rattle.search_state.specs.State.{path_of}
use Rattle.path_extensions.specs.declared.Way.{Way}
use Rattle.path_extensions.specs.Made.{Here, made_none}
use Rattle.path_extensions.specs.One.{Extended, Run, Answers, Wanted, chain_of, Gives, Place, Stands, Lengthens, lengthened, empty-is}

-- ---- whether the path goes on: it has an active tree, or the vertex stands in it at most once
abbrev pub goes_on : List ℕ → List ℕ → List ℕ → ℕ → ℕ → Bool
goes_on index targets t path v = not (eqb (trees_of t path) 0) || leb (times targets 0 v (edges index targets t path)) 1

-- ---- the extension

pub record AloneStands (g : Setting) (es x index targets t : List ℕ) (sc : List Float) (ac : List ℕ) (n : ℕ) (taken : Taken) (edge : ℕ) : Type 0 where
  pub stands : Stands g es x index targets t sc ac n taken
  pub place : Place g t sc ac n
  pub edge_in : edge < g.edges

-- what the definition wants of a single edge
abbrev pub alone : List ℕ → ℕ → ℕ → Wanted
alone es v edge f p =
    elim (not (is_empty p.active) || leb (defs.times v (defs.vertices_from f.source p.edges)) 1)
    [ true ↦ and_then (lengthen f p (chain_of f p) (name_of es edge) p.score false true) (λ q. ok (q ∷ [])) | false ↦ ok [] ]

pub alone-is : (𝓢 : Scoring Float) (es : List ℕ) (v edge : ℕ) (f : SearchInput) (p : Path Float) → extensions 𝓢 f p (chain_of f p) v (edge_at es edge ∷ []) ≡ alone es v edge f p
unfolding extensions
alone-is 𝓢 es v edge f p = refl

alone-on : (es : List ℕ) (v edge : ℕ) (f : SearchInput) (p : Path Float) → (not (is_empty p.active) || leb (defs.times v (defs.vertices_from f.source p.edges)) 1) ≡ true
    → alone es v edge f p ≡ and_then (lengthen f p (chain_of f p) (name_of es edge) p.score false true) (λ q. ok (q ∷ []))
alone-on es v edge f p h = rw (h, alone)

alone-off : (es : List ℕ) (v edge : ℕ) (f : SearchInput) (p : Path Float) → (not (is_empty p.active) || leb (defs.times v (defs.vertices_from f.source p.edges)) 1) ≡ false
    → alone es v edge f p ≡ ok []
alone-off es v edge f p h = rw (h, alone)

module _ {g : Setting} {es x index targets t : List ℕ} {sc : List Float} {ac : List ℕ} {n : ℕ} {taken : Taken} {edge : ℕ} (A : AloneStands g es x index targets t sc ac n taken edge) where
  module _ (f : SearchInput) (bs : ℕ → List Branches) (H : Here g es x index targets t sc ac n taken f bs) where
    abbrev p : Path Float
    p = path_of f es index targets bs t sc taken.path

    goes-is : goes_on index targets t taken.path taken.vertex ≡ (not (is_empty p.active) || leb (defs.times taken.vertex (defs.vertices_from f.source p.edges)) 1)
    goes-is =
        let m : length (bs taken.path) ≡ trees_of t taken.path
        = (let h = actives-many g.cap g.nodes x ac (taken.path * g.active) (taken.path * g.active + trees_of t taken.path) (bs taken.path) (H.records.actives taken.path H.known) in omega arith) in
        let a : is_empty (bs taken.path) ≡ eqb (trees_of t taken.path) 0 = empty-is (bs taken.path) (trees_of t taken.path) m in
        let b : times targets 0 taken.vertex (edges index targets t taken.path) ≡ defs.times taken.vertex (defs.vertices_from f.source (map (name_of es) (edges index targets t taken.path))) =
        ap (λ (s : ℕ). times targets s taken.vertex (edges index targets t taken.path)) (sym H.on_ground.source) ∙ times-view f (name_of es) index targets H.on_ground.agrees t taken.path taken.vertex
        in
        ap (λ (z : Bool). not z || leb (times targets 0 taken.vertex (edges index targets t taken.path)) 1) (sym a) ∙ ap (λ (k : ℕ). not (is_empty (bs taken.path)) || leb k 1) b

  module _ {r : Bool} (hr : r ≡ goes_on index targets t taken.path taken.vertex) where
    pub alone-ends : r ≡ false → Gives g es x index targets t sc ac n taken 6 (alone es taken.vertex edge) (Ok n) t sc ac
    alone-ends h =
        record {
          is = λ f bs H.
              record {
                paths = [];
                is = alone-off es taken.vertex edge f (path_of f es index targets bs t sc taken.path) (sym (goes-is f bs H) ∙ sym hr ∙ h);
                made = made_none f g es x index targets bs t sc n ac taken.path H.records;
                most = omega arith;
              };
        }

    module _ (h : r ≡ true) where
      abbrev only : Way
      only = record { edge = edge; score = score_of sc taken.path; guided = false; free = true }

      pub alone-asks : Lengthens g es x index targets t sc ac n taken only
      alone-asks =
          record {
            stands = A.stands;
            place = A.place;
            edge = A.edge_in;
            score = A.stands.here.records.number taken.path A.stands.here.known;
          }

      pub alone-made : {s : Extended} {t' : List ℕ} {sc' : List Float} {ac' : List ℕ} → Gives g es x index targets t sc ac n taken 1 (lengthened es only) s t' sc' ac'
          → Gives g es x index targets t sc ac n taken 6 (alone es taken.vertex edge) s t' sc' ac'
      alone-made {s} {t'} {sc'} {ac'} G =
          record {
            is = λ f bs H.
                wider f bs s
                (subst (λ (want : Result (List (Path Float))). Answers (Run f g es x index targets bs t sc n taken.path t' sc' ac' 1 want) (λ k. want ≡ refused k) s)
                (sym (alone-on es taken.vertex edge f (path_of f es index targets bs t sc taken.path) (sym (goes-is f bs H) ∙ sym hr ∙ h))) (G.is f bs H));
          }
        where
          wider : (f : SearchInput) (bs : ℕ → List Branches) (s : Extended)
              → Answers (Run f g es x index targets bs t sc n taken.path t' sc' ac' 1 (alone es taken.vertex edge f (path_of f es index targets bs t sc taken.path)))
              (λ k. alone es taken.vertex edge f (path_of f es index targets bs t sc taken.path) ≡ refused k) s
              → Answers (Run f g es x index targets bs t sc n taken.path t' sc' ac' 6 (alone es taken.vertex edge f (path_of f es index targets bs t sc taken.path)))
              (λ k. alone es taken.vertex edge f (path_of f es index targets bs t sc taken.path) ≡ refused k) s
          wider f bs (Ok m) R = record { paths = R.paths; is = R.is; made = R.made; most = let z = R.most in omega arith }
          wider f bs (Err k) R = R
