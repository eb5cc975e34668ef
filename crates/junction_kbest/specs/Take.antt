-- The path that was taken: dropped where it has too many decisions since guidance, else its chain is followed and it is extended.
use Rattle.std.specs.Prelude.{◌≡◌, refl, true, Result, Ok, List, map, ℕ, ◌-◌, ◌<◌, ◌≤◌, length, Float}
use Rattle.std.proofs.Common.{sym, subst, ◌∙◌, ap, arith}
use Rattle.definition.specs.Limits.{column_fits}
use Rattle.definition.specs.Score.{column_scoring}
use Rattle.definition.specs.Evidence.{Branches}
use Rattle.definition.specs.Search.{SearchInput, Path, State, Made, made, extend_at, take_path}
use Rattle.definition.specs.Search as defs
use Rattle.tables.specs.Widths.{offer_numbers}
use Rattle.path_store.specs.declared.records.PathRecord.{PathRecord}
use Rattle.path_growth.specs.declared.Taken.{Taken}
use Rattle.path_store.specs.Cells.{end_of, since_of, path_at}
use Rattle.path_edges.specs.Path.{edges}
use Rattle.path_growth.specs.Grow.{Following}
use Rattle.path_growth.specs.Held.{following-own}
use Rattle.path_growth.specs.Link.{chain_same, end_same}
use Rattle.path_store.specs.Walk.{run, end-run}
use Rattle.search_state.specs.Settings.{Setting}
use Rattle.search_state.specs.declared.Progress.{Progress}
use Rattle.refusals.specs.declared.Refusal.{Refusal}
use Rattle.search_state.specs.Ground.{Ground, name_of}
use Rattle.search_state.specs.State.{path_of, Idle, Holds, Apart, up_from}
use Rattle.path_closing.specs.Closes.{chain_after}
use Rattle.turn_rules.specs.Rules.{first_new}
use Rattle.junction_kbest.specs.Turn.{take-drops, take-extends}
use Rattle.junction_kbest.specs.Extend.{Roomy, Extending, MakesBy, extended_at, TakenExtended}

-- ---- what the contract says

-- the stores as a search f has them, once the path is taken
pub record Going (f : SearchInput) (g : Setting) (vs es x index targets : List ℕ) (column : List Float) (bs : ℕ → List Branches) (closing : ℕ → ℕ) (t : List ℕ) (sc : List Float) (ac queue closed order marks : List ℕ)
    (p : Progress) (s : State Float) (path : ℕ) : Type 0 where
  pub on_ground : Ground f g vs es x index targets
  pub fits : column_fits column ≡ true
  pub holds : Holds f g es x index targets bs closing t sc ac queue closed order marks p s
  pub idle : Idle t p.records path
  pub apart : Apart sc queue p.waiting path
  pub roomy : Roomy g t sc ac closed p

pub record TakesPath (g : Setting) (vs es x index targets : List ℕ) (column : List Float) (t : List ℕ) (sc : List Float) (ac closed marks out : List ℕ) (p : Progress) (path : ℕ) : Type 0 where
  pub input : SearchInput
  pub branches : ℕ → List Branches
  pub closings : ℕ → ℕ
  pub queue : List ℕ
  pub order : List ℕ
  pub state : State Float
  pub all : Going input g vs es x index targets column branches closings t sc ac queue closed order marks p state path
  pub rows : offer_numbers ≤ length out

pub record PathTaken (g : Setting) (vs es x index targets : List ℕ) (column : List Float) (t : List ℕ) (sc : List Float) (ac closed marks : List ℕ) (p : Progress) (path : ℕ) (r : Result Progress Refusal) (t' : List ℕ) (sc' : List Float)
    (ac' closed' marks' : List ℕ) : Type 0 where
  pub is : (f : SearchInput) (bs : ℕ → List Branches) (closings : ℕ → ℕ) (queue order : List ℕ) (s : State Float)
      → Going f g vs es x index targets column bs closings t sc ac queue closed order marks p s path
      → MakesBy f g es x index targets queue order p r (take_path (column_scoring column) f (path_of f es index targets bs t sc path) s) t' sc' ac' closed' marks'

-- ---- where the chain leads
pub vertex-is : (f : SearchInput) (g : Setting) (vs es x index targets : List ℕ) (bs : ℕ → List Branches) (cl : ℕ → ℕ) (t : List ℕ) (sc : List Float) (ac queue closed order marks : List ℕ) (p : Progress) (s : State Float)
    (taken : Taken) → Ground f g vs es x index targets → Holds f g es x index targets bs cl t sc ac queue closed order marks p s → taken.path < p.records → Following index targets t taken.path taken
    → defs.end_from (defs.end_from f.source (map (name_of es) (edges index targets t taken.path))) (defs.chain f (defs.end_from f.source (map (name_of es) (edges index targets t taken.path)))) ≡ taken.vertex
vertex-is f g vs es x index targets bs cl t sc ac queue closed order marks p s taken G H l F =
    let A = G.agrees in
    let n = name_of es in
    let u = end_of t taken.path in
    let a : defs.end_from f.source (map n (edges index targets t taken.path)) ≡ u =
    sym (end_same f index targets n A f.source (edges index targets t taken.path)) ∙ sym (H.records.held.rooted taken.path l)
    in
    let b : defs.chain f u ≡ map n (run index targets u taken.chain) = sym (chain_same f index targets n A u) ∙ ap (λ (c : List ℕ). map n c) F.chain.is in
    ap (λ (w : ℕ). defs.end_from w (defs.chain f w)) a
    ∙ ap (defs.end_from u) b
    ∙ sym (end_same f index targets n A u (run index targets u taken.chain))
    ∙ end-run index targets u taken.chain
    ∙ sym F.vertex

-- ---- the steps
module _ (g : Setting) (vs es x index targets : List ℕ) (column : List Float) (t : List ℕ) (sc : List Float) (ac closed marks : List ℕ) (p : Progress) (path : ℕ) where
  -- too many decisions since guidance
  pub path-dropped : (row : PathRecord) → row ≡ path_at t sc path → 5 < row.since → PathTaken g vs es x index targets column t sc ac closed marks p path (Ok p) t sc ac closed marks
  unfolding up_from
  path-dropped row e h =
      record {
        is = λ f bs cl queue order s G.
            (let d : 5 < since_of t path = rw (ap (λ (r : PathRecord). r.since) e) at h in
            let z : first_new p p ≡ p.records = omega arith in
            let y : p.records - first_new p p ≡ 0 = omega arith in
            record {
              branches = bs;
              closings = cl;
              state = s;
              is = take-drops (column_scoring column) f (path_of f es index targets bs t sc path) s d ∙ ap (λ (n : ℕ). made s (map (path_of f es index targets bs t sc) (up_from (first_new p p) n))) (sym y);
              holds = G.holds;
              new = λ q a b. absurd (omega arith);
              further =
                  record {
                    low = omega arith;
                    high = omega arith;
                    closed-low = omega arith;
                    closed-high = omega arith;
                    waiting = refl;
                    next = refl;
                    pivotal = refl;
                    pushes = refl;
                    mark = refl;
                  };
            });
      }

  -- the chain is followed
  module _ (row : PathRecord) (e : row ≡ path_at t sc path) (h : row.since ≤ 5) (taken : Taken) (F : Following index targets t path taken) where
    extending : (f : SearchInput) (bs : ℕ → List Branches) (cl : ℕ → ℕ) (queue order : List ℕ) (s : State Float) → Going f g vs es x index targets column bs cl t sc ac queue closed order marks p s path
        → Extending f g vs es x index targets column bs cl t sc ac queue closed order marks p s taken
    extending f bs cl queue order s G =
        let q = F.path in
        let d : since_of t path ≤ 5 = rw (ap (λ (r : PathRecord). r.since) e) at h in
        record {
          on_ground = G.on_ground;
          fits = G.fits;
          holds = G.holds;
          idle = rw q G.idle;
          apart = rw q G.apart;
          following = following-own index targets t path taken F;
          guided = rw q d;
          roomy = G.roomy;
        }

    wanted : (f : SearchInput) (bs : ℕ → List Branches) (cl : ℕ → ℕ) (queue order : List ℕ) (s : State Float) → Going f g vs es x index targets column bs cl t sc ac queue closed order marks p s path
        → extended_at column f es index targets bs t sc taken s ≡ take_path (column_scoring column) f (path_of f es index targets bs t sc path) s
    wanted f bs cl queue order s G =
        let q = F.path in
        let d : since_of t path ≤ 5 = rw (ap (λ (r : PathRecord). r.since) e) at h in
        let own = following-own index targets t path taken F in
        let k : taken.path < p.records = rw q G.idle.known in
        let view : ℕ → Path Float = λ r. path_of f es index targets bs t sc r in
        let z = vertex-is f g vs es x index targets bs cl t sc ac queue closed order marks p s taken G.on_ground G.holds k own in
        ap (λ (v : ℕ). extend_at (column_scoring column) f (view taken.path) (chain_after f (view taken.path)) v s) (sym z)
        ∙ ap (λ (r : ℕ). extend_at (column_scoring column) f (view r) (chain_after f (view r)) (defs.end_from (defs.end_from f.source (view r).edges) (chain_after f (view r))) s) q
        ∙ sym (take-extends (column_scoring column) f (view path) s d)

    pub path-extended : (r : Result Progress Refusal) (t' : List ℕ) (sc' : List Float) (ac' closed' marks' : List ℕ)
        → TakenExtended g vs es x index targets column t sc ac closed marks p taken r t' sc' ac' closed' marks' → PathTaken g vs es x index targets column t sc ac closed marks p path r t' sc' ac' closed' marks'
    path-extended r t' sc' ac' closed' marks' X =
        record {
          is = λ f bs cl queue order s G.
              subst (λ (w : Made Float). MakesBy f g es x index targets queue order p r w t' sc' ac' closed' marks') (wanted f bs cl queue order s G)
              (X.is f bs cl queue order s (extending f bs cl queue order s G));
        }
