-- The definition's `close_at`, by what close_path and cross_off tell.
use Rattle.std.specs.Prelude.{◌≡◌, true, false, List, [], ◌∷◌, ◌++◌, map, ℕ, suc, ◌<◌, ◌≤◌, set, Float}
use Rattle.std.proofs.Common.{arith, le-leb, eq-eqb, ne_eqb, length}
use Rattle.std.proofs.lemmas.Bool.{lt-leb}
use Rattle.definition.specs.Refusal.{ok, refused}
use Rattle.definition.specs.Threading.{Ends}
use Rattle.definition.specs.Evidence.{Branches}
use Rattle.definition.specs.Search.{SearchInput, State, close_at, cross_off, has_stopping_evidence}
use Rattle.definition.specs.Search as defs
use Rattle.path_growth.specs.declared.Taken.{Taken}
use Rattle.path_store.specs.Cells.{score_of, Inside, put_cells}
use Rattle.path_edges.specs.Path.{Table, Rooted, edges}
use Rattle.path_growth.specs.Grow.{closed_row, Following}
use Rattle.path_growth.specs.Link.{Agrees}
use Rattle.path_growth.specs.View.{view_of, closed_of, closed-length, closed-view}

module _ (f : SearchInput) (ends : ℕ → Ends) (index targets : List ℕ) (A : Agrees f index targets ends) (t : List ℕ) (sc : List Float) (n : ℕ) (taken : Taken) (T : Table index targets t sc n)
    (R : Rooted index targets f.source t n) (I : Inside t sc n) (K : taken.path < n) (F : Following index targets t taken.path taken) (bs : List Branches) (v : ℕ) (s : State Float) where
  -- the chain after the path, as the definition has it
  abbrev pub chain_after : List Ends
  chain_after = defs.chain f (defs.end_from f.source (map ends (edges index targets t taken.path)))

  -- elsewhere than at the sink nothing closes
  pub close-elsewhere : (v ≡ f.sink → ⊥) → close_at f v (view_of f ends index targets bs t sc taken.path) chain_after s ≡ ok s
  unfolding close_at
  close-elsewhere h = rw (ne_eqb v f.sink h, close_at)

  module _ (h : v ≡ f.sink) where
    -- "closed or not", the path's edges are no longer pivotal
    pub close-kept : has_stopping_evidence f bs ≡ false
        → close_at f v (view_of f ends index targets bs t sc taken.path) chain_after s
        ≡ ok (record { waiting = s.waiting; closed = s.closed; pivotal = cross_off (map ends (edges index targets t taken.path)) s.pivotal; pushes = s.pushes; longest = s.longest })
    unfolding close_at
    close-kept e = rw (eq-eqb v f.sink h, e, close_at)

    pub close-over : has_stopping_evidence f bs ≡ true → f.path_edges < (closed_row t sc taken).edges
        → close_at f v (view_of f ends index targets bs t sc taken.path) chain_after s ≡ refused 11
    unfolding close_at
    close-over e g =
        let k : length (map ends (edges index targets t taken.path) ++ chain_after) ≡ (closed_row t sc taken).edges = closed-length f ends index targets A t sc n taken T R I K F in
        rw (eq-eqb v f.sink h, e, lt-leb (length (map ends (edges index targets t taken.path) ++ chain_after)) f.path_edges (omega arith), close_at)

    pub close-made : has_stopping_evidence f bs ≡ true → (closed_row t sc taken).edges ≤ f.path_edges
        → close_at f v (view_of f ends index targets bs t sc taken.path) chain_after s
        ≡ ok
        (record {
          waiting = s.waiting;
          closed = s.closed ++ closed_of ends index targets (put_cells t n (closed_row t sc taken)) (set sc n (score_of sc taken.path)) (suc (length s.closed)) n ∷ [];
          pivotal = cross_off (map ends (edges index targets t taken.path)) s.pivotal;
          pushes = s.pushes;
          longest = s.longest;
        })
    unfolding close_at
    close-made e g =
        let k : length (map ends (edges index targets t taken.path) ++ chain_after) ≡ (closed_row t sc taken).edges = closed-length f ends index targets A t sc n taken T R I K F in
        rw
        (eq-eqb v f.sink h, e, le-leb (length (map ends (edges index targets t taken.path) ++ chain_after)) f.path_edges (omega arith), close_at, closed-view f ends index targets A t sc n taken T R I K F (suc (length s.closed)))
