-- A vertex where chains stop stands in a chain nowhere but at its end, so that a path's visits to it are counted without walking its chains.
use Rattle.std.specs.Prelude.{◌≡◌, Bool, true, false, cond, eqb, get_or, length, Option, Some, None, option_to_list, Float}
use Rattle.path_store.specs.declared.upward.Link.{Link}
use Rattle.std.proofs.Common.{◌∙◌, arith, ne_eqb, refl, sym, ap, List, [], ℕ, zero, suc, ◌+◌, ◌-◌, ◌<◌, ◌≤◌}
use Rattle.path_store.specs.Walk.{hits, run, after, Runs, sole, next, hits-nil, hits-step, hits-le}
use Rattle.path_store.specs.Cells.{numbered, chain_of, edge_of, end_of, fork_of}
use Rattle.path_edges.specs.Path.{last_edge, last-listed, Piece, piece_of, piece-hits, piece-up}

-- how often v stands in a chain of c edges that leads to w, where chains stop at v
pub fork_hits : ℕ → ℕ → ℕ → ℕ
fork_hits v zero w = 0
fork_hits v (suc c) w = cond (eqb v w) 1 0

-- the same of all edges that the record r adds
pub stop_hits : List ℕ → ℕ → List ℕ → ℕ → ℕ
stop_hits targets v t r = fork_hits v (chain_of t r) (fork_of t r) + hits targets v (last_edge (edge_of t r))

pub fork-none : (v c w : ℕ) → c ≡ 0 → 0 ≡ fork_hits v c w
unfolding fork_hits
fork-none v c w h = rw (h, fork_hits)

fork-suc : (v c w : ℕ) → cond (eqb v w) 1 0 ≡ fork_hits v (suc c) w
unfolding fork_hits
fork-suc v c w = refl

pub fork-some : (v c w : ℕ) → (c ≡ 0 → ⊥) → cond (eqb v w) 1 0 ≡ fork_hits v c w
fork-some v c w h = let e : suc (c - 1) ≡ c = omega arith in fork-suc v (c - 1) w ∙ ap (λ x. fork_hits v x w) e

fork-most : (v c w : ℕ) → fork_hits v c w ≤ 1
unfolding fork_hits
fork-most v zero w = omega arith
fork-most v (suc c) w = go (eqb v w)
  where
    go : (b : Bool) → cond b 1 0 ≤ 1
    go true = omega arith
    go false = omega arith

pub stop_is : (targets : List ℕ) (v : ℕ) (t : List ℕ) (r c w : ℕ) (o : Option ℕ) (a b : ℕ) → c ≡ chain_of t r → w ≡ fork_of t r → o ≡ numbered (edge_of t r)
    → a ≡ fork_hits v c w → b ≡ hits targets v (option_to_list o) → a + b ≡ stop_hits targets v t r
unfolding stop_hits
stop_is targets v t r c w o a b C W O A B = rw (A, B, C, W, last-listed (edge_of t r) o O)

pub stop-fits : (targets : List ℕ) (v c w : ℕ) (o : Option ℕ) (a b : ℕ) → a ≡ fork_hits v c w → b ≡ hits targets v (option_to_list o) → a + b ≤ 2
stop-fits targets v c w o a b A B = omega (arith, fork-most v c w, hits-le targets v (option_to_list o), one-most o)
  where
    one-most : (o : Option ℕ) → length (option_to_list o) ≤ 1
    one-most None = omega arith
    one-most (Some e) = omega arith

module _ (index targets : List ℕ) (v : ℕ) (stop : get_or index v 0 ≡ 0) where
  -- a vertex that a chain goes on from is not v
  apart : (u : ℕ) → 0 < get_or index u 0 → ◌≡◌ {A = ℕ} (cond (eqb v u) 1 0) 0
  apart u h = rw (ne_eqb v u (λ (e : v ≡ u). absurd (omega (arith, ap (λ x. get_or index x 0) e))))

  run-hits : (u c : ℕ) → Runs index targets u c → hits targets v (run index targets u c) ≡ fork_hits v c (after index targets u c)
  unfolding run after Runs
  run-hits u zero r = hits-nil targets v ∙ fork-none v 0 u refl
  run-hits u (suc zero) r = hits-step targets v (sole index u) [] ∙ omega (arith, hits-nil targets v) ∙ fork-suc v 0 (next index targets u)
  run-hits u (suc (suc c)) r =
      hits-step targets v (sole index u) (run index targets (next index targets u) (suc c))
      ∙ omega (arith, apart (next index targets u) r.1.0, run-hits (next index targets u) (suc c) r.1)
      ∙ sym (fork-suc v c (after index targets (next index targets u) (suc c)))
      ∙ fork-suc v (suc c) (after index targets (next index targets u) (suc c))

  pub stop-piece : (t : List ℕ) (sc : List Float) (p : Link) (k : ℕ) → Piece index targets t sc p → k ≡ stop_hits targets v t p.path
      → k ≡ hits targets v (piece_of index targets t p.path)
  unfolding stop_hits
  stop-piece t sc p k P h =
      h
      ∙ ap (λ x. x + hits targets v (last_edge (edge_of t p.path)))
      (ap (λ x. fork_hits v (chain_of t p.path) x) P.forks ∙ sym (run-hits (end_of t p.parent) (chain_of t p.path) P.runs))
      ∙ sym (piece-hits index targets (end_of t p.parent) (chain_of t p.path) (edge_of t p.path) v)
      ∙ ap (λ x. hits targets v x) (piece-up P)
