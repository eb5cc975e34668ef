-- What settings within the limits are at most.
use Rattle.std.specs.Prelude.{◌≡◌, ℕ, ◌+◌, ◌*◌, ◌≤◌, max, Bool, true, ◌&&◌, leb}
use Rattle.std.proofs.Common.{sym, ◌∙◌, mul-le-mul, arith, Fits, leb-true}
use Rattle.std.specs.Int.{w64}
use Rattle.laws.specs.ListLaws.{and_left, and_right}
use Rattle.laws.specs.Numbers.{within}
use Rattle.definition.specs.Refusal.{first_broken}
use Rattle.definition.specs.Limits.{GraphMaxima, SearchMaxima, k_fits, graph_maxima_fit, search_maxima_fit, settings_fit, lengths_rules}
use Rattle.tables.specs.Widths.{queued_numbers, offer_numbers}
use Rattle.limits.specs.Rules.{none-broken}
use Rattle.slice_lengths.specs.Workspaces.{open_trees, path_walks}

pub record InLimits (asked : ℕ) (g : GraphMaxima) (s : SearchMaxima) : Type 0 where
  pub asked-most : asked ≤ 128
  pub vertices-most : g.vertices ≤ 4096
  pub edges_most : g.edges ≤ 8192
  pub nodes-most : g.nodes ≤ 16384
  pub path-edges-most : s.path_edges ≤ 4096
  pub active-most : s.active ≤ 64
  pub pushes-most : s.pushes ≤ 32768

most : (low high n : ℕ) → within low high n ≡ true → n ≤ high
most low high n e = leb-true n high (and_right (leb low n) (leb n high) e)

-- the three parts of a test
module _ (a b c : Bool) (e : (a && b && c) ≡ true) where
  part-1 : a ≡ true
  part-1 = and_left a b (and_left (a && b) c e)

  part-2 : b ≡ true
  part-2 = and_right a b (and_left (a && b) c e)

  part-3 : c ≡ true
  part-3 = and_right (a && b) c e

pub k-most : (k : ℕ) → k_fits k ≡ true → k ≤ 128
unfolding k_fits
k-most k e = most 2 128 k e

pub settings-most : (asked : ℕ) (g : GraphMaxima) (s : SearchMaxima) → settings_fit asked g s ≡ true → InLimits asked g s
unfolding settings_fit graph_maxima_fit search_maxima_fit
settings-most asked g s e =
    let eg = part-2 (leb asked 128) (graph_maxima_fit g) (search_maxima_fit s) e in
    let es = part-3 (leb asked 128) (graph_maxima_fit g) (search_maxima_fit s) e in
    record {
      asked-most = leb-true asked 128 (part-1 (leb asked 128) (graph_maxima_fit g) (search_maxima_fit s) e);
      vertices-most = most 2 4096 g.vertices (part-1 (within 2 4096 g.vertices) (within 1 8192 g.edges) (within 1 16384 g.nodes) eg);
      edges_most = most 1 8192 g.edges (part-2 (within 2 4096 g.vertices) (within 1 8192 g.edges) (within 1 16384 g.nodes) eg);
      nodes-most = most 1 16384 g.nodes (part-3 (within 2 4096 g.vertices) (within 1 8192 g.edges) (within 1 16384 g.nodes) eg);
      path-edges-most = most 1 4096 s.path_edges (part-1 (within 1 4096 s.path_edges) (within 1 64 s.active) (within 1 32768 s.pushes) es);
      active-most = most 1 64 s.active (part-2 (within 1 4096 s.path_edges) (within 1 64 s.active) (within 1 32768 s.pushes) es);
      pushes-most = most 1 32768 s.pushes (part-3 (within 1 4096 s.path_edges) (within 1 64 s.active) (within 1 32768 s.pushes) es);
    }

-- ---- products of two settings

pub max-le : (a b c : ℕ) → a ≤ c → b ≤ c → max a b ≤ c
max-le a b c h k = omega arith

module _ (asked : ℕ) (g : GraphMaxima) (s : SearchMaxima) (most : InLimits asked g s) where
  pub active-places : (s.pushes + asked + 8) * s.active ≤ 2105856
  active-places = let h : (s.pushes + asked + 8) * s.active ≤ 32904 * 64 = mul-le-mul {n₂ = 32904} (omega arith) most.active-most in omega arith

  pub path-places : asked * s.path_edges ≤ 524288
  path-places = let h : asked * s.path_edges ≤ 128 * 4096 = mul-le-mul most.asked-most most.path-edges-most in omega arith

  pub base-places : (k : ℕ) → k ≤ 128 → asked * (k + s.path_edges) ≤ 540672
  base-places k h = let p : asked * (k + s.path_edges) ≤ 128 * 4224 = mul-le-mul {m₂ = 4224} most.asked-most (omega arith) in omega arith

  pub walk-places : path_walks asked g s ≤ 524288
  walk-places =
      max-le (open_trees g) (max (queued_numbers g.edges) (max offer_numbers (asked * s.path_edges))) 524288 (omega (arith, most.nodes-most))
      (max-le (queued_numbers g.edges) (max offer_numbers (asked * s.path_edges)) 524288 (omega (arith, most.edges_most)) (max-le offer_numbers (asked * s.path_edges) 524288 (omega arith) path-places))

  -- so the code's products do not wrap
  pub active-fits : Fits w64 ((s.pushes + asked + 8) * s.active)
  active-fits = let h = active-places in omega arith

  pub origins-fit : Fits w64 (asked * s.path_edges)
  origins-fit = let h = path-places in omega arith

  pub bases-fit : (k : ℕ) → k ≤ 128 → Fits w64 (asked * (k + s.path_edges))
  bases-fit k l = let h = base-places k l in omega arith

-- ---- settings that the call for lengths accepts

pub accepted : (k asked : ℕ) (g : GraphMaxima) (s : SearchMaxima) → first_broken (lengths_rules k asked g s) ≡ 0 → (k ≤ 128) × InLimits asked g s
unfolding lengths_rules
accepted k asked g s e =
    let p = none-broken (lengths_rules k asked g s) (omega arith, (omega arith, tt)) e in
    (k-most k p.0, settings-most asked g s p.1.0)

-- n is what the code's check answered
pub accepted-by : (k asked : ℕ) (g : GraphMaxima) (s : SearchMaxima) (n : ℕ) → n ≡ first_broken (lengths_rules k asked g s) → n ≤ 0 → (k ≤ 128) × InLimits asked g s
accepted-by k asked g s n e h = accepted k asked g s (let z : n ≡ 0 = omega arith in sym e ∙ z)
