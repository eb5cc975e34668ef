-- The tables of the chains: `index`, at a vertex the number plus 1 of the edge by which a path goes on from it without a decision, else 0; `targets`, at an
-- edge its target. Assumes nothing.
use Rattle.std.specs.Prelude.{◌≡◌, refl, ◌≢◌, List, ◌∷◌, true, false, Option, Some, None, is_some, ℕ, zero, suc, ◌+◌, ◌-◌, ◌<◌, ◌≤◌, length, get_or}
use Rattle.std.proofs.Common.{ap, ◌∙◌, arith}
use Rattle.std.proofs.Math.Option.{none, some}
use Rattle.laws.specs.Lists.{sole}
use Rattle.definition.specs.Threading.{Edge, leaving}
use Rattle.assembly.specs.Fields.{HasVertices, tree_root, edge_to}
use Rattle.assembly.specs.Store.{edge_at, edges_of}
use Rattle.out_edges.specs.Outs.{Nexts}
use Rattle.threading_node.specs.Links.{slot_at}
use Rattle.pivotal_edges.specs.Walk.{Linked, Here, leaving-none, leaving-some, next-none, next-some, next-in, next-again}

-- ---- one vertex

-- by the answer, 0 or the number plus 1 of the only edge that leaves v, which has no tree and is not the sink
pub record Sole (vs es : List ℕ) (m sink v r : ℕ) : Type 0 where
  pub bare : 0 < r → tree_root vs v ≡ 0
  pub inner : 0 < r → v ≢ sink
  pub known : r ≤ m
  pub is : 0 < r → sole (leaving (edges_of es m) v) ≡ some (edge_at es (r - 1))
  pub none : r ≡ 0 → tree_root vs v ≡ 0 → v ≢ sink → sole (leaving (edges_of es m) v) ≡ none

module _ (vs es : List ℕ) (m sink v : ℕ) where
  nothing : (tree_root vs v ≡ 0 → v ≢ sink → sole (leaving (edges_of es m) v) ≡ none) → Sole vs es m sink v 0
  nothing h = record { bare = λ z. absurd (omega arith); inner = λ z. absurd (omega arith); known = omega arith; is = λ z. absurd (omega arith); none = λ z. h }

  module _ {root : Option ℕ} (e : root ≡ slot_at (tree_root vs v)) where
    no-tree : is_some root ≡ false → tree_root vs v ≡ 0
    no-tree = go (tree_root vs v) e
      where
        go : (l : ℕ) → root ≡ slot_at l → is_some root ≡ false → l ≡ 0
        go zero z h = refl
        go (suc l) z h = absurd (let w : is_some root ≡ true = ap is_some z in let y : ◌≡◌ {A = ℕ} 0 1 = cc in omega arith)

  module _ (k : Here vs es m v) where
    pub sole-empty : Nexts es m v 0 None → Sole vs es m sink v 0
    sole-empty x = nothing (λ a b. ap sole (leaving-none k x))

    module _ {i : ℕ} (x : Nexts es m v 0 (Some i)) {w : ℕ} (e : w ≡ edge_to es i + 1) where
      pub sole-one : v ≢ sink → {root : Option ℕ} → root ≡ slot_at (tree_root vs v) → is_some root ≡ false → {s : Option ℕ} → Nexts es m v w s → is_some s ≡ false → Sole vs es m sink v (i + 1)
      sole-one n {root = root} h z {s = s} y q = go s y q
        where
          one : Nexts es m v w None → Sole vs es m sink v (i + 1)
          one y =
              let q = next-in k x in
              let o = next-none k (next-again k x e y) in
              let p : i + 1 - 1 ≡ i = omega arith in
              record {
                bare = λ u. no-tree h z;
                inner = λ u. n;
                known = omega arith;
                is = λ u. rw p (ap sole (leaving-some k x ∙ ap (λ (l : List Edge). edge_at es i ∷ l) o));
                none = λ u. absurd (omega arith);
              }

          go : (s : Option ℕ) → Nexts es m v w s → is_some s ≡ false → Sole vs es m sink v (i + 1)
          go None y q = one y
          go (Some j) y q = absurd (let y : ◌≡◌ {A = ℕ} 0 1 = cc in omega arith)

      pub sole-more : {s : Option ℕ} → Nexts es m v w s → is_some s ≡ true → Sole vs es m sink v 0
      sole-more {s = s} y h = go s y h
        where
          go : (s : Option ℕ) → Nexts es m v w s → is_some s ≡ true → Sole vs es m sink v 0
          go None y h = absurd (let y : ◌≡◌ {A = ℕ} 0 1 = cc in omega arith)
          go (Some j) y h =
              let o = next-some k (next-again k x e y) in
              nothing (λ a b. ap sole (leaving-some k x ∙ ap (λ (l : List Edge). edge_at es i ∷ l) o))

-- ---- the loops

pub record Targets (es targets to' : List ℕ) : Type 0 where
  pub size : length to' ≡ length targets
  pub is : (e : ℕ) → e < length to' → get_or to' e 0 ≡ edge_to es e

pub record Soles (vs es : List ℕ) (m sink : ℕ) (index only' : List ℕ) : Type 0 where
  pub size : length only' ≡ length index
  pub is : (v : ℕ) → v < length only' → Sole vs es m sink v (get_or only' v 0)

-- the first n places hold what P says
pub record Filled (P : ℕ → ℕ → Type 0) (l l' : List ℕ) (n : ℕ) : Type 0 where
  pub size : length l' ≡ length l
  pub is : (i : ℕ) → i < n → P i (get_or l' i 0)

abbrev pub IsTarget : List ℕ → ℕ → ℕ → Type 0
IsTarget es e x = x ≡ edge_to es e

abbrev pub IsSole : List ℕ → List ℕ → ℕ → ℕ → ℕ → ℕ → Type 0
IsSole vs es m sink v x = Sole vs es m sink v x

-- ---- both tables

pub record Tables (vs es : List ℕ) (m : ℕ) (index targets : List ℕ) : Type 0 where
  pub linked : Linked vs es m
  pub size : length targets ≡ m
  pub room : HasVertices vs (length index)

pub record Tabled (vs es : List ℕ) (m sink : ℕ) (index targets : List ℕ) : Type 0 where
  pub size : length targets ≡ m
  pub target : (e : ℕ) → e < m → get_or targets e 0 ≡ edge_to es e
  pub sole : (v : ℕ) → v < length index → Sole vs es m sink v (get_or index v 0)
