-- The walk over the out-edges of a vertex in rising target, once the slots name every edge, and which edges the marks say are visited. Assumes nothing.
use Rattle.std.specs.Prelude.{◌≡◌, false, not, List, [], ◌∷◌, Option, Some, None, is_some, MatchOption, ℕ, ◌+◌, ◌<◌, ◌≤◌, ltb, leb, length, get_or}
use Rattle.std.proofs.Common.{sym, ap, subst, ◌∙◌, arith, lt-ltb, le-ltb, le-leb}
use Rattle.std.specs.Iterator.{Yields, SkipsThenYields}
use Rattle.laws.specs.Lists.{keep}
use Rattle.laws.specs.ListLaws.{all_from, keep_all}
use Rattle.definition.specs.Threading.{Ends, Edge, leaving}
use Rattle.definition.specs.Search.{among}
use Rattle.assembly.specs.Fields.{HasVertex, HasEdges, HasEdge, edge_to}
use Rattle.assembly.specs.Table.{Distinct}
use Rattle.assembly.specs.Store.{edge_at, edges_of}
use Rattle.out_edges.specs.Outs.{Slots, Nexts, out_from, nexts-none, nexts-some}
use Rattle.out_edges.specs.Walked.{Named, named, Begun, Steps, turned}
use Rattle.out_edges.specs.declared.Graph.{Graph}
use Rattle.out_edges.specs.declared.OutEdges.{OutEdges}
use Rattle.pivotal_edges.specs.Queue.{ends_at}

-- m edges, all of them named by the slots of their sources; every target has a record
pub record Linked (vs es : List ℕ) (m : ℕ) : Type 0 where
  pub distinct : Distinct (edge_at es) m
  pub slots : (v : ℕ) → HasVertex vs v → Slots vs es m v
  pub to_in : (i : ℕ) → i < m → HasVertex vs (edge_to es i)
  pub source_in : 12 ≤ length vs
  pub room : HasEdges es m
  pub few : m ≤ 8192

-- a vertex of it
pub record Here (vs es : List ℕ) (m v : ℕ) : Type 0 where
  pub linked : Linked vs es m
  pub v-in : HasVertex vs v

-- a mark other than 0 stands for a visited edge
abbrev pub Seen : List ℕ → ℕ → List ℕ → List Ends → Type 0
Seen es m marks vis = (i : ℕ) → i < m → among (ends_at es i) vis ≡ ltb 0 (get_or marks i 0)

-- the edges that are not visited
abbrev pub fresh : List Ends → List Edge → List Edge
fresh vis es = keep (λ (e : Edge). not (among e.ends vis)) es

pub leaving-from : (es : List Edge) (v : ℕ) → out_from es v 0 ≡ leaving es v
unfolding out_from
leaving-from es v = keep_all (λ (e : Edge). leb 0 e.ends.to) (all_from (leaving es v) (λ e h. le-leb 0 e.ends.to (omega arith)))

module _ {vs es : List ℕ} {m v : ℕ} (k : Here vs es m v) where
  pub next-asks : Named vs es v
  next-asks = named k.v-in (k.linked.slots v k.v-in) k.linked.room

  pub here-slots : Slots vs es m v
  here-slots = k.linked.slots v k.v-in

  module _ {t : ℕ} (x : Nexts es m v t None) where
    pub next-none : out_from (edges_of es m) v t ≡ []
    next-none = nexts-none es m v t x

  module _ {t i : ℕ} (x : Nexts es m v t (Some i)) where
    pub next-some : out_from (edges_of es m) v t ≡ edge_at es i ∷ out_from (edges_of es m) v (edge_to es i + 1)
    next-some = nexts-some es m v t i k.linked.distinct x

    pub next-in : i < m
    next-in = x.there.0

    pub next_row : HasEdge es i
    next_row = let w = next-in in let z = k.linked.room in omega arith

    pub next-again : {w : ℕ} {s : Option ℕ} → w ≡ edge_to es i + 1 → Nexts es m v w s → Nexts es m v (edge_to es i + 1) s
    next-again {s = s} e y = subst (λ (z : ℕ). Nexts es m v z s) e y

-- ---- the out-edges, by the first of them
module _ {vs es : List ℕ} {m v : ℕ} (k : Here vs es m v) where
  pub leaving-none : Nexts es m v 0 None → leaving (edges_of es m) v ≡ []
  leaving-none x = sym (leaving-from (edges_of es m) v) ∙ next-none k x

  pub leaving-some : {i : ℕ} → Nexts es m v 0 (Some i) → leaving (edges_of es m) v ≡ edge_at es i ∷ out_from (edges_of es m) v (edge_to es i + 1)
  leaving-some x = sym (leaving-from (edges_of es m) v) ∙ next-some k x

-- ---- forks: a second out-edge
module _ {vs es : List ℕ} {m v : ℕ} (k : Here vs es m v) where
  pub fork-none : Nexts es m v 0 None → false ≡ ltb 1 (length (leaving (edges_of es m) v))
  fork-none x = rw (leaving-none k x)

  pub fork-is : {i w : ℕ} {s : Option ℕ} → Nexts es m v 0 (Some i) → w ≡ edge_to es i + 1 → Nexts es m v w s → is_some s ≡ ltb 1 (length (leaving (edges_of es m) v))
  fork-is {i} {w} {s} x e again = go s (next-again k x e again)
    where
      f : leaving (edges_of es m) v ≡ edge_at es i ∷ out_from (edges_of es m) v (edge_to es i + 1)
      f = leaving-some k x

      go : (s : Option ℕ) → Nexts es m v (edge_to es i + 1) s → is_some s ≡ ltb 1 (length (leaving (edges_of es m) v))
      go None y = sym (le-ltb 1 (length (leaving (edges_of es m) v)) (let u = ap length f in let q = ap length (next-none k y) in omega arith))
      go (Some j) y = sym (lt-ltb 1 (length (leaving (edges_of es m) v)) (let u = ap length f in let q = ap length (next-some k y) in omega arith))

  -- two steps tell it
  pub fork-nth : {g : Graph} {s u : OutEdges} {r : Option ℕ} → g.vertices.now ≡ vs → g.edges.now ≡ es → Begun g v s → SkipsThenYields Steps s 1 r u → is_some r ≡ ltb 1 (length (leaving (edges_of es m) v))
  fork-nth {g} {s} {u} {r} ev ee b (xs, (t, y, w), n) = go xs r y w n
    where
      slots : Slots g.vertices.now g.edges.now m v
      slots = rw (ev, ee) (here-slots k)

      go : (xs : List ℕ) (r : Option ℕ) → Yields Steps s xs t → Steps t r u → MatchOption r (length xs ≤ 1) (λ _. length xs ≡ 1) → is_some r ≡ ltb 1 (length (leaving (edges_of es m) v))
      go [] None y w n = fork-none (rw (b.first, ee) at (turned slots b.over (rw (← y) at w)).next)
      go [] (Some j) y w n = absurd (omega arith)
      go (x ∷ []) r (j, z, y) w n =
          let f = turned slots b.over z in
          let h = turned slots f.over (rw (← y) at w) in
          fork-is (rw (b.first, ee) at f.next) (rw ee at f.behind) (rw ee at h.next)
      go (x ∷ x' ∷ xs) None y w n = absurd (omega arith)
      go (x ∷ x' ∷ xs) (Some j) y w n = absurd (omega arith)
