-- What the search stands on: the tables of the graph with the symbolic edge linked, of the trees, and of the chains, as the definition's `SearchInput`.
use Rattle.std.specs.Prelude.{◌≡◌, List, ℕ, ◌<◌, ◌≤◌, length}
use Rattle.std.proofs.Math.Option.{none, some}
use Rattle.laws.specs.Lists.{total}
use Rattle.definition.specs.Threading.{Ends, support_of, leaving}
use Rattle.definition.specs.Evidence.{Branches, tree_at}
use Rattle.definition.specs.Search.{SearchInput}
use Rattle.theorems.proofs.Counts.{Small}
use Rattle.assembly.specs.Fields.{HasVertices, tree_root}
use Rattle.assembly.specs.Store.{edge_at}
use Rattle.threading_node.specs.Ends.{ends}
use Rattle.threading_node.specs.Slots.{cols}
use Rattle.threading_node.specs.Take.{Wide}
use Rattle.threading_tree.specs.Read.{Leads}
use Rattle.pivotal_edges.specs.Walk.{Linked}
use Rattle.path_growth.specs.Link.{Agrees}
use Rattle.fork_offers.specs.Offers.{Settings}
use Rattle.search_state.specs.Settings.{Setting}

-- the edge of a number
abbrev pub name_of : List ℕ → ℕ → Ends
name_of es e = (edge_at es e).ends

-- field 11 of a vertex's record is the slot of its tree's root
pub record TreeIn (f : SearchInput) (x : List ℕ) (n root v : ℕ) : Type 0 where
  pub below : Branches
  pub is : tree_at f.trees v ≡ some below
  pub live : root ≤ n
  pub leads : Leads n x ((cols x).kid root) below

pub record Ground (f : SearchInput) (g : Setting) (vs es x index targets : List ℕ) : Type 0 where
  -- the graph
  pub agrees : Agrees f index targets (name_of es)
  pub linked : Linked vs es g.edges
  pub settings : Settings f es g.edges (ends g.sink g.symbolic) g.least
  pub size : length targets ≡ g.edges
  pub vertices : HasVertices vs (length index)
  pub few : length index ≤ 4096
  pub source : f.source ≡ 0
  pub sink : f.sink ≡ g.sink
  pub sink-in : g.sink < length index
  -- the trees
  pub nodes : g.nodes ≤ g.cap
  pub cap-fits : g.cap ≤ 16384
  pub wide : Wide g.cap x
  pub tree : (v : ℕ) → v < length index → (tree_root vs v ≡ 0 → ⊥) → TreeIn f x g.nodes (tree_root vs v) v
  pub no-tree : (v : ℕ) → v < length index → tree_root vs v ≡ 0 → tree_at f.trees v ≡ none
  -- what counts and supports come to, and how many edges leave a vertex
  pub small : (v : ℕ) (b : Branches) → tree_at f.trees v ≡ some b → Small 65535 b
  pub support : (v : ℕ) → total support_of (leaving f.edges v) ≤ 65535
  pub six : (v : ℕ) → length (leaving f.edges v) ≤ 6
  -- the caller's numbers
  pub most : f.path_edges ≡ g.most
  pub active : f.active ≡ g.active
  pub most-fits : g.most ≤ 4096
  pub active-fits : g.active ≤ 64
  pub pushes-fit : g.pushes ≤ 32768
  pub asked-fits : g.asked ≤ 128
