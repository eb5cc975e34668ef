-- The symbolic edge linked and the tables of the chains filled, and the settings of the search. Assumes nothing.
use Rattle.std.specs.Prelude.{◌≡◌, List, ℕ, ◌+◌, ◌^◌, ◌<◌, Float}
use Rattle.assembly.specs.Fields.{HasVertex}
use Rattle.assembly.specs.Symbolic.{linked}
use Rattle.fork_offers.specs.Actives.{Least}
use Rattle.search_state.specs.Settings.{Setting}
use Rattle.search_state.specs.declared.Setting as code
use Rattle.search_ground.specs.Tables.{Tables, Tabled}
use Rattle.graph_work.specs.declared.Raise.{Raise}
use Rattle.list_interface.specs.declared.Settings.{Settings}

pub record Chains (vs es index targets : List ℕ) (b : Raise) : Type 0 where
  pub sink-in : HasVertex vs b.built.sink
  pub few : b.built.edges < 8192
  pub tables : Tables (linked vs b.built.sink b.built.edges) es (b.built.edges + 1) index targets

pub record Chained (vs es : List ℕ) (b : Raise) (vs' index' targets' : List ℕ) : Type 0 where
  pub vertices : vs' ≡ linked vs b.built.sink b.built.edges
  pub tabled : Tabled vs' es (b.built.edges + 1) b.built.sink index' targets'

pub chain-tables : {vs es index targets : List ℕ} {b : Raise} → Chains vs es index targets b → {vs' : List ℕ} → vs' ≡ linked vs b.built.sink b.built.edges → Tables vs' es (b.built.edges + 1) index targets
chain-tables c e = rw e c.tables

-- ---- the settings

abbrev pub setting_of : Settings → Raise → ℕ → Setting
setting_of a b least =
    record {
      edges = b.built.edges + 1;
      nodes = b.nodes;
      cap = a.graph.nodes;
      sink = b.built.sink;
      symbolic = b.built.vertices;
      least = least;
      most = a.search.path_edges;
      active = a.search.active;
      pushes = a.search.pushes;
      asked = a.asked;
    }

-- the sizes of the graph fit the fields of the settings
pub record Small (b : Raise) : Type 0 where
  pub edges : b.built.edges < 2 ^ 32
  pub vertices : b.built.vertices < 2 ^ 32
  pub sink : b.built.sink < 2 ^ 32

pub record SettingFor (a : Settings) (b : Raise) (g : Setting) : Type 0 where
  pub is : g ≡ setting_of a b g.least
  pub least : Least a.threshold g.least

-- the slices that a setting reads
pub record Reads (g : code.Setting) (vs es x idx tgs : List ℕ) (col : List Float) : Type 0 where
  pub vertices : g.graph.vertices.now ≡ vs
  pub edges : g.graph.edges.now ≡ es
  pub nodes : g.trees.nodes.now ≡ x
  pub index : g.chains.index.now ≡ idx
  pub targets : g.chains.targets.now ≡ tgs
  pub column : g.column.now ≡ col
