-- The graph and its trees over cleared tables: what each part asks, and what the answer is to the definition. Assumes nothing.
use Rattle.std.specs.Prelude.{◌≡◌, true, ◌&&◌, List, ℕ, ◌≤◌, leb, length, Result, Ok, Err}
use Rattle.std.proofs.Common.{◌∙◌, arith, leb-true}
use Rattle.refusals.specs.declared.Refusal.{Refusal}
use Rattle.refusals.specs.Numbers.{number}
use Rattle.laws.specs.ListLaws.{and_right}
use Rattle.laws.specs.Numbers.{within}
use Rattle.definition.specs.Refusal.{ok, refused, first_broken}
use Rattle.definition.specs.Limits.{Sample, GraphMaxima, graph_maxima_fit, sample_rules}
use Rattle.definition.specs.Threading.{threaded, with_symbolic}
use Rattle.definition.specs.Evidence.{evidence}
use Rattle.definition.specs.Building.{built}
use Rattle.graph_kmers.specs.Index.{Finding}
use Rattle.junction_tree_graph.specs.declared.Built as tables
use Rattle.kmer_threading.specs.Indexes.{Fresh}
use Rattle.junction_tree_graph.specs.Built.{Builds, BuiltAt, NotBuilt}
use Rattle.junction_tree_graph.specs.Answers.{BuiltOf, FoundOf, maxima-in, not-built}
use Rattle.junction_trees.specs.Trees.{Gathers, Gathered, Evident, NotEvident, built-kept, built-fits, built-over}
use Rattle.slice_lengths.specs.Workspaces.{vertex_table, edge_table, kmer_index, node_table, open_trees}
use Rattle.graph_work.specs.declared.Raise.{Raise}
use Rattle.graph_work.specs.Clear.{Cleared}

pub edges_few : (m : GraphMaxima) → graph_maxima_fit m ≡ true → m.edges ≤ 8192
edges_few m h = leb-true m.edges 8192 (and_right (leb 1 m.edges) (leb m.edges 8192) (maxima-in m h).1)

pub nodes-few : (m : GraphMaxima) → graph_maxima_fit m ≡ true → m.nodes ≤ 16384
unfolding graph_maxima_fit
nodes-few m h =
    let a = and_right (within 2 4096 m.vertices && within 1 8192 m.edges) (within 1 16384 m.nodes) h in
    leb-true m.nodes 16384 (and_right (leb 1 m.nodes) (leb m.nodes 16384) a)

pub record Raises (s : Sample) (m : GraphMaxima) (wv we wi wx wo : List ℕ) : Type 0 where
  pub rules : first_broken (sample_rules s) ≡ 0
  pub maxima : graph_maxima_fit m ≡ true
  pub vertices : length wv ≡ vertex_table m
  pub edges : length we ≡ edge_table m
  pub index : length wi ≡ kmer_index m
  pub nodes : length wx ≡ node_table m
  pub opened : open_trees m ≤ length wo

-- the tables hold the graph and its trees, which fit the maxima
pub record RaisedAt (s : Sample) (m : GraphMaxima) (vs es x op : List ℕ) (b : Raise) : Type 0 where
  pub at : BuiltAt s m.vertices m.edges vs es b.built.vertices b.built.edges b.built.sink
  pub there : Evident s vs x op m.nodes b.nodes

abbrev pub RaisedOf : Sample → GraphMaxima → List ℕ → List ℕ → List ℕ → List ℕ → Result Raise Refusal → Type 0
RaisedOf s m vs es x op (Ok b) = RaisedAt s m vs es x op b
RaisedOf s m vs es x op (Err e) = built s m ≡ refused (number e)

pub raised-built : {s : Sample} {m : GraphMaxima} {vs es x op : List ℕ} {b : Raise} → RaisedAt s m vs es x op b
    → built s m ≡ ok (record { graph = threaded s; edges = with_symbolic s (threaded s); trees = evidence s (threaded s) })
raised-built {m = m} r = built-fits r.at m.nodes r.there.fits

module _ {s : Sample} {m : GraphMaxima} {wv we wi wx wo : List ℕ} (x : Raises s m wv we wi wx wo) {wv₁ wi₁ wx₁ : List ℕ} (z : Cleared wv wv₁ wi wi₁ wx wx₁) where
  pub raise-builds : Builds s m.vertices m.edges wv₁ we
  raise-builds =
      let a = maxima-in m x.maxima in
      record {
        rules = x.rules;
        vertices-in = a.0;
        edges-in = a.1;
        length-v = z.vertices.size ∙ x.vertices;
        length-e = x.edges;
        zero-v = z.vertices.zeros;
      }

  pub raise-fresh : Fresh m.vertices wi₁
  raise-fresh = record { size = z.index.size ∙ x.index; zero = z.index.zeros }

  module _ (vs₁ es₁ : List ℕ) (r : Result tables.Built Refusal) (h : BuiltOf s m.vertices m.edges vs₁ es₁ r) where
    pub raise-eight : {e : Refusal} → r ≡ Err e → built s m ≡ refused (number e)
    raise-eight {e} d = let o : NotBuilt s m.vertices m.edges (number e) = rw d at h in not-built s m (number e) o

    module _ {b : tables.Built} (d : r ≡ Ok b) where
      pub raise-found : (k : ℕ) (text idx : List ℕ) → FoundOf k text vs₁ idx r → Finding k text vs₁ idx b.vertices
      raise-found k text idx f = rw d at f

      at : BuiltAt s m.vertices m.edges vs₁ es₁ b.vertices b.edges b.sink
      at = rw d at h

      pub raise-gathers : length vs₁ ≡ length wv₁ → length es₁ ≡ length we → Gathers s vs₁ es₁ wx₁ wo b m.nodes
      raise-gathers lv le =
          let a = x.nodes in
          let a' = z.nodes.size in
          let o = x.opened in
          let f = nodes-few m x.maxima in
          record {
            rules = x.rules;
            vertices = m.vertices;
            edges = m.edges;
            vertices-in = (maxima-in m x.maxima).0;
            length-v = lv ∙ z.vertices.size ∙ x.vertices;
            length-e = le ∙ x.edges;
            built = at;
            few = omega arith;
            room = omega arith;
            room_open = omega arith;
            zero-x = λ i l. z.nodes.zeros i;
          }

      module _ {vs₂ xs₂ os₂ : List ℕ} {t : Result ℕ Refusal} (g : Gathered s vs₁ vs₂ wx₁ xs₂ wo os₂ b m.nodes t) where
        pub raise-nine : {e : Refusal} → t ≡ Err e → built s m ≡ refused (number e)
        raise-nine {e} f = let o : NotEvident s m.nodes (number e) = rw f at g.is in built-over at m.nodes (number e) o

        pub raise-done : {c : ℕ} → t ≡ Ok c → RaisedAt s m vs₂ es₁ xs₂ os₂ (record { built = b; nodes = c })
        raise-done {c} e =
            let y : Evident s vs₂ xs₂ os₂ m.nodes c = rw e at g.is in
            record { at = built-kept g.kept at; there = y }
