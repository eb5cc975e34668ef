-- What the built graph, its trees and the tables of the chains give the search to stand on. Assumes nothing.
use Rattle.std.specs.Prelude.{◌≡◌, ◌≢◌, Bool, true, ◌&&◌, ◌||◌, List, [], ◌∷◌, ◌++◌, ℕ, suc, ◌+◌, ◌-◌, ◌<◌, ◌≤◌, leb}
use Rattle.std.proofs.Math.Path.{refl, sym, ap}
use Rattle.std.proofs.Common.{subst, ◌∙◌}
use Rattle.std.proofs.Math.Bool.{false}
use Rattle.std.proofs.Math.Option.{none, some}
use native.Mathlib.Omega.{arith}
use Rattle.std.proofs.Math.Decide.{ℕ_discrete, dec_lt}
use Rattle.std.proofs.Math.Dec.{eqb}
use Rattle.std.proofs.Math.ListN.{length, get_or, get_or-eq_default}
use borrow.Author.Tests.{leb-true, eq-eqb, ne_eqb}
use Rattle.laws.specs.Lists.{sole, is_some}
use Rattle.laws.specs.ListLaws.{clash, or-none, and_left, and_right, All, nil, cons}
use Rattle.laws.specs.Numbers.{within}
use Rattle.laws.specs.Records.{field-other}
use Rattle.theorems.proofs.Checks.{holds-first}
use Rattle.definition.specs.Refusal.{first_broken}
use Rattle.definition.specs.Limits.{Sample, Input, reference_fits, reference_bases, reads_fit, graph_maxima_fit, search_maxima_fit, settings_fit, sample_rules}
use Rattle.definition.specs.Threading.{Graph, eq_ends, leaving, threaded, sink_of, symbolic_of, with_symbolic}
use Rattle.definition.specs.Evidence.{Branches, Tree, tree_at, evidence}
use Rattle.definition.specs.Search.{SearchInput, onward}
use Rattle.definition.specs.Building.{Built}
use Rattle.definition.specs.Listing.{search_input}
use Rattle.theorems.proofs.Counts.{Small, SmallTree, counts-small}
use Rattle.theorems.proofs.Supports.{leaving-small}
use Rattle.theorems.proofs.Degrees.{six-leave}
use Rattle.assembly.specs.Fields.{HasVertices, HasVertex, tree_root, edge_from, edge_to}
use Rattle.tables.specs.Widths.{edge_numbers}
use Rattle.assembly.specs.Table.{length-table}
use Rattle.assembly.specs.Store.{edge_at, edges_of, graph_of}
use Rattle.assembly.specs.Kmers.{length-of}
use Rattle.out_edges.specs.Outs.{nexts-none}
use Rattle.assembly.specs.Symbolic.{linked, length-linked}
use Rattle.junction_tree_graph.specs.Built.{fits-of, BuiltAt}
use Rattle.threading_node.specs.Ends.{eq_ends-self, eq_ends-ne}
use Rattle.threading_tree.specs.Read.{TreeOf, held-tree, held-no-tree}
use Rattle.junction_trees.specs.Roots.{root_of}
use Rattle.junction_trees.specs.Stretches.{begun}
use Rattle.junction_trees.specs.Trees.{Evident}
use Rattle.pivotal_edges.specs.Walk.{Linked, leaving-from}
use Rattle.pivotal_edges.specs.Links.{linked_of}
use Rattle.path_growth.specs.Link.{Agrees}
use Rattle.fork_offers.specs.Actives.{Least}
use Rattle.search_state.specs.Settings.{Setting}
use Rattle.search_state.specs.Ground.{Ground, name_of}
use Rattle.search_ground.specs.Tables.{Tables, Tabled, Sole}

-- ---- what the rules give

-- rules 1 to 4
record Ruled (s : Sample) : Type 0 where
  reference-fits : reference_fits s.k s.reference ≡ true
  reference-bases : reference_bases s.reference ≡ true
  reads-fit : reads_fit s ≡ true

ruled : (s : Sample) → first_broken (sample_rules s) ≡ 0 → Ruled s
unfolding sample_rules
ruled s e =
    let a = holds-first 0 _ _ e in
    let b = holds-first 1 _ _ a.1 in
    let c = holds-first 2 _ _ b.1 in
    let d = holds-first 3 _ _ c.1 in
    record { reference-fits = b.0; reference-bases = c.0; reads-fit = d.0 }

within-high : (lo hi n : ℕ) → within lo hi n ≡ true → n ≤ hi
within-high lo hi n h = leb-true n hi (and_right (leb lo n) (leb n hi) h)

-- the caller's numbers
record Settled (i : Input) : Type 0 where
  asked : i.asked ≤ 128
  vertices : i.graph_maxima.vertices ≤ 4096
  edges : i.graph_maxima.edges ≤ 8192
  most : i.search_maxima.path_edges ≤ 4096
  active : i.search_maxima.active ≤ 64
  pushes : i.search_maxima.pushes ≤ 32768

settled : (i : Input) → settings_fit i.asked i.graph_maxima i.search_maxima ≡ true → Settled i
unfolding settings_fit graph_maxima_fit search_maxima_fit
settled i h =
    let g = i.graph_maxima in
    let s = i.search_maxima in
    let a = and_left (leb i.asked 128 && (within 2 4096 g.vertices && within 1 8192 g.edges && within 1 16384 g.nodes)) _ h in
    let b = and_right (leb i.asked 128) _ a in
    let c = and_left (within 2 4096 g.vertices && within 1 8192 g.edges) _ b in
    let d : (within 1 4096 s.path_edges && within 1 64 s.active && within 1 32768 s.pushes) ≡ true =
    and_right (leb i.asked 128 && (within 2 4096 g.vertices && within 1 8192 g.edges && within 1 16384 g.nodes)) _ h in
    let e = and_left (within 1 4096 s.path_edges && within 1 64 s.active) _ d in
    record {
      asked = leb-true i.asked 128 (and_left (leb i.asked 128) _ a);
      vertices = within-high 2 4096 g.vertices (and_left (within 2 4096 g.vertices) _ c);
      edges = within-high 1 8192 g.edges (and_right (within 2 4096 g.vertices) _ c);
      most = within-high 1 4096 s.path_edges (and_left (within 1 4096 s.path_edges) _ e);
      active = within-high 1 64 s.active (and_right (within 1 4096 s.path_edges) _ e);
      pushes = within-high 1 32768 s.pushes (and_right (within 1 4096 s.path_edges && within 1 64 s.active) _ d);
    }

-- ---- the tree of a vertex is one of all

tree-small : (n v : ℕ) (b : Branches) (ts : List Tree) → All (SmallTree n) ts → tree_at ts v ≡ some b → Small n b
unfolding tree_at
tree-small n v b [] nil e = let z : ◌≡◌ {A = ℕ} 0 1 = cc in absurd (omega arith)
tree-small n v b (t ∷ ts) (cons k ks) e = go (eqb t.vertex v) refl (λ y. tree-small n v b ts ks y)
  where
    go : (q : Bool) → eqb t.vertex v ≡ q → (tree_at ts v ≡ some b → Small n b) → Small n b
    go true z ih = let y : some t.below ≡ some b = rw (z, tree_at) at e in let w : t.below ≡ b = cc in subst (Small n) w k.below
    go false z ih = ih (rw (z, tree_at) at e)

-- ---- the ground

-- the definition's graph, edges and trees of a sample
abbrev pub built_for : Sample → Built
built_for s = record { graph = threaded s; edges = with_symbolic s (threaded s); trees = evidence s (threaded s) }

-- the search's numbers: m threaded edges, n kmers, c of at most cap nodes
abbrev pub setting_for : Input → ℕ → ℕ → ℕ → ℕ → ℕ → ℕ → Setting
setting_for i n m sink c cap least =
    record {
      edges = m + 1;
      nodes = c;
      cap = cap;
      sink = sink;
      symbolic = n;
      least = least;
      most = i.search_maxima.path_edges;
      active = i.search_maxima.active;
      pushes = i.search_maxima.pushes;
      asked = i.asked;
    }

-- the edge table ends behind the symbolic edge; `index` has a place for each vertex, the symbolic one too, and each of its places has a record
pub record Lies (vs es index : List ℕ) (n m : ℕ) : Type 0 where
  pub rows : length es ≡ edge_numbers (m + 1)
  pub places : n < length index
  pub room : HasVertices vs (length index)
  pub few : length index ≤ 4096

module _ (i : Input) {vs₂ es : List ℕ} {n m sink : ℕ} (rules : first_broken (sample_rules i.sample) ≡ 0)
    (fit : settings_fit i.asked i.graph_maxima i.search_maxima ≡ true)
    (at : BuiltAt i.sample i.graph_maxima.vertices i.graph_maxima.edges vs₂ es n m sink)
    {vs : List ℕ} (link : vs ≡ linked vs₂ sink m) {index : List ℕ} (lies : Lies vs es index n m) where
  abbrev s : Sample
  s = i.sample

  few-edges : m + 1 ≤ 8192
  few-edges = let a = at.edges_fit in let b = (settled i fit).edges in omega arith

  same_length : length vs ≡ length vs₂
  same_length = rw link (length-linked vs₂ sink m)

  room-n : HasVertex vs₂ n
  room-n = let a = same_length in let b = lies.room in let c = lies.places in omega arith

  pub ground-linked : Linked vs es (m + 1)
  ground-linked = rw link (linked_of at.good sink at.inside at.from at.to room-n (let a = lies.rows in omega arith) few-edges)

  pub ground-tables : (targets : List ℕ) → length targets ≡ m + 1 → Tables vs es (m + 1) index targets
  ground-tables targets h = record { linked = ground-linked; size = h; room = lies.room }

  -- the roots are kept
  same-root : (v : ℕ) → tree_root vs v ≡ tree_root vs₂ v
  unfolding linked
  same-root v = rw link (field-other vs₂ 12 sink 4 (m + 1) v 11 (omega arith) (omega arith) (omega arith))

  -- how many kmers
  many : length (threaded s).kmers ≡ n
  unfolding graph_of
  many = ap (λ (g : Graph). length g.kmers) (sym at.graph) ∙ length-of s.k (s.reference ++ s.bases) vs₂ n

  -- no edge leaves a vertex that has no kmer
  none-leave : (v : ℕ) → n ≤ v → leaving (edges_of es (m + 1)) v ≡ []
  none-leave v h =
      sym (leaving-from (edges_of es (m + 1)) v)
      ∙ nexts-none es (m + 1) v 0 (record { there = tt; least = λ j l e k. absurd (from j l e (ℕ_discrete j m)) })
    where
      from : (j : ℕ) → j < m + 1 → edge_from es j ≡ v → Dec (j ≡ m) → ⊥
      from j l e (yes z) = let y : edge_from es j ≡ sink = rw z at.from in let w = at.inside in omega arith
      from j l e (no z) = let y = at.good.from_in j (omega arith) in omega arith

  module _ {x op : List ℕ} {cap c : ℕ} (there : Evident i.sample vs₂ x op cap c) {targets : List ℕ} (t : Tabled vs es (m + 1) sink index targets) where
    abbrev f : SearchInput
    f = search_input i (built_for s)

    -- ---- the trees

    no-tree : (v : ℕ) → tree_root vs v ≡ 0 → tree_at (evidence s (threaded s)) v ≡ none
    no-tree v h = held-no-tree (begun (evidence s (threaded s))) cap c 0 there.bound (root_of vs₂) x op there.held v (sym (same-root v) ∙ h)

    a-tree : (v : ℕ) → tree_root vs v ≢ 0 → TreeOf (begun (evidence s (threaded s))) c x (tree_root vs v) v
    a-tree v h =
        rw (same-root v) (held-tree (begun (evidence s (threaded s))) cap c 0 there.bound (root_of vs₂) x op there.held v (λ z. h (same-root v ∙ z)))

    bare_of : (v : ℕ) → is_some (tree_at (evidence s (threaded s)) v) ≡ false → tree_root vs v ≡ 0
    bare_of v h = go (ℕ_discrete (tree_root vs v) 0)
      where
        go : Dec (tree_root vs v ≡ 0) → tree_root vs v ≡ 0
        go (yes z) = z
        go (no z) = clash (sym (ap is_some (a-tree v z).is) ∙ h)

    -- ---- the chains

    edges_are : with_symbolic s (threaded s) ≡ edges_of es (m + 1)
    edges_are = sym at.edges

    stops : (v : ℕ) → get_or index v 0 ≡ 0 → onward f v ≡ none
    unfolding onward search_input
    stops v z = go (is_some (tree_at (evidence s (threaded s)) v) || eqb v (sink_of s (threaded s))) refl
      where
        inside : (v ≡ sink → ⊥) → tree_root vs v ≡ 0 → Dec (v < length index) → sole (leaving (with_symbolic s (threaded s)) v) ≡ none
        inside a b (yes l) = rw edges_are ((t.sole v l).none z b a)
        inside a b (no l) = rw edges_are (ap sole (none-leave v (let y = lies.places in omega arith)))

        go : (b : Bool) → (is_some (tree_at (evidence s (threaded s)) v) || eqb v (sink_of s (threaded s))) ≡ b → onward f v ≡ none
        go true e = rw (e, onward)
        go false e =
            let w = or-none (is_some (tree_at (evidence s (threaded s)) v)) (eqb v (sink_of s (threaded s))) e in
            let a : v ≡ sink → ⊥ = (λ y. clash (sym (eq-eqb v (sink_of s (threaded s)) (y ∙ at.sink-is)) ∙ w.1)) in
            rw (e, onward) (inside a (bare_of v w.0) (dec_lt v (length index)))

    goes : (v e : ℕ) → get_or index v 0 ≡ suc e → onward f v ≡ some (edge_at es e)
    unfolding onward search_input
    goes v e z = go (dec_lt v (length index))
      where
        here : Sole vs es (m + 1) sink v (get_or index v 0) → onward f v ≡ some (edge_at es e)
        here k =
            let pos : 0 < get_or index v 0 = omega arith in
            let a : tree_at (evidence s (threaded s)) v ≡ none = no-tree v (k.bare pos) in
            let b : eqb v (sink_of s (threaded s)) ≡ false = ne_eqb v (sink_of s (threaded s)) (λ y. k.inner pos (y ∙ sym at.sink-is)) in
            let q : get_or index v 0 - 1 ≡ e = omega arith in
            rw (a, b, onward, edges_are) (k.is pos ∙ ap (λ (j : ℕ). some (edge_at es j)) q)

        go : Dec (v < length index) → onward f v ≡ some (edge_at es e)
        go (yes l) = here (t.sole v l)
        go (no l) = let y : get_or index v 0 ≡ 0 = get_or-eq_default index 0 (omega arith) in absurd (omega arith)

    near : (v : ℕ) → get_or index v 0 ≤ length targets
    near v = go (dec_lt v (length index))
      where
        go : Dec (v < length index) → get_or index v 0 ≤ length targets
        go (yes l) = let a = (t.sole v l).known in let b = t.size in omega arith
        go (no l) = let y : get_or index v 0 ≡ 0 = get_or-eq_default index 0 (omega arith) in omega arith

    far : (e : ℕ) → e < m + 1 → edge_to es e < length index
    far e h = go (ℕ_discrete e m)
      where
        go : Dec (e ≡ m) → edge_to es e < length index
        go (yes z) = let y : edge_to es e ≡ n = rw z at.to in let w = lies.places in omega arith
        go (no z) = let y = at.good.to_in e (omega arith) in let w = lies.places in omega arith

    target : (e : ℕ) → edge_to es e ≡ get_or targets e 0
    target e = go (dec_lt e (m + 1))
      where
        go : Dec (e < m + 1) → edge_to es e ≡ get_or targets e 0
        go (yes h) = sym (t.target e h)
        go (no h) =
            let a = lies.rows in
            let b = t.size in
            let p : edge_to es e ≡ 0 = get_or-eq_default es 0 (omega arith) in
            let q : get_or targets e 0 ≡ 0 = get_or-eq_default targets 0 (omega arith) in
            p ∙ sym q

    apart : (e d : ℕ) → e < length targets → d < length targets → eq_ends (name_of es e) (name_of es d) ≡ eqb e d
    apart e d h l = go (ℕ_discrete e d)
      where
        go : Dec (e ≡ d) → eq_ends (name_of es e) (name_of es d) ≡ eqb e d
        go (yes z) = ap (λ (j : ℕ). eq_ends (name_of es e) (name_of es j)) (sym z) ∙ eq_ends-self (name_of es e) ∙ sym (eq-eqb e d z)
        go (no z) =
            let a = t.size in
            eq_ends-ne (name_of es e) (name_of es d) (λ y. z (ground-linked.distinct e d (omega arith) (omega arith) y)) ∙ sym (ne_eqb e d z)

    sized : length (with_symbolic s (threaded s)) ≡ length targets
    unfolding edges_of
    sized = ap length edges_are ∙ length-table (edge_at es) (m + 1) ground-linked.distinct ∙ sym t.size

    agrees : Agrees f index targets (name_of es)
    unfolding search_input
    agrees =
        record {
          graph = record { near = near; far = λ e h. (let a = t.size in let l : e < m + 1 = omega arith in rw (t.target e l) (far e l)); small = (let a = t.size in let b = few-edges in omega arith) };
          size = sized;
          target = target;
          apart = apart;
          stop = stops;
          on = λ v e h. record { edge = edge_at es e; is = goes v e h; name = refl };
        }

    pub ground-of : (least : ℕ) → Least i.threshold least → cap ≤ 16384 → Ground (search_input i (built_for i.sample)) (setting_for i n m sink c cap least) vs es x index targets
    unfolding search_input symbolic_of
    ground-of least l cap-low =
        let r = ruled s rules in
        let k = fits-of s rules in
        let u = settled i fit in
        record {
          agrees = agrees;
          linked = ground-linked;
          settings = record { edges = edges_are; symbolic = (let p = at.sink-is in let q = many in cc); threshold = l };
          size = t.size;
          vertices = lies.room;
          few = lies.few;
          source = refl;
          sink = sym at.sink-is;
          sink-in = (let a = at.inside in let b = lies.places in omega arith);
          nodes = there.held.room;
          cap-fits = cap-low;
          wide = there.held.wide;
          tree = λ v h z. (let w = a-tree v z in record { below = w.below; is = w.is; live = w.live; leads = w.leads });
          no-tree = λ v h z. no-tree v z;
          small = λ v b e. tree-small 65535 v b (evidence s (threaded s)) (counts-small s (threaded s) r.reads-fit k.k-low) e;
          support = leaving-small s r.reference-fits r.reads-fit;
          six = six-leave s (let a = k.k-low in omega arith) k.low r.reference-bases;
          most = refl;
          active = refl;
          most-fits = u.most;
          active-fits = u.active;
          pushes-fit = u.pushes;
          asked-fits = u.asked;
        }
