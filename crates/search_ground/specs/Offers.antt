-- How many offers a fork has: an edge once, and each of them leaves the fork, so at most six. Assumes nothing.
use Rattle.std.specs.Prelude.{◌≡◌, List, [], ◌∷◌, map, ℕ, ◌+◌, ◌≤◌, length, get_or}
use Rattle.std.proofs.Common.{sym, subst, arith}
use Prim.Native.Nat.{Ordering}
use Rattle.std.proofs.lemmas.List.{length-map}
use Rattle.laws.specs.ListLaws.{All, nil, cons, Mem, all_from, all_map, mem-map, pairwise_map, pigeonhole, Pairwise}
use Rattle.definition.specs.Threading.{Ends, Edge, leaving, compare_ends}
use Rattle.definition.specs.Evidence.{Branches}
use Rattle.definition.specs.Search.{SearchInput, Offer, offers}
use Rattle.theorems.proofs.Trees.{After, Rising}
use Rattle.theorems.proofs.Tables.{Rises}
use Rattle.theorems.proofs.Degrees.{rises-differ}
use Rattle.theorems.proofs.Forks.{offers-differ, leaving-differ}
use Rattle.theorems.proofs.Walks.{offers-on}
use Rattle.assembly.specs.Store.{edge_at, edges_of}
use Rattle.assembly.specs.Table.{table}
use Rattle.out_edges.specs.Outs as outs
use Rattle.threading_node.specs.Nodes.{Nodes, node, erase, Above}
use Rattle.threading_node.specs.Nodes as nodes
use Rattle.threading_node.specs.Slots.{cols}
use Rattle.threading_tree.specs.Read.{Leads}
use Rattle.fork_offers.specs.Actives.{Actives, Stand}
use Rattle.search_state.specs.Settings.{Setting}
use Rattle.search_state.specs.Ground.{Ground}

-- ---- the branches that slots stand for are in order

after-of : (e : Ends) (t : Nodes) → Above e t → After e (erase t)
unfolding Above erase
after-of e nodes.nil a = tt
after-of e (node i f c b x) a = (a.0, after-of e x a.1)

rising-of : (t : Nodes) → nodes.Rising t → Rising (erase t)
unfolding nodes.Rising erase
rising-of nodes.nil r = tt
rising-of (node i f c b x) r = (after-of f x r.0, rising-of b r.1, rising-of x r.2)

pub leads-rising : (n : ℕ) (x : List ℕ) (l : ℕ) (b : Branches) → Leads n x l b → Rising b
leads-rising n x l b h = subst Rising h.is (rising-of h.row h.rising)

pub actives-rising : (cap n : ℕ) (x a : List ℕ) (i end : ℕ) (bs : List Branches) → Actives cap n x a i end bs → All Rising bs
actives-rising cap n x a i end bs h = go i bs h.stand
  where
    go : (i : ℕ) (bs : List Branches) → Stand n x a i end bs → All Rising bs
    go i [] k = nil
    go i (b ∷ bs) k = cons {x = b} (leads-rising n x ((cols x).kid (get_or a i 0)) b k.2) (go (i + 1) bs k.3)

-- ---- the edges of the table differ

abbrev Differ : List Edge → Type 0
Differ es = Pairwise (λ (d e : Edge). d.ends ≡ e.ends → ⊥) es

table-differ : (es : List ℕ) (m : ℕ) → Differ (edges_of es m)
unfolding edges_of
table-differ es m = rises-differ (table (edge_at es) m) (rises (table (edge_at es) m) (outs.rising-table (edge_at es) m))
  where
    over : (e : Edge) (ds : List Edge) → outs.Rising (e ∷ ds) → All (λ (d : Edge). compare_ends e.ends d.ends ≡ Ordering.lt) ds
    over e [] r = nil
    over e (d ∷ ds) r = cons {x = d} r.0.0 (over e ds (r.0.1, r.1.1))

    rises : (ds : List Edge) → outs.Rising ds → Rises ds
    rises [] r = tt
    rises (d ∷ ds) r = (over d ds r, rises ds r.1)

-- ---- no more offers than out-edges

few-of : (f : SearchInput) (ds : List Edge) (bs : List Branches) → Differ ds → All Rising bs → length (offers f ds [] bs) ≤ length ds
few-of f ds bs d r =
    let p = pigeonhole (pairwise_map (λ (o : Offer). o.ends) (λ o q h. h) (offers-differ f ds bs d r))
    (all_map (λ (o : Offer). o.ends) (λ o h. h)
    (offers-on (λ e. Mem e (map (λ (e : Edge). e.ends) ds)) f ds [] bs (all_from ds (λ e h. mem-map (λ (e : Edge). e.ends) h)))) in
    let a = length-map (offers f ds [] bs) (λ (o : Offer). o.ends) in
    let b = length-map ds (λ (e : Edge). e.ends) in
    omega arith

module _ (f : SearchInput) (g : Setting) (vs es x index targets : List ℕ) (k : Ground f g vs es x index targets) (v : ℕ) (bs : List Branches) where
  -- of active trees whose branches are in order, as those of the definition are
  pub offers-few : All Rising bs → length (offers f (leaving f.edges v) [] bs) ≤ 6
  offers-few r =
      let d = leaving-differ f.edges (subst Differ (sym k.settings.edges) (table-differ es g.edges)) v in
      let a = few-of f (leaving f.edges v) bs d r in
      let b = k.six v in
      omega arith

  -- of active trees that slots stand for
  pub actives-few : (a : List ℕ) (i end : ℕ) → Actives g.cap g.nodes x a i end bs → length (offers f (leaving f.edges v) [] bs) ≤ 6
  actives-few a i end h = offers-few (actives-rising g.cap g.nodes x a i end bs h)
