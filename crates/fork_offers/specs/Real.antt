-- The out-edges of a fork in the stores, and whether a node's edge is one of them.
use Rattle.std.specs.Prelude.{◌≡◌, ℕ, ◌+◌, ◌^◌, ◌<◌, Bool, not, ◌&&◌, leb, eqb, Option, Some, None, IfSome, is_some}
use Rattle.std.proofs.Math.Path.{refl}
use Rattle.std.proofs.Common.{sym, ap, ◌∙◌, arith, ne_eqb, le-leb}
use Rattle.std.proofs.Math.Bool.{true, false}
use mathlib.Core.List.{List, [], ◌∷◌, map}
use Rattle.std.proofs.lemmas.Bool.{lt-leb}
use Rattle.laws.specs.Lists.{keep}
use Rattle.laws.specs.ListLaws.{clash}
use Rattle.definition.specs.Threading.{Ends, Edge, eq_ends, leaving}
use Rattle.definition.specs.Search.{among}
use Rattle.assembly.specs.Fields.{HasVertex, out_edge, HasEdges, edge_from, edge_to}
use Rattle.assembly.specs.Store.{edge_at, edges_of}
use Rattle.assembly.specs.Table.{Distinct}
use Rattle.out_edges.specs.Outs.{Names, Slots, Nexts, out_from, nexts-none, nexts-some, slots-names}
use Rattle.threading_node.specs.Ends.{ends, eq_ends-true, eq_ends-self, eq_ends-ne}
use Rattle.threading_node.specs.Slots.{cols}

abbrev pub ends_of_all : List Edge → List Ends
ends_of_all es = map (λ (e : Edge). e.ends) es

-- the ends of the out-edges of v, of the first m edges
unfoldable pub outs_of : List ℕ → ℕ → ℕ → List Ends
outs_of es m v = ends_of_all (leaving (edges_of es m) v)

pub outs-is : (es : List ℕ) (m v : ℕ) → ends_of_all (leaving (edges_of es m) v) ≡ outs_of es m v
unfolding outs_of
outs-is es m v = refl

-- v is a vertex of the stores, whose slots hold its out-edges among the first m edges
pub record Fork (vs es : List ℕ) (m v : ℕ) : Type 0 where
  pub slots : Slots vs es m v
  pub distinct : Distinct (edge_at es) m
  pub room-v : HasVertex vs v
  pub room-e : HasEdges es m
  pub few : m < 2 ^ 32

pub fork-names : {vs es : List ℕ} {m v : ℕ} → Fork vs es m v → (c : ℕ) → c < 8 → Names es (out_edge vs v c)
fork-names f = slots-names f.slots f.room-e

-- ---- an edge among those that pass a test

module _ (d : Ends) (p : Edge → Bool) where
  among-keep : (es : List Edge) → ((e : Edge) → eq_ends d e.ends ≡ true → p e ≡ true) → among d (ends_of_all (keep p es)) ≡ among d (ends_of_all es)
  unfolding among
  among-keep [] h = refl
  among-keep (e ∷ es) h = go (p e) refl (eq_ends d e.ends) refl (among-keep es h)
    where
      go : (s : Bool) → p e ≡ s → (t : Bool) → eq_ends d e.ends ≡ t → among d (ends_of_all (keep p es)) ≡ among d (ends_of_all es)
          → among d (ends_of_all (keep p (e ∷ es))) ≡ among d (ends_of_all (e ∷ es))
      go true k t l ih = rw (k, ih)
      go false k true l ih = clash (sym (h e l) ∙ k)
      go false k false l ih = rw (k, l, ih)

  among-lost : (es : List Edge) → ((e : Edge) → eq_ends d e.ends ≡ true → p e ≡ false) → among d (ends_of_all (keep p es)) ≡ false
  unfolding among
  among-lost [] h = refl
  among-lost (e ∷ es) h = go (p e) refl (eq_ends d e.ends) refl (among-lost es h)
    where
      go : (s : Bool) → p e ≡ s → (t : Bool) → eq_ends d e.ends ≡ t → among d (ends_of_all (keep p es)) ≡ false
          → among d (ends_of_all (keep p (e ∷ es))) ≡ false
      go true k true l ih = clash (sym k ∙ h e l)
      go true k false l ih = rw (k, l, ih)
      go false k t l ih = rw (k, ih)

among_none : (d : Ends) → among d [] ≡ false
unfolding among
among_none d = refl

among-head : (d : Ends) (e : Edge) (es : List Edge) → d ≡ e.ends → among d (ends_of_all (e ∷ es)) ≡ true
unfolding among
among-head d e es h = let z : eq_ends d e.ends ≡ true = rw h (eq_ends-self e.ends) in rw z

among_next : (d : Ends) (e : Edge) (es : List Edge) → (d ≡ e.ends → ⊥) → among d (ends_of_all (e ∷ es)) ≡ among d (ends_of_all es)
unfolding among
among_next d e es h = rw (eq_ends-ne d e.ends h)

-- ---- the out-edge to a vertex

-- by the answer, the number of v's out-edge to `to`
pub record OutTo (es : List ℕ) (m v to : ℕ) (r : Option ℕ) : Type 0 where
  pub there : IfSome r (λ i. (i < m) × (edge_from es i ≡ v) × (edge_to es i ≡ to))
  pub is : among (ends v to) (outs_of es m v) ≡ is_some r

from_on : (es : List ℕ) (m v to : ℕ) → among (ends v to) (ends_of_all (out_from (edges_of es m) v to)) ≡ among (ends v to) (outs_of es m v)
unfolding out_from outs_of
from_on es m v to =
    among-keep (ends v to) (λ e. leb to e.ends.to) (leaving (edges_of es m) v)
    (λ e h. le-leb to e.ends.to (let z : to ≡ e.ends.to = ap (λ (y : Ends). y.to) (eq_ends-true (ends v to) e.ends h) in omega arith))

beyond-none : (es : List Edge) (v to t : ℕ) → to < t → among (ends v to) (ends_of_all (out_from es v t)) ≡ false
unfolding out_from
beyond-none es v to t l =
    among-lost (ends v to) (λ e. leb t e.ends.to) (leaving es v)
    (λ e h. lt-leb t e.ends.to (let z : to ≡ e.ends.to = ap (λ (y : Ends). y.to) (eq_ends-true (ends v to) e.ends h) in omega arith))

-- an edge of another vertex is not among them
pub among-elsewhere : (es : List ℕ) (m v : ℕ) (d : Ends) → (d.from ≡ v → ⊥) → among d (outs_of es m v) ≡ false
unfolding outs_of leaving
among-elsewhere es m v d ne =
    among-lost d (λ e. eqb e.ends.from v) (edges_of es m)
    (λ e h. ne_eqb e.ends.from v (λ y. ne (ap (λ (z : Ends). z.from) (eq_ends-true d e.ends h) ∙ y)))

module _ (vs es : List ℕ) (m v to : ℕ) (f : Fork vs es m v) where
  pub out_none : ((k : ℕ) → Slots vs es k v → Nexts es k v to None) → OutTo es m v to None
  out_none h =
      record {
        there = tt;
        is = sym (from_on es m v to) ∙ ap (λ (l : List Edge). among (ends v to) (ends_of_all l)) (nexts-none es m v to (h m f.slots)) ∙ among_none (ends v to);
      }

  module _ (i : ℕ) (h : (k : ℕ) → Slots vs es k v → Nexts es k v to (Some i)) where
    split : out_from (edges_of es m) v to ≡ edge_at es i ∷ out_from (edges_of es m) v (edge_to es i + 1)
    split = nexts-some es m v to i f.distinct (h m f.slots)

    begun : among (ends v to) (ends_of_all (edge_at es i ∷ out_from (edges_of es m) v (edge_to es i + 1))) ≡ among (ends v to) (outs_of es m v)
    begun = ap (λ (l : List Edge). among (ends v to) (ends_of_all l)) (sym split) ∙ from_on es m v to

    module _ (t : ℕ) (ht : t ≡ edge_to es i) where
      pub out-there : t ≡ to → OutTo es m v to (Some i)
      out-there z =
          let w = (h m f.slots).there in
          let y : edge_to es i ≡ to = sym ht ∙ z in
          let d : ends v to ≡ (edge_at es i).ends = same_ends (sym w.1) (sym y) in
          record {
            there = (w.0, w.1, y);
            is = sym begun ∙ among-head (ends v to) (edge_at es i) (out_from (edges_of es m) v (edge_to es i + 1)) d;
          }
        where
          same_ends : v ≡ edge_from es i → to ≡ edge_to es i → ends v to ≡ ends (edge_from es i) (edge_to es i)
          same_ends p q = cc

      pub out-other : (t ≡ to → ⊥) → OutTo es m v to None
      out-other z =
          let w = (h m f.slots).there in
          let l : to < edge_to es i + 1 = (let q = w.2 in omega arith) in
          let d : ends v to ≡ (edge_at es i).ends → ⊥ = λ y. z (ht ∙ sym (ap (λ (u : Ends). u.to) y)) in
          record {
            there = tt;
            is =
                sym begun ∙ among_next (ends v to) (edge_at es i) (out_from (edges_of es m) v (edge_to es i + 1)) d
                ∙ beyond-none (edges_of es m) v to (edge_to es i + 1) l;
          }

-- ---- a node's edge

-- the edge of the node in slot s
abbrev pub node_edge : List ℕ → ℕ → Ends
node_edge x s = ends ((cols x).from s) ((cols x).to s)

-- the edge is a real branch of the fork: it leaves v, and is not the symbolic edge
abbrev pub is_real : List Ends → Ends → Ends → Bool
is_real outs symbolic e = among e outs && not (eq_ends e symbolic)

-- by the answer, the number of the node's edge, where it is real
pub record RealEdge (es : List ℕ) (m v : ℕ) (x : List ℕ) (s : ℕ) (e : Ends) (r : Option ℕ) : Type 0 where
  pub there : IfSome r (λ i. (i < m) × ((edge_at es i).ends ≡ node_edge x s))
  pub is : is_real (outs_of es m v) e (node_edge x s) ≡ is_some r

module _ (es : List ℕ) (m v : ℕ) (x : List ℕ) (s : ℕ) (e d : Ends) (hd : d ≡ node_edge x s) where
  pub real-elsewhere : (d.from ≡ v → ⊥) → RealEdge es m v x s e None
  real-elsewhere ne =
      let z : among (node_edge x s) (outs_of es m v) ≡ false = among-elsewhere es m v (node_edge x s) (λ y. ne (ap (λ (u : Ends). u.from) hd ∙ y)) in
      record { there = tt; is = rw z }
