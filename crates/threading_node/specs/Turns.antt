-- The walk along a row of siblings: what a step gives. Assumes nothing.
use Rattle.std.specs.Prelude.{◌≡◌, ℕ, ◌<◌, List, Option, Some, None, refl}
use Rattle.std.proofs.Common.{sym, ap, ◌∙◌}
use Rattle.std.proofs.lemmas.Option.{none-some}
use Rattle.threading_node.specs.Ends.{ends}
use Rattle.threading_node.specs.Links.{slot_at, link_to, link_is, linked_at, some-link}
use Rattle.threading_node.specs.Nodes.{Nodes, nil, node, Rising}
use Rattle.threading_node.specs.Slots.{cols, Slot}
use Rattle.threading_node.specs.Cells.{Row, Rowed, searching-start, turn-slot, gets-less, above-all, left}
use Rattle.threading_node.specs.declared.Siblings.{Siblings}

-- the walk is along a row of the table
abbrev pub Over : List ℕ → Siblings → Type 0
Over x s = s.nodes.now ≡ x

-- and the siblings from `start` on are left
pub record Begun (x : List ℕ) (start : Option ℕ) (s : Siblings) : Type 0 where
  pub over : Over x s
  pub first : s.at ≡ start

pub begun : {x : List ℕ} {start : Option ℕ} {s r : Siblings} → r ≡ s → Begun x start s → Begun x start r
begun q b = rw q b

-- a step gave r and left t
pub record Steps (s : Siblings) (r : Option ℕ) (t : Siblings) : Type 0 where
  pub over : Over s.nodes.now t
  pub gives : r ≡ s.at
  pub behind : (i : ℕ) → s.at ≡ Some i → t.at ≡ slot_at ((cols s.nodes.now).next i)

module _ (ns : List ℕ) (start : Option ℕ) (h : Rowed ns start) (s : ℕ) (is : start ≡ Some s) where
  pub row-slot : Slot s ns
  row-slot = turn-slot ns start (ends 0 0) None start (searching-start ns start (ends 0 0) h) s is

  pub row-falls : (nx : Option ℕ) → nx ≡ slot_at ((cols ns).next s) → left (above-all ns) ns (link_to nx) < left (above-all ns) ns (link_to start)
  row-falls nx e = gets-less ns start (ends 0 0) None start (searching-start ns start (ends 0 0) h) s is (ends ((cols ns).from s) ((cols ns).to s)) refl nx e

  pub row-next : (nx : Option ℕ) → nx ≡ slot_at ((cols ns).next s) → Rowed ns nx
  unfolding Row Rising
  row-next nx e = rw e (go h.row h.leads h.rising)
    where
      at : link_to start ≡ s
      at = ap link_to is

      go : (t : Nodes) → Row ns (link_to start) t → Rising t → Rowed ns (slot_at ((cols ns).next s))
      go nil l r = absurd (some-link start s h.linked is (sym at ∙ l))
      go (node i d c b x) l r =
          let z : i ≡ s = sym l.0.is ∙ at in
          record {
            row = x;
            leads = rw (link_is ((cols ns).next s)) (rw z at l.1);
            rising = r.2;
            linked = linked_at ((cols ns).next s);
          }

-- the same of a walk along a row of x that gave the sibling in slot i
pub record Turned (x : List ℕ) (s : Siblings) (i : ℕ) (t : Siblings) : Type 0 where
  pub over : Over x t
  pub here : s.at ≡ Some i
  pub behind : t.at ≡ slot_at ((cols x).next i)
  pub left : Rowed s.nodes.now s.at → Rowed t.nodes.now t.at

pub turned : {x : List ℕ} {s t : Siblings} {i : ℕ} → Over x s → Steps s (Some i) t → Turned x s i t
turned {x} {s} {t} {i} o k =
    record {
      over = k.over ∙ o;
      here = sym k.gives;
      behind = rw o at (k.behind i (sym k.gives));
      left = λ h. rw k.over (row-next s.nodes.now s.at h i (sym k.gives) t.at (k.behind i (sym k.gives)));
    }

-- and of one that gave none
pub turned-none : {s t : Siblings} → Steps s None t → (i : ℕ) → s.at ≡ Some i → ⊥
turned-none k i e = none-some i (k.gives ∙ e)
