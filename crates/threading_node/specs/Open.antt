-- What opening a tree asks and ensures. (Rust: ThreadingTree::get_and_increment_root)
use Rattle.std.specs.Prelude.{◌≡◌, refl, List, [], ◌∷◌, Option, Some, None, Result, Ok, Err, ℕ, suc, ◌+◌, ◌^◌, ◌<◌, ◌≤◌}
use Rattle.std.proofs.Common.{sym, ◌∙◌, arith}
use Prim.Native.Nat.{Ordering}
use Rattle.definition.specs.Threading.{Ends, compare_ends}
use Rattle.threading_node.specs.Ends.{ends, eq_self, eq-same, eq_ends-false, lt-ne, lt_trans}
use Rattle.threading_node.specs.Nodes.{Nodes, node, seek_n, landed, At, here, down, along, kids_at, Rising, at_above, Here}
use Rattle.threading_node.specs.Rows.{seek_n-eq, seek_n-gt, Found}
use Rattle.threading_node.specs.Good.{Good, good-bumped, child-found, landed-here}
use Rattle.threading_node.specs.Slots.{cols, told, Slot, Beyond, raised, raised-beyond, bumped-root, root-under}
use Rattle.threading_node.specs.Take.{Wide, wide-slot, Spare, Ready, Went, Full, After, Taken}
use Rattle.threading_node.specs.declared.Reached.{Reached}
use Rattle.refusals.specs.declared.Refusal.{Refusal}
use Rattle.refusals.specs.Numbers.{number}

-- a slot told as the root of v is that root's
abbrev pub RootAt : Option ℕ → ℕ → Nodes → Type 0
RootAt None v t = Unit {0}
RootAt (Some root) v t = At t 0 (ends v v ∷ []) root

pub record Openable (cap n v : ℕ) (root : Option ℕ) (x : List ℕ) : Type 0 where
  pub tree : Nodes
  pub good : Good (cols x) n tree
  pub rooted : RootAt root v tree
  pub room : n ≤ cap
  pub wide : Wide cap x
  pub spare : Spare cap 1 x
  pub ends : v < 2 ^ 16

abbrev pub Opens : ℕ → ℕ → ℕ → List ℕ → List ℕ → Nodes → Result Reached Refusal → Type 0
Opens cap n v x y t (Ok st) = Went cap n 1 (ends v v) y t [] (landed (ends v v) (suc n) t) st
Opens cap n v x y t (Err k) = Full cap n 1 (ends v v) x y t [] (number k)

pub record OpenedAt (cap n v : ℕ) (root : Option ℕ) (x y : List ℕ) (r : Result Reached Refusal) : Type 0 where
  pub is : (t : Nodes) → Good (cols x) n t → RootAt root v t → Opens cap n v x y t r
  pub counts : (l : ℕ) → (cols y).count l ≤ (cols x).count l + 1
  pub beyond : Beyond (told cap) x y

pub at-seek : (e : Ends) (prev : ℕ) {t : Nodes} {q r : ℕ} → At t q (e ∷ []) r → Rising t → seek_n e prev t ≡ Here r
unfolding Rising
at-seek e prev (down {i = i} {c = c} {f = f} {b = b} {x = x} here) v = seek_n-eq f prev i f c b x (eq_self f)
at-seek e prev (along {i = i} {c = c} {q = q} {k = r} {f = f} {b = b} {x = x} n a) v = go (compare_ends e f) refl (at-seek e i a v.2)
  where
    go : (o : Ordering) → compare_ends e f ≡ o → seek_n e i x ≡ Here r → seek_n e prev (node i f c b x) ≡ Here r
    go Ordering.lt z ih = absurd (lt-ne e e (lt_trans e f e z (at_above f e a v.0)) refl)
    go Ordering.eq z ih = absurd (eq_ends-false e f n (eq-same e f z))
    go Ordering.gt z ih = seek_n-gt e prev i f c b x z ∙ ih

module _ (cap n v : ℕ) (root : Option ℕ) (x : List ℕ) (h : Openable cap n v root x) where
  -- the root is to be made
  pub ready : Ready cap n 0 1 (ends v v) x
  ready =
      record { tree = h.tree; path = []; good = h.good; at = here; room = h.room; wide = h.wide; spare = h.spare; ends = (h.ends, h.ends) }

  pub opened-new : (y : List ℕ) (r : Result Reached Refusal) → Taken cap n 0 1 (ends v v) x y r → OpenedAt cap n v root x y r
  unfolding kids_at
  opened-new y r k = record { is = λ t g w. go t r (k.is t [] g here); counts = k.counts; beyond = k.beyond }
    where
      go : (t : Nodes) (r : Result Reached Refusal) → After cap n 1 (ends v v) x y t [] (landed (ends v v) (suc n) (kids_at (here {t = t} {q = 0}))) r → Opens cap n v x y t r
      go t (Ok st) a = a
      go t (Err m) a = a

  -- the root is there
  module _ (r : ℕ) (is : root ≡ Some r) where
    root-seek : (t : Nodes) → Good (cols x) n t → RootAt root v t → seek_n (ends v v) 0 t ≡ Here r
    root-seek t g w = at-seek (ends v v) 0 (rw is at w) g.rising

    root-found : Found h.good.own [] (ends v v) n (cols x) r
    unfolding kids_at
    root-found = child-found (cols x) (cols x) n 1 (ends v v) 0 h.good here r (root-seek h.tree h.good h.rooted)

    root-some : r ≡ 0 → ⊥
    root-some z = let p = root-found.some in omega arith

    root_live : r ≤ cap
    root_live = let p = root-found.live in let q = h.room in omega arith

    pub root-slot : Slot r x
    root-slot = wide-slot h.wide r root_live

    pub root-spare : (cols x).count r + 1 < 2 ^ 32
    root-spare = h.spare r root_live

    pub opened-there : (y : List ℕ) → y ≡ raised x r 1 → OpenedAt cap n v root x y (Ok (record { nodes = n; at = r }))
    unfolding kids_at
    opened-there y z =
        rw z
        (record {
          is = λ t g w.
              let q = root-seek t g w in
              record {
                good = good-bumped (cols x) (cols (raised x r 1)) n 1 (ends v v) 0 [] g here r q (bumped-root x r 1 root-some root-slot);
                at = sym (landed-here 1 (ends v v) (suc n) r 0 t q);
                room = h.room;
              };
          counts = root-under x r 1 root-some root-slot;
          beyond = raised-beyond x r 1 cap root_live;
        })
