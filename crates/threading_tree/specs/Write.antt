-- The nodes written out, depth first, by a loop: at each depth above the present one a list of slots holds the next sibling to go on with.
use Rattle.std.specs.Prelude.{◌≡◌, get_or, set, Option, Some, refl, ℕ, suc, ◌+◌, ◌-◌, ◌*◌, ◌^◌, ◌<◌, ◌≤◌, List, [], ◌∷◌, ◌++◌, length}
use Rattle.std.proofs.Common.{sym, ap, ◌∙◌, add-one, length-set, get_or-set_other, append_assoc, arith, length-append, get_or-set_same, append-nil}
use Rattle.laws.specs.Records.{put_from, length-put_from}
use Rattle.definition.specs.Threading.{Ends}
use Rattle.definition.specs.Evidence.{Walk, Node, nodes_below, nodes}
use Rattle.definition.specs.Calls.{written_at, flat, node_row}
use Rattle.threading_node.specs.Ends.{ends}
use Rattle.threading_node.specs.Links.{slot_at, link_to, Linked, link_is, linked_at, some-link, none-link}
use Rattle.threading_node.specs.Nodes.{Nodes, nil, node, erase, size, Links}
use Rattle.threading_node.specs.Good.{Good}
use Rattle.threading_node.specs.Slots.{cols, Slot, Beyond}
use Rattle.threading_node.specs.Take.{Wide, wide-slot}
use Rattle.threading_tree.specs.Listed.{size-erase, nodes-many, nodes-forest}
use Rattle.threading_node.specs.Front.{front, front-row, written-front, flat-last, flat-many}
use Rattle.threading_tree.specs.Held.{HeldWalk}

-- what the writer asks: a good table, a place for a slot at each depth, a row for each node
pub record Writable (cap n : ℕ) (x st out : List ℕ) : Type 0 where
  pub tree : Nodes
  pub good : Good (cols x) n tree
  pub room : n ≤ cap
  pub wide : Wide cap x
  pub deep : n ≤ length st
  pub long : n * 4 ≤ length out

pub record Written (n : ℕ) (x st st' out out' : List ℕ) : Type 0 where
  pub is : (t : Nodes) → Good (cols x) n t → out' ≡ written_at 0 (flat node_row (nodes_below 0 (erase t))) out
  pub beyond : Beyond n st st'

-- ---- what is still to be written: the branches from the link on, then those that the slots lead to, deepest first

unfoldable pub Pending : List ℕ → ℕ → List ℕ → List Nodes → Type 0
Pending x n st [] = Unit {0}
Pending x n st (t ∷ ts) = Links (cols x) n (get_or st (length ts) 0) t × Pending x n st ts

unfoldable pub later : List Nodes → List Node
later [] = []
later (t ∷ ts) = nodes_below (length ts) (erase t) ++ later ts

pub record Writing (n : ℕ) (x st out₀ out : List ℕ) (link depth row : ℕ) (T : Nodes) : Type 0 where
  pub tree : Nodes
  pub links : Links (cols x) n link tree
  pub above : List Nodes
  pub pending : Pending x n st above
  pub deep : length above ≡ depth
  pub done : List Node
  pub rows : length done ≡ row
  pub run : done ++ (nodes_below depth (erase tree) ++ later above) ≡ nodes_below 0 (erase T)
  pub so_far : out ≡ front (flat node_row done) out₀

pub record Writer (cap n : ℕ) (x st₀ st out₀ out : List ℕ) (link depth row : ℕ) : Type 0 where
  pub all : (T : Nodes) → Good (cols x) n T → Writing n x st out₀ out link depth row T
  pub under : depth ≤ row
  pub beyond : Beyond n st₀ st
  pub stack : length st ≡ length st₀
  pub outs : length out ≡ length out₀

pending-set : (x : List ℕ) (n : ℕ) (st : List ℕ) (d v : ℕ) (ts : List Nodes) → length ts ≤ d → Pending x n st ts → Pending x n (set st d v) ts
unfolding Pending
pending-set x n st d v [] h p = tt
pending-set x n st d v (t ∷ ts) h p =
    (rw (get_or-set_other st d (length ts) v 0 (λ z. omega arith)) p.0, pending-set x n st d v ts (omega arith) p.1)

row-length : (r : Node) → length (node_row r) ≡ 4
unfolding node_row
row-length r = refl

-- ---- one node, and the node's row

module _ (n : ℕ) (x st out₀ out : List ℕ) (link depth row : ℕ) (T : Nodes) (w : Writing n x st out₀ out link depth row T) where
  -- every node is a row
  in_all : (row + length (nodes_below depth (erase w.tree))) + length (later w.above) ≡ size T
  in_all =
      let a = length-append w.done (nodes_below depth (erase w.tree) ++ later w.above) in
      let b = length-append (nodes_below depth (erase w.tree)) (later w.above) in
      let c = ap length w.run in
      let d = nodes-many 0 (erase T) in
      let e = size-erase T in
      let f = w.rows in
      omega arith

  -- the node at a link that is not 0
  pub record Met : Type 0 where
    pub edge : Ends
    pub count : ℕ
    pub below : Nodes
    pub after : Nodes
    pub is : w.tree ≡ node link edge count below after
    pub live : link ≤ n
    pub from : (cols x).from link ≡ edge.from
    pub to : (cols x).to link ≡ edge.to
    pub counted : (cols x).count link ≡ count
    pub kids : Links (cols x) n ((cols x).kid link) below
    pub rest : Links (cols x) n ((cols x).next link) after

  met : (link ≡ 0 → ⊥) → Met
  unfolding Links
  met ne = go w.tree refl w.links
    where
      go : (t : Nodes) → w.tree ≡ t → Links (cols x) n link t → Met
      go nil z l = absurd (ne l)
      go (node i e c b y) z l =
          let q = l.0.is in
          record {
            edge = e;
            count = c;
            below = b;
            after = y;
            is = rw q z;
            live = rw q l.0.live;
            from = rw q l.0.from;
            to = rw q l.0.to;
            counted = rw q l.0.count;
            kids = rw q l.1;
            rest = rw q l.2;
          }

  pub met-live : (link ≡ 0 → ⊥) → link ≤ n
  met-live ne = (met ne).live

  -- a link to a row leads to one of the nodes, or to none
  row-live : (l : ℕ) (t : Nodes) → Links (cols x) n l t → l ≤ n
  unfolding Links
  row-live l nil h = omega arith
  row-live l (node i e c b y) h = let p = h.0.is in let q = h.0.live in omega arith

  pub next-live : (link ≡ 0 → ⊥) → (cols x).next link ≤ n
  next-live ne = let m = met ne in row-live ((cols x).next link) m.after m.rest

  pub met-row : (link ≡ 0 → ⊥) → row < size T
  unfolding nodes_below erase
  met-row ne =
      let m = met ne in
      let a = in_all in
      let b : length (nodes_below depth (erase w.tree)) ≡ length (nodes_below depth (erase (node link m.edge m.count m.below m.after)))
      = ap (λ (t : Nodes). length (nodes_below depth (erase t))) m.is in
      omega arith

  -- the node is written, its children come next
  pub down : (ne : link ≡ 0 → ⊥) → (a b c k s : ℕ) → a ≡ (cols x).from link → b ≡ (cols x).to link → c ≡ (cols x).count link → k ≡ (cols x).kid link → s ≡ (cols x).next link
      → (out' : List ℕ) → out' ≡ put_from out 4 row 0 (a ∷ b ∷ c ∷ depth ∷ []) → depth < length st → size T * 4 ≤ length out₀
      → Writing n x (set st depth s) out₀ out' k (depth + 1) (row + 1) T
  unfolding nodes_below erase later Pending node_row
  down ne a b c k s ha hb hc hk hs out' ho hd hl =
      let m = met ne in
      let N : Node = record { ends = m.edge; count = m.count; depth = depth } in
      let ra = w.rows in
      let rs = met-row ne in
      let fm = flat-many node_row 4 row-length w.done in
      let dl = w.deep in
      let xs : List ℕ = flat node_row w.done in
      let row_is : a ∷ b ∷ c ∷ depth ∷ [] ≡ node_row N = same_row a m.edge.from b m.edge.to c m.count (ha ∙ m.from) (hb ∙ m.to) (hc ∙ m.counted) in
      record {
        tree = m.below;
        links = rw hk m.kids;
        above = m.after ∷ w.above;
        pending =
            (rw (dl, get_or-set_same st depth s 0 hd, hs) m.rest, pending-set x n st depth s w.above (omega arith) w.pending);
        deep = ap suc dl ∙ sym (add-one depth);
        done = w.done ++ N ∷ [];
        rows = length-append w.done (N ∷ []) ∙ ap (λ (q : ℕ). q + 1) ra;
        run = run_on m ∙ w.run;
        so_far =
            ho ∙ ap (λ (o : List ℕ). put_from o 4 row 0 (a ∷ b ∷ c ∷ depth ∷ [])) w.so_far
            ∙ front-row xs out₀ 4 row 0 (a ∷ b ∷ c ∷ depth ∷ []) (omega arith) (omega arith)
            ∙ ap (λ (l : List ℕ). front (xs ++ l) out₀) row_is
            ∙ ap (λ (l : List ℕ). front l out₀) (sym (flat-last node_row w.done N));
      }
    where
      same_row : (a a' b b' k k' : ℕ) → a ≡ a' → b ≡ b' → k ≡ k' → a ∷ b ∷ k ∷ depth ∷ [] ≡ a' ∷ b' ∷ k' ∷ depth ∷ []
      same_row a a' b b' k k' p q r = cc

      run_on : (m : Met) → (w.done ++ record { ends = m.edge; count = m.count; depth = depth } ∷ []) ++ (nodes_below (depth + 1) (erase m.below) ++ later (m.after ∷ w.above))
          ≡ w.done ++ (nodes_below depth (erase w.tree) ++ later w.above)
      run_on m =
          let N : Node = record { ends = m.edge; count = m.count; depth = depth } in
          append_assoc w.done (N ∷ []) (nodes_below (depth + 1) (erase m.below) ++ later (m.after ∷ w.above))
          ∙ ap (λ (l : List Node). w.done ++ (N ∷ l))
          (ap (λ (q : ℕ). nodes_below q (erase m.below) ++ later (m.after ∷ w.above)) (add-one depth)
          ∙ ap (λ (q : ℕ). nodes_below (suc depth) (erase m.below) ++ (nodes_below q (erase m.after) ++ later w.above)) w.deep
          ∙ sym (append_assoc (nodes_below (suc depth) (erase m.below)) (nodes_below depth (erase m.after)) (later w.above)))
          ∙ ap (λ (t : Nodes). w.done ++ (nodes_below depth (erase t) ++ later w.above)) (sym m.is)

  none : link ≡ 0 → w.tree ≡ nil
  unfolding Links
  none z = go w.tree w.links
    where
      go : (t : Nodes) → Links (cols x) n link t → t ≡ nil
      go nil l = refl
      go (node i e c b y) l = let p = l.0.is in let q = l.0.some in absurd (omega arith)

  run_none : link ≡ 0 → w.done ++ later w.above ≡ nodes_below 0 (erase T)
  unfolding nodes_below erase
  run_none z = ap (λ (t : Nodes). w.done ++ (nodes_below depth (erase t) ++ later w.above)) (sym (none z)) ∙ w.run

  -- the row of siblings has ended: on with the next sibling of the node above
  pub up : link ≡ 0 → (depth ≡ 0 → ⊥) → (k : ℕ) → k ≡ get_or st (depth - 1) 0 → Writing n x st out₀ out k (depth - 1) row T
  unfolding later Pending
  up z ne k hk = go w.above w.pending w.deep (run_none z)
    where
      go : (ts : List Nodes) → Pending x n st ts → length ts ≡ depth → w.done ++ later ts ≡ nodes_below 0 (erase T) → Writing n x st out₀ out k (depth - 1) row T
      go [] p l r = absurd (ne (sym l))
      go (t ∷ ts) p l r =
          let e : length ts ≡ depth - 1 = omega arith in
          record {
            tree = t;
            links = rw (hk, ← e) p.0;
            above = ts;
            pending = p.1;
            deep = e;
            done = w.done;
            rows = w.rows;
            run = rw (← e) r;
            so_far = w.so_far;
          }

  -- all is written
  pub ended : link ≡ 0 → depth ≡ 0 → out ≡ written_at 0 (flat node_row (nodes_below 0 (erase T))) out₀
  unfolding later
  ended z e = go w.above w.deep (run_none z)
    where
      append-nil : (l : List Node) → l ++ [] ≡ l
      append-nil [] = refl
      append-nil (y ∷ l) = ap (λ (q : List Node). y ∷ q) (append-nil l)

      go : (ts : List Nodes) → length ts ≡ depth → w.done ++ later ts ≡ nodes_below 0 (erase T) → out ≡ written_at 0 (flat node_row (nodes_below 0 (erase T))) out₀
      go [] l r =
          w.so_far ∙ ap (λ (d : List Node). front (flat node_row d) out₀) (sym (append-nil w.done) ∙ r)
          ∙ sym (written-front (flat node_row (nodes_below 0 (erase T))) out₀)
      go (t ∷ ts) l r = absurd (omega arith)

-- ---- the loop

module _ (cap n : ℕ) (x st₀ out₀ : List ℕ) (p : Writable cap n x st₀ out₀) where
  pub writer-slot : Slot 0 x
  writer-slot = wide-slot p.wide 0 (omega arith)

  pub writer-start : (at : Option ℕ) → at ≡ slot_at ((cols x).kid 0) → Writer cap n x st₀ st₀ out₀ out₀ (link_to at) 0 0 × Linked at
  unfolding later Pending flat
  writer-start at z = (rw link start, rw z (linked_at ((cols x).kid 0)))
    where
      link : link_to at ≡ (cols x).kid 0
      link = ap link_to z ∙ link_is ((cols x).kid 0)

      start : Writer cap n x st₀ st₀ out₀ out₀ ((cols x).kid 0) 0 0
      start = record {
        all = λ T g.
            record { tree = T; links = g.links; above = []; pending = tt; deep = refl; done = []; rows = refl; run = append-nil (nodes_below 0 (erase T)); so_far = refl };
        under = omega arith;
        beyond = λ i q. refl;
        stack = refl;
        outs = refl;
      }

      append-nil : (l : List Node) → l ++ [] ≡ l
      append-nil [] = refl
      append-nil (y ∷ l) = ap (λ (q : List Node). y ∷ q) (append-nil l)

  module _ (st out : List ℕ) (at : Option ℕ) (depth row : ℕ) (w : Writer cap n x st₀ st out₀ out (link_to at) depth row × Linked at) where
    module _ (link : ℕ) (is : at ≡ Some link) where
      ne : link ≡ 0 → ⊥
      ne = some-link at link w.1 is

      k : Writer cap n x st₀ st out₀ out link depth row
      k = rw is at w.0

      one : Writing n x st out₀ out link depth row p.tree
      one = k.all p.tree p.good

      pub node_in : Slot link x
      node_in = let a = met-live n x st out₀ out link depth row p.tree one ne in let b = p.room in wide-slot p.wide link (omega arith)

      pub row-left : row < n
      row-left = let a = met-row n x st out₀ out link depth row p.tree one ne in let b = p.good.full in omega arith

      pub row_in : row * 4 + 4 ≤ length out
      row_in = let a = row-left in let b = p.long in let c = k.outs in omega arith

      pub depth-fits : depth < 2 ^ 32
      depth-fits = let a = row-left in let b = k.under in let c = p.wide.few in let d = p.room in omega arith

      pub stack-offset : depth * 4 < 2 ^ 64
      stack-offset = let a = depth-fits in omega arith

      pub next-fits : (nx : Option ℕ) → nx ≡ slot_at ((cols x).next link) → link_to nx < 2 ^ 32
      next-fits nx hn =
          let a : link_to nx ≡ (cols x).next link = ap link_to hn ∙ link_is ((cols x).next link) in
          let b = next-live n x st out₀ out link depth row p.tree one ne in
          let c = p.wide.few in
          let d = p.room in
          omega arith

      pub stack-in : depth < length st
      stack-in = let a = row-left in let b = k.under in let c = p.deep in let d = k.stack in omega arith

      pub next_row : row + 1 < 2 ^ 64
      next_row = let a = row-left in let c = p.wide.few in let d = p.room in omega arith

      pub next-depth : depth + 1 < 2 ^ 64
      next-depth = let a = depth-fits in omega arith

      pub writer-down : (f : Ends) (c s : ℕ) (l nx : Option ℕ) → f ≡ ends ((cols x).from link) ((cols x).to link) → c ≡ (cols x).count link → l ≡ slot_at ((cols x).kid link)
          → nx ≡ slot_at ((cols x).next link) → s ≡ link_to nx
          → (out' : List ℕ) → out' ≡ put_from out 4 row 0 (f.from ∷ f.to ∷ c ∷ depth ∷ []) → Writer cap n x st₀ (set st depth s) out₀ out' (link_to l) (depth + 1) (row + 1) × Linked l
      writer-down f c s l nx hf hc hl hn hs out' ho =
          let lt = row-left in
          let lo = p.long in
          let un = k.under in
          let below : link_to l ≡ (cols x).kid link = ap link_to hl ∙ link_is ((cols x).kid link) in
          let after : s ≡ (cols x).next link = hs ∙ ap link_to hn ∙ link_is ((cols x).next link) in (
            record {
              all = λ T g.
                  let q = g.full in
                  down n x st out₀ out link depth row T (k.all T g) ne f.from f.to c (link_to l) s (ap (λ (d : Ends). d.from) hf) (ap (λ (d : Ends). d.to) hf) hc below after out' ho stack-in (omega arith);
              under = omega arith;
              beyond = λ i q. get_or-set_other st depth i s 0 (λ z. omega arith) ∙ k.beyond i q;
              stack = length-set st depth s ∙ k.stack;
              outs = ap length ho ∙ length-put_from out 4 row 0 (f.from ∷ f.to ∷ c ∷ depth ∷ []) ∙ k.outs;
            },
            rw hl (linked_at ((cols x).kid link)),
          )

      pub falls_down : 2 * (n - (row + 1)) + (depth + 1) < 2 * (n - row) + depth
      falls_down = let a = row-left in omega arith

    module _ (none : (s : ℕ) → at ≡ Some s → ⊥) where
      z : link_to at ≡ 0
      z = none-link at none

      pub writer-end : depth ≡ 0 → Written n x st₀ st out₀ out
      writer-end e = record { is = λ T g. ended n x st out₀ out (link_to at) depth row T (w.0.all T g) z e; beyond = w.0.beyond }

      depth-most : depth ≤ n
      depth-most =
          let a = in_all n x st out₀ out (link_to at) depth row p.tree (w.0.all p.tree p.good) in
          let b = p.good.full in
          let c = w.0.under in
          omega arith

      pub stack-offset-up : (depth - 1) * 4 < 2 ^ 64
      stack-offset-up = let a = depth-most in let b = p.room in let c = p.wide.few in omega arith

      module _ (ne : depth ≡ 0 → ⊥) where
        pub stack-up : depth - 1 < length st
        stack-up = let a = depth-most in let b = w.0.stack in let c = p.deep in omega arith

        pub writer-up : (l : Option ℕ) → l ≡ slot_at (get_or st (depth - 1) 0) → Writer cap n x st₀ st out₀ out (link_to l) (depth - 1) row × Linked l
        writer-up l hl =
            let un = w.0.under in (
              record {
                all = λ T g. up n x st out₀ out (link_to at) depth row T (w.0.all T g) z ne (link_to l) (ap link_to hl ∙ link_is (get_or st (depth - 1) 0));
                under = omega arith;
                beyond = w.0.beyond;
                stack = w.0.stack;
                outs = w.0.outs;
              },
              rw hl (linked_at (get_or st (depth - 1) 0)),
            )

-- ---- for callers: the definition's rows

module _ (w : Walk) (cap n g b : ℕ) (root : ℕ → ℕ) (x op : List ℕ) (h : HeldWalk w cap n g b root x op) (st out : List ℕ) where
  pub held-writable : n ≤ length st → n * 4 ≤ length out → Writable cap n x st out
  held-writable a c = record { tree = h.tree; good = h.good; room = h.room; wide = h.wide; deep = a; long = c }

  pub held-written : (st' out' : List ℕ) → Written n x st st' out out' → out' ≡ written_at 0 (flat node_row (nodes w.trees)) out
  held-written st' out' k =
      k.is h.tree h.good
      ∙ ap (λ (l : List Node). written_at 0 (flat node_row l) out) (ap (nodes_below 0) h.same.trees ∙ sym (nodes-forest w.trees))
