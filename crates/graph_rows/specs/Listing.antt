-- The rows of all edges in the definition's order, one behind the other: what the loop of `write_edges` has written, and what it has left.
-- Assumes nothing.
use Rattle.std.specs.Prelude.{Some, None, ◌≡◌, refl, List, [], ◌∷◌, ◌++◌, ℕ, suc, ◌+◌, ◌<◌, ◌≤◌, length}
use Rattle.std.proofs.Common.{sym, ap, ◌∙◌, append_assoc, append-nil, arith, length-append}
use Rattle.std.proofs.Math.Decide.{dec_lt}
use Rattle.laws.specs.Records.{put_from, length-put_from}
use Rattle.laws.specs.ListLaws.{length-nil}
use Rattle.definition.specs.Threading.{Edge}
use Rattle.definition.specs.Calls.{written_at, flat, edge_row}
use Rattle.assembly.specs.Fields.{HasVertex, vertex_end, HasEdges, HasEdge, edge_to}
use Rattle.assembly.specs.Table.{length-table}
use Rattle.assembly.specs.Store.{edge_at, edges_of}
use Rattle.out_edges.specs.Outs.{Nexts, Slots}
use Rattle.out_edges.specs.Walked.{Named, named}
use Rattle.out_edges.specs.Sorted.{Orders, rest, rest-start, rest-skip, rest-take, rest_end}
use Rattle.threading_node.specs.Front.{front, front-row, written-front, flat-last, flat-many}

-- p rows are written, and the edges from (v, t) on are left
pub record Listing (es out out' : List ℕ) (m v t p : ℕ) : Type 0 where
  pub done : List Edge
  pub rows : length done ≡ p
  pub run : done ++ rest v t (edges_of es m) ≡ edges_of es m
  pub so_far : out' ≡ front (flat edge_row done) out
  pub same : length out' ≡ length out

edge-long : (e : Edge) → length (edge_row e) ≡ 6
unfolding edge_row
edge-long e = refl

pub list-start : (es out : List ℕ) (m : ℕ) → Listing es out out m 0 0 0
unfolding flat
list-start es out m = record { done = []; rows = refl; run = rest-start es m; so_far = refl; same = refl }

module _ {vs es out : List ℕ} {m : ℕ} (x : Orders vs es out m × (HasEdges out m)) where
  length-all : length (edges_of es m) ≡ m
  unfolding edges_of
  length-all = length-table (edge_at es) m x.0.distinct

  module _ {out' : List ℕ} {v t p : ℕ} (b : Listing es out out' m v t p) where
    -- every edge is a row
    pub list-fits : p + length (rest v t (edges_of es m)) ≡ m
    list-fits = let a = length-append b.done (rest v t (edges_of es m)) in let c = ap length b.run in let d = length-all in let e = b.rows in omega arith

    pub list-end : m ≤ p → out' ≡ written_at 0 (flat edge_row (edges_of es m)) out
    list-end l =
        let e : rest v t (edges_of es m) ≡ [] = length-nil (rest v t (edges_of es m)) (let w = list-fits in omega arith) in
        let f : b.done ≡ edges_of es m = sym (append-nil b.done) ∙ (rw e at b.run) in
        b.so_far ∙ ap (λ (l : List Edge). front (flat edge_row l) out) f ∙ sym (written-front (flat edge_row (edges_of es m)) out)

    module _ (l : p < m) where
      -- while edges are left there is a vertex to look at
      pub list-v : HasVertex vs v
      list-v = go (dec_lt (length vs) (vertex_end v))
        where
          go : Dec (length vs < vertex_end v) → HasVertex vs v
          go (yes h) = absurd (let e = ap length (rest_end es m v t (λ i k. (let z = x.0.from_in i k in omega arith))) in let w = list-fits in omega arith)
          go (no h) = omega arith

    pub list-skip : Nexts es m v t None → Listing es out out' m (v + 1) 0 p
    list-skip n =
        let e = rest-skip es m v t n in
        record { done = b.done; rows = b.rows; run = rw (← e) b.run; so_far = b.so_far; same = b.same }

    module _ {i : ℕ} (nx : Nexts es m v t (Some i)) where
      e : rest v t (edges_of es m) ≡ edge_at es i ∷ rest v (edge_to es i + 1) (edges_of es m)
      e = rest-take es m v t i x.0.distinct nx

      list-in : p < m
      list-in = let a = list-fits in let c = ap length e in omega arith

      pub list-take : (o : List ℕ) (u : ℕ) → o ≡ put_from out' 6 p 0 (edge_row (edge_at es i)) → u ≡ edge_to es i + 1 → Listing es out o m v u (p + 1)
      list-take o u h k =
          let E : Edge = edge_at es i in
          let rl = edge-long E in
          let q = x.1 in
          let n = b.rows in
          let l = list-in in
          let xs : List ℕ = flat edge_row b.done in
          let fm = flat-many edge_row 6 edge-long b.done in
          record {
            done = b.done ++ E ∷ [];
            rows = length-append b.done (E ∷ []) ∙ ap (λ (i : ℕ). i + 1) n;
            run = rw (k, append_assoc b.done (E ∷ []) (rest v (edge_to es i + 1) (edges_of es m)), ← e) b.run;
            so_far =
                h ∙ ap (λ (y : List ℕ). put_from y 6 p 0 (edge_row E)) b.so_far
                ∙ front-row xs out 6 p 0 (edge_row E) (omega arith) (omega arith)
                ∙ ap (λ (y : List ℕ). front y out) (sym (flat-last edge_row b.done E));
            same = ap length h ∙ length-put_from out' 6 p 0 (edge_row E) ∙ b.same;
          }

-- ---- the rows of one vertex
-- what is asked: the edges that are left from v on have room
pub record Rows (vs es : List ℕ) (m v : ℕ) (out : List ℕ) (p : ℕ) : Type 0 where
  pub orders : Orders vs es out m × (HasEdges out m)
  pub v-in : HasVertex vs v
  pub fits : p + length (rest v 0 (edges_of es m)) ≤ m

-- what is written: whatever rows stood there, those of v's out-edges follow
pub record Rowed (es : List ℕ) (m v : ℕ) (out out' : List ℕ) (p r : ℕ) : Type 0 where
  pub rows : (first : List ℕ) → Listing es first out m v 0 p → Listing es first out' m (v + 1) 0 r

pub record Rowing (es : List ℕ) (m v : ℕ) (out out' : List ℕ) (p t r : ℕ) : Type 0 where
  pub each : (first : List ℕ) → Listing es first out m v 0 p → Listing es first out' m v t r
  pub same : length out' ≡ length out
  pub fits : r + length (rest v t (edges_of es m)) ≤ m

orders-along : {vs es out first : List ℕ} {m : ℕ} → Orders vs es out m × (HasEdges out m) → length out ≡ length first → Orders vs es first m × (HasEdges first m)
orders-along o e = (
  record {
    distinct = o.0.distinct;
    from_in = o.0.from_in;
    slots = o.0.slots;
    room-e = o.0.room-e;
    room-o = (let a = o.0.room-o in omega arith);
    few-e = o.0.few-e;
  },
  (let a = o.1 in omega arith),
)

module _ {vs es out : List ℕ} {m v p : ℕ} (x : Rows vs es m v out p) where
  pub rows-names : Named vs es v
  rows-names = named x.v-in (x.orders.0.slots v x.v-in) x.orders.0.room-e

  pub rows-slots : Slots vs es m v
  rows-slots = x.orders.0.slots v x.v-in

  pub rowing-start : {t : ℕ} → t ≡ 0 → Rowing es m v out out p t p
  rowing-start z = rw z (record { each = λ first l. l; same = refl; fits = x.fits })

  module _ {out' : List ℕ} {t r : ℕ} (b : Rowing es m v out out' p t r) where
    pub rowing-end : Nexts es m v t None → Rowed es m v out out' p r
    rowing-end n = record { rows = λ first l. list-skip (orders-along x.orders l.same) (b.each first l) n }

    module _ {i : ℕ} (n : Nexts es m v t (Some i)) where
      split : length (rest v t (edges_of es m)) ≡ suc (length (rest v (edge_to es i + 1) (edges_of es m)))
      split = ap length (rest-take es m v t i x.orders.0.distinct n)

      pub rowing-in : r < m
      rowing-in = let a = split in let c = b.fits in omega arith

      pub rowing-asks : (HasEdge es i) × (HasEdge out' r)
      rowing-asks = ((let w = n.there.0 in let q = x.orders.0.room-e in omega arith), (let a = rowing-in in let q = x.orders.1 in let u = b.same in omega arith))

      pub rowing-next : (o : List ℕ) (u : ℕ) → o ≡ put_from out' 6 r 0 (edge_row (edge_at es i)) → u ≡ edge_to es i + 1 → Rowing es m v out o p u (r + 1)
      rowing-next o u h k =
          record {
            each = λ first l. list-take (orders-along x.orders l.same) (b.each first l) n o u h k;
            same = ap length h ∙ length-put_from out' 6 r 0 (edge_row (edge_at es i)) ∙ b.same;
            fits = rw k (let a = split in let c = b.fits in omega arith);
          }

-- ---- and of the next vertex
pub list-rows : {vs es out out' : List ℕ} {m v p : ℕ} → Orders vs es out m × (HasEdges out m) → Listing es out out' m v 0 p → p < m → Rows vs es m v out' p
list-rows x b l = record { orders = orders-along x (sym b.same); v-in = list-v x b l; fits = (let w = list-fits x b in omega arith) }
