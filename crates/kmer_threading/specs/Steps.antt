-- One step of threading, and the contracts' words. Assumes nothing.
use Rattle.std.specs.Prelude.{◌≡◌, ◌≢◌, ◌⊎◌, Bool, true, not, None, Some, Result, Ok, Err, List, ℕ, ◌+◌, ◌-◌, ◌^◌, ◌<◌, ◌≤◌, eqb, length, get_or}
use Rattle.std.proofs.Math.Path.{refl}
use Rattle.std.proofs.Common.{sym, ap, ◌∙◌, arith}
use Rattle.std.proofs.Math.Logic.{inl, inr}
use Rattle.std.proofs.Math.Option.{none, some}
use Rattle.std.proofs.Math.Decide.{ℕ_discrete}
use Rattle.laws.specs.Lists.{last_or}
use Rattle.definition.specs.Limits.{is_base}
use Rattle.definition.specs.Threading.{Ends, Origin, Edge, Threading, one_step, number_of, with_kmer, follow, step_to, step}
use Rattle.kmer_threading.specs.declared.Most.{Most}
use Rattle.kmer_threading.specs.declared.At.{At}
use Rattle.refusals.specs.declared.Refusal.{Refusal}
use Rattle.refusals.specs.Numbers.{number}
use Rattle.assembly.specs.Fields.{HasVertices, HasVertex, slot_of, out_edge, kmer_place, incoming_count, HasEdges, HasEdge, edge_from, edge_to, edge_support}
use Rattle.assembly.specs.Table.{table, length-table, table-absent, count-le}
use Rattle.assembly.specs.Puts.{length-put}
use Rattle.assembly.specs.Store.{edge_at, edges_of, kmers_of, graph_of, last_of, code, code_lt, Good, good-distinct, follow-none, follow-some}
use Rattle.assembly.specs.Moves.{gained, gained-put, gained-good, gained-row, gained-2, length-gained, added_e, added_v, new_edge, added-put, added-supports, length-added_v, length-added_e, added-good, kmers-added}
use Rattle.assembly.specs.Kmers.{part, last-part, last-of, number-kmer, with-old, with-new, born, born-good, length-born, with-length, born-last-new, born-row}

unfoldable pub threading_of : ℕ → List ℕ → List ℕ → List ℕ → At → Threading
threading_of k text vs es s = record { graph = graph_of k text vs s.vertices es s.edges; here = s.here }

-- the tables hold a graph, within the maxima, and have room up to these
pub record Fine (k : ℕ) (text vs es : List ℕ) (most : Most) (s : At) : Type 0 where
  pub good : Good k text vs s.vertices es s.edges
  pub here : s.here < s.vertices
  pub vertices : s.vertices ≤ most.vertices
  pub edges : s.edges ≤ most.edges
  pub room-v : HasVertices vs most.vertices
  pub room-e : HasEdges es most.edges
  pub few-v : most.vertices ≤ 4096
  pub few-e : most.edges ≤ 8192
  pub supports : (i : ℕ) → i < s.edges → edge_support es i ≤ s.steps

pub record Came (k : ℕ) (text vs es : List ℕ) (most : Most) (s : At) (c : ℕ) (t : Threading) : Type 0 where
  pub counted : s.steps ≤ c
  pub is : threading_of k text vs es s ≡ t
  pub fine : Fine k text vs es most s

-- the graph that was to be has too many vertices or edges
pub record Over (most : Most) (n : ℕ) (t : Threading) : Type 0 where
  pub eight : n ≡ 8
  pub over : (most.vertices < length t.graph.kmers) ⊎ (most.edges < length t.graph.edges)

-- c bounds the counts made so far
abbrev pub Stepped : ℕ → List ℕ → List ℕ → List ℕ → Most → ℕ → Result At Refusal → Threading → Type 0
Stepped k text vs es most c (Ok s) t = Came k text vs es most s c t
Stepped k text vs es most c (Err e) t = Over most (number e) t

-- ---- the vertex of a kmer
pub record Gets (k : ℕ) (text vs : List ℕ) (most : Most) (s : At) (q : ℕ) : Type 0 where
  pub vertices : s.vertices ≤ most.vertices
  pub room-v : HasVertices vs most.vertices
  pub few-v : most.vertices ≤ 4096
  pub fits : (v : ℕ) → v < s.vertices → kmer_place vs v + k ≤ length text
  pub inside : q + k ≤ length text
  pub small : length text < 2 ^ 32

-- the kmer at q has the vertex t .here; a new one is the only change
pub record GotAt (k : ℕ) (text vs vs' : List ℕ) (most : Most) (s : At) (q : ℕ) (t : At) : Type 0 where
  pub kmers : kmers_of k text vs' t.vertices ≡ with_kmer (kmers_of k text vs s.vertices) (part k text q)
  pub number : t.here ≡ number_of (kmers_of k text vs s.vertices) (part k text q)
  pub here : t.here < t.vertices
  pub vertices : t.vertices ≤ most.vertices
  pub more : s.vertices ≤ t.vertices
  pub edges : t.edges ≡ s.edges
  pub steps : t.steps ≡ s.steps
  pub length-v : length vs' ≡ length vs
  pub last : last_of k text vs' t.vertices t.here ≡ last_or 0 (part k text q)
  pub rows : (v c : ℕ) → c < 12 → v < s.vertices → out_edge vs' v c ≡ out_edge vs v c
  pub good : (es : List ℕ) (m : ℕ) → is_base (last_or 0 (part k text q)) ≡ true → Good k text vs s.vertices es m → Good k text vs' t.vertices es m

-- there is no room for it
pub record NoVertex (k : ℕ) (text vs : List ℕ) (most : Most) (s : At) (q n : ℕ) : Type 0 where
  pub eight : n ≡ 8
  pub over : most.vertices < length (with_kmer (kmers_of k text vs s.vertices) (part k text q))

abbrev pub Got : ℕ → List ℕ → List ℕ → List ℕ → Most → At → ℕ → Result At Refusal → Type 0
Got k text vs vs' most s q (Ok t) = GotAt k text vs vs' most s q t
Got k text vs vs' most s q (Err e) = NoVertex k text vs most s q (number e)

module _ {k : ℕ} {text vs : List ℕ} {most : Most} {s : At} {q : ℕ} (x : Gets k text vs most s q)
    (w : ℕ) (hw : w ≡ number_of (kmers_of k text vs s.vertices) (part k text q)) where
  pub got-old : w < s.vertices → GotAt k text vs vs most s q (record { vertices = s.vertices; edges = s.edges; here = w; steps = s.steps })
  got-old low =
      record {
        kmers = sym (with-old k text vs s.vertices q w hw low);
        number = hw;
        here = low;
        vertices = x.vertices;
        more = omega arith;
        edges = refl;
        steps = refl;
        length-v = refl;
        last = last-of k text vs s.vertices w low ∙ ap (λ (y : List ℕ). last_or 0 y) (number-kmer k text vs s.vertices q w hw low);
        rows = λ v c h l. refl;
        good = λ es m b g. g;
      }

  pub no-vertex : w ≡ s.vertices → most.vertices ≤ s.vertices → NoVertex k text vs most s q 8
  no-vertex e h = record { eight = refl; over = rw (with-length k text vs s.vertices q w hw e) (omega arith) }

  module _ (e : w ≡ s.vertices) (l : s.vertices < most.vertices) where
    pub new-room : HasVertex vs s.vertices
    new-room = let r = x.room-v in omega arith

    pub got-new : (vs' : List ℕ) → vs' ≡ born vs s.vertices q
        → GotAt k text vs vs' most s q (record { vertices = s.vertices + 1; edges = s.edges; here = w; steps = s.steps })
    got-new vs' d =
        rw d (record {
          kmers = sym (with-new k text vs s.vertices q new-room w hw e);
          number = hw;
          here = omega arith;
          vertices = omega arith;
          more = omega arith;
          edges = refl;
          steps = refl;
          length-v = length-born vs s.vertices q;
          last = rw e (born-last-new k text vs s.vertices q new-room);
          rows = λ v c h u. born-row k text vs s.vertices q new-room v c h (omega arith);
          good = λ es m b g. born-good q g new-room x.inside b;
        })

-- ---- the definition's two cases
step-some : (ref : Bool) (o : Origin) (x : List ℕ) (t : Threading) (e : Edge) → follow t.graph t.here (last_or 0 x) ≡ some e
    → step ref o x t ≡ step_to ref o t t.graph.kmers e.ends.to
unfolding step
step-some ref o x t e h = rw (h, step)

step-none : (ref : Bool) (o : Origin) (x : List ℕ) (t : Threading) → follow t.graph t.here (last_or 0 x) ≡ none
    → step ref o x t ≡ step_to ref o t (with_kmer t.graph.kmers x) (number_of t.graph.kmers x)
unfolding step
step-none ref o x t h = rw (h, step)

module _ {k : ℕ} {text vs es : List ℕ} {most : Most} {s : At} (f : Fine k text vs es most s) (q b a : ℕ) (o : Origin)
    (hk : 0 < k) (hq : q + k ≤ length text) (hb : b ≡ get_or text (q + k - 1) 0) where
  last-b : last_or 0 (part k text q) ≡ b
  last-b = last-part k text q hk hq ∙ sym hb

  abbrev to-be : Threading
  to-be = step (not (eqb a 0)) o (part k text q) (threading_of k text vs es s)

  -- ---- there is an out-edge to follow
  module _ (ib : is_base b ≡ true) (sl : ℕ) (hs : sl ≡ out_edge vs s.here (code b)) (pos : 0 < sl) where
    found : follow (graph_of k text vs s.vertices es s.edges) s.here (last_or 0 (part k text q)) ≡ some (edge_at es (sl - 1))
    found = rw (last-b, hs) (follow-some f.good s.here b f.here ib (rw hs at pos))

    pub slot-in : sl - 1 < s.edges
    slot-in = let w = f.good.full s.here (code b) f.here (code_lt b) (rw hs at pos) in let y : sl ≤ s.edges = rw hs w.0 in omega arith

    slot-from : edge_from es (sl - 1) ≡ s.here
    slot-from = rw hs (f.good.full s.here (code b) f.here (code_lt b) (rw hs at pos)).1

    slot-room : HasEdge es (sl - 1)
    slot-room = let h = slot-in in let e = f.edges in let r = f.room-e in omega arith

    ends-are : (edge_at es (sl - 1)).ends ≡ record { from = s.here; to = edge_to es (sl - 1) }
    ends-are = rw slot-from

    pub came-known : Came k text vs (gained es (sl - 1) a) most (record { vertices = s.vertices; edges = s.edges; here = edge_to es (sl - 1); steps = s.steps + 1 }) (s.steps + 1) to-be
    unfolding threading_of graph_of step_to
    came-known =
        record {
          counted = omega arith;
          is =
              rw (gained-put es (sl - 1) a slot-room f.good slot-in o, ends-are)
              (sym (step-some (not (eqb a 0)) o (part k text q) (threading_of k text vs es s) (edge_at es (sl - 1)) found));
          fine =
              record {
                good = gained-good (sl - 1) a slot-room f.good;
                here = f.good.to_in (sl - 1) slot-in;
                vertices = f.vertices;
                edges = f.edges;
                room-v = f.room-v;
                room-e = rw (length-gained es (sl - 1) a slot-room) f.room-e;
                few-v = f.few-v;
                few-e = f.few-e;
                supports = λ i h. gains i h (ℕ_discrete i (sl - 1));
              };
        }
      where
        gains : (i : ℕ) → i < s.edges → Dec (i ≡ sl - 1) → edge_support (gained es (sl - 1) a) i ≤ s.steps + 1
        gains i h (yes z) = rw (z, gained-2 es (sl - 1) a slot-room) (let y = f.supports (sl - 1) slot-in in omega arith)
        gains i h (no z) = rw (gained-row es (sl - 1) a slot-room i 2 (omega arith) z) (let y = f.supports i h in omega arith)

  -- ---- there is none: w is the kmer's number
  module _ (ib : is_base b ≡ true) (hs : out_edge vs s.here (code b) ≡ 0) where
    not_found : follow (graph_of k text vs s.vertices es s.edges) s.here (last_or 0 (part k text q)) ≡ none
    not_found = rw last-b (follow-none f.good s.here b hs)

    abbrev w : ℕ
    w = number_of (kmers_of k text vs s.vertices) (part k text q)

    -- what is to be: the kmers with this one, and the edge counted
    is-to-be : to-be ≡ step_to (not (eqb a 0)) o (threading_of k text vs es s) (with_kmer (kmers_of k text vs s.vertices) (part k text q)) w
    unfolding threading_of graph_of
    is-to-be = step-none (not (eqb a 0)) o (part k text q) (threading_of k text vs es s) not_found

    -- a vertex that is there and has the number ends in b
    old-last : w < s.vertices → last_of k text vs s.vertices w ≡ b
    old-last h = last-of k text vs s.vertices w h ∙ ap (λ (x : List ℕ). last_or 0 x) (number-kmer k text vs s.vertices q w refl h) ∙ last-b

    -- so the edge is not there yet
    not_there : (j : ℕ) → j < s.edges → (edge_at es j).ends ≢ record { from = s.here; to = w }
    not_there j h e =
        let x : edge_from es j ≡ s.here = ap (λ (d : Ends). d.from) e in
        let y : edge_to es j ≡ w = ap (λ (d : Ends). d.to) e in
        let l : w < s.vertices = (let z = f.good.to_in j h in omega arith) in
        let z : out_edge vs s.here (code b) ≡ j + 1 = rw (x, y, old-last l) at (f.good.slot j h) in
        omega arith

    pub over-edges : most.edges ≤ s.edges → Over most 8 to-be
    unfolding step_to threading_of graph_of one_step edges_of
    over-edges h =
        record {
          eight = refl;
          over = inr (rw is-to-be
              (let z = length-put (one_step (not (eqb a 0)) o (record { from = s.here; to = w })) (table (edge_at es) s.edges) (table-absent (edge_at es) s.edges (record { from = s.here; to = w }) not_there) in
              let y = length-table (edge_at es) s.edges (good-distinct f.good) in omega arith));
        }

    pub over-vertices : (n : ℕ) → NoVertex k text vs most s q n → Over most n to-be
    unfolding step_to threading_of graph_of
    over-vertices n x = record { eight = x.eight; over = inl (rw is-to-be x.over) }

    -- the vertex, known or new, is t.here over vs'
    module _ (hm : s.edges < most.edges) {vs' : List ℕ} {t : At} (got : GotAt k text vs vs' most s q t) where
      room-m : HasEdge es s.edges
      room-m = let r = f.room-e in omega arith

      here_in : s.here < t.vertices
      here_in = let y = f.here in let z = got.more in omega arith

      room-t : HasVertices vs' t.vertices
      room-t = let z = got.vertices in let y = got.length-v in let r = f.room-v in omega arith

      still : out_edge vs' s.here (code b) ≡ 0
      still = got.rows s.here (code b) (let y = code_lt b in omega arith) f.here ∙ hs

      good-t : Good k text vs' t.vertices es s.edges
      good-t = got.good es s.edges (rw last-b ib) f.good

      pub came-edge :
          Came k text (added_v vs' s.here (code b) t.here s.edges) (added_e es s.edges (new_edge a o s.here t.here) a) most
          (record { vertices = t.vertices; edges = s.edges + 1; here = t.here; steps = s.steps + 1 }) (s.steps + 1) to-be
      unfolding threading_of graph_of step_to one_step
      came-edge =
          record {
            counted = omega arith;
            is =
                rw (
                  added-put es s.edges (new_edge a o s.here t.here) a room-m refl,
                  kmers-added k text vs' s.here (code b) t.here s.edges t.vertices (code_lt b),
                  got.kmers,
                  got.number,
                )
                (sym is-to-be);
            fine =
                record {
                  good =
                      added-good good-t (new_edge a o s.here t.here) a (code b) here_in got.here (ap code (sym (got.last ∙ last-b))) still room-t room-m;
                  here = got.here;
                  vertices = got.vertices;
                  edges = omega arith;
                  room-v = rw (length-added_v vs' s.here (code b) t.here s.edges (code_lt b), got.length-v) f.room-v;
                  room-e = rw (length-added_e es s.edges (new_edge a o s.here t.here) a) f.room-e;
                  few-v = f.few-v;
                  few-e = f.few-e;
                  supports = added-supports es s.edges (new_edge a o s.here t.here) a s.steps room-m (omega arith) f.supports;
                };
          }

      pub adds : (HasVertex vs' s.here) × (HasVertex vs' t.here) × (HasEdge es s.edges) × (code b < 8) × (s.here < 8192) × (t.here < 8192) × (s.edges < 8192)
          × (incoming_count vs' t.here + 1 < 2 ^ 32)
      adds =
          let y = f.few-v in
          let z = f.few-e in
          let u = got.vertices in
          let h = here_in in
          let i = got.here in
          let r = room-t in (
            omega arith,
            omega arith,
            room-m,
            code_lt b,
            omega arith,
            omega arith,
            omega arith,
            (let p = good-t.ins t.here i in let l = count-le (λ d. eqb d.to t.here) (edge_at es) s.edges in let v = f.edges in omega arith),
          )

-- what a step asks
pub record Extends (k : ℕ) (text vs es : List ℕ) (most : Most) (s : At) (q : ℕ) : Type 0 where
  pub fine : Fine k text vs es most s
  pub some : 0 < k
  pub inside : q + k ≤ length text
  pub small : length text < 2 ^ 32
  pub base : is_base (get_or text (q + k - 1) 0) ≡ true
  pub steps : s.steps + 1 < 2 ^ 32

-- ---- the same in the code's words: what it needs at each place, and what it shows at each return
module _ {k : ℕ} {text vs es : List ℕ} {most : Most} {s : At} {q : ℕ} (x : Extends k text vs es most s q) (b : ℕ) (hb : b ≡ get_or text (q + k - 1) 0) where
  ib : is_base b ≡ true
  ib = rw hb x.base

  abbrev will : ℕ → Origin → Threading
  will a o = step (not (eqb a 0)) o (part k text q) (threading_of k text vs es s)

  abbrev none_of : Origin
  none_of = record { sequence = 0; place = 0 }

  -- there is an out-edge to follow, of number i
  module _ (i : ℕ) (hs : slot_of (Some i) ≡ out_edge vs s.here (code b)) where
    at-i : out_edge vs s.here (code b) - 1 ≡ i
    at-i = omega arith

    pub ext-known : (a : ℕ) (o : Origin) (to : ℕ) → to ≡ edge_to es i → (es' : List ℕ) → es' ≡ gained es i a
        → Came k text vs es' most (record { vertices = s.vertices; edges = s.edges; here = to; steps = s.steps + 1 }) (s.steps + 1) (will a o)
    ext-known a o to h es' e = rw (e, h) (rw at-i at (came-known x.fine q b a o x.some x.inside hb ib (out_edge vs s.here (code b)) refl (omega arith)))

  module _ (no : slot_of None ≡ out_edge vs s.here (code b)) where
    hz : out_edge vs s.here (code b) ≡ 0
    hz = sym no

    pub ext-full : (a : ℕ) (o : Origin) → most.edges ≤ s.edges → Over most 8 (will a o)
    ext-full a o h = over-edges x.fine q b a o x.some x.inside hb ib hz h

    pub ext-stop : (a : ℕ) (o : Origin) (vs' es' : List ℕ) (c : ℕ) (e : Refusal) (r : Result At Refusal) → Got k text vs vs' most s q r → r ≡ Err e → Stepped k text vs' es' most c r (will a o)
    ext-stop a o vs' es' c n r g e = let y : NoVertex k text vs most s q (number n) = rw e at g in rw e (over-vertices x.fine q b a o x.some x.inside hb ib hz (number n) y)

    module _ (h : s.edges < most.edges) (vs' : List ℕ) (t : At) (r : Result At Refusal) (g : Got k text vs vs' most s q r) (e : r ≡ Ok t) where
      got : GotAt k text vs vs' most s q t
      got = rw e at g

      pub ext-adds : (HasVertex vs' s.here) × (HasVertex vs' t.here) × (HasEdge es s.edges) × (code b < 8) × (s.here < 8192) × (t.here < 8192) × (s.edges < 8192)
          × (incoming_count vs' t.here + 1 < 2 ^ 32)
      ext-adds = adds x.fine q b 0 none_of x.some x.inside hb ib hz h got

      pub ext-new : (a : ℕ) (o : Origin) (us es' : List ℕ) → us ≡ added_v vs' s.here (code b) t.here s.edges → es' ≡ added_e es s.edges (new_edge a o s.here t.here) a
          → Came k text us es' most (record { vertices = t.vertices; edges = s.edges + 1; here = t.here; steps = s.steps + 1 }) (s.steps + 1) (will a o)
      ext-new a o us es' p d = rw (p, d) (came-edge x.fine q b a o x.some x.inside hb ib hz h got)
