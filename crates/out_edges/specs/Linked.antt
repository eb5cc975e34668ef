-- Once the sink's free slot 4 names the symbolic edge, the slots hold every out-edge. Assumes nothing.
use Rattle.std.specs.Prelude.{◌≡◌, ◌≢◌, true, ◌||◌, List, ℕ, ◌+◌, ◌-◌, ◌<◌, ◌≤◌, eqb, length}
use Rattle.std.proofs.Common.{sym, ap, ◌∙◌, arith, eqb-true}
use Rattle.std.proofs.Math.Decide.{ℕ_discrete, dec_lt}
use Rattle.laws.specs.Records.{field-same, field-other, row_other}
use Rattle.definition.specs.Limits.{is_base}
use Rattle.definition.specs.Threading.{Ends}
use Rattle.assembly.specs.Fields.{HasVertices, HasVertex, vertex_field, out_edge, HasEdges, edge_from, edge_to}
use Rattle.assembly.specs.Table.{Distinct}
use Rattle.assembly.specs.Store.{edge_at, last_of, or_else, code, Good, good-distinct}
use Rattle.assembly.specs.Symbolic.{linked, length-linked}
use Rattle.out_edges.specs.Outs.{Slots, slots-of}
use Rattle.out_edges.specs.Sorted.{Orders}

-- ---- no base has the code 4, so slot 4 is free
not-four : (b : ℕ) → is_base b ≡ true → code b ≢ 4
unfolding is_base code
not-four b h e =
    or_else (eqb b 65 || eqb b 67 || eqb b 71 || eqb b 84) (eqb b 78) h (λ h1.
    or_else (eqb b 65 || eqb b 67 || eqb b 71) (eqb b 84) h1 (λ h2.
    or_else (eqb b 65 || eqb b 67) (eqb b 71) h2 (λ h3.
    or_else (eqb b 65) (eqb b 67) h3 (λ z. (let y = eqb-true b 65 z in omega arith)) (λ z. (let y = eqb-true b 67 z in omega arith)))
    (λ z. (let y = eqb-true b 71 z in omega arith))) (λ z. (let y = eqb-true b 84 z in omega arith))) (λ z. (let y = eqb-true b 78 z in omega arith))

module _ {k : ℕ} {text vs : List ℕ} {n : ℕ} {es : List ℕ} {m : ℕ} (g : Good k text vs n es m) where
  free : (v : ℕ) → v < n → out_edge vs v 4 ≡ 0
  free v h = go (ℕ_discrete (out_edge vs v 4) 0)
    where
      go : Dec (out_edge vs v 4 ≡ 0) → out_edge vs v 4 ≡ 0
      go (yes e) = e
      go (no e) =
          let w = g.full v 4 h (omega arith) (omega arith) in
          let i : out_edge vs v 4 - 1 < m = (let y = w.0 in omega arith) in
          absurd (not-four (last_of k text vs n (edge_to es (out_edge vs v 4 - 1))) (g.base (edge_to es (out_edge vs v 4 - 1)) (g.to_in (out_edge vs v 4 - 1) i)) w.2)

-- the slots hold the edges with the symbolic one, row m
module _ {k : ℕ} {text vs : List ℕ} {n : ℕ} {es : List ℕ} {m : ℕ} (g : Good k text vs n es m) (sink : ℕ) (hs : sink < n) (hf : edge_from es m ≡ sink) (ht : edge_to es m ≡ n)
    (room : HasVertices vs n) where
  at : out_edge (linked vs sink m) sink 4 ≡ m + 1
  unfolding linked
  at = field-same vs 12 sink 4 (m + 1) (omega arith)

  other-c : (v c : ℕ) → c < 8 → c ≢ 4 → out_edge (linked vs sink m) v c ≡ out_edge vs v c
  unfolding linked
  other-c v c h e = field-other vs 12 sink 4 (m + 1) v c (omega arith) (omega arith) e

  other-v : (v c : ℕ) → c < 8 → v ≢ sink → out_edge (linked vs sink m) v c ≡ out_edge vs v c
  unfolding linked
  other-v v c h e = row_other vs 12 sink 4 (m + 1) v c (omega arith) (omega arith) e

  pub linked-distinct : Distinct (edge_at es) (m + 1)
  linked-distinct i j h l e = go (ℕ_discrete i m) (ℕ_discrete j m)
    where
      to : edge_to es i ≡ edge_to es j
      to = ap (λ (d : Ends). d.to) e

      go : Dec (i ≡ m) → Dec (j ≡ m) → i ≡ j
      go (yes p) (yes q) = omega arith
      go (yes p) (no q) = absurd (let z = g.to_in j (omega arith) in let y : edge_to es i ≡ n = rw p ht in let u = to in omega arith)
      go (no p) (yes q) = absurd (let z = g.to_in i (omega arith) in let y : edge_to es j ≡ n = rw q ht in let u = to in omega arith)
      go (no p) (no q) = good-distinct g i j (omega arith) (omega arith) e

  Holds : ℕ → ℕ → Type 0
  Holds v s = (s ≤ m + 1) × (edge_from es (s - 1) ≡ v)

  -- what a slot of v held, it holds
  old-slots : (v : ℕ) → v < n → Slots (linked vs sink m) es (m + 1) v
  unfolding Holds
  old-slots v hv = record { full = λ c h z. full c h z (ℕ_discrete c 4) (ℕ_discrete v sink); all = λ i h e. all i e (ℕ_discrete i m) h }
    where
      was : (c : ℕ) → c < 8 → 0 < out_edge vs v c → Holds v (out_edge vs v c)
      was c h z = let w = (slots-of g hv).full c h z in ((let y = w.0 in omega arith), w.1)

      full : (c : ℕ) → c < 8 → 0 < out_edge (linked vs sink m) v c → Dec (c ≡ 4) → Dec (v ≡ sink) → Holds v (out_edge (linked vs sink m) v c)
      full c h z (yes p) (yes q) =
          let y : m + 1 - 1 ≡ m = omega arith in
          let f : out_edge (linked vs sink m) v c ≡ m + 1 = rw (p, q) at in
          rw f (omega arith, rw y (hf ∙ sym q))
      full c h z (yes p) (no q) = rw (other-v v c h q) (was c h (rw (other-v v c h q) at z))
      full c h z (no p) q = rw (other-c v c h p) (was c h (rw (other-c v c h p) at z))

      all : (i : ℕ) → edge_from es i ≡ v → Dec (i ≡ m) → i < m + 1 → (c : ℕ) × (c < 8) × (out_edge (linked vs sink m) v c ≡ i + 1)
      all i e (yes p) h =
          let q : v ≡ sink = sym e ∙ (rw p hf) in
          (4, omega arith, rw (q, p) at)
      all i e (no p) h =
          let w = (slots-of g hv).all i (omega arith) e in
          let f : w.0 ≢ 4 = (λ z. (let y = w.2 in let u : vertex_field vs v w.0 ≡ 0 = rw z (free g v hv) in omega arith)) in
          (w.0, w.1, other-c v w.0 w.1 f ∙ w.2)

  -- a vertex that is not used has no out-edge
  no-slots : (v : ℕ) → n ≤ v → Slots (linked vs sink m) es (m + 1) v
  no-slots v l =
      record {
        full = λ c h z. absurd (let e = other-v v c h (omega arith) in let y = g.zeros v c l (omega arith) in omega arith);
        all = λ i h e. absurd (from i h e (ℕ_discrete i m));
      }
    where
      from : (i : ℕ) → i < m + 1 → edge_from es i ≡ v → Dec (i ≡ m) → ⊥
      from i h e (yes p) = let y : edge_from es i ≡ sink = rw p hf in omega arith
      from i h e (no p) = let y = g.from_in i (omega arith) in omega arith

  pub linked-slots : (v : ℕ) → Slots (linked vs sink m) es (m + 1) v
  linked-slots v = go (dec_lt v n)
    where
      go : Dec (v < n) → Slots (linked vs sink m) es (m + 1) v
      go (yes l) = old-slots v l
      go (no l) = no-slots v (omega arith)

  -- so all edges, the symbolic one too, can be put in the definition's order
  pub linked-orders : (out : List ℕ) → HasEdges es (m + 1) → m + 1 ≤ length out → m + 1 ≤ 8192 → Orders (linked vs sink m) es out (m + 1)
  linked-orders out re ro f =
      record {
        distinct = linked-distinct;
        from_in = λ i h. rw (length-linked vs sink m) (from i h (ℕ_discrete i m));
        slots = λ v h. linked-slots v;
        room-e = re;
        room-o = ro;
        few-e = f;
      }
    where
      from : (i : ℕ) → i < m + 1 → Dec (i ≡ m) → HasVertex vs (edge_from es i)
      from i h (yes p) = let y : edge_from es i ≡ sink = rw p hf in omega arith
      from i h (no p) = let y = g.from_in i (omega arith) in omega arith
