-- What the code does to the tables, as lists, and what that is to the graph. Assumes nothing.
use Rattle.std.specs.Prelude.{◌≡◌, ◌≢◌, ◌⊎◌, Bool, not, ◌||◌, get_or}
use Rattle.std.proofs.Math.Path.{refl, sym}
use Rattle.std.proofs.Common.{◌∙◌, inl, inr, eq-eqb, ne_eqb, List, [], ◌∷◌, ℕ, ◌+◌, ◌-◌, ◌*◌, ◌<◌, ◌≤◌, arith}
use Rattle.std.proofs.Math.Bool.{true, false, cond, or-true, or-false}
use Rattle.std.proofs.Math.Decide.{ℕ_discrete}
use Rattle.std.proofs.Math.Dec.{eqb}
use Rattle.std.proofs.Math.ListN.{length, length-set}
use Rattle.definition.specs.Threading.{Ends, Origin, Edge, merge, put, one_step}
use Rattle.laws.specs.Rows.{rows_same}
use Rattle.laws.specs.Records.{field, put_field, field-same, field-other, row_other, place_in, put_from, length-put_from, put_from-row, put_from-at}
use Rattle.assembly.specs.Fields.{HasVertices, HasVertex, vertex_field, out_edge, kmer_place, incoming_count, incoming_edge, HasEdge, edge_from, edge_to, edge_support, edge_mark}
use Rattle.assembly.specs.declared.Origin as lent
use Rattle.assembly.specs.Table.{Distinct, table-gain, table_more, count, count_same, count-more}
use Rattle.assembly.specs.Store.{edge_at, edges_of, kmers_of, kmer_at, last_of, code, code_lt, Good, good-distinct}

-- ---- an edge gains 1, and the mark where there is one
unfoldable pub gained : List ℕ → ℕ → ℕ → List ℕ
gained es i a =
    let t = put_field es 6 i 2 (edge_support es i + 1) in cond (eqb a 0) t (put_field t 6 i 3 a)

one-ends : (r : Bool) (q : Origin) (d : Ends) → (one_step r q d).ends ≡ d
unfolding one_step
one-ends r q d = refl

module _ (es : List ℕ) (i a : ℕ) (h : HasEdge es i) where
  pub length-gained : length (gained es i a) ≡ length es
  unfolding gained
  length-gained = go (eqb a 0) refl
    where
      go : (b : Bool) → eqb a 0 ≡ b → length (gained es i a) ≡ length es
      go true e = rw e (length-set es (i * 6 + 2) (edge_support es i + 1))
      go false e = rw e (length-set (put_field es 6 i 2 (edge_support es i + 1)) (i * 6 + 3) a ∙ length-set es (i * 6 + 2) (edge_support es i + 1))

  -- every field but the two
  pub gained-other : (j c : ℕ) → c < 6 → c ≢ 2 → c ≢ 3 → field (gained es i a) 6 j c ≡ field es 6 j c
  unfolding gained
  gained-other j c l p q = go (eqb a 0) refl
    where
      go : (b : Bool) → eqb a 0 ≡ b → field (gained es i a) 6 j c ≡ field es 6 j c
      go true e = rw e (field-other es 6 i 2 (edge_support es i + 1) j c (omega arith) l p)
      go false e = rw e (field-other (put_field es 6 i 2 (edge_support es i + 1)) 6 i 3 a j c (omega arith) l q ∙ field-other es 6 i 2 (edge_support es i + 1) j c (omega arith) l p)

  pub gained-row : (j c : ℕ) → c < 6 → j ≢ i → field (gained es i a) 6 j c ≡ field es 6 j c
  unfolding gained
  gained-row j c l p = go (eqb a 0) refl
    where
      go : (b : Bool) → eqb a 0 ≡ b → field (gained es i a) 6 j c ≡ field es 6 j c
      go true e = rw e (row_other es 6 i 2 (edge_support es i + 1) j c (omega arith) l p)
      go false e = rw e (row_other (put_field es 6 i 2 (edge_support es i + 1)) 6 i 3 a j c (omega arith) l p ∙ row_other es 6 i 2 (edge_support es i + 1) j c (omega arith) l p)

  pub gained-2 : edge_support (gained es i a) i ≡ edge_support es i + 1
  unfolding gained
  gained-2 = go (eqb a 0) refl
    where
      go : (b : Bool) → eqb a 0 ≡ b → edge_support (gained es i a) i ≡ edge_support es i + 1
      go true e = rw e (field-same es 6 i 2 (edge_support es i + 1) (omega arith))
      go false e = rw e (field-other (put_field es 6 i 2 (edge_support es i + 1)) 6 i 3 a i 2 (omega arith) (omega arith) (omega arith) ∙ field-same es 6 i 2 (edge_support es i + 1) (omega arith))

  gained-3 : not (eqb (edge_mark (gained es i a) i) 0) ≡ (not (eqb (edge_mark es i) 0) || not (eqb a 0))
  unfolding gained
  gained-3 = go (eqb a 0) refl
    where
      t : List ℕ
      t = put_field es 6 i 2 (edge_support es i + 1)

      go : (b : Bool) → eqb a 0 ≡ b → not (eqb (edge_mark (gained es i a) i) 0) ≡ (not (eqb (edge_mark es i) 0) || not (eqb a 0))
      go true e = rw (e, field-other es 6 i 2 (edge_support es i + 1) i 3 (omega arith) (omega arith) (omega arith)) (sym (or-false (not (eqb (edge_mark es i) 0))))
      go false e = rw (e, field-same t 6 i 3 a (rw (length-set es (i * 6 + 2) (edge_support es i + 1)) (omega arith)), e) (sym (or-true (not (eqb (edge_mark es i) 0))))

  gained-is : (o : Origin) → edge_at (gained es i a) i ≡ merge (edge_at es i) (one_step (not (eqb a 0)) o (edge_at es i).ends)
  unfolding merge one_step
  gained-is o =
      rw (
        gained-other i 0 (omega arith) (omega arith) (omega arith),
        gained-other i 1 (omega arith) (omega arith) (omega arith),
        gained-other i 4 (omega arith) (omega arith) (omega arith),
        gained-other i 5 (omega arith) (omega arith) (omega arith),
        gained-2,
        gained-3,
      )

  gained-off : (j : ℕ) → j ≢ i → edge_at (gained es i a) j ≡ edge_at es j
  gained-off j p =
      rw (gained-row j 0 (omega arith) p, gained-row j 1 (omega arith) p, gained-row j 2 (omega arith) p, gained-row j 3 (omega arith) p, gained-row j 4 (omega arith) p, gained-row j 5 (omega arith) p)

  -- the count of an edge that is there
  pub gained-count : {m : ℕ} → Distinct (edge_at es) m → i < m → (o : Origin)
      → edges_of (gained es i a) m ≡ put (one_step (not (eqb a 0)) o (edge_at es i).ends) (edges_of es m)
  unfolding edges_of
  gained-count {m = m} d l o =
      table-gain (edge_at es) (edge_at (gained es i a)) m i (one_step (not (eqb a 0)) o (edge_at es i).ends) l (one-ends (not (eqb a 0)) o (edge_at es i).ends) (gained-is o) (λ j p. gained-off j p) d

  pub gained-put : {k : ℕ} {text vs : List ℕ} {n m : ℕ} → Good k text vs n es m → i < m → (o : Origin)
      → edges_of (gained es i a) m ≡ put (one_step (not (eqb a 0)) o (edge_at es i).ends) (edges_of es m)
  gained-put g l o = gained-count (good-distinct g) l o

-- without a mark only the support is touched
pub gained-mark : (es : List ℕ) (i : ℕ) → HasEdge es i → (j : ℕ) → edge_mark (gained es i 0) j ≡ edge_mark es j
unfolding gained
gained-mark es i h j = field-other es 6 i 2 (edge_support es i + 1) j 3 (omega arith) (omega arith) (omega arith)

-- what holds of the tables is a matter of the ends of the rows used
pub good-front : {k : ℕ} {text vs : List ℕ} {n : ℕ} {es es' : List ℕ} {m : ℕ} → ((j : ℕ) → j < m → edge_from es' j ≡ edge_from es j)
    → ((j : ℕ) → j < m → edge_to es' j ≡ edge_to es j) → Good k text vs n es m → Good k text vs n es' m
good-front {k = k} {text = text} {vs = vs} {n = n} {es = es} {es' = es'} {m = m} a b g =
    record {
      from_in = λ i h. rw (a i h) (g.from_in i h);
      to_in = λ i h. rw (b i h) (g.to_in i h);
      slot = λ i h. rw (a i h, b i h) (g.slot i h);
      full =
          λ v c h l z.
          (let w = g.full v c h l z in
          let y : out_edge vs v c - 1 < m = (let u = w.0 in omega arith) in
          (w.0, a (out_edge vs v c - 1) y ∙ w.1, rw (b (out_edge vs v c - 1) y) w.2));
      base = g.base;
      fits = g.fits;
      ins = λ v h. g.ins v h ∙ sym (count_same (λ d. eqb d.to v) (edge_at es) (edge_at es') m (λ j l. rw (b j l)));
      into =
          λ v h z.
          (let w = g.into v h z in
          let y : incoming_edge vs v - 1 < m = (let u = w.0 in let t = w.1 in omega arith) in
          (w.0, w.1, b (incoming_edge vs v - 1) y ∙ w.2));
      zeros = g.zeros;
    }

pub good-ends : {k : ℕ} {text vs : List ℕ} {n : ℕ} {es es' : List ℕ} {m : ℕ} → ((j : ℕ) → edge_from es' j ≡ edge_from es j) → ((j : ℕ) → edge_to es' j ≡ edge_to es j)
    → Good k text vs n es m → Good k text vs n es' m
good-ends a b g = good-front (λ j h. a j) (λ j h. b j) g

pub gained-good : {k : ℕ} {text vs : List ℕ} {n : ℕ} {es : List ℕ} {m : ℕ} (i a : ℕ) → HasEdge es i → Good k text vs n es m → Good k text vs n (gained es i a) m
gained-good {es = es} i a h g = good-ends (λ j. gained-other es i a h j 0 (omega arith) (omega arith) (omega arith)) (λ j. gained-other es i a h j 1 (omega arith) (omega arith) (omega arith)) g

-- ---- an edge more: its row, its source's slot, its target's in-degree and in-edge
abbrev pub row_of : Edge → ℕ → List ℕ
row_of e a = e.ends.from ∷ e.ends.to ∷ e.support ∷ a ∷ e.origin.sequence ∷ e.origin.place ∷ []

abbrev pub origin_of : lent.Origin → Origin
origin_of o = record { sequence = o.sequence; place = o.place }

abbrev pub edge_of : ℕ → ℕ → ℕ → Bool → Origin → Edge
edge_of v w n a o = record { ends = record { from = v; to = w }; support = n; is_ref = a; origin = o }

abbrev pub new_edge : ℕ → Origin → ℕ → ℕ → Edge
new_edge a o v w = one_step (not (eqb a 0)) o (record { from = v; to = w })

unfoldable pub added_e : List ℕ → ℕ → Edge → ℕ → List ℕ
added_e es m e a = put_from es 6 m 0 (row_of e a)

unfoldable pub added_v : List ℕ → ℕ → ℕ → ℕ → ℕ → List ℕ
added_v vs v c w m = put_field (put_field (put_field vs 12 v c (m + 1)) 12 w 9 (incoming_count vs w + 1)) 12 w 10 (m + 1)

module _ (vs : List ℕ) (v c w m : ℕ) (hc : c < 8) where
  pub length-added_v : length (added_v vs v c w m) ≡ length vs
  unfolding added_v
  length-added_v = simp length-set

  -- the parts of the change
  v1 : List ℕ
  v1 = put_field vs 12 v c (m + 1)

  v2 : List ℕ
  v2 = put_field v1 12 w 9 (incoming_count vs w + 1)

  added_v-8 : (u : ℕ) → kmer_place (added_v vs v c w m) u ≡ kmer_place vs u
  unfolding added_v v1 v2
  added_v-8 u =
      field-other v2 12 w 10 (m + 1) u 8 (omega arith) (omega arith) (omega arith)
      ∙ field-other v1 12 w 9 (incoming_count vs w + 1) u 8 (omega arith) (omega arith) (omega arith)
      ∙ field-other vs 12 v c (m + 1) u 8 (omega arith) (omega arith) (omega arith)

  -- no slot but the one, of any vertex
  added_v-c : (u d : ℕ) → d < 8 → vertex_field (added_v vs v c w m) u d ≡ vertex_field v1 u d
  unfolding added_v v1 v2
  added_v-c u d h =
      field-other v2 12 w 10 (m + 1) u d (omega arith) (omega arith) (omega arith)
      ∙ field-other v1 12 w 9 (incoming_count vs w + 1) u d (omega arith) (omega arith) (omega arith)

  added_v-slot : HasVertex vs v → out_edge (added_v vs v c w m) v c ≡ m + 1
  unfolding v1
  added_v-slot h = added_v-c v c hc ∙ field-same vs 12 v c (m + 1) (omega arith)

  added_v-other : (u d : ℕ) → d < 8 → (u ≢ v) ⊎ (d ≢ c) → vertex_field (added_v vs v c w m) u d ≡ vertex_field vs u d
  unfolding v1
  added_v-other u d h (inl p) = added_v-c u d h ∙ row_other vs 12 v c (m + 1) u d (omega arith) (omega arith) p
  added_v-other u d h (inr p) = added_v-c u d h ∙ field-other vs 12 v c (m + 1) u d (omega arith) (omega arith) p

  added_v-9 : HasVertex vs w → incoming_count (added_v vs v c w m) w ≡ incoming_count vs w + 1
  unfolding added_v v1 v2
  added_v-9 h =
      field-other v2 12 w 10 (m + 1) w 9 (omega arith) (omega arith) (omega arith)
      ∙ field-same v1 12 w 9 (incoming_count vs w + 1) (rw (length-set vs (v * 12 + c) (m + 1)) (omega arith))

  added_v-10 : HasVertex vs w → incoming_edge (added_v vs v c w m) w ≡ m + 1
  unfolding added_v v1 v2
  added_v-10 h = field-same v2 12 w 10 (m + 1) (simp length-set (omega arith))

  -- another vertex's in-degree and in-edge
  added_v-in : (u d : ℕ) → 8 ≤ d → d < 12 → u ≢ w → vertex_field (added_v vs v c w m) u d ≡ vertex_field vs u d
  unfolding added_v v1 v2
  added_v-in u d h k p =
      row_other v2 12 w 10 (m + 1) u d (omega arith) k p
      ∙ row_other v1 12 w 9 (incoming_count vs w + 1) u d (omega arith) k p
      ∙ field-other vs 12 v c (m + 1) u d (omega arith) k (omega arith)

  -- a vertex that is neither
  added_v-row : (u d : ℕ) → d < 12 → u ≢ v → u ≢ w → vertex_field (added_v vs v c w m) u d ≡ vertex_field vs u d
  unfolding added_v v1 v2
  added_v-row u d k p q =
      row_other v2 12 w 10 (m + 1) u d (omega arith) k q
      ∙ row_other v1 12 w 9 (incoming_count vs w + 1) u d (omega arith) k q
      ∙ row_other vs 12 v c (m + 1) u d (omega arith) k p

module _ (es : List ℕ) (m : ℕ) (e : Edge) (a : ℕ) where
  pub length-added_e : length (added_e es m e a) ≡ length es
  unfolding added_e
  length-added_e = length-put_from es 6 m 0 (row_of e a)

  pub added_e-row : (j d : ℕ) → d < 6 → j ≢ m → field (added_e es m e a) 6 j d ≡ field es 6 j d
  unfolding added_e
  added_e-row j d h p = put_from-row es 6 m 0 (row_of e a) j d (omega arith) h p

  pub added_e-at : HasEdge es m → (d : ℕ) → d < 6 → field (added_e es m e a) 6 m d ≡ get_or (row_of e a) (d - 0) 0
  unfolding added_e
  added_e-at r d h = put_from-at es 6 m 0 (row_of e a) d r (omega arith) (omega arith) (omega arith)

  added_e-new : HasEdge es m → e.is_ref ≡ not (eqb a 0) → edge_at (added_e es m e a) m ≡ e
  added_e-new r q =
      rw (added_e-at r 0 (omega arith), added_e-at r 1 (omega arith), added_e-at r 2 (omega arith), added_e-at r 3 (omega arith), added_e-at r 4 (omega arith), added_e-at r 5 (omega arith), ← q)

  pub added_e-old : (j : ℕ) → j ≢ m → edge_at (added_e es m e a) j ≡ edge_at es j
  added_e-old j p =
      rw (added_e-row j 0 (omega arith) p, added_e-row j 1 (omega arith) p, added_e-row j 2 (omega arith) p, added_e-row j 3 (omega arith) p, added_e-row j 4 (omega arith) p, added_e-row j 5 (omega arith) p)

  pub added-supports : (n : ℕ) → HasEdge es m → e.support ≤ n + 1 → ((i : ℕ) → i < m → edge_support es i ≤ n) → (i : ℕ) → i < m + 1 → edge_support (added_e es m e a) i ≤ n + 1
  added-supports n r h f i l = go (ℕ_discrete i m)
    where
      go : Dec (i ≡ m) → edge_support (added_e es m e a) i ≤ n + 1
      go (yes z) = rw (z, added_e-at r 2 (omega arith)) h
      go (no z) = rw (added_e-row i 2 (omega arith) z) (let y = f i (omega arith) in omega arith)

  -- the count of an edge that is not there
  pub added-put : HasEdge es m → e.is_ref ≡ not (eqb a 0) → edges_of (added_e es m e a) (m + 1) ≡ put e (edges_of es m)
  unfolding edges_of
  added-put r q = table_more (edge_at es) (edge_at (added_e es m e a)) m e (added_e-new r q) (λ j h. added_e-old j (omega arith))

-- the vertices' kmers are a matter of field 8 alone
pub kmers-same : (k : ℕ) (text vs vs' : List ℕ) (n : ℕ) → ((u : ℕ) → u < n → kmer_place vs' u ≡ kmer_place vs u) → kmers_of k text vs' n ≡ kmers_of k text vs n
unfolding kmers_of
kmers-same k text vs vs' n h = rows_same (kmer_at k text vs') (kmer_at k text vs) n (λ i l. rw (h i l))

pub kmers-added : (k : ℕ) (text vs : List ℕ) (v c w m n : ℕ) → c < 8 → kmers_of k text (added_v vs v c w m) n ≡ kmers_of k text vs n
kmers-added k text vs v c w m n h = kmers-same k text vs (added_v vs v c w m) n (λ u l. added_v-8 vs v c w m h u)

-- what holds of the tables holds with one edge more, from v to w, where v's slot for w's last base was empty
module _ {k : ℕ} {text vs : List ℕ} {n : ℕ} {es : List ℕ} {m : ℕ} (g : Good k text vs n es m) (e : Edge) (a c : ℕ)
    (hv : e.ends.from < n) (hw : e.ends.to < n) (hc : c ≡ code (last_of k text vs n e.ends.to)) (hz : out_edge vs e.ends.from c ≡ 0)
    (lv : HasVertices vs n) (le : HasEdge es m) where
  v' : ℕ
  v' = e.ends.from

  w' : ℕ
  w' = e.ends.to

  vs' : List ℕ
  vs' = added_v vs e.ends.from c e.ends.to m

  es' : List ℕ
  es' = added_e es m e a

  c8 : c < 8
  c8 = rw hc (code_lt (last_of k text vs n e.ends.to))

  same : kmers_of k text vs' n ≡ kmers_of k text vs n
  unfolding vs'
  same = kmers-added k text vs e.ends.from c e.ends.to m n c8

  room : (u : ℕ) → u < n → HasVertex vs u
  room u h = let p = place_in 12 u 11 n (length vs) h (omega arith) lv in omega arith

  new-0 : edge_from es' m ≡ e.ends.from
  unfolding es'
  new-0 = added_e-at es m e a le 0 (omega arith)

  new-1 : edge_to es' m ≡ e.ends.to
  unfolding es'
  new-1 = added_e-at es m e a le 1 (omega arith)

  old : (j d : ℕ) → d < 6 → j < m → field es' 6 j d ≡ field es 6 j d
  unfolding es'
  old j d h l = added_e-row es m e a j d h (omega arith)

  -- a row of the new table is the new one or an old one
  each : (P : ℕ → Type 0) → P m → ((i : ℕ) → i < m → P i) → (i : ℕ) → i < m + 1 → P i
  each P p q i h = go (ℕ_discrete i m)
    where
      go : Dec (i ≡ m) → P i
      go (yes z) = rw z p
      go (no z) = q i (omega arith)

  -- a slot that holds something is not the one that was empty
  other-slot : (u d i : ℕ) → d < 8 → vertex_field vs u d ≡ i + 1 → vertex_field vs' u d ≡ i + 1
  unfolding vs'
  other-slot u d i h q = go (ℕ_discrete u e.ends.from) (ℕ_discrete d c)
    where
      go : Dec (u ≡ e.ends.from) → Dec (d ≡ c) → vertex_field (added_v vs e.ends.from c e.ends.to m) u d ≡ i + 1
      go (yes x) (yes y) = absurd (let z : vertex_field vs u d ≡ 0 = rw (x, y) hz in omega arith)
      go (yes x) (no y) = added_v-other vs e.ends.from c e.ends.to m c8 u d h (inr y) ∙ q
      go (no x) y = added_v-other vs e.ends.from c e.ends.to m c8 u d h (inl x) ∙ q

  slot' : (i : ℕ) → i < m + 1 → out_edge vs' (edge_from es' i) (code (last_of k text vs' n (edge_to es' i))) ≡ i + 1
  unfolding vs'
  slot' = each (λ i. out_edge vs' (edge_from es' i) (code (last_of k text vs' n (edge_to es' i))) ≡ i + 1)
      (rw (new-0, new-1, same, ← hc) (added_v-slot vs e.ends.from c e.ends.to m c8 (room e.ends.from hv)))
      (λ i h. rw (old i 0 (omega arith) h, old i 1 (omega arith) h, same)
      (other-slot (edge_from es i) (code (last_of k text vs n (edge_to es i))) i (code_lt (last_of k text vs n (edge_to es i))) (g.slot i h)))

  Full : ℕ → ℕ → ℕ → Type 0
  Full u d s = (s ≤ m + 1) × (edge_from es' (s - 1) ≡ u) × (code (last_of k text vs' n (edge_to es' (s - 1))) ≡ d)

  full-new : Full e.ends.from c (m + 1)
  unfolding Full
  full-new = let z : m + 1 - 1 ≡ m = omega arith in (omega arith, rw (z, new-0), rw (z, new-1, same) (sym hc))

  full-old : (u d : ℕ) → u < n → d < 8 → 0 < vertex_field vs u d → Full u d (vertex_field vs u d)
  unfolding Full
  full-old u d h l z =
      let w = g.full u d h l z in
      let b : vertex_field vs u d - 1 < m = (let y = w.0 in omega arith) in
      ((let y = w.0 in omega arith), old (vertex_field vs u d - 1) 0 (omega arith) b ∙ w.1, rw (old (vertex_field vs u d - 1) 1 (omega arith) b, same) w.2)

  full' : (u d : ℕ) → u < n → d < 8 → 0 < vertex_field vs' u d → Full u d (vertex_field vs' u d)
  unfolding vs'
  full' u d h l z = go (ℕ_discrete u e.ends.from) (ℕ_discrete d c)
    where
      kept : vertex_field vs' u d ≡ vertex_field vs u d → Full u d (vertex_field vs' u d)
      kept q = rw q (full-old u d h l (rw q at z))

      go : Dec (u ≡ e.ends.from) → Dec (d ≡ c) → Full u d (vertex_field vs' u d)
      go (yes x) (yes y) = rw (x, y, added_v-slot vs e.ends.from c e.ends.to m c8 (room e.ends.from hv)) full-new
      go (yes x) (no y) = kept (added_v-other vs e.ends.from c e.ends.to m c8 u d l (inr y))
      go (no x) y = kept (added_v-other vs e.ends.from c e.ends.to m c8 u d l (inl x))

  ins' : (u : ℕ) → u < n → incoming_count vs' u ≡ count (λ d. eqb d.to u) (edge_at es') (m + 1)
  unfolding vs'
  ins' u h = go (ℕ_discrete u e.ends.to)
    where
      more : count (λ d. eqb d.to u) (edge_at es') (m + 1) ≡ cond (eqb e.ends.to u) 1 0 + incoming_count vs u
      more =
          count-more (λ d. eqb d.to u) (edge_at es') m
          ∙ rw (new-1, count_same (λ d. eqb d.to u) (edge_at es) (edge_at es') m (λ j l. rw (old j 1 (omega arith) l)), ← g.ins u h)

      go : Dec (u ≡ e.ends.to) → incoming_count vs' u ≡ count (λ d. eqb d.to u) (edge_at es') (m + 1)
      go (yes x) =
          rw (more, eq-eqb e.ends.to u (sym x)) (rw x (added_v-9 vs e.ends.from c e.ends.to m c8 (room e.ends.to hw) ∙ (omega arith)))
      go (no x) =
          rw (more, ne_eqb e.ends.to u (λ z. x (sym z))) (added_v-in vs e.ends.from c e.ends.to m c8 u 9 (omega arith) (omega arith) x ∙ (omega arith))

  into' : (u : ℕ) → u < n → 0 < incoming_count vs' u → (0 < incoming_edge vs' u) × (incoming_edge vs' u ≤ m + 1) × (edge_to es' (incoming_edge vs' u - 1) ≡ u)
  unfolding vs'
  into' u h z = go (ℕ_discrete u e.ends.to)
    where
      go : Dec (u ≡ e.ends.to) → (0 < incoming_edge vs' u) × (incoming_edge vs' u ≤ m + 1) × (edge_to es' (incoming_edge vs' u - 1) ≡ u)
      go (yes x) =
          let q : incoming_edge vs' u ≡ m + 1 = rw x (added_v-10 vs e.ends.from c e.ends.to m c8 (room e.ends.to hw)) in
          let y : m + 1 - 1 ≡ m = omega arith in
          rw q (omega arith, omega arith, rw y (new-1 ∙ sym x))
      go (no x) =
          let q : incoming_edge vs' u ≡ incoming_edge vs u = added_v-in vs e.ends.from c e.ends.to m c8 u 10 (omega arith) (omega arith) x in
          let r : incoming_count vs' u ≡ incoming_count vs u = added_v-in vs e.ends.from c e.ends.to m c8 u 9 (omega arith) (omega arith) x in
          let w = g.into u h (rw r at z) in
          let b : incoming_edge vs u - 1 < m = (let s = w.0 in let t = w.1 in omega arith) in
          rw q (w.0, (let t = w.1 in omega arith), old (incoming_edge vs u - 1) 1 (omega arith) b ∙ w.2)

  pub added-good : Good k text (added_v vs e.ends.from c e.ends.to m) n (added_e es m e a) (m + 1)
  unfolding vs' es' Full
  added-good =
      record {
        from_in = each (λ i. edge_from es' i < n) (rw new-0 hv) (λ i h. rw (old i 0 (omega arith) h) (g.from_in i h));
        to_in = each (λ i. edge_to es' i < n) (rw new-1 hw) (λ i h. rw (old i 1 (omega arith) h) (g.to_in i h));
        slot = slot';
        full = full';
        base = λ u h. rw same (g.base u h);
        fits = λ u h. rw (added_v-8 vs e.ends.from c e.ends.to m c8 u) (g.fits u h);
        ins = ins';
        into = into';
        zeros = λ u d h l. added_v-row vs e.ends.from c e.ends.to m c8 u d l (omega arith) (omega arith) ∙ g.zeros u d h l;
      }
