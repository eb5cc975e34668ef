-- Counting backwards: what it needs of the tables (nothing of kmers), and the definition's `backward` by its cases. Assumes nothing.
use Rattle.std.specs.Prelude.{◌≡◌, refl, ◌≢◌, false, Some, List, ℕ, zero, suc, ◌+◌, ◌-◌, ◌^◌, ◌<◌, ◌≤◌}
use Rattle.std.proofs.Common.{sym, ap, ◌∙◌, arith, eq-eqb}
use Rattle.std.proofs.Math.Option.{none, some}
use Rattle.std.proofs.Math.Decide.{ℕ_discrete}
use Rattle.std.proofs.Math.Dec.{eqb}
use Rattle.laws.specs.Lists.{sole}
use Rattle.definition.specs.Threading.{Edge, entering, one_step, put, backward}
use Rattle.kmer_threading.specs.declared.At.{At}
use Rattle.assembly.specs.Fields.{HasVertices, slot_of, incoming_count, incoming_edge, HasEdges, HasEdge, edge_field, edge_from, edge_to, edge_support, edge_mark}
use Rattle.assembly.specs.Table.{Distinct, count, count_same, sole-is, sole_none}
use Rattle.assembly.specs.Store.{edge_at, edges_of, Good, good-distinct}
use Rattle.assembly.specs.Moves.{gained, gained-count, gained-other, gained-row, gained-2, gained-mark, length-gained, good-ends}

-- predecessors can be told
pub record Ins (vs : List ℕ) (n : ℕ) (es : List ℕ) (m : ℕ) : Type 0 where
  pub distinct : Distinct (edge_at es) m
  pub from_in : (i : ℕ) → i < m → edge_from es i < n
  pub ins : (v : ℕ) → v < n → incoming_count vs v ≡ count (λ d. eqb d.to v) (edge_at es) m
  pub into : (v : ℕ) → v < n → 0 < incoming_count vs v → (0 < incoming_edge vs v) × (incoming_edge vs v ≤ m) × (edge_to es (incoming_edge vs v - 1) ≡ v)

pub ins-of : {k : ℕ} {text vs : List ℕ} {n : ℕ} {es : List ℕ} {m : ℕ} → Good k text vs n es m → Ins vs n es m
ins-of g = record { distinct = good-distinct g; from_in = g.from_in; ins = g.ins; into = g.into }

-- what a call asks: at most `left` counts more, and every support has room for them
pub record Backs (vs es : List ℕ) (s : At) (v left : ℕ) : Type 0 where
  pub ins : Ins vs s.vertices es s.edges
  pub at : v < s.vertices
  pub room-v : HasVertices vs s.vertices
  pub room-e : HasEdges es s.edges
  pub few-e : s.edges ≤ 8192
  pub supports : (i : ℕ) → i < s.edges → edge_support es i ≤ s.steps
  pub steps : s.steps + left < 2 ^ 32

-- what it ensures: the definition's edges; no field but supports is touched, and these by at most `left`
pub record Backed (es es' : List ℕ) (s : At) (v left : ℕ) : Type 0 where
  pub is : edges_of es' s.edges ≡ backward left v (edges_of es s.edges)
  pub kept : (j c : ℕ) → c < 6 → c ≢ 2 → edge_field es' j c ≡ edge_field es j c
  pub supports : (i : ℕ) → i < s.edges → edge_support es' i ≤ s.steps + left

pub backed-good : {k : ℕ} {text vs : List ℕ} {n : ℕ} {es es' : List ℕ} {s : At} {v left : ℕ} → Backed es es' s v left → Good k text vs n es s.edges → Good k text vs n es' s.edges
backed-good b g = good-ends (λ j. b.kept j 0 (omega arith) (omega arith)) (λ j. b.kept j 1 (omega arith) (omega arith)) g

-- ---- the definition's cases
backward-0 : (v : ℕ) (l : List Edge) → backward 0 v l ≡ l
unfolding backward
backward-0 v l = refl

pub backward-none : (n v : ℕ) (l : List Edge) → sole (entering l v) ≡ none → backward n v l ≡ l
unfolding backward
backward-none zero v l h = refl
backward-none (suc n) v l h = rw (h, backward)

backward-some : (n v : ℕ) (l : List Edge) (e : Edge) → sole (entering l v) ≡ some e → backward (suc n) v l ≡ backward n e.ends.from (put (one_step false e.origin e.ends) l)
unfolding backward
backward-some n v l e h = rw (h, backward)

same-fields : (es : List ℕ) (s : At) (v left : ℕ) → ((i : ℕ) → i < s.edges → edge_support es i ≤ s.steps) → edges_of es s.edges ≡ backward left v (edges_of es s.edges) → Backed es es s v left
same-fields es s v left h e = record { is = e; kept = λ j c l m. refl; supports = λ i l. (let z = h i l in omega arith) }

module _ {vs es : List ℕ} {s : At} {v left : ℕ} (x : Backs vs es s v left) where
  pub back_none : left ≡ 0 → Backed es es s v left
  back_none e = same-fields es s v left x.supports (rw e (sym (backward-0 v (edges_of es s.edges))))

  pub back-many : (incoming_count vs v ≡ 1 → ⊥) → Backed es es s v left
  unfolding edges_of entering
  back-many e =
      same-fields es s v left x.supports
      (sym (backward-none left v (edges_of es s.edges) (sole_none (λ d. eqb d.to v) (edge_at es) s.edges x.ins.distinct (λ z. e (x.ins.ins v x.at ∙ z)))))

  module _ (one : incoming_count vs v ≡ 1) where
    i : ℕ
    i = incoming_edge vs v - 1

    pub back_in : incoming_edge vs v - 1 < s.edges
    back_in = let w = x.ins.into v x.at (omega arith) in let y = w.0 in let z = w.1 in omega arith

    pub back-room : HasEdge es (incoming_edge vs v - 1)
    back-room = let h = back_in in let r = x.room-e in omega arith

    sole-here : sole (entering (edges_of es s.edges) v) ≡ some (edge_at es (incoming_edge vs v - 1))
    unfolding edges_of entering
    sole-here =
        sole-is (λ d. eqb d.to v) (edge_at es) s.edges (incoming_edge vs v - 1) x.ins.distinct (sym (x.ins.ins v x.at) ∙ one) back_in
        (eq-eqb (edge_to es (incoming_edge vs v - 1)) v (x.ins.into v x.at (omega arith)).2)

    module _ (more : left ≡ 0 → ⊥) where
      -- what the next call asks
      module _ (es' : List ℕ) (e : es' ≡ gained es (incoming_edge vs v - 1) 0) where
        abbrev next : At
        next = record { vertices = s.vertices; edges = s.edges; here = s.here; steps = s.steps + 1 }

        other : (j c : ℕ) → c < 6 → c ≢ 2 → c ≢ 3 → edge_field es' j c ≡ edge_field es j c
        other j c l m n = rw e (gained-other es (incoming_edge vs v - 1) 0 back-room j c l m n)

        mark : (j : ℕ) → edge_mark es' j ≡ edge_mark es j
        mark j = rw e (gained-mark es (incoming_edge vs v - 1) back-room j)

        gains : (j : ℕ) → j < s.edges → edge_support es' j ≤ s.steps + 1
        gains j h = go (ℕ_discrete j (incoming_edge vs v - 1))
          where
            go : Dec (j ≡ incoming_edge vs v - 1) → edge_support es' j ≤ s.steps + 1
            go (yes z) = rw (e, z, gained-2 es (incoming_edge vs v - 1) 0 back-room) (let y = x.supports (incoming_edge vs v - 1) back_in in omega arith)
            go (no z) = rw (e, gained-row es (incoming_edge vs v - 1) 0 back-room j 2 (omega arith) z) (let y = x.supports j h in omega arith)

        pub back-next : Backs vs es' next (edge_from es (incoming_edge vs v - 1)) (left - 1)
        back-next =
            record {
              ins =
                  record {
                    distinct = λ p q h l d. x.ins.distinct p q h l (rw (other p 0 (omega arith) (omega arith) (omega arith), other p 1 (omega arith) (omega arith) (omega arith), other q 0 (omega arith) (omega arith) (omega arith), other q 1 (omega arith) (omega arith) (omega arith)) at d);
                    from_in = λ j h. rw (other j 0 (omega arith) (omega arith) (omega arith)) (x.ins.from_in j h);
                    ins = λ u h. x.ins.ins u h ∙ sym (count_same (λ d. eqb d.to u) (edge_at es) (edge_at es') s.edges (λ j l. rw (other j 1 (omega arith) (omega arith) (omega arith))));
                    into = λ u h z. (let w = x.ins.into u h z in (w.0, w.1, other (incoming_edge vs u - 1) 1 (omega arith) (omega arith) (omega arith) ∙ w.2));
                  };
              at = x.ins.from_in (incoming_edge vs v - 1) back_in;
              room-v = x.room-v;
              room-e = rw (e, length-gained es (incoming_edge vs v - 1) 0 back-room) x.room-e;
              few-e = x.few-e;
              supports = gains;
              steps = let y = x.steps in omega arith;
            }

        pub back_on : (es'' : List ℕ) → Backed es' es'' next (edge_from es (incoming_edge vs v - 1)) (left - 1) → Backed es es'' s v left
        back_on es'' b =
            record {
              is =
                  b.is
                  ∙ ap (λ (l : List Edge). backward (left - 1) (edge_from es (incoming_edge vs v - 1)) l)
                  (ap (λ (l : List ℕ). edges_of l s.edges) e ∙ gained-count es (incoming_edge vs v - 1) 0 back-room x.ins.distinct back_in (edge_at es (incoming_edge vs v - 1)).origin)
                  ∙ sym (backward-some (left - 1) v (edges_of es s.edges) (edge_at es (incoming_edge vs v - 1)) sole-here)
                  ∙ ap (λ (n : ℕ). backward n v (edges_of es s.edges)) (let z : suc (left - 1) ≡ left = omega arith in z);
              kept = λ j c l m. keeps j c l m (ℕ_discrete c 3);
              supports = λ j h. (let z = b.supports j h in omega arith);
            }
          where
            keeps : (j c : ℕ) → c < 6 → c ≢ 2 → Dec (c ≡ 3) → edge_field es'' j c ≡ edge_field es j c
            keeps j c l m (yes z) = b.kept j c l m ∙ rw z (mark j)
            keeps j c l m (no z) = b.kept j c l m ∙ other j c l m z

-- ---- the same in the code's words: n edges enter, i is one of them, and it leaves `from`
module _ {vs es : List ℕ} {s : At} {v left : ℕ} (x : Backs vs es s v left) (n : ℕ) (hn : n ≡ incoming_count vs v) where
  pub backs-many : (n ≡ 1 → ⊥) → Backed es es s v left
  backs-many e = back-many x (λ z. e (hn ∙ z))

  module _ (e : n ≡ 1) where
    one : incoming_count vs v ≡ 1
    one = sym hn ∙ e

    module _ (i : ℕ) (hi : slot_of (Some i) ≡ incoming_edge vs v) where
      at-i : incoming_edge vs v - 1 ≡ i
      at-i = omega arith

      module _ (more : left ≡ 0 → ⊥) where
        module _ (from : ℕ) (hf : from ≡ edge_from es i) (es' : List ℕ) (g : es' ≡ gained es i 0) where
          g' : es' ≡ gained es (incoming_edge vs v - 1) 0
          g' = rw at-i g

          hf' : from ≡ edge_from es (incoming_edge vs v - 1)
          hf' = rw at-i hf

          pub backs-next : Backs vs es' (record { vertices = s.vertices; edges = s.edges; here = s.here; steps = s.steps + 1 }) from (left - 1)
          backs-next = rw hf' (back-next x one more es' g')

          pub backs-on : (es'' : List ℕ) → Backed es' es'' (record { vertices = s.vertices; edges = s.edges; here = s.here; steps = s.steps + 1 }) from (left - 1) → Backed es es'' s v left
          backs-on es'' b = back_on x one more es' g' es'' (rw hf' at b)
