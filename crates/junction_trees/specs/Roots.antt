-- The slots of the roots: field 11 of a vertex's record, which the graph does not read. Assumes nothing.
use Rattle.std.specs.Prelude.{◌≡◌, refl, List, ℕ, ◌+◌, ◌<◌, ◌≤◌, length}
use Rattle.std.proofs.Common.{◌∙◌, arith, length-set}
use Rattle.std.proofs.Math.Decide.{ℕ_discrete, dec_lt}
use Rattle.laws.specs.Records.{field-same, field-other, row_other}
use Rattle.assembly.specs.Fields.{HasVertices, HasVertex, out_edge, tree_root, root_cell, put_tree_root, edge_from, edge_to}
use Rattle.graph_kmers.specs.Index.{Finding}
use Rattle.assembly.specs.Store.{graph_of, kmers_of, last_of, code, code_lt, Good}
use Rattle.assembly.specs.Moves.{kmers-same}

abbrev pub root_of : List ℕ → ℕ → ℕ
root_of vs v = tree_root vs v

-- nothing has changed but field 11 of the first n records
pub record Kept (n : ℕ) (vs vs' : List ℕ) : Type 0 where
  pub size : length vs' ≡ length vs
  pub other : (v c : ℕ) → c < 11 → out_edge vs' v c ≡ out_edge vs v c
  pub beyond : (v : ℕ) → n ≤ v → tree_root vs' v ≡ tree_root vs v

pub kept_self : (n : ℕ) (vs : List ℕ) → Kept n vs vs
kept_self n vs = record { size = refl; other = λ v c h. refl; beyond = λ v h. refl }

pub kept_on : {n : ℕ} {a b c : List ℕ} → Kept n a b → Kept n b c → Kept n a c
kept_on p q = record { size = q.size ∙ p.size; other = λ v c h. q.other v c h ∙ p.other v c h; beyond = λ v h. q.beyond v h ∙ p.beyond v h }

pub kept_put : (n : ℕ) (vs : List ℕ) (v x : ℕ) → v < n → Kept n vs (put_tree_root vs v x)
kept_put n vs v x h =
    record {
      size = length-set vs (root_cell v) x;
      other = λ u c l. field-other vs 12 v 11 x u c (omega arith) (omega arith) (omega arith);
      beyond = λ u l. row_other vs 12 v 11 x u 11 (omega arith) (omega arith) (omega arith);
    }

pub root-same : (vs : List ℕ) (v x : ℕ) → HasVertex vs v → root_of (put_tree_root vs v x) v ≡ x
root-same vs v x h = field-same vs 12 v 11 x (omega arith)

pub root-other : (vs : List ℕ) (v x u : ℕ) → (u ≡ v → ⊥) → root_of (put_tree_root vs v x) u ≡ root_of vs u
root-other vs v x u n = row_other vs 12 v 11 x u 11 (omega arith) (omega arith) n

-- ---- the graph is kept
module _ {n : ℕ} {vs vs' : List ℕ} (p : Kept n vs vs') (k : ℕ) (text : List ℕ) where
  kmers-kept : kmers_of k text vs' n ≡ kmers_of k text vs n
  kmers-kept = kmers-same k text vs vs' n (λ u h. p.other u 8 (omega arith))

  pub finding-kept : {idx : List ℕ} → Finding k text vs idx n → Finding k text vs' idx n
  finding-kept f = record { buckets = f.buckets; indexed = rw kmers-kept f.indexed }

  pub graph-kept : (es : List ℕ) (m : ℕ) → graph_of k text vs' n es m ≡ graph_of k text vs n es m
  unfolding graph_of
  graph-kept es m = rw kmers-kept

  pub good-kept : {es : List ℕ} {m : ℕ} → Good k text vs n es m → Good k text vs' n es m
  good-kept {es = es} {m = m} g =
      record {
        from_in = g.from_in;
        to_in = g.to_in;
        slot = λ i h. rw kmers-kept (p.other (edge_from es i) (code (last_of k text vs n (edge_to es i))) (low (last_of k text vs n (edge_to es i))) ∙ g.slot i h);
        full = λ v c h l z. rw (kmers-kept, p.other v c (omega arith)) (g.full v c h l (rw (p.other v c (omega arith)) at z));
        base = λ v h. rw kmers-kept (g.base v h);
        fits = λ v h. rw (p.other v 8 (omega arith)) (g.fits v h);
        ins = λ v h. p.other v 9 (omega arith) ∙ g.ins v h;
        into = λ v h z. rw (p.other v 10 (omega arith)) (g.into v h (rw (p.other v 9 (omega arith)) at z));
        zeros = λ v c h l. zero-at v c h l (dec_lt c 11);
      }
    where
      low : (b : ℕ) → code b < 11
      low b = let z = code_lt b in omega arith

      zero-at : (v c : ℕ) → n ≤ v → c < 12 → Dec (c < 11) → out_edge vs' v c ≡ 0
      zero-at v c h l (yes q) = p.other v c q ∙ g.zeros v c h l
      zero-at v c h l (no q) = let z : c ≡ 11 = omega arith in rw z (p.beyond v h ∙ g.zeros v 11 h (omega arith))

-- ---- the roots of the first v vertices are cleared
pub record Cleared (vs₀ : List ℕ) (n : ℕ) (vs : List ℕ) (v : ℕ) : Type 0 where
  pub kept : Kept n vs₀ vs
  pub within : v ≤ n
  pub none : (u : ℕ) → u < v → root_of vs u ≡ 0

pub cleared-next : (vs₀ : List ℕ) (n : ℕ) (vs : List ℕ) (v : ℕ) → HasVertices vs₀ n → Cleared vs₀ n vs v → v < n → (vs' : List ℕ) → vs' ≡ put_tree_root vs v 0 → Cleared vs₀ n vs' (v + 1)
cleared-next vs₀ n vs v r c h vs' e =
    rw e (record { kept = kept_on c.kept (kept_put n vs v 0 h); within = omega arith; none = λ u l. go u l (ℕ_discrete u v) })
  where
    go : (u : ℕ) → u < v + 1 → Dec (u ≡ v) → root_of (put_tree_root vs v 0) u ≡ 0
    go u l (yes z) = rw z (root-same vs v 0 (let y = c.kept.size in omega arith))
    go u l (no z) = root-other vs v 0 u z ∙ c.none u (omega arith)

pub cleared-end : (vs₀ : List ℕ) (n : ℕ) (vs : List ℕ) (v : ℕ) → Cleared vs₀ n vs v → n ≤ v → Cleared vs₀ n vs n
cleared-end vs₀ n vs v c h = record { kept = c.kept; within = omega arith; none = λ u l. c.none u (omega arith) }
