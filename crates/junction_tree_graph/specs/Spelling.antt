-- Every edge joins two kmers that overlap in all but one base, so threading reaches the vertex of each kmer that it steps to: the reference's last
-- kmer has a vertex, the sink, in every graph that grows from the reference's. Assumes nothing.
use Rattle.std.specs.Prelude.{◌≡◌, refl, Bool, true, false, eqb, get_or, take, drop}
use Rattle.std.proofs.Common.{sym, ap, ◌∙◌, arith, take-take, drop-drop, eqb-true, List, [], ◌∷◌, ◌++◌, ℕ, zero, suc, ◌+◌, ◌-◌, ◌<◌, ◌≤◌}
use Rattle.std.proofs.Math.Option.{Option, none, some}
use Prim.Native.Nat.{Ordering}
use Rattle.std.proofs.Math.Decide.{ℕ_discrete}
use Rattle.std.proofs.Math.ListN.{length, length-append, get_or-append}
use Rattle.std.proofs.Math.Seq.{get_or_at}
use Rattle.laws.specs.Lists.{last_or, sole}
use Rattle.laws.specs.ListLaws.{All, nil, cons, all-mono, all-zip, all_keep, all-passed, all-find, all-sole}
use Rattle.laws.specs.Numbers.{eq_list, eq_list-true, eq_list-self}
use Rattle.definition.specs.Stretch.{Stretch, kmers}
use Rattle.definition.specs.Threading.{Ends, Origin, Edge, Graph, Threading, compare_ends, leaving, entering, last_base, one_step, merge, put, number_of, with_kmer, follow, step_to, step, steps, backward, start_at, thread_kmers, thread, thread_all}
use Rattle.graph_kmers.specs.Index.{position_first}
use Rattle.assembly.specs.Puts.{put-nil, put-lt, put-eq, put-gt, merge-ends}
use Rattle.assembly.specs.Kmers.{part, length_part, with-yes, with-no, position-true, position-le}
use Rattle.sequence_threading.specs.Stretches.{origin_at, pieces, pieces-0, pieces-suc, steps-cons, steps-nil, kmers-is, thread-is, stretch_at}

-- ---- kmers that overlap
split-last : (l : List ℕ) (n d : ℕ) → length l ≡ suc n → l ≡ take n l ++ (last_or d l ∷ [])
split-last [] n d h = absurd (omega arith)
split-last (x ∷ []) zero d h = refl
split-last (x ∷ y ∷ l) zero d h = absurd (omega arith)
split-last (x ∷ []) (suc n) d h = absurd (omega arith)
split-last (x ∷ y ∷ l) (suc n) d h = ap (λ (r : List ℕ). x ∷ r) (split-last (y ∷ l) n x (omega arith))

-- y follows x
abbrev Joins : ℕ → List ℕ → List ℕ → Type 0
Joins k x y = drop 1 x ≡ take (k - 1) y

one_follows : (k : ℕ) (x y z : List ℕ) → 0 < k → length y ≡ k → length z ≡ k → Joins k x y → Joins k x z → last_or 0 y ≡ last_or 0 z → y ≡ z
one_follows k x y z h ly lz jy jz e =
    split-last y (k - 1) 0 (ly ∙ (let q : k ≡ suc (k - 1) = omega arith in q))
    ∙ ap (λ (l : List ℕ). l ++ (last_or 0 y ∷ [])) (sym jy ∙ jz)
    ∙ ap (λ (n : ℕ). take (k - 1) z ++ (n ∷ [])) e
    ∙ sym (split-last z (k - 1) 0 (lz ∙ (let q : k ≡ suc (k - 1) = omega arith in q)))

drop-take : (n : ℕ) (l : List ℕ) → drop 1 (take (suc n) l) ≡ take n (drop 1 l)
drop-take zero [] = refl
drop-take (suc n) [] = refl
drop-take n (x ∷ l) = refl

parts_join : (k : ℕ) (text : List ℕ) (a : ℕ) → 0 < k → Joins k (part k text a) (part k text (a + 1))
parts_join k text a h =
    let e : k ≡ suc (k - 1) = omega arith in
    ap (λ (n : ℕ). drop 1 (take n (drop a text))) e
    ∙ drop-take (k - 1) (drop a text)
    ∙ ap (λ (l : List ℕ). take (k - 1) l) (drop-drop 1 a text)
    ∙ sym (take-take (k - 1) k (drop (a + 1) text) (omega arith))

-- ---- the kmers with one more
module _ (ks : List (List ℕ)) (x : List ℕ) where
  pub with-keeps : (v : ℕ) → v < length ks → (v < length (with_kmer ks x)) × (get_or (with_kmer ks x) v [] ≡ get_or ks v [])
  with-keeps v h = go (ℕ_discrete (number_of ks x) (length ks))
    where
      go : Dec (number_of ks x ≡ length ks) → (v < length (with_kmer ks x)) × (get_or (with_kmer ks x) v [] ≡ get_or ks v [])
      go (yes e) = rw (with-yes ks x e) ((let z = length-append ks (x ∷ []) in omega arith), get_or-append ks (x ∷ []) [] v h)
      go (no e) = rw (with-no ks x e) (h, refl)

  pub with-has : (number_of ks x < length (with_kmer ks x)) × (get_or (with_kmer ks x) (number_of ks x) [] ≡ x)
  unfolding number_of
  with-has = go (ℕ_discrete (number_of ks x) (length ks))
    where
      go : Dec (number_of ks x ≡ length ks) → (number_of ks x < length (with_kmer ks x)) × (get_or (with_kmer ks x) (number_of ks x) [] ≡ x)
      go (yes e) = rw (with-yes ks x e) ((let z = length-append ks (x ∷ []) in omega arith), get_or_at ks x [] [] (number_of ks x) (sym e))
      go (no e) =
          let l : number_of ks x < length ks = (let z = position-le (λ y. eq_list y x) ks in omega arith) in
          rw (with-no ks x e) (l, eq_list-true (get_or ks (number_of ks x) []) x (position-true (λ y. eq_list y x) [] ks l))

  -- a kmer that comes with it, or was there
  with-sizes : (k : ℕ) → length x ≡ k → ((v : ℕ) → v < length ks → length (get_or ks v []) ≡ k) → (v : ℕ) → v < length (with_kmer ks x) → length (get_or (with_kmer ks x) v []) ≡ k
  with-sizes k lx h v l = go (ℕ_discrete (number_of ks x) (length ks))
    where
      at : number_of ks x ≡ length ks → Dec (v ≡ length ks) → length (get_or (with_kmer ks x) v []) ≡ k
      at e (yes z) = rw (with-yes ks x e, get_or_at ks x [] [] v (sym z)) lx
      at e (no z) =
          let i : v < length ks = (let y = ap length (with-yes ks x e) ∙ length-append ks (x ∷ []) in omega arith) in
          ap length (with-keeps v i).1 ∙ h v i

      go : Dec (number_of ks x ≡ length ks) → length (get_or (with_kmer ks x) v []) ≡ k
      go (yes e) = at e (ℕ_discrete v (length ks))
      go (no e) = rw (with-no ks x e) (h v (rw (with-no ks x e) at l))

-- ---- a fact of all ends
pub all-put : (P : Ends → Type 0) (x : Edge) (es : List Edge) → P x.ends → All (λ (e : Edge). P e.ends) es → All (λ (e : Edge). P e.ends) (put x es)
all-put P x [] h a = rw (put-nil x) (cons h nil)
all-put P x (e ∷ es) h (cons p a) = go (compare_ends x.ends e.ends) refl (all-put P x es h a)
  where
    go : (o : Ordering) → compare_ends x.ends e.ends ≡ o → All (λ (y : Edge). P y.ends) (put x es) → All (λ (y : Edge). P y.ends) (put x (e ∷ es))
    go Ordering.lt c ih = rw (put-lt x e es c) (cons h (cons p a))
    go Ordering.eq c ih = rw (put-eq x e es c) (cons {x = merge e x} (rw (merge-ends e x) p) a)
    go Ordering.gt c ih = rw (put-gt x e es c) (cons p ih)

pub all-backward : (P : Ends → Type 0) (n v : ℕ) (es : List Edge) → All (λ (e : Edge). P e.ends) es → All (λ (e : Edge). P e.ends) (backward n v es)
unfolding backward one_step entering
all-backward P zero v es a = a
all-backward P (suc n) v es a = go (sole (entering es v)) refl (λ u l b. all-backward P n u l b)
  where
    go : (o : Option Edge) → sole (entering es v) ≡ o → ((u : ℕ) (l : List Edge) → All (λ (e : Edge). P e.ends) l → All (λ (e : Edge). P e.ends) (backward n u l))
        → All (λ (e : Edge). P e.ends) (backward (suc n) v es)
    go none c ih = rw (c, backward) a
    go (some e) c ih =
        rw (c, backward)
        (ih e.ends.from (put (one_step false e.origin e.ends) es)
        (all-put P (one_step false e.origin e.ends) es (all-sole (all_keep (λ (d : Edge). eqb d.ends.to v) a) c) a))

-- ---- graphs whose edges join overlapping kmers
abbrev EndsJoin : ℕ → List (List ℕ) → Ends → Type 0
EndsJoin k ks d = (d.from < length ks) × (d.to < length ks) × Joins k (get_or ks d.from []) (get_or ks d.to [])

pub record Spelled (k : ℕ) (g : Graph) : Type 0 where
  pub sizes : (v : ℕ) → v < length g.kmers → length (get_or g.kmers v []) ≡ k
  pub joins : All (λ (e : Edge). EndsJoin k g.kmers e.ends) g.edges

-- the vertex reached has the kmer x
pub record SpelledAt (k : ℕ) (t : Threading) (x : List ℕ) : Type 0 where
  pub graph : Spelled k t.graph
  pub inside : t.here < length t.graph.kmers
  pub kmer : get_or t.graph.kmers t.here [] ≡ x

join-keeps : (k : ℕ) (ks : List (List ℕ)) (x : List ℕ) (d : Ends) → EndsJoin k ks d → EndsJoin k (with_kmer ks x) d
join-keeps k ks x d j =
    let a = with-keeps ks x d.from j.0 in
    let b = with-keeps ks x d.to j.1 in
    (a.0, b.0, rw (a.1, b.1) j.2)

joins-keep : (k : ℕ) (ks : List (List ℕ)) (x : List ℕ) {es : List Edge} → All (λ (e : Edge). EndsJoin k ks e.ends) es → All (λ (e : Edge). EndsJoin k (with_kmer ks x) e.ends) es
joins-keep k ks x a = all-mono (λ e j. join-keeps k ks x e.ends j) a

pub spelled-empty : (k : ℕ) → Spelled k (record { kmers = []; edges = [] })
spelled-empty k = record { sizes = λ v h. absurd (omega arith); joins = nil }

pub spelled-start : (k : ℕ) (x : List ℕ) (g : Graph) → length x ≡ k → Spelled k g → SpelledAt k (start_at k x g) x
unfolding start_at
spelled-start k x g l s =
    record {
      graph =
          record {
            sizes = with-sizes g.kmers x k l s.sizes;
            joins = all-backward (EndsJoin k (with_kmer g.kmers x)) (k - 1) (number_of g.kmers x) g.edges (joins-keep k g.kmers x s.joins);
          };
      inside = (with-has g.kmers x).0;
      kmer = (with-has g.kmers x).1;
    }

-- the edge that a step follows leads to the kmer stepped to
followed : (k : ℕ) (t : Threading) (x y : List ℕ) (e : Edge) → 0 < k → length y ≡ k → Joins k x y → SpelledAt k t x → follow t.graph t.here (last_or 0 y) ≡ some e
    → (e.ends.to < length t.graph.kmers) × (get_or t.graph.kmers e.ends.to [] ≡ y)
unfolding follow leaving last_base
followed k t x y e h l j s c =
    let w = all-find (λ (d : Edge). eqb (last_base t.graph.kmers d.ends.to) (last_or 0 y))
    (all-zip (all_keep (λ (d : Edge). eqb d.ends.from t.here) s.graph.joins) (all-passed (λ (d : Edge). eqb d.ends.from t.here) t.graph.edges)) c in
    let from : e.ends.from ≡ t.here = eqb-true e.ends.from t.here w.0.1 in
    let jn : Joins k x (get_or t.graph.kmers e.ends.to []) = rw (from, s.kmer) at w.0.0.2 in (
      w.0.0.1,
      one_follows k x (get_or t.graph.kmers e.ends.to []) y h (s.graph.sizes e.ends.to w.0.0.1) l jn j
          (eqb-true (last_or 0 (get_or t.graph.kmers e.ends.to [])) (last_or 0 y) w.1),
    )

pub spelled_step : (k : ℕ) (ref : Bool) (o : Origin) (x y : List ℕ) (t : Threading) → 0 < k → length y ≡ k → Joins k x y → SpelledAt k t x → SpelledAt k (step ref o y t) y
unfolding step step_to one_step
spelled_step k ref o x y t h l j s = go (follow t.graph t.here (last_or 0 y)) refl
  where
    ks : List (List ℕ)
    ks = t.graph.kmers

    go : (f : Option Edge) → follow t.graph t.here (last_or 0 y) ≡ f → SpelledAt k (step ref o y t) y
    go (some e) c =
        let w = followed k t x y e h l j s c in
        rw (c, step)
        (record {
          graph =
              record {
                sizes = s.graph.sizes;
                joins = all-put (EndsJoin k t.graph.kmers) (one_step ref o (record { from = t.here; to = e.ends.to })) t.graph.edges (s.inside, w.0, rw (s.kmer, w.1) j) s.graph.joins;
              };
          inside = w.0;
          kmer = w.1;
        })
    go none c =
        let a = with-keeps t.graph.kmers y t.here s.inside in
        let b = with-has t.graph.kmers y in
        rw (c, step)
        (record {
          graph =
              record {
                sizes = with-sizes t.graph.kmers y k l s.graph.sizes;
                joins =
                    all-put (EndsJoin k (with_kmer t.graph.kmers y)) (one_step ref o (record { from = t.here; to = number_of t.graph.kmers y })) t.graph.edges
                    (a.0, b.0, rw (a.1, b.1, s.kmer) j) (joins-keep k t.graph.kmers y s.graph.joins);
              };
          inside = b.0;
          kmer = b.1;
        })

spelled-steps : (k : ℕ) (ref : Bool) (sq i : ℕ) (text : List ℕ) (a n : ℕ) (t : Threading) → 0 < k → a + n + k ≤ length text → SpelledAt k t (part k text a)
    → SpelledAt k (steps ref sq i (pieces k text (a + 1) n) t) (part k text (a + n))
spelled-steps k ref sq i text a zero t h l s =
    let e : a + 0 ≡ a = omega arith in
    rw (pieces-0 k text (a + 1), steps-nil ref sq i t, e) s
spelled-steps k ref sq i text a (suc n) t h l s =
    let e : a + suc n ≡ a + 1 + n = omega arith in
    rw (pieces-suc k text (a + 1) n, steps-cons ref sq i (part k text (a + 1)) (pieces k text (a + 1 + 1) n) t, e)
    (spelled-steps k ref sq (suc i) text (a + 1) n (step ref (origin_at sq i) (part k text (a + 1)) t) h (omega arith)
    (spelled_step k ref (origin_at sq i) (part k text a) (part k text (a + 1)) t h (length_part k text (a + 1) (omega arith)) (parts_join k text a h) s))

-- ---- a kmer that has a vertex, and graphs that keep the vertices of others
pub record Has (g : Graph) (x : List ℕ) : Type 0 where
  pub vertex : ℕ
  pub inside : vertex < length g.kmers
  pub kmer : get_or g.kmers vertex [] ≡ x

-- a stretch that starts a graph leaves its last kmer there
pub thread-has : (k : ℕ) (ref : Bool) (text : List ℕ) (a len sq pl : ℕ) (g : Graph) → 0 < k → k ≤ len → a + len ≤ length text → Spelled k g
    → Has (thread ref k (stretch_at text a len sq pl) g) (part k text (a + (len - k)))
thread-has k ref text a len sq pl g h l m s =
    let w =
    spelled-steps k ref sq pl text a (len - k) (start_at k (part k text a) g) h (omega arith)
    (spelled-start k (part k text a) g (length_part k text a (omega arith)) s) in
    rw (thread-is ref k text a len sq pl g h l m) (record { vertex = (steps ref sq pl (pieces k text (a + 1) (len - k)) (start_at k (part k text a) g)).here; inside = w.inside; kmer = w.kmer })

abbrev Keeps : Graph → Graph → Type 0
Keeps g g' = (v : ℕ) → v < length g.kmers → (v < length g'.kmers) × (get_or g'.kmers v [] ≡ get_or g.kmers v [])

keeps-trans : (g g' g'' : Graph) → Keeps g g' → Keeps g' g'' → Keeps g g''
keeps-trans g g' g'' p q v h = let a = p v h in let b = q v a.0 in (b.0, b.1 ∙ a.1)

step_keeps : (ref : Bool) (o : Origin) (x : List ℕ) (t : Threading) → Keeps t.graph (step ref o x t).graph
unfolding step step_to
step_keeps ref o x t = go (follow t.graph t.here (last_or 0 x)) refl
  where
    go : (f : Option Edge) → follow t.graph t.here (last_or 0 x) ≡ f → Keeps t.graph (step ref o x t).graph
    go none c = rw (c, step) (with-keeps t.graph.kmers x)
    go (some e) c = rw (c, step) (λ v h. (h, refl))

steps-keep : (ref : Bool) (sq i : ℕ) (xs : List (List ℕ)) (t : Threading) → Keeps t.graph (steps ref sq i xs t).graph
steps-keep ref sq i [] t = rw (steps-nil ref sq i t) (λ v h. (h, refl))
steps-keep ref sq i (x ∷ xs) t =
    rw (steps-cons ref sq i x xs t)
    (keeps-trans t.graph (step ref (origin_at sq i) x t).graph (steps ref sq (suc i) xs (step ref (origin_at sq i) x t)).graph (step_keeps ref (origin_at sq i) x t)
    (steps-keep ref sq (suc i) xs (step ref (origin_at sq i) x t)))

start-keeps : (k : ℕ) (x : List ℕ) (g : Graph) → Keeps g (start_at k x g).graph
unfolding start_at
start-keeps k x g = with-keeps g.kmers x

thread_kmers-keeps : (ref : Bool) (k : ℕ) (r : Stretch) (xs : List (List ℕ)) (g : Graph) → Keeps g (thread_kmers ref k r xs g)
unfolding thread_kmers
thread_kmers-keeps ref k r [] g = λ v h. (h, refl)
thread_kmers-keeps ref k r (x ∷ xs) g =
    keeps-trans g (start_at k x g).graph (steps ref r.sequence r.place xs (start_at k x g)).graph (start-keeps k x g) (steps-keep ref r.sequence r.place xs (start_at k x g))

thread-keeps : (ref : Bool) (k : ℕ) (r : Stretch) (g : Graph) → Keeps g (thread ref k r g)
unfolding thread
thread-keeps ref k r g = thread_kmers-keeps ref k r (kmers k r.bytes) g

thread_all-keeps : (k : ℕ) (rs : List Stretch) (g : Graph) → Keeps g (thread_all k rs g)
unfolding thread_all
thread_all-keeps k [] g = λ v h. (h, refl)
thread_all-keeps k (r ∷ rs) g = keeps-trans g (thread false k r g) (thread_all k rs (thread false k r g)) (thread-keeps false k r g) (thread_all-keeps k rs (thread false k r g))

pub thread_all-has : (k : ℕ) (rs : List Stretch) (g : Graph) (x : List ℕ) → Has g x → Has (thread_all k rs g) x
thread_all-has k rs g x h = let w = thread_all-keeps k rs g h.vertex h.inside in record { vertex = h.vertex; inside = w.0; kmer = w.1 ∙ h.kmer }

-- ---- such a kmer has a number below the count
pub number_in : (g : Graph) (x : List ℕ) → Has g x → number_of g.kmers x < length g.kmers
unfolding number_of
number_in g x h =
    let e : eq_list (get_or g.kmers h.vertex []) x ≡ true = rw h.kmer (eq_list-self x) in
    let z = position_first (λ y. eq_list y x) [] g.kmers h.vertex h.inside e in
    let y = h.inside in
    omega arith

-- ---- the last kmer of a stretch
last-pieces : (k : ℕ) (text : List ℕ) (a n : ℕ) (d : List ℕ) → last_or d (part k text a ∷ pieces k text (a + 1) n) ≡ part k text (a + n)
last-pieces k text a zero d = let e : a + 0 ≡ a = omega arith in rw (pieces-0 k text (a + 1), e)
last-pieces k text a (suc n) d =
    let e : a + suc n ≡ a + 1 + n = omega arith in
    rw (pieces-suc k text (a + 1) n, e) (last-pieces k text (a + 1) n (part k text a))

pub last-kmer : (k : ℕ) (text : List ℕ) (a len : ℕ) → 0 < k → k ≤ len → a + len ≤ length text → last_or [] (kmers k (take len (drop a text))) ≡ part k text (a + (len - k))
last-kmer k text a len h l m = ap (λ (ks : List (List ℕ)). last_or [] ks) (kmers-is k text a len h l m) ∙ last-pieces k text a (len - k) []
