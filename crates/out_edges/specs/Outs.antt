-- Out-edges in rising target: the definition's list is in order, so the least that passes comes first and the rest follows. Assumes nothing.
use Rattle.std.specs.Prelude.{◌≡◌, refl, ◌≢◌, ◌⊎◌, Bool, true, false, ◌&&◌, List, [], ◌∷◌, Option, Some, None, IfSome, IsSomeAnd, eqb, leb}
use Rattle.std.proofs.Common.{sym, ap, ◌∙◌, inl, inr, arith, eqb-true, eq-eqb, le-leb, leb-true}
use Prim.Native.Nat.{ℕ, zero, suc, ◌+◌, ◌-◌, ◌^◌, ◌<◌, ◌≤◌, Ordering}
use Rattle.std.proofs.Math.Decide.{ℕ_discrete}
use Rattle.laws.specs.Lists.{keep}
use Rattle.definition.specs.Threading.{Ends, Edge, compare_ends, put, leaving}
use Rattle.theorems.proofs.Tables.{ends-lt}
use Rattle.assembly.specs.Fields.{vertex_field, out_edge, HasEdges, HasEdge, edge_from, edge_to}
use Rattle.assembly.specs.Ends.{ends-eq, ends-flip, ends-flip', Below, is_below, is-above}
use Rattle.assembly.specs.Puts.{put-nil, put-lt, put-eq, put-gt, merge-ends}
use Rattle.assembly.specs.Table.{table, table-0, table-suc, Distinct}
use Rattle.assembly.specs.Store.{edge_at, edges_of, code, code_lt, last_of, Good}

-- ---- a list in order
abbrev Over : Ends → List Edge → Type 0
Over d [] = Unit {0}
Over d (x ∷ xs) = (compare_ends d x.ends ≡ Ordering.lt) × Over d xs

abbrev pub Rising : List Edge → Type 0
Rising [] = Unit {0}
Rising (e ∷ es) = Over e.ends es × Rising es

over-trans : (a b : Ends) (es : List Edge) → compare_ends a b ≡ Ordering.lt → Over b es → Over a es
over-trans a b [] h o = tt
over-trans a b (x ∷ xs) h o = (ends-lt a b x.ends h o.0, over-trans a b xs h o.1)

over-put : (d : Ends) (x : Edge) (es : List Edge) → compare_ends d x.ends ≡ Ordering.lt → Over d es → Over d (put x es)
over-put d x [] h o = rw (put-nil x) (h, tt)
over-put d x (e ∷ es) h o = go (compare_ends x.ends e.ends) refl (over-put d x es h o.1)
  where
    go : (r : Ordering) → compare_ends x.ends e.ends ≡ r → Over d (put x es) → Over d (put x (e ∷ es))
    go Ordering.lt c ih = rw (put-lt x e es c) (h, o)
    go Ordering.eq c ih = rw (put-eq x e es c, merge-ends e x) o
    go Ordering.gt c ih = rw (put-gt x e es c) (o.0, ih)

pub rising-put : (x : Edge) (es : List Edge) → Rising es → Rising (put x es)
rising-put x [] r = rw (put-nil x) (tt, tt)
rising-put x (e ∷ es) r = go (compare_ends x.ends e.ends) refl (rising-put x es r.1)
  where
    go : (o : Ordering) → compare_ends x.ends e.ends ≡ o → Rising (put x es) → Rising (put x (e ∷ es))
    go Ordering.lt c ih = rw (put-lt x e es c) ((c, over-trans x.ends e.ends es c r.0), r)
    go Ordering.eq c ih = rw (put-eq x e es c, merge-ends e x) r
    go Ordering.gt c ih = rw (put-gt x e es c) (over-put e.ends x es (ends-flip' x.ends e.ends c) r.0, ih)

pub rising-table : (f : ℕ → Edge) (n : ℕ) → Rising (table f n)
rising-table f zero = rw (table-0 f) tt
rising-table f (suc n) = rw (table-suc f n) (rising-put (f n) (table f n) (rising-table f n))

-- ---- a fact of every edge's ends, and an edge that is there
abbrev pub Each : (Ends → Type 0) → List Edge → Type 0
Each P [] = Unit {0}
Each P (e ∷ es) = P e.ends × Each P es

each-put : (P : Ends → Type 0) (x : Edge) (es : List Edge) → P x.ends → Each P es → Each P (put x es)
each-put P x [] h a = rw (put-nil x) (h, tt)
each-put P x (e ∷ es) h a = go (compare_ends x.ends e.ends) refl (each-put P x es h a.1)
  where
    go : (o : Ordering) → compare_ends x.ends e.ends ≡ o → Each P (put x es) → Each P (put x (e ∷ es))
    go Ordering.lt c ih = rw (put-lt x e es c) (h, a)
    go Ordering.eq c ih = rw (put-eq x e es c, merge-ends e x) a
    go Ordering.gt c ih = rw (put-gt x e es c) (a.0, ih)

pub each-table : (P : Ends → Type 0) (f : ℕ → Edge) (n : ℕ) → ((j : ℕ) → j < n → P (f j).ends) → Each P (table f n)
each-table P f zero h = rw (table-0 f) tt
each-table P f (suc n) h = rw (table-suc f n) (each-put P (f n) (table f n) (h n (omega arith)) (each-table P f n (λ j k. h j (omega arith))))

abbrev Has : Edge → List Edge → Type 0
Has x [] = ⊥
Has x (e ∷ es) = (e ≡ x) ⊎ Has x es

has-old : (y x : Edge) (es : List Edge) → y.ends ≢ x.ends → Has y es → Has y (put x es)
has-old y x [] h a = absurd a
has-old y x (e ∷ es) h a = go (compare_ends x.ends e.ends) refl a (λ b. has-old y x es h b)
  where
    go : (o : Ordering) → compare_ends x.ends e.ends ≡ o → (e ≡ y) ⊎ Has y es → (Has y es → Has y (put x es)) → Has y (put x (e ∷ es))
    go Ordering.lt c b ih = rw (put-lt x e es c) (inr b)
    go Ordering.eq c (inl b) ih = absurd (h (sym (ends-eq x.ends e.ends c ∙ ap (λ (z : Edge). z.ends) b)))
    go Ordering.eq c (inr b) ih = rw (put-eq x e es c) (inr b)
    go Ordering.gt c (inl b) ih = rw (put-gt x e es c) (inl b)
    go Ordering.gt c (inr b) ih = rw (put-gt x e es c) (inr (ih b))

has_new : (x : Edge) (es : List Edge) → Each (λ d. d ≢ x.ends) es → Has x (put x es)
has_new x [] a = rw (put-nil x) (inl refl)
has_new x (e ∷ es) a = go (compare_ends x.ends e.ends) refl (has_new x es a.1)
  where
    go : (o : Ordering) → compare_ends x.ends e.ends ≡ o → Has x (put x es) → Has x (put x (e ∷ es))
    go Ordering.lt c ih = rw (put-lt x e es c) (inl refl)
    go Ordering.eq c ih = absurd (a.0 (sym (ends-eq x.ends e.ends c)))
    go Ordering.gt c ih = rw (put-gt x e es c) (inr ih)

pub has-table : (f : ℕ → Edge) (n i : ℕ) → Distinct f n → i < n → Has (f i) (table f n)
has-table f zero i d h = absurd (omega arith)
has-table f (suc n) i d h = rw (table-suc f n) (go (λ k. has-table f n i (λ p q a b. d p q (omega arith) (omega arith)) k) (ℕ_discrete i n))
  where
    go : (i < n → Has (f i) (table f n)) → Dec (i ≡ n) → Has (f i) (put (f n) (table f n))
    go ih (yes z) = rw z (has_new (f n) (table f n) (each-table (λ e. e ≢ (f n).ends) f n (λ j k e. (let y = d j n (omega arith) (omega arith) e in omega arith))))
    go ih (no z) = has-old (f i) (f n) (table f n) (λ e. z (d i n h (omega arith) e)) (ih (omega arith))

-- ---- the least that passes p comes first; q keeps what passes p after it
over-has : (d : Ends) (x : Edge) (es : List Edge) → Over d es → Has x es → compare_ends d x.ends ≡ Ordering.lt
over-has d x [] o h = absurd h
over-has d x (e ∷ es) o (inl h) = rw h at o.0
over-has d x (e ∷ es) o (inr h) = over-has d x es o.1 h

module _ (p q : Ends → Bool) (x : Edge) (px : p x.ends ≡ true) (qx : q x.ends ≡ false)
    (after : (d : Ends) → compare_ends x.ends d ≡ Ordering.lt → q d ≡ p d) (less : (d : Ends) → p d ≡ false → q d ≡ false) where
  abbrev on-p : Edge → Bool
  on-p e = p e.ends

  abbrev on-q : Edge → Bool
  on-q e = q e.ends

  keep-agree : (es : List Edge) → Over x.ends es → keep on-p es ≡ keep on-q es
  keep-agree [] o = refl
  keep-agree (e ∷ es) o = rw (after e.ends o.0, keep-agree es o.1)

  pub keep-least : (es : List Edge) → Rising es → Has x es → Each (λ d. p d ≡ true → compare_ends x.ends d ≡ Ordering.gt → ⊥) es → keep on-p es ≡ x ∷ keep on-q es
  keep-least [] r h l = absurd h
  keep-least (e ∷ es) r (inl h) l =
      let k : p e.ends ≡ true = rw h px in
      let m : q e.ends ≡ false = rw h qx in
      let o : Over x.ends es = rw h at r.0 in
      rw (k, m, h, keep-agree es o)
  keep-least (e ∷ es) r (inr h) l = go (p e.ends) refl (keep-least es r.1 h l.1)
    where
      go : (b : Bool) → p e.ends ≡ b → keep on-p es ≡ x ∷ keep on-q es → keep on-p (e ∷ es) ≡ x ∷ keep on-q (e ∷ es)
      go true k ih = absurd (l.0 k (ends-flip e.ends x.ends (over-has e.ends x es r.0 h)))
      go false k ih = rw (k, less e.ends k) ih

pub keep-none : (p : Ends → Bool) (es : List Edge) → Each (λ d. p d ≡ false) es → keep (λ e. p e.ends) es ≡ []
keep-none p [] a = refl
keep-none p (e ∷ es) a = rw (a.0, keep-none p es a.1)

keep-keep : (a b : Edge → Bool) (es : List Edge) → keep b (keep a es) ≡ keep (λ e. a e && b e) es
keep-keep a b [] = refl
keep-keep a b (e ∷ es) = go (a e) refl (b e) refl (keep-keep a b es)
  where
    go : (s : Bool) → a e ≡ s → (t : Bool) → b e ≡ t → keep b (keep a es) ≡ keep (λ z. a z && b z) es → keep b (keep a (e ∷ es)) ≡ keep (λ z. a z && b z) (e ∷ es)
    go true h true k ih = rw (h, k, ih)
    go true h false k ih = rw (h, k, ih)
    go false h t k ih = rw (h, ih)

-- ---- the out-edges of v with a target from t on, as the definition has them
unfoldable pub out_from : List Edge → ℕ → ℕ → List Edge
out_from es v t = keep (λ e. leb t e.ends.to) (leaving es v)

abbrev from_on : ℕ → ℕ → Ends → Bool
from_on v t d = eqb d.from v && leb t d.to

from-on-is : (v t : ℕ) (d : Ends) → d.from ≡ v → t ≤ d.to → from_on v t d ≡ true
from-on-is v t d e h = rw (eq-eqb d.from v e, le-leb t d.to h)

is-from-on : (v t : ℕ) (d : Ends) → from_on v t d ≡ true → (d.from ≡ v) × (t ≤ d.to)
is-from-on v t d h = go (eqb d.from v) refl h
  where
    go : (b : Bool) → eqb d.from v ≡ b → (b && leb t d.to) ≡ true → (d.from ≡ v) × (t ≤ d.to)
    go true e k = (eqb-true d.from v e, leb-true t d.to k)
    go false e k = absurd (let z : ◌≡◌ {A = ℕ} 0 1 = cc in omega arith)

from-off : (v t : ℕ) (d : Ends) → (d.from ≡ v → t ≤ d.to → ⊥) → from_on v t d ≡ false
from-off v t d h = go (from_on v t d) refl
  where
    go : (b : Bool) → from_on v t d ≡ b → b ≡ false
    go true e = absurd (let w = is-from-on v t d e in h w.0 w.1)
    go false e = refl

not-true-false : (b : Bool) → b ≡ true → b ≡ false → ⊥
not-true-false b h k = let z : true ≡ false = sym h ∙ k in let y : ◌≡◌ {A = ℕ} 0 1 = cc in omega arith

-- what the code finds: no number where v has no out-edge to a target from t on, else the number of that with the least target
pub record Nexts (es : List ℕ) (m v t : ℕ) (r : Option ℕ) : Type 0 where
  pub there : IfSome r (λ i. (i < m) × (edge_from es i ≡ v) × (t ≤ edge_to es i))
  pub least : (j : ℕ) → j < m → edge_from es j ≡ v → t ≤ edge_to es j → IsSomeAnd r (λ i. edge_to es i ≤ edge_to es j)

pub nexts-none : (es : List ℕ) (m v t : ℕ) → Nexts es m v t None → out_from (edges_of es m) v t ≡ []
unfolding out_from leaving edges_of
nexts-none es m v t x =
    keep-keep (λ e. eqb e.ends.from v) (λ e. leb t e.ends.to) (table (edge_at es) m)
    ∙ keep-none (from_on v t) (table (edge_at es) m)
    (each-table (λ d. from_on v t d ≡ false) (edge_at es) m (λ j h. from-off v t (edge_at es j).ends (λ e l. x.least j h e l)))

pub nexts-some : (es : List ℕ) (m v t i : ℕ) → Distinct (edge_at es) m → Nexts es m v t (Some i)
    → out_from (edges_of es m) v t ≡ edge_at es i ∷ out_from (edges_of es m) v (edge_to es i + 1)
unfolding out_from leaving edges_of
nexts-some es m v t i ds x =
    keep-keep (λ e. eqb e.ends.from v) (λ e. leb t e.ends.to) (table (edge_at es) m)
    ∙ keep-least (from_on v t) (from_on v (edge_to es i + 1)) (edge_at es i)
    (from-on-is v t (edge_at es i).ends w.1 w.2) (from-off v (edge_to es i + 1) (edge_at es i).ends (λ e l. omega arith)) after less
    (table (edge_at es) m) (rising-table (edge_at es) m) (has-table (edge_at es) m i ds w.0)
    (each-table (λ d. from_on v t d ≡ true → compare_ends (edge_at es i).ends d ≡ Ordering.gt → ⊥) (edge_at es) m (λ j h. small j h))
    ∙ ap (λ (l : List Edge). edge_at es i ∷ l) (sym (keep-keep (λ e. eqb e.ends.from v) (λ e. leb (edge_to es i + 1) e.ends.to) (table (edge_at es) m)))
  where
    w : (i < m) × (edge_from es i ≡ v) × (t ≤ edge_to es i)
    w = x.there

    cases : (d : Ends) → Below (edge_at es i).ends d → from_on v (edge_to es i + 1) d ≡ from_on v t d
    cases d (inl h) = from-off v (edge_to es i + 1) d (λ e l. (let y = w.1 in omega arith)) ∙ sym (from-off v t d (λ e l. (let y = w.1 in omega arith)))
    cases d (inr h) =
        let e : d.from ≡ v = sym h.0 ∙ w.1 in
        let l = h.1 in
        let y = w.2 in
        from-on-is v (edge_to es i + 1) d e (omega arith) ∙ sym (from-on-is v t d e (omega arith))

    after : (d : Ends) → compare_ends (edge_at es i).ends d ≡ Ordering.lt → from_on v (edge_to es i + 1) d ≡ from_on v t d
    after d c = cases d (is_below (edge_at es i).ends d c)

    less : (d : Ends) → from_on v t d ≡ false → from_on v (edge_to es i + 1) d ≡ false
    less d k = from-off v (edge_to es i + 1) d (λ e l. not-true-false (from_on v t d) (from-on-is v t d e (let y = w.2 in omega arith)) k)

    above : (d : Ends) → d.from ≡ v → edge_to es i ≤ d.to → Below d (edge_at es i).ends → ⊥
    above d e l (inl h) = let y = w.1 in omega arith
    above d e l (inr h) = let y = h.1 in omega arith

    small : (j : ℕ) → j < m → from_on v t (edge_at es j).ends ≡ true → compare_ends (edge_at es i).ends (edge_at es j).ends ≡ Ordering.gt → ⊥
    small j h k c =
        let u = is-from-on v t (edge_at es j).ends k in
        above (edge_at es j).ends u.0 (x.least j h u.0 u.1) (is-above (edge_at es i).ends (edge_at es j).ends c)

-- ---- the scan of a vertex's slots
-- a slot's number names an edge, where it names any
abbrev pub Names : List ℕ → ℕ → Type 0
Names es r = 0 < r → HasEdge es (r - 1)

-- v's slots hold its out-edges and nothing else
pub record Slots (vs es : List ℕ) (m v : ℕ) : Type 0 where
  pub full : (c : ℕ) → c < 8 → 0 < out_edge vs v c → (out_edge vs v c ≤ m) × (edge_from es (out_edge vs v c - 1) ≡ v)
  pub all : (i : ℕ) → i < m → edge_from es i ≡ v → (c : ℕ) × (c < 8) × (out_edge vs v c ≡ i + 1)

pub slots-of : {k : ℕ} {text vs : List ℕ} {n : ℕ} {es : List ℕ} {m v : ℕ} → Good k text vs n es m → v < n → Slots vs es m v
slots-of {k = k} {text = text} {vs = vs} {n = n} {es = es} {v = v} g h =
    record {
      full = λ c l z. (let w = g.full v c h l z in (w.0, w.1));
      all = λ i l e. (code (last_of k text vs n (edge_to es i)), code_lt (last_of k text vs n (edge_to es i)), rw e at (g.slot i l));
    }

pub slots-names : {vs es : List ℕ} {m v : ℕ} → Slots vs es m v → HasEdges es m → (c : ℕ) → c < 8 → Names es (out_edge vs v c)
slots-names s r c h z = let w = (s.full c h z).0 in omega arith

-- after c slots: what was found stands in one of them, and is the least of them from t on
pub record Best (vs es : List ℕ) (v t c : ℕ) (r : Option ℕ) : Type 0 where
  pub within : c ≤ 8
  pub there : IfSome r (λ i. (d : ℕ) × (d < c) × (vertex_field vs v d ≡ i + 1) × (t ≤ edge_to es i))
  pub least : (d : ℕ) → d < c → 0 < vertex_field vs v d → t ≤ edge_to es (vertex_field vs v d - 1) → IsSomeAnd r (λ i. edge_to es i ≤ edge_to es (vertex_field vs v d - 1))

-- the target of what was found, and above each target where nothing was
abbrev pub reach : List ℕ → Option ℕ → ℕ
reach es None = 2 ^ 64 - 1
reach es (Some i) = edge_to es i
