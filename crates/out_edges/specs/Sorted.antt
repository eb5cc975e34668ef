-- All edges in the definition's order, by the numbers of birth: vertex by vertex, each time the next out-edge. Assumes nothing.
use Rattle.std.specs.Prelude.{Some, None, ◌≡◌, refl, ◌⊎◌, Bool, true, false, ◌&&◌, ◌||◌, List, [], ◌∷◌, ℕ, ◌+◌, ◌<◌, ◌≤◌, eqb, leb, ltb, length}
use Rattle.std.proofs.Common.{sym, ◌∙◌, inl, inr, arith, eqb-true, eq-eqb, le-leb, leb-true, lt-ltb, le-ltb, ltb-true}
use Prim.Native.Nat.{Ordering}
use Rattle.std.proofs.Math.Decide.{ℕ_discrete, dec_lt}
use Rattle.laws.specs.Lists.{keep}
use Rattle.definition.specs.Threading.{Ends, Edge, compare_ends}
use Rattle.assembly.specs.Fields.{HasVertex, HasEdges, edge_from, edge_to}
use Rattle.assembly.specs.Ends.{Below, is_below, is-above}
use Rattle.assembly.specs.Table.{table, Distinct}
use Rattle.assembly.specs.Store.{edge_at, edges_of}
use Rattle.out_edges.specs.Outs.{Each, each-table, keep-least, keep-none, rising-table, has-table, Nexts, Slots}

-- ends at or after (v, t)
abbrev from-there : ℕ → ℕ → Ends → Bool
from-there v t d = ltb v d.from || (eqb d.from v && leb t d.to)

-- read as a fact: the source is after v, or is v and the target is from t on
abbrev There : ℕ → ℕ → Ends → Type 0
There v t d = (v < d.from) ⊎ ((d.from ≡ v) × (t ≤ d.to))

there-is : (v t : ℕ) (d : Ends) → There v t d → from-there v t d ≡ true
there-is v t d (inl h) = rw (lt-ltb v d.from h)
there-is v t d (inr h) = rw (le-ltb v d.from (let z = h.0 in omega arith), eq-eqb d.from v h.0, le-leb t d.to h.1)

is-there : (v t : ℕ) (d : Ends) → from-there v t d ≡ true → There v t d
is-there v t d h = go (ltb v d.from) refl h
  where
    two : (c : Bool) → eqb d.from v ≡ c → (c && leb t d.to) ≡ true → There v t d
    two true e k = inr (eqb-true d.from v e, leb-true t d.to k)
    two false e k = absurd (let z : ◌≡◌ {A = ℕ} 0 1 = cc in omega arith)

    go : (b : Bool) → ltb v d.from ≡ b → (b || (eqb d.from v && leb t d.to)) ≡ true → There v t d
    go true e k = inl (ltb-true v d.from e)
    go false e k = two (eqb d.from v) refl k

there-off : (v t : ℕ) (d : Ends) → (There v t d → ⊥) → from-there v t d ≡ false
there-off v t d h = go (from-there v t d) refl
  where
    go : (b : Bool) → from-there v t d ≡ b → b ≡ false
    go true e = absurd (h (is-there v t d e))
    go false e = refl

not_there : (v t : ℕ) (d : Ends) → from-there v t d ≡ false → There v t d → ⊥
not_there v t d e h = let z : true ≡ false = sym (there-is v t d h) ∙ e in let y : ◌≡◌ {A = ℕ} 0 1 = cc in omega arith

keep_same : (p q : Ends → Bool) (es : List Edge) → Each (λ d. p d ≡ q d) es → keep (λ e. p e.ends) es ≡ keep (λ e. q e.ends) es
keep_same p q [] a = refl
keep_same p q (e ∷ es) a = rw (a.0, keep_same p q es a.1)

keep_all : (p : Ends → Bool) (es : List Edge) → Each (λ d. p d ≡ true) es → keep (λ e. p e.ends) es ≡ es
keep_all p [] a = refl
keep_all p (e ∷ es) a = rw (a.0, keep_all p es a.1)

-- what is left from (v, t) on
unfoldable pub rest : ℕ → ℕ → List Edge → List Edge
rest v t es = keep (λ e. from-there v t e.ends) es

pub rest-start : (es : List ℕ) (m : ℕ) → rest 0 0 (edges_of es m) ≡ edges_of es m
unfolding rest edges_of
rest-start es m = keep_all (from-there 0 0) (table (edge_at es) m) (each-table (λ d. from-there 0 0 d ≡ true) (edge_at es) m (λ j h. there-is 0 0 (edge_at es j).ends (go (ℕ_discrete (edge_from es j) 0))))
  where
    go : {d : Ends} → Dec (d.from ≡ 0) → There 0 0 d
    go (yes e) = inr (e, omega arith)
    go (no e) = inl (omega arith)

pub rest_end : (es : List ℕ) (m v t : ℕ) → ((i : ℕ) → i < m → edge_from es i < v) → rest v t (edges_of es m) ≡ []
unfolding rest edges_of
rest_end es m v t h =
    keep-none (from-there v t) (table (edge_at es) m)
    (each-table (λ d. from-there v t d ≡ false) (edge_at es) m (λ j k. there-off v t (edge_at es j).ends (λ w. no (h j k) w)))
  where
    no : {d : Ends} → d.from < v → There v t d → ⊥
    no l (inl w) = omega arith
    no l (inr w) = let z = w.0 in omega arith

pub rest-skip : (es : List ℕ) (m v t : ℕ) → Nexts es m v t None → rest v t (edges_of es m) ≡ rest (v + 1) 0 (edges_of es m)
unfolding rest edges_of
rest-skip es m v t x =
    keep_same (from-there v t) (from-there (v + 1) 0) (table (edge_at es) m)
    (each-table (λ d. from-there v t d ≡ from-there (v + 1) 0 d) (edge_at es) m (λ j h. same j h (dec_lt v (edge_from es j))))
  where
    on : (j : ℕ) → v < edge_from es j → Dec (edge_from es j ≡ v + 1) → There (v + 1) 0 (edge_at es j).ends
    on j l (yes e) = inr (e, omega arith)
    on j l (no e) = inl (omega arith)

    off : (j : ℕ) → j < m → (v < edge_from es j → ⊥) → There v t (edge_at es j).ends → ⊥
    off j h l (inl w) = l w
    off j h l (inr w) = x.least j h w.0 w.1

    off' : (j : ℕ) → (v < edge_from es j → ⊥) → There (v + 1) 0 (edge_at es j).ends → ⊥
    off' j l (inl w) = l (omega arith)
    off' j l (inr w) = l (let y = w.0 in omega arith)

    same : (j : ℕ) → j < m → Dec (v < edge_from es j) → from-there v t (edge_at es j).ends ≡ from-there (v + 1) 0 (edge_at es j).ends
    same j h (yes l) = there-is v t (edge_at es j).ends (inl l) ∙ sym (there-is (v + 1) 0 (edge_at es j).ends (on j l (ℕ_discrete (edge_from es j) (v + 1))))
    same j h (no l) = there-off v t (edge_at es j).ends (off j h l) ∙ sym (there-off (v + 1) 0 (edge_at es j).ends (off' j l))

pub rest-take : (es : List ℕ) (m v t i : ℕ) → Distinct (edge_at es) m → Nexts es m v t (Some i)
    → rest v t (edges_of es m) ≡ edge_at es i ∷ rest v (edge_to es i + 1) (edges_of es m)
unfolding rest edges_of
rest-take es m v t i ds x =
    keep-least (from-there v t) (from-there v (edge_to es i + 1)) (edge_at es i)
    (there-is v t (edge_at es i).ends (inr (w.1, w.2))) (there-off v (edge_to es i + 1) (edge_at es i).ends itself) (λ d c. after d (is_below (edge_at es i).ends d c)) less
    (table (edge_at es) m) (rising-table (edge_at es) m) (has-table (edge_at es) m i ds w.0)
    (each-table (λ d. from-there v t d ≡ true → compare_ends (edge_at es i).ends d ≡ Ordering.gt → ⊥) (edge_at es) m
    (λ j h k c. small j h (is-there v t (edge_at es j).ends k) (is-above (edge_at es i).ends (edge_at es j).ends c)))
  where
    w : (i < m) × (edge_from es i ≡ v) × (t ≤ edge_to es i)
    w = x.there

    itself : There v (edge_to es i + 1) (edge_at es i).ends → ⊥
    itself (inl h) = let y = w.1 in omega arith
    itself (inr h) = let y = h.1 in omega arith

    after : (d : Ends) → Below (edge_at es i).ends d → from-there v (edge_to es i + 1) d ≡ from-there v t d
    after d (inl h) =
        let l : v < d.from = (let y = w.1 in omega arith) in
        there-is v (edge_to es i + 1) d (inl l) ∙ sym (there-is v t d (inl l))
    after d (inr h) =
        let e : d.from ≡ v = sym h.0 ∙ w.1 in
        let l = h.1 in
        let y = w.2 in
        there-is v (edge_to es i + 1) d (inr (e, omega arith)) ∙ sym (there-is v t d (inr (e, omega arith)))

    fewer : (d : Ends) → There v (edge_to es i + 1) d → There v t d
    fewer d (inl h) = inl h
    fewer d (inr h) = inr (h.0, (let y = w.2 in let u = h.1 in omega arith))

    less : (d : Ends) → from-there v t d ≡ false → from-there v (edge_to es i + 1) d ≡ false
    less d k = there-off v (edge_to es i + 1) d (λ u. not_there v t d k (fewer d u))

    small : (j : ℕ) → j < m → There v t (edge_at es j).ends → Below (edge_at es j).ends (edge_at es i).ends → ⊥
    small j h (inl k) (inl b) = let y = w.1 in omega arith
    small j h (inl k) (inr b) = let y = w.1 in let u = b.0 in omega arith
    small j h (inr k) (inl b) = let y = w.1 in let u = k.0 in omega arith
    small j h (inr k) (inr b) = let y = x.least j h k.0 k.1 in let u = b.1 in omega arith

-- ---- the pass: over every vertex that the table has room for, until all edges are out
pub record Orders (vs es out : List ℕ) (m : ℕ) : Type 0 where
  pub distinct : Distinct (edge_at es) m
  pub from_in : (i : ℕ) → i < m → HasVertex vs (edge_from es i)
  pub slots : (v : ℕ) → HasVertex vs v → Slots vs es m v
  pub room-e : HasEdges es m
  pub room-o : m ≤ length out
  pub few-e : m ≤ 8192
