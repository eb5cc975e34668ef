-- Marking the out-edges of a vertex: those that were not visited join the visited ones. Assumes nothing.
use Rattle.std.specs.Prelude.{Some, None, ◌≡◌, ◌⊎◌, Bool, ◌&&◌, ◌||◌, List, [], ◌∷◌, ◌++◌, ℕ, ◌+◌, ◌<◌, ◌≤◌, length, get_or, set, drop}
use Rattle.std.proofs.Math.Path.{refl, sym, ap}
use Rattle.std.proofs.Common.{◌∙◌, inl, inr, arith, length-set, get_or-set_same, get_or-set_other, drop-set-lt}
use Rattle.std.proofs.Math.Bool.{true, false, not, and-false, or-true, or-false}
use Rattle.std.proofs.Math.Decide.{ℕ_discrete, dec_lt}
use Rattle.std.proofs.Math.Dec.{ltb, eqb}
use borrow.Author.Tests.{lt-ltb, le-ltb, eq-eqb, eqb-true}
use Rattle.laws.specs.Lists.{keep}
use Rattle.definition.specs.Threading.{Ends, Edge, eq_ends, leaving}
use Rattle.definition.specs.Search.{among, ends_of}
use Rattle.theorems.proofs.Fuel.{among-append}
use Rattle.assembly.specs.Fields.{edge_from, edge_to}
use Rattle.assembly.specs.Table.{Distinct, table}
use Rattle.assembly.specs.Store.{edge_at, edges_of}
use Rattle.out_edges.specs.Outs.{Nexts, has-table}
use Rattle.pivotal_edges.specs.Queue.{ends_at}
use Rattle.pivotal_edges.specs.Walk.{Here, Seen, fresh, next-in}

-- ---- among
eq_ends-same : (a b : Ends) → eq_ends a b ≡ true → (p : Ends → Bool) → p a ≡ p b
eq_ends-same a b e p = ap p (go (eqb a.from b.from) refl e)
  where
    go : (c : Bool) → eqb a.from b.from ≡ c → (c && eqb a.to b.to) ≡ true → a ≡ b
    go true f g = let x = eqb-true a.from b.from f in let y = eqb-true a.to b.to g in ap (λ (z : ℕ). record { from = z; to = a.to }) x ∙ ap (λ (z : ℕ). record { from = b.from; to = z }) y
    go false f g = absurd (let z : ◌≡◌ {A = ℕ} 0 1 = cc in omega arith)

-- among those that pass: it passes and is among them
pub among-keep : (d : Ends) (p : Ends → Bool) (es : List Edge) → among d (ends_of (keep (λ (e : Edge). p e.ends) es)) ≡ (p d && among d (ends_of es))
unfolding among ends_of
among-keep d p [] = no (p d)
  where
    no : (b : Bool) → false ≡ (b && false)
    no true = refl
    no false = refl
among-keep d p (e ∷ es) = go (p e.ends) refl (eq_ends d e.ends) refl (among-keep d p es)
  where
    last : (a b : Bool) → a ≡ b → (a && true) ≡ b
    last true b h = h
    last false b h = h

    go : (b : Bool) → p e.ends ≡ b → (c : Bool) → eq_ends d e.ends ≡ c → among d (ends_of (keep (λ (x : Edge). p x.ends) es)) ≡ (p d && among d (ends_of es))
        → among d (ends_of (keep (λ (x : Edge). p x.ends) (e ∷ es))) ≡ (p d && among d (ends_of (e ∷ es)))
    go true f true g ih = let u : p d ≡ true = eq_ends-same d e.ends g p ∙ f in rw (f, g, u)
    go true f false g ih = rw (f, g) ih
    go false f true g ih = let u : p d ≡ false = eq_ends-same d e.ends g p ∙ f in rw (f, u) (ih ∙ rw u)
    go false f false g ih = rw (f, g) ih

abbrev Has : Edge → List Edge → Type 0
Has x [] = ⊥
Has x (e ∷ es) = (e ≡ x) ⊎ Has x es

among-has : (x : Edge) (es : List Edge) → Has x es → among x.ends (ends_of es) ≡ true
unfolding among ends_of
among-has x [] h = absurd h
among-has x (e ∷ es) (inl h) = rw (h, eq-eqb x.ends.from x.ends.from refl, eq-eqb x.ends.to x.ends.to refl)
among-has x (e ∷ es) (inr h) = rw (among-has x es h) (go (eq_ends x.ends e.ends))
  where
    go : (b : Bool) → (b || true) ≡ true
    go true = refl
    go false = refl

pub among-all : (es : List ℕ) (m i : ℕ) → Distinct (edge_at es) m → i < m → among (ends_at es i) (ends_of (edges_of es m)) ≡ true
unfolding edges_of
among-all es m i d h = among-has (edge_at es i) (table (edge_at es) m) (has-table (edge_at es) m i d h)

-- ---- the walk
pub record Marks (vs es : List ℕ) (m v : ℕ) (marks : List ℕ) : Type 0 where
  pub here : Here vs es m v
  pub marks-in : m ≤ length marks

-- what is visited after it
pub record Marked (es : List ℕ) (m v : ℕ) (marks marks' : List ℕ) : Type 0 where
  pub seen : (vis : List Ends) → Seen es m marks vis → Seen es m marks' (vis ++ ends_of (fresh vis (leaving (edges_of es m) v)))
  pub rest : drop m marks' ≡ drop m marks

pub record Marker (es : List ℕ) (m v : ℕ) (marks₀ marks : List ℕ) (t : ℕ) : Type 0 where
  pub size : length marks ≡ length marks₀
  pub beyond : drop m marks ≡ drop m marks₀
  pub each : (i : ℕ) → i < m → ltb 0 (get_or marks i 0) ≡ (ltb 0 (get_or marks₀ i 0) || (eqb (edge_from es i) v && ltb (edge_to es i) t))

module _ {vs es : List ℕ} {m v : ℕ} {marks₀ : List ℕ} (p : Marks vs es m v marks₀) where
  pub marker-start : {t : ℕ} → t ≡ 0 → Marker es m v marks₀ marks₀ t
  marker-start z =
      rw z
      (record {
        size = refl;
        beyond = refl;
        each = λ i h. sym (rw (le-ltb (edge_to es i) 0 (omega arith), and-false (eqb (edge_from es i) v)) (or-false (ltb 0 (get_or marks₀ i 0))));
      })

  module _ {marks : List ℕ} {t : ℕ} (b : Marker es m v marks₀ marks t) where
    marker-seen : Nexts es m v t None → (vis : List Ends) → Seen es m marks₀ vis → Seen es m marks (vis ++ ends_of (fresh vis (leaving (edges_of es m) v)))
    unfolding leaving
    marker-seen h vis s i l =
        let a : among (ends_at es i) (ends_of (fresh vis (leaving (edges_of es m) v))) ≡ (not (among (ends_at es i) vis) && (eqb (edge_from es i) v && among (ends_at es i) (ends_of (edges_of es m)))) =
        among-keep (ends_at es i) (λ (d : Ends). not (among d vis)) (leaving (edges_of es m) v)
        ∙ ap (λ (z : Bool). not (among (ends_at es i) vis) && z) (among-keep (ends_at es i) (λ (d : Ends). eqb d.from v) (edges_of es m)) in
        among-append (ends_at es i) vis (ends_of (fresh vis (leaving (edges_of es m) v)))
        ∙ ap (λ (z : Bool). among (ends_at es i) vis || z) (a ∙ ap (λ (z : Bool). not (among (ends_at es i) vis) && (eqb (edge_from es i) v && z)) (among-all es m i p.here.linked.distinct l))
        ∙ go (among (ends_at es i) vis) (eqb (edge_from es i) v) refl
        ∙ ap (λ (z : Bool). z || (eqb (edge_from es i) v && ltb (edge_to es i) t)) (s i l)
        ∙ sym (b.each i l)
      where
        go : (x y : Bool) → eqb (edge_from es i) v ≡ y → (x || (not x && (y && true))) ≡ (x || (y && ltb (edge_to es i) t))
        go true y e = refl
        go false true e = sym (low (dec_lt (edge_to es i) t))
          where
            low : Dec (edge_to es i < t) → ltb (edge_to es i) t ≡ true
            low (yes z) = lt-ltb (edge_to es i) t z
            low (no z) = absurd (h.least i l (eqb-true (edge_from es i) v e) (omega arith))
        go false false e = refl

    pub marker-end : Nexts es m v t None → Marked es m v marks₀ marks
    marker-end h = record { seen = marker-seen h; rest = b.beyond }

    module _ {e : ℕ} (h : Nexts es m v t (Some e)) where
      e-in : e < m
      e-in = next-in p.here h

      pub marker-in : e < length marks
      marker-in = let a = e-in in let c = p.marks-in in let d = b.size in omega arith

      pub marker-next : {w : ℕ} → w ≡ edge_to es e + 1 → Marker es m v marks₀ (set marks e 1) w
      marker-next {w} behind =
          record { size = length-set marks e 1 ∙ b.size; beyond = drop-set-lt m marks e 1 e-in ∙ b.beyond; each = λ i l. go i l (ℕ_discrete i e) }
        where
          from : edge_from es e ≡ v
          from = h.there.1

          step : (i : ℕ) → i < m → (i ≡ e → ⊥) → (c : Bool) → eqb (edge_from es i) v ≡ c → (c && ltb (edge_to es i) t) ≡ (c && ltb (edge_to es i) w)
          step i l n false f = refl
          step i l n true f = one (dec_lt (edge_to es i) t)
            where
              at : edge_from es i ≡ v
              at = eqb-true (edge_from es i) v f

              one : Dec (edge_to es i < t) → ltb (edge_to es i) t ≡ ltb (edge_to es i) w
              one (yes z) = lt-ltb (edge_to es i) t z ∙ sym (lt-ltb (edge_to es i) w (let q = h.there.2 in omega arith))
              one (no z) = le-ltb (edge_to es i) t (omega arith) ∙ sym (le-ltb (edge_to es i) w (two (ℕ_discrete (edge_to es i) (edge_to es e))))
                where
                  two : Dec (edge_to es i ≡ edge_to es e) → w ≤ edge_to es i
                  two (yes y) =
                      absurd
                      (n
                      (p.here.linked.distinct i e l e-in
                      (ap (λ (x : ℕ). record { from = x; to = edge_to es i }) (at ∙ sym from) ∙ ap (λ (x : ℕ). record { from = edge_from es e; to = x }) y)))
                  two (no y) = let q = h.least i l at (omega arith) in omega arith

          go : (i : ℕ) → i < m → Dec (i ≡ e) → ltb 0 (get_or (set marks e 1) i 0) ≡ (ltb 0 (get_or marks₀ i 0) || (eqb (edge_from es i) v && ltb (edge_to es i) w))
          go i l (yes z) =
              rw (z, get_or-set_same marks e 1 0 marker-in, eq-eqb (edge_from es e) v from, lt-ltb (edge_to es e) w (omega arith))
              (sym (or-true (ltb 0 (get_or marks₀ e 0))))
          go i l (no z) =
              ap (λ (x : ℕ). ltb 0 x) (get_or-set_other marks e i 1 0 z)
              ∙ b.each i l
              ∙ ap (λ (x : Bool). ltb 0 (get_or marks₀ i 0) || x) (step i l z (eqb (edge_from es i) v) refl)
