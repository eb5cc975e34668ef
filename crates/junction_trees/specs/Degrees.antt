-- What the eight slots of a vertex say of its out-edges: how many there are, and whether a target has two or more in-edges. Assumes nothing.
use Rattle.std.specs.Prelude.{◌≡◌, ◌≢◌, Bool, true, false, ◌&&◌, cond, List, [], ◌∷◌, ℕ, zero, suc, ◌+◌, ◌-◌, ◌/◌, ◌%◌, ◌<◌, ◌≤◌, leb, length, Option, Some, None, refl, eqb, ltb, is_some}
use Rattle.std.proofs.Common.{sym, ap, ◌∙◌, arith, add-one, eqb-true, eq-eqb, ne_eqb, lt-ltb, le-ltb, le-leb}
use Rattle.std.proofs.Math.Bool.{or-false}
use Rattle.std.proofs.Math.Option.{none, some}
use Rattle.std.proofs.Math.Decide.{ℕ_discrete, dec_lt}
use borrow.Author.Tests.{lt-leb}
use Rattle.laws.specs.Lists.{find}
use Rattle.laws.specs.ListLaws.{clash}
use Rattle.definition.specs.Threading.{Edge, leaving, entering, follow}
use Rattle.definition.specs.Evidence.{opens}
use Rattle.assembly.specs.Fields.{vertex_field, slot_of, out_edge, incoming_count, edge_from, edge_to}
use Rattle.assembly.specs.Table.{count, count-0, count-more, length-keep}
use Rattle.assembly.specs.Store.{edge_at, edges_of, graph_of, last_of, code, code_lt, Good, good-distinct, follow-some, in-degree}

-- ---- how many numbers below c pass a test
tally_to : (ℕ → Bool) → ℕ → ℕ
tally_to p zero = 0
tally_to p (suc c) = cond (p c) 1 0 + tally_to p c

tally-none : (p : ℕ → Bool) (c : ℕ) → ((d : ℕ) → d < c → p d ≡ false) → tally_to p c ≡ 0
unfolding tally_to
tally-none p zero h = refl
tally-none p (suc c) h = let z = tally-none p c (λ d k. h d (omega arith)) in rw (h c (omega arith)) (omega arith)

tally-same : (p q : ℕ → Bool) (c : ℕ) → ((d : ℕ) → d < c → p d ≡ q d) → tally_to p c ≡ tally_to q c
unfolding tally_to
tally-same p q zero h = refl
tally-same p q (suc c) h = rw (h c (omega arith), tally-same p q c (λ d k. h d (omega arith)))

tally-add : (p q r : ℕ → Bool) (c : ℕ) → ((d : ℕ) → d < c → cond (r d) 1 0 ≡ cond (p d) 1 0 + cond (q d) 1 0) → tally_to r c ≡ tally_to p c + tally_to q c
unfolding tally_to
tally-add p q r zero h = refl
tally-add p q r (suc c) h = let a = h c (omega arith) in let b = tally-add p q r c (λ d k. h d (omega arith)) in omega arith

-- just one passes
tally-one : (p : ℕ → Bool) (c e : ℕ) → e < c → p e ≡ true → ((d : ℕ) → d < c → p d ≡ true → d ≡ e) → tally_to p c ≡ 1
unfolding tally_to
tally-one p zero e l h u = absurd (omega arith)
tally-one p (suc c) e l h u = go (ℕ_discrete e c) (λ k. tally-one p c e k h (λ d q. u d (omega arith)))
  where
    off : (d : ℕ) → d < suc c → d ≢ e → (b : Bool) → p d ≡ b → b ≡ false
    off d k n true z = absurd (n (u d k z))
    off d k n false z = refl

    go : Dec (e ≡ c) → (e < c → tally_to p c ≡ 1) → cond (p c) 1 0 + tally_to p c ≡ 1
    go (yes z) ih =
        let y : p c ≡ true = rw z at h in
        let w : tally_to p c ≡ 0 = tally-none p c (λ d k. off d (omega arith) (omega arith) (p d) refl) in
        rw (y, w)
    go (no z) ih =
        let y : p c ≡ false = off c (omega arith) (λ q. z (sym q)) (p c) refl in
        let w = ih (omega arith) in
        rw y (omega arith)

-- ---- the slots of v that name an edge, among the first c
pub slots_full : List ℕ → ℕ → ℕ → ℕ
slots_full vs v c = tally_to (λ d. ltb 0 (vertex_field vs v d)) c

slot-some : (x : Option ℕ) → is_some x ≡ true → 0 < slot_of x
slot-some None h = clash (sym h)
slot-some (Some i) h = omega arith

slot-none : (x : Option ℕ) → is_some x ≡ false → slot_of x ≡ 0
slot-none None h = refl
slot-none (Some i) h = clash h

-- after c slots
pub record Counted (vs : List ℕ) (v c n : ℕ) : Type 0 where
  pub within : c ≤ 8
  pub few : n ≤ c
  pub is : n ≡ slots_full vs v c

module _ (vs : List ℕ) (v : ℕ) where
  pub counted_start : Counted vs v 0 0
  unfolding slots_full tally_to
  counted_start = record { within = omega arith; few = omega arith; is = refl }

  pub counted-yes : (c n n' : ℕ) (x : Option ℕ) (t : Bool) → Counted vs v c n → c < 8 → slot_of x ≡ out_edge vs v c → t ≡ is_some x → t ≡ true → n' ≡ n + 1 → Counted vs v (c + 1) n'
  unfolding slots_full tally_to
  counted-yes c n n' x t k l e h y w =
      let i = k.is in
      let f = k.few in
      let z = slot-some x (sym h ∙ y) in
      record { within = omega arith; few = omega arith; is = rw (add-one c, lt-ltb 0 (out_edge vs v c) (omega arith)) (omega arith) }

  pub counted-no : (c n n' : ℕ) (x : Option ℕ) (t : Bool) → Counted vs v c n → c < 8 → slot_of x ≡ out_edge vs v c → t ≡ is_some x → t ≡ false → n' ≡ n → Counted vs v (c + 1) n'
  unfolding slots_full tally_to
  counted-no c n n' x t k l e h y w =
      let i = k.is in
      let f = k.few in
      let z = slot-none x (sym h ∙ y) in
      record { within = omega arith; few = omega arith; is = rw (add-one c, le-ltb 0 (out_edge vs v c) (omega arith)) (omega arith) }

-- ---- counted edge by edge: the slots that name one of the first j edges
module _ {k : ℕ} {text vs : List ℕ} {n : ℕ} {es : List ℕ} {m : ℕ} (g : Good k text vs n es m) (v : ℕ) (hv : v < n) where
  abbrev at : ℕ → ℕ
  at d = vertex_field vs v d

  abbrev up_to : ℕ → ℕ → Bool
  up_to j d = ltb 0 (at d) && leb (at d) j

  abbrev hit : ℕ → ℕ → Bool
  hit j d = eqb (at d) (suc j)

  apart : (x j : ℕ) → cond (ltb 0 x && leb x (suc j)) 1 0 ≡ cond (ltb 0 x && leb x j) 1 0 + cond (eqb x (suc j)) 1 0
  apart x j = go (ℕ_discrete x (suc j)) (dec_lt x (suc j))
    where
      go : Dec (x ≡ suc j) → Dec (x < suc j) → cond (ltb 0 x && leb x (suc j)) 1 0 ≡ cond (ltb 0 x && leb x j) 1 0 + cond (eqb x (suc j)) 1 0
      go (yes e) d = rw (e, lt-ltb 0 (suc j) (omega arith), le-leb (suc j) (suc j) (omega arith), lt-leb (suc j) j (omega arith), eq-eqb (suc j) (suc j) refl)
      go (no e) (yes l) = rw (ne_eqb x (suc j) e, le-leb x (suc j) (omega arith), le-leb x j (omega arith)) (omega arith)
      go (no e) (no l) = rw (ne_eqb x (suc j) e, lt-leb x (suc j) (omega arith), lt-leb x j (omega arith)) (omega arith)

  -- edge j is named by just one slot of v where it leaves v, and by none where it does not
  hits : (j : ℕ) → j < m → tally_to (hit j) 8 ≡ cond (eqb (edge_at es j).ends.from v) 1 0
  hits j h = go (eqb (edge_from es j) v) refl
    where
      low : (d : ℕ) → d < 8 → hit j d ≡ true → (edge_from es j ≡ v) × (code (last_of k text vs n (edge_to es j)) ≡ d)
      low d l e =
          let a : at d ≡ suc j = eqb-true (at d) (suc j) e in
          let w = g.full v d hv l (omega arith) in
          let z : at d - 1 ≡ j = omega arith in
          (rw z at w.1, rw z at w.2)

      none_of : (d : ℕ) → d < 8 → eqb (edge_from es j) v ≡ false → (b : Bool) → hit j d ≡ b → b ≡ false
      none_of d l f true e = clash (sym (eq-eqb (edge_from es j) v (low d l e).0) ∙ f)
      none_of d l f false e = refl

      go : (b : Bool) → eqb (edge_from es j) v ≡ b → tally_to (hit j) 8 ≡ cond b 1 0
      go true f =
          let w : edge_from es j ≡ v = eqb-true (edge_from es j) v f in
          let s : at (code (last_of k text vs n (edge_to es j))) ≡ j + 1 = rw w at (g.slot j h) in
          tally-one (hit j) 8 (code (last_of k text vs n (edge_to es j))) (code_lt (last_of k text vs n (edge_to es j)))
          (eq-eqb (at (code (last_of k text vs n (edge_to es j)))) (suc j) (omega arith)) (λ d l e. sym (low d l e).1)
      go false f = tally-none (hit j) 8 (λ d l. none_of d l f (hit j d) refl)

  so_far : (j : ℕ) → j ≤ m → tally_to (up_to j) 8 ≡ count (λ d. eqb d.from v) (edge_at es) j
  so_far zero h = tally-none (up_to 0) 8 (λ d l. none_of (at d)) ∙ sym (count-0 (λ d. eqb d.from v) (edge_at es))
    where
      none_of : (x : ℕ) → (ltb 0 x && leb x 0) ≡ false
      none_of zero = refl
      none_of (suc x) = rw (lt-leb (suc x) 0 (omega arith), lt-ltb 0 (suc x) (omega arith))
  so_far (suc j) h =
      let a = tally-add (up_to j) (hit j) (up_to (suc j)) 8 (λ d l. apart (at d) j) in
      let b = so_far j (omega arith) in
      let c = hits j (omega arith) in
      let e : count (λ d. eqb d.from v) (edge_at es) (suc j) ≡ cond (eqb (edge_at es j).ends.from v) 1 0 + count (λ d. eqb d.from v) (edge_at es) j
      = rw (← add-one j) (count-more (λ d. eqb d.from v) (edge_at es) j) in
      omega arith

  pub out-degree-is : slots_full vs v 8 ≡ length (leaving (edges_of es m) v)
  unfolding slots_full leaving edges_of
  out-degree-is =
      tally-same (λ d. ltb 0 (at d)) (up_to m) 8 (λ d l. all_in d l (dec_lt 0 (at d)))
      ∙ so_far m (omega arith)
      ∙ sym (length-keep (λ d. eqb d.from v) (edge_at es) m (good-distinct g))
    where
      all_in : (d : ℕ) → d < 8 → Dec (0 < at d) → ltb 0 (at d) ≡ up_to m d
      all_in d l (yes z) = rw (lt-ltb 0 (at d) z) (sym (le-leb (at d) m (g.full v d hv l z).0))
      all_in d l (no z) = rw (le-ltb 0 (at d) (omega arith))

-- ---- the only out-edge
find-only : (t : Edge → Bool) (xs : List Edge) (a : Edge) → find t xs ≡ some a → length xs ≤ 1 → xs ≡ a ∷ []
find-only t [] a e h = let z : ◌≡◌ {A = ℕ} 0 1 = cc in absurd (omega arith)
find-only t (x ∷ y ∷ xs) a e h = absurd (omega arith)
find-only t (x ∷ []) a e h = go (t x) refl
  where
    go : (b : Bool) → t x ≡ b → x ∷ [] ≡ a ∷ []
    go true u = let y : some x ≡ some a = rw (u, find) at e in let z : x ≡ a = cc in rw z
    go false u = let y : none ≡ some a = rw (u, find) at e in let z : ◌≡◌ {A = ℕ} 0 1 = cc in absurd (omega arith)

-- edge i leaves v, which has no other
only-edge : {k : ℕ} {text vs : List ℕ} {n : ℕ} {es : List ℕ} {m : ℕ} → Good k text vs n es m → (v i : ℕ) → i < m → edge_from es i ≡ v → length (leaving (edges_of es m) v) ≤ 1
    → leaving (edges_of es m) v ≡ edge_at es i ∷ []
unfolding follow graph_of
only-edge {k = k} {text = text} {vs = vs} {n = n} {es = es} {m = m} g v i h e l =
    let b = last_of k text vs n (edge_to es i) in
    let s : out_edge vs v (code b) ≡ i + 1 = rw e at (g.slot i h) in
    let z : i + 1 - 1 ≡ i = omega arith in
    let f = follow-some g v b (rw (← e) (g.from_in i h)) (g.base (edge_to es i) (g.to_in i h)) (omega arith) in
    find-only _ (leaving (edges_of es m) v) (edge_at es i) (rw (s, z) at f) l

-- ---- what the code answers, whatever graph the tables hold
pub record OutDegree (vs : List ℕ) (v r : ℕ) : Type 0 where
  pub is : {k : ℕ} {text : List ℕ} {n : ℕ} {es : List ℕ} {m : ℕ} → Good k text vs n es m → v < n → r ≡ length (leaving (edges_of es m) v)

pub counted-end : (vs : List ℕ) (v c r : ℕ) → Counted vs v c r → 8 ≤ c → OutDegree vs v r
counted-end vs v c r k h =
    let w = k.within in
    let z : 8 ≡ c = omega arith in
    let y : r ≡ slots_full vs v 8 = rw z k.is in
    record { is = λ g hv. y ∙ out-degree-is g v hv }

-- edge i leaves v, which has `outs` out-edges, and enters `to`
pub record Warrants (vs : List ℕ) (outs to : ℕ) (r : Bool) : Type 0 where
  pub is : {k : ℕ} {text : List ℕ} {n : ℕ} {es : List ℕ} {m : ℕ} → Good k text vs n es m → (v i : ℕ) → i < m → edge_from es i ≡ v → edge_to es i ≡ to
      → outs ≡ length (leaving (edges_of es m) v) → r ≡ opens (edges_of es m) v

pub warrants-many : (vs : List ℕ) (outs to : ℕ) → 1 < outs → Warrants vs outs to (ltb 1 outs)
unfolding opens
warrants-many vs outs to h =
    record { is = λ {k} {text} {n} {es} {m} g v i l e f o. rw (lt-ltb 1 outs h, lt-ltb 1 (length (leaving (edges_of es m) v)) (omega arith)) }

few-is : (es : List Edge) (v : ℕ) (x : Edge) → leaving es v ≡ x ∷ [] → (ins : ℕ) → ins ≡ length (entering es x.ends.to) → ltb 1 ins ≡ opens es v
unfolding opens
few-is es v x h ins e = rw (h, e) (sym (or-false (ltb 1 (length (entering es x.ends.to)))))

pub warrants-few : (vs : List ℕ) (outs to ins : ℕ) → outs ≤ 1 → ins ≡ incoming_count vs to → Warrants vs outs to (ltb 1 ins)
warrants-few vs outs to ins h e = record { is = go }
  where
    go : {k : ℕ} {text : List ℕ} {n : ℕ} {es : List ℕ} {m : ℕ} → Good k text vs n es m → (v i : ℕ) → i < m → edge_from es i ≡ v → edge_to es i ≡ to
        → outs ≡ length (leaving (edges_of es m) v) → ltb 1 ins ≡ opens (edges_of es m) v
    go {es = es} {m = m} g v i l f t o =
        few-is (edges_of es m) v (edge_at es i) (only-edge g v i l f (omega arith)) ins (e ∙ sym (ap (λ (u : ℕ). incoming_count vs u) t) ∙ sym (in-degree g (edge_to es i) (g.to_in i l)))

-- the slot for the base at a place
pub next-edge-is : (vs : List ℕ) (v r b y : ℕ) → r ≡ vertex_field vs v (b / 2 % 8) → b ≡ y → (z : ℕ) → y ≡ z → r ≡ out_edge vs v (code z)
unfolding code
next-edge-is vs v r b y h e z f = h ∙ ap (λ (t : ℕ). vertex_field vs v (t / 2 % 8)) (e ∙ f)
