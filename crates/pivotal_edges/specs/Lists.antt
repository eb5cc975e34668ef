-- Listing: of a fork's out-edges that are not visited, those that are no reference edge of support 1, in order. Assumes nothing.
use Rattle.std.specs.Prelude.{Some, None, ◌≡◌, Bool, not, ◌&&◌, ℕ, suc, ◌+◌, ◌<◌, ◌≤◌, eqb, get_or, set, take, drop}
use Rattle.std.proofs.Math.Path.{refl, sym, ap}
use Rattle.std.proofs.Common.{◌∙◌, arith, add-one, take-suc-set, drop-set-lt, drop-drop, lt-ltb, le-ltb, eq-eqb, ne_eqb}
use Rattle.std.proofs.Math.Bool.{true, false}
use mathlib.Core.List.{List, [], ◌∷◌, ◌++◌, map, append_assoc, append-nil, map-append}
use Rattle.std.proofs.Math.Dec.{ltb}
use Rattle.std.proofs.Math.ListN.{length}
use Rattle.laws.specs.Lists.{keep}
use Rattle.laws.specs.ListLaws.{All, nil, cons, all_append}
use Rattle.definition.specs.Threading.{Ends, Edge, leaving, support_of}
use Rattle.definition.specs.Search.{among, ends_of, pivotal_of}
use Rattle.theorems.proofs.Walks.{length-kept}
use Rattle.assembly.specs.Fields.{edge_to, edge_support}
use Rattle.assembly.specs.Store.{edge_at, edges_of}
use Rattle.out_edges.specs.Outs.{Nexts, out_from}
use Rattle.pivotal_edges.specs.Queue.{ends_at}
use Rattle.pivotal_edges.specs.Walk.{Here, Seen, fresh, leaving-from, next-none, next-some, next-in}

-- no reference edge of support 1
abbrev pub counts : Edge → Bool
counts e = not (e.is_ref && eqb (support_of e) 1)

abbrev pub wanted : List Ends → List Edge → List Ends
wanted vis es = ends_of (keep counts (fresh vis es))

-- whether edge i is listed
unfoldable pub takes : List ℕ → List ℕ → ℕ → Bool
takes es marks i = not (ltb 0 (get_or marks i 0)) && counts (edge_at es i)

pub takes-seen : (es marks : List ℕ) (i : ℕ) → (get_or marks i 0 ≡ 0 → ⊥) → takes es marks i ≡ false
unfolding takes
takes-seen es marks i h = rw (lt-ltb 0 (get_or marks i 0) (omega arith))

pub takes-is : (es marks : List ℕ) (i : ℕ) {b t : Bool} → get_or marks i 0 ≡ 0 → b ≡ counts (edge_at es i) → b ≡ t → takes es marks i ≡ t
unfolding takes
takes-is es marks i z e f = rw (le-ltb 0 (get_or marks i 0) (omega arith)) (sym e ∙ f)

pub counts-one : (es : List ℕ) (i : ℕ) {b : Bool} {s : ℕ} → s ≡ edge_support es i → s ≡ 1 → b ≡ (edge_at es i).is_ref → not b ≡ counts (edge_at es i)
unfolding support_of
counts-one es i {b} g h e = rw (eq-eqb (edge_support es i) 1 (sym g ∙ h), e) (go (edge_at es i).is_ref)
  where
    go : (c : Bool) → not c ≡ not (c && true)
    go true = refl
    go false = refl

pub counts-more : (es : List ℕ) (i : ℕ) {s : ℕ} → s ≡ edge_support es i → (s ≡ 1 → ⊥) → true ≡ counts (edge_at es i)
unfolding support_of
counts-more es i g h = rw (ne_eqb (edge_support es i) 1 (λ e. h (g ∙ e))) (go (edge_at es i).is_ref)
  where
    go : (c : Bool) → true ≡ not (c && false)
    go true = refl
    go false = refl

-- ---- one edge
pub record OneListed (es marks out out' : List ℕ) (i n r : ℕ) : Type 0 where
  pub yes : takes es marks i ≡ true → (r ≡ n + 1) × (out' ≡ set out n i)
  pub no : takes es marks i ≡ false → (r ≡ n) × (out' ≡ out)

clash-tf : {C : Type 0} {b : Bool} → b ≡ true → b ≡ false → C
clash-tf {b = b} h k = let z : true ≡ false = sym h ∙ k in let y : ◌≡◌ {A = ℕ} 0 1 = cc in absurd (omega arith)

pub listed-no : (es marks out : List ℕ) (i n : ℕ) → takes es marks i ≡ false → OneListed es marks out out i n n
listed-no es marks out i n h = record { yes = λ k. clash-tf k h; no = λ k. (refl, refl) }

pub listed-yes : (es marks out : List ℕ) (i n : ℕ) → takes es marks i ≡ true → OneListed es marks out (set out n i) i n (n + 1)
listed-yes es marks out i n h = record { yes = λ k. (refl, refl); no = λ k. clash-tf h k }

module _ (es marks : List ℕ) (m : ℕ) (vis : List Ends) (s : Seen es m marks vis) (i : ℕ) (h : i < m) (l : List Edge) where
  wanted-yes : takes es marks i ≡ true → wanted vis (edge_at es i ∷ l) ≡ ends_at es i ∷ wanted vis l
  unfolding takes ends_of
  wanted-yes e = go (ltb 0 (get_or marks i 0)) refl (counts (edge_at es i)) refl e
    where
      go : (a : Bool) → ltb 0 (get_or marks i 0) ≡ a → (b : Bool) → counts (edge_at es i) ≡ b → (not a && b) ≡ true
          → ends_of (keep counts (fresh vis (edge_at es i ∷ l))) ≡ ends_at es i ∷ ends_of (keep counts (fresh vis l))
      go true p b q f = clash-tf f refl
      go false p true q f = let u : among (ends_at es i) vis ≡ false = s i h ∙ p in rw (u, q)
      go false p false q f = clash-tf f refl

  wanted-no : takes es marks i ≡ false → wanted vis (edge_at es i ∷ l) ≡ wanted vis l
  unfolding takes ends_of
  wanted-no e = go (ltb 0 (get_or marks i 0)) refl (counts (edge_at es i)) refl e
    where
      go : (a : Bool) → ltb 0 (get_or marks i 0) ≡ a → (b : Bool) → counts (edge_at es i) ≡ b → (not a && b) ≡ false
          → ends_of (keep counts (fresh vis (edge_at es i ∷ l))) ≡ ends_of (keep counts (fresh vis l))
      go true p b q f = let u : among (ends_at es i) vis ≡ true = s i h ∙ p in rw u
      go false p true q f = clash-tf refl f
      go false p false q f = let u : among (ends_at es i) vis ≡ false = s i h ∙ p in rw (u, q)

-- ---- the walk
-- what comes behind the n found so far; beyond that nothing changes
pub record Listed (es : List ℕ) (m : ℕ) (out out' : List ℕ) (n r : ℕ) (l : List Ends) : Type 0 where
  pub many : r ≡ n + length l
  pub is : map (ends_at es) (take r out') ≡ map (ends_at es) (take n out) ++ l
  pub beyond : drop r out' ≡ drop r out
  pub low : All (λ (i : ℕ). i < m) (take n out) → All (λ (i : ℕ). i < m) (take r out')

pub record Lists (vs es : List ℕ) (m v : ℕ) (marks out : List ℕ) (n : ℕ) : Type 0 where
  pub here : Here vs es m v
  pub marks-in : m ≤ length marks
  pub vis : List Ends
  pub seen : Seen es m marks vis
  pub room : n + length (fresh vis (leaving (edges_of es m) v)) ≤ length out

pub record Listing (es : List ℕ) (m v t : ℕ) (vis : List Ends) (out₀ out : List ℕ) (n₀ n : ℕ) : Type 0 where
  pub many : n + length (wanted vis (out_from (edges_of es m) v t)) ≡ n₀ + length (wanted vis (leaving (edges_of es m) v))
  pub is : map (ends_at es) (take n out) ++ wanted vis (out_from (edges_of es m) v t) ≡ map (ends_at es) (take n₀ out₀) ++ wanted vis (leaving (edges_of es m) v)
  pub beyond : drop n out ≡ drop n out₀
  pub low : All (λ (i : ℕ). i < m) (take n₀ out₀) → All (λ (i : ℕ). i < m) (take n out)

pub record Lister (es : List ℕ) (m v : ℕ) (marks out₀ out : List ℕ) (n₀ t n : ℕ) : Type 0 where
  pub size : length out ≡ length out₀
  pub each : (vis : List Ends) → Seen es m marks vis → Listing es m v t vis out₀ out n₀ n

drop_more : {A : Type 0} (n : ℕ) (a b : List A) → drop n a ≡ drop n b → drop (n + 1) a ≡ drop (n + 1) b
drop_more n a b e = sym (drop-drop 1 n a) ∙ ap (λ l. drop 1 l) e ∙ drop-drop 1 n b

pub length-ends : (es : List Edge) → length (ends_of es) ≡ length es
unfolding ends_of
length-ends [] = refl
length-ends (e ∷ es) = ap suc (length-ends es)

pub wanted-few : (vis : List Ends) (es : List Edge) → length (wanted vis es) ≤ length (fresh vis es)
wanted-few vis es = let a = length-ends (keep counts (fresh vis es)) in let b = length-kept counts (fresh vis es) in omega arith

wanted-nil : (vis : List Ends) → wanted vis [] ≡ []
unfolding ends_of
wanted-nil vis = refl

module _ {vs es : List ℕ} {m v : ℕ} {marks out₀ : List ℕ} {n₀ : ℕ} (p : Lists vs es m v marks out₀ n₀) where
  pub lister-start : {t : ℕ} → t ≡ 0 → Lister es m v marks out₀ out₀ n₀ t n₀
  lister-start z =
      let e = leaving-from (edges_of es m) v in
      rw z
      (record {
        size = refl;
        each = λ vis s. record { many = ap (λ (l : List Edge). n₀ + length (wanted vis l)) e; is = ap (λ (l : List Edge). map (ends_at es) (take n₀ out₀) ++ wanted vis l) e; beyond = refl; low = λ a. a };
      })

  module _ {out : List ℕ} {t n : ℕ} (b : Lister es m v marks out₀ out n₀ t n) where
    pub lister-end : Nexts es m v t None → ltb 1 (length (leaving (edges_of es m) v)) ≡ true → (vis : List Ends) → Seen es m marks vis
        → Listed es m out₀ out n₀ n (pivotal_of (leaving (edges_of es m) v) (fresh vis (leaving (edges_of es m) v)))
    unfolding pivotal_of
    lister-end h f vis s =
        let x = b.each vis s in
        let e : wanted vis (out_from (edges_of es m) v t) ≡ [] = ap (wanted vis) (next-none p.here h) ∙ wanted-nil vis in
        rw f
        (record {
          many = (let q = x.many in let u = ap length e in omega arith);
          is = sym (append-nil (map (ends_at es) (take n out))) ∙ ap (λ (l : List Ends). map (ends_at es) (take n out) ++ l) (sym e) ∙ x.is;
          beyond = x.beyond;
          low = x.low;
        })

    module _ {i : ℕ} (h : Nexts es m v t (Some i)) where
      i-in : i < m
      i-in = next-in p.here h

      pub lister-mark : i < length marks
      lister-mark = let a = i-in in let c = p.marks-in in omega arith

      pub lister-room : takes es marks i ≡ true → n < length out
      lister-room e =
          let x = b.each p.vis p.seen in
          let q = x.many in
          let f = ap (λ (l : List Edge). length (wanted p.vis l)) (next-some p.here h) in
          let g = ap length (wanted-yes es marks m p.vis p.seen i i-in (out_from (edges_of es m) v (edge_to es i + 1)) e) in
          let w = wanted-few p.vis (leaving (edges_of es m) v) in
          let u = p.room in
          let y = b.size in
          omega arith

      pub lister-next : {out' : List ℕ} {n' w : ℕ} → w ≡ edge_to es i + 1 → length out' ≡ length out
          → OneListed es marks out out' i n n' → Lister es m v marks out₀ out' n₀ w n'
      lister-next {out'} {n'} {w} e len o =
          record { size = len ∙ b.size; each = λ vis z. (rw e (go vis z (takes es marks i) refl)) }
        where
          rest : List Edge
          rest = out_from (edges_of es m) v (edge_to es i + 1)

          go : (vis : List Ends) → Seen es m marks vis → (k : Bool) → takes es marks i ≡ k → Listing es m v (edge_to es i + 1) vis out₀ out' n₀ n'
          go vis z true k =
              let q = o.yes k in
              let x = b.each vis z in
              let f : wanted vis (out_from (edges_of es m) v t) ≡ ends_at es i ∷ wanted vis rest =
              ap (wanted vis) (next-some p.here h) ∙ wanted-yes es marks m vis z i i-in rest k in
              record {
                many = (let u = x.many in let y = ap length f in let w = q.0 in omega arith);
                is =
                    rw (
                      q.0,
                      q.1,
                      add-one n,
                      take-suc-set out n i (lister-room k),
                      map-append (ends_at es) (take n out) (i ∷ []),
                      append_assoc (map (ends_at es) (take n out)) (ends_at es i ∷ []) (wanted vis rest),
                      ← f,
                    ) x.is;
                beyond = rw (q.0, q.1) (drop-set-lt (n + 1) out n i (omega arith) ∙ drop_more n out out₀ x.beyond);
                low = λ a. (rw (q.0, q.1, add-one n, take-suc-set out n i (lister-room k)) (all_append (x.low a) (cons i-in nil)));
              }
          go vis z false k =
              let q = o.no k in
              let x = b.each vis z in
              let f : wanted vis (out_from (edges_of es m) v t) ≡ wanted vis rest =
              ap (wanted vis) (next-some p.here h) ∙ wanted-no es marks m vis z i i-in rest k in
              rw (q.0, q.1)
              (record {
                many = (let u = x.many in let y = ap length f in omega arith);
                is = ap (λ (l : List Ends). map (ends_at es) (take n out) ++ l) (sym f) ∙ x.is;
                beyond = x.beyond;
                low = x.low;
              })

  pub listed-none : ltb 1 (length (leaving (edges_of es m) v)) ≡ false → (vis : List Ends) → Seen es m marks vis
      → Listed es m out₀ out₀ n₀ n₀ (pivotal_of (leaving (edges_of es m) v) (fresh vis (leaving (edges_of es m) v)))
  unfolding pivotal_of
  listed-none f vis s = rw f (record { many = omega arith; is = sym (append-nil (map (ends_at es) (take n₀ out₀))); beyond = refl; low = λ a. a })
