-- The offers of a fork as rows of four numbers: the edge's number, the count, the total, and 1 where a tree offers it.
use Rattle.std.specs.Prelude.{◌≡◌, refl, ◌≢◌, ℕ, zero, suc, ◌+◌, ◌-◌, ◌<◌, ◌≤◌, Bool, true, false, not, ◌||◌, cond, List, [], ◌∷◌, ◌++◌, map, eqb, length, get_or}
use Rattle.std.proofs.Common.{sym, ◌∙◌, append_assoc, add-one, arith, length-append}
use Rattle.std.proofs.Math.Path.{ap}
use Rattle.std.proofs.Math.Decide.{ℕ_discrete}
use Rattle.laws.specs.Records.{field, put_from, length-put_from, put_from-row, put_from-at}
use Rattle.laws.specs.Rows.{rows, length-rows, rows_same, rows_more, rows_none, rows-suc}
use Rattle.definition.specs.Threading.{Ends, eq_ends}
use Rattle.definition.specs.Search.{Offer, among, unseen}
use Rattle.assembly.specs.Store.{edge_at}
use Rattle.assembly.specs.Table.{Distinct}
use Rattle.threading_node.specs.Ends.{eq_ends-self, eq_ends-ne}
use Rattle.fork_offers.specs.Fields.{HasOffer, offer_edge, offer_count, offer_total, offer_guided}

abbrev pub offer_at : List ℕ → List ℕ → ℕ → Offer
offer_at es out i =
    record { ends = (edge_at es (offer_edge out i)).ends; count = offer_count out i; out_of = offer_total out i; guided = not (eqb (offer_guided out i) 0) }

-- the first k rows as the definition's offers, and their edges
unfoldable pub offers_of : List ℕ → List ℕ → ℕ → List Offer
offers_of es out k = rows (offer_at es out) k

unfoldable pub seen_of : List ℕ → List ℕ → ℕ → List Ends
seen_of es out k = rows (λ i. (edge_at es (offer_edge out i)).ends) k

-- the rows name edges
abbrev pub Few : ℕ → List ℕ → ℕ → Type 0
Few m out k = (j : ℕ) → j < k → offer_edge out j < m

pub map-append : {A B : Type 0} (f : A → B) (xs ys : List A) → map f (xs ++ ys) ≡ map f xs ++ map f ys
map-append {B = B} f [] ys = refl
map-append {B = B} f (x ∷ xs) ys = ap (λ (l : List B). f x ∷ l) (map-append f xs ys)

map_rows : {A B : Type 0} (f : A → B) (g : ℕ → A) (n : ℕ) → map f (rows g n) ≡ rows (λ i. f (g i)) n
map_rows {B = B} f g zero = ap (map f) (rows_none g) ∙ sym (rows_none (λ i. f (g i)))
map_rows {B = B} f g (suc n) =
    ap (map f) (rows-suc g n) ∙ map-append f (rows g n) (g n ∷ []) ∙ ap (λ (l : List B). l ++ (f (g n) ∷ [])) (map_rows f g n) ∙ sym (rows-suc (λ i. f (g i)) n)

pub seen-is : (es out : List ℕ) (k : ℕ) → map (λ (o : Offer). o.ends) (offers_of es out k) ≡ seen_of es out k
unfolding offers_of seen_of
seen-is es out k = map_rows (λ (o : Offer). o.ends) (offer_at es out) k

pub offers-none : (es out : List ℕ) → offers_of es out 0 ≡ []
unfolding offers_of
offers-none es out = rows_none (offer_at es out)

pub seen_none : (es out : List ℕ) → seen_of es out 0 ≡ []
unfolding seen_of
seen_none es out = rows_none (λ i. (edge_at es (offer_edge out i)).ends)

-- ---- whether an edge is among the rows

among-append : (d : Ends) (xs : List Ends) (y : Ends) → among d (xs ++ (y ∷ [])) ≡ among d xs || eq_ends d y
unfolding among
among-append d [] y = or-false (eq_ends d y)
  where
    or-false : (a : Bool) → (a || false) ≡ a
    or-false true = refl
    or-false false = refl
among-append d (x ∷ xs) y = go (eq_ends d x) refl (among-append d xs y)
  where
    go : (t : Bool) → eq_ends d x ≡ t → among d (xs ++ (y ∷ [])) ≡ among d xs || eq_ends d y → among d ((x ∷ xs) ++ (y ∷ [])) ≡ among d (x ∷ xs) || eq_ends d y
    go true h ih = rw h
    go false h ih = rw h ih

among-empty : (d : Ends) → among d [] ≡ false
unfolding among
among-empty d = refl

-- by the answer: the edge is among the first k rows, for the edges of any store that they name
pub record Offered (out : List ℕ) (k edge : ℕ) (r : Bool) : Type 0 where
  pub is : (es : List ℕ) (m : ℕ) → Distinct (edge_at es) m → edge < m → Few m out k → r ≡ among (edge_at es edge).ends (seen_of es out k)

module _ (es out : List ℕ) (m edge : ℕ) (ds : Distinct (edge_at es) m) (he : edge < m) where
  abbrev me : Ends
  me = (edge_at es edge).ends

  seen_more : (k : ℕ) → among me (seen_of es out (suc k)) ≡ among me (seen_of es out k) || eq_ends me (edge_at es (offer_edge out k)).ends
  unfolding seen_of
  seen_more k =
      ap (among me) (rows-suc (λ i. (edge_at es (offer_edge out i)).ends) k) ∙ among-append me (rows (λ i. (edge_at es (offer_edge out i)).ends) k) (edge_at es (offer_edge out k)).ends

  seen_no : (k : ℕ) → Few m out k → ((j : ℕ) → j < k → offer_edge out j ≡ edge → ⊥) → among me (seen_of es out k) ≡ false
  seen_no zero f h = ap (among me) (seen_none es out) ∙ among-empty me
  seen_no (suc k) f h =
      let a = seen_no k (λ j l. f j (omega arith)) (λ j l. h j (omega arith)) in
      let b : eq_ends me (edge_at es (offer_edge out k)).ends ≡ false
      = eq_ends-ne me (edge_at es (offer_edge out k)).ends (λ y. h k (omega arith) (sym (ds edge (offer_edge out k) he (f k (omega arith)) y))) in
      seen_more k ∙ ap (λ (t : Bool). t || eq_ends me (edge_at es (offer_edge out k)).ends) a ∙ b

  seen-yes : (k j : ℕ) → j < k → offer_edge out j ≡ edge → among me (seen_of es out k) ≡ true
  seen-yes zero j l h = absurd (omega arith)
  seen-yes (suc k) j l h = seen_more k ∙ go (ℕ_discrete j k) (λ q. seen-yes k j q h)
    where
      or-true : (a b : Bool) → b ≡ true → (a || b) ≡ true
      or-true true b h = refl
      or-true false b h = h

      go : Dec (j ≡ k) → (j < k → among me (seen_of es out k) ≡ true) → among me (seen_of es out k) || eq_ends me (edge_at es (offer_edge out k)).ends ≡ true
      go (yes z) ih =
          let y : offer_edge out k ≡ edge = sym (ap (λ (u : ℕ). offer_edge out u) z) ∙ h in
          or-true (among me (seen_of es out k)) (eq_ends me (edge_at es (offer_edge out k)).ends)
          (ap (λ (u : ℕ). eq_ends me (edge_at es u).ends) y ∙ eq_ends-self me)
      go (no z) ih = ap (λ (t : Bool). t || eq_ends me (edge_at es (offer_edge out k)).ends) (ih (omega arith))

pub offered-no : (out : List ℕ) (k edge i : ℕ) → ((j : ℕ) → j < i → offer_edge out j ≡ edge → ⊥) → k ≤ i → Offered out k edge false
offered-no out k edge i h l = record { is = λ es m ds he f. sym (seen_no es out m edge ds he k f (λ j q. h j (omega arith))) }

pub offered-yes : (out : List ℕ) (k edge i : ℕ) → i < k → offer_edge out i ≡ edge → Offered out k edge true
offered-yes out k edge i l h = record { is = λ es m ds he f. sym (seen-yes es out m edge ds he k i l h) }

-- ---- rows are added

-- After the first k rows of `out` stand the offers os: r rows in all.
pub record Grown (es : List ℕ) (m : ℕ) (out out' : List ℕ) (k r : ℕ) (os : List Offer) : Type 0 where
  pub is : offers_of es out' r ≡ offers_of es out k ++ os
  pub few : Few m out' r
  pub kept : (j : ℕ) → j < k → offer_edge out' j ≡ offer_edge out j
  pub long : length out' ≡ length out
  pub le : k ≤ r

pub append-nil : {A : Type 0} (xs : List A) → xs ++ [] ≡ xs
append-nil {A = A} [] = refl
append-nil {A = A} (x ∷ xs) = ap (λ (l : List A). x ∷ l) (append-nil xs)

pub grown-many : {es : List ℕ} {m : ℕ} {out out' : List ℕ} {k r : ℕ} {os : List Offer} → Grown es m out out' k r os → r ≡ k + length os
unfolding offers_of
grown-many {es} {m} {out} {out'} {k} {r} {os} g =
    let a = length-rows (offer_at es out') r in
    let b = length-rows (offer_at es out) k in
    let c = ap length g.is in
    let d = length-append (rows (offer_at es out) k) os in
    omega arith

pub grown-none : (es : List ℕ) (m : ℕ) (out : List ℕ) (k : ℕ) → Few m out k → Grown es m out out k k []
grown-none es m out k f = record { is = sym (append-nil (offers_of es out k)); few = f; kept = λ j h. refl; long = refl; le = omega arith }

pub grown-trans : {es : List ℕ} {m : ℕ} {out out' out'' : List ℕ} {k j r : ℕ} {os ps : List Offer} → Grown es m out out' k j os → Grown es m out' out'' j r ps
    → Grown es m out out'' k r (os ++ ps)
grown-trans {es} {m} {out} {out'} {out''} {k} {j} {r} {os} {ps} g h =
    let a = g.le in
    let b = h.le in
    record {
      is = h.is ∙ ap (λ (l : List Offer). l ++ ps) g.is ∙ append_assoc (offers_of es out k) os ps;
      few = h.few;
      kept = λ i l. h.kept i (omega arith) ∙ g.kept i l;
      long = h.long ∙ g.long;
      le = omega arith;
    }

-- the edges of the rows that were there
pub grown-seen : {es : List ℕ} {m : ℕ} {out out' : List ℕ} {k r : ℕ} {os : List Offer} → Grown es m out out' k r os → (s : ℕ) → s ≤ k → seen_of es out' s ≡ seen_of es out s
unfolding seen_of
grown-seen {es} {m} {out} {out'} g s l =
    rows_same (λ i. (edge_at es (offer_edge out' i)).ends) (λ i. (edge_at es (offer_edge out i)).ends) s (λ i h. ap (λ (u : ℕ). (edge_at es u).ends) (g.kept i (omega arith)))

-- the row k is written
abbrev pub row_put : List ℕ → ℕ → ℕ → ℕ → ℕ → ℕ → List ℕ
row_put out k a b c d = put_from out 4 k 0 (a ∷ b ∷ c ∷ d ∷ [])

pub grown-one : (es : List ℕ) (m : ℕ) (out : List ℕ) (k edge count total guided : ℕ) → Few m out k → HasOffer out k → edge < m
    → Grown es m out (row_put out k edge count total guided) k (k + 1) (record { ends = (edge_at es edge).ends; count = count; out_of = total; guided = not (eqb guided 0) } ∷ [])
unfolding offers_of
grown-one es m out k edge count total guided f l h =
    record {
      is =
          ap (rows (offer_at es new)) (add-one k)
          ∙ rows_more (offer_at es out) (offer_at es new) k (record { ends = (edge_at es edge).ends; count = count; out_of = total; guided = not (eqb guided 0) }) at-k
          (λ j ne. same-offer (other j 0 (omega arith) ne) (other j 1 (omega arith) ne) (other j 2 (omega arith) ne) (other j 3 (omega arith) ne));
      few = λ j q. low j q (ℕ_discrete j k);
      kept = λ j q. other j 0 (omega arith) (λ y. omega arith);
      long = length-put_from out 4 k 0 (edge ∷ count ∷ total ∷ guided ∷ []);
      le = omega arith;
    }
  where
    new : List ℕ
    new = row_put out k edge count total guided

    other : (j i : ℕ) → i < 4 → j ≢ k → field (row_put out k edge count total guided) 4 j i ≡ field out 4 j i
    other j i q ne = put_from-row out 4 k 0 (edge ∷ count ∷ total ∷ guided ∷ []) j i (omega arith) q ne

    at : (i : ℕ) → i < 4 → field (row_put out k edge count total guided) 4 k i ≡ get_or (edge ∷ count ∷ total ∷ guided ∷ []) (i - 0) 0
    at i q = put_from-at out 4 k 0 (edge ∷ count ∷ total ∷ guided ∷ []) i l (omega arith) (omega arith) (omega arith)

    same-offer : {a a' b b' c c' d d' : ℕ} → a ≡ a' → b ≡ b' → c ≡ c' → d ≡ d'
        → ◌≡◌ {A = Offer} (record { ends = (edge_at es a).ends; count = b; out_of = c; guided = not (eqb d 0) }) (record { ends = (edge_at es a').ends; count = b'; out_of = c'; guided = not (eqb d' 0) })
    same-offer p q r s = rw (p, q, r, s)

    at-k : offer_at es (row_put out k edge count total guided) k ≡ record { ends = (edge_at es edge).ends; count = count; out_of = total; guided = not (eqb guided 0) }
    at-k = same-offer (at 0 (omega arith)) (at 1 (omega arith)) (at 2 (omega arith)) (at 3 (omega arith))

    low : (j : ℕ) → j < k + 1 → Dec (j ≡ k) → offer_edge (row_put out k edge count total guided) j < m
    low j q (yes z) = rw (z, at 0 (omega arith)) h
    low j q (no z) = rw (other j 0 (omega arith) z) (f j (omega arith))

-- ---- an edge once

pub unseen-none : (seen : List Ends) → unseen seen [] ≡ []
unfolding unseen
unseen-none seen = refl

pub unseen-yes : (seen : List Ends) (o : Offer) → among o.ends seen ≡ true → unseen seen (o ∷ []) ≡ []
unfolding unseen
unseen-yes seen o h = rw h

pub unseen-no : (seen : List Ends) (o : Offer) → among o.ends seen ≡ false → unseen seen (o ∷ []) ≡ o ∷ []
unfolding unseen
unseen-no seen o h = rw h

-- the first of a list, if there is one, and the others
pub unseen-split : (seen : List Ends) (q : Bool) (o : Offer) (os : List Offer) → unseen seen (cond q (o ∷ os) os) ≡ unseen seen (cond q (o ∷ []) []) ++ unseen seen os
unfolding unseen
unseen-split seen false o os = refl
unseen-split seen true o os = go (among o.ends seen) refl
  where
    go : (t : Bool) → among o.ends seen ≡ t → unseen seen (o ∷ os) ≡ unseen seen (o ∷ []) ++ unseen seen os
    go true h = rw h
    go false h = rw h
