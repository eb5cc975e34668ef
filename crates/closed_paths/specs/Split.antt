-- Where a closed path is split: behind the first place of its last edge into the pivotal vertex. Over the edges written out, as numbers.
use Rattle.std.specs.Prelude.{◌≡◌, refl, ◌⊎◌, Option, Some, None, Bool, cond, not, true, false, List, [], ◌∷◌, ◌++◌, map, ℕ, suc, ◌+◌, ◌<◌, ◌≤◌, eqb, ltb, length, get_or, take}
use Rattle.std.proofs.Common.{sym, ap, ◌∙◌, inl, inr, add-one, arith, eq-eqb, ne_eqb, ltb-false, take-suc}
use Rattle.std.proofs.Math.Option.{none, some}
use Rattle.std.proofs.Math.Option as math
use Rattle.std.specs.List as std
use Rattle.laws.specs.Lists.{find_last, position}
use Rattle.laws.specs.ListLaws.{All, nil, cons, all-mono}
use Rattle.laws.specs.BoolLaws.{Bool-cases}
use Rattle.laws.specs.Finding.{position-hit, position_past, last-hit, last-miss, last-map, position-map, on_some}
use Rattle.definition.specs.Threading.{Ends, eq_ends}
use Rattle.definition.specs.Search.{SearchInput}
use Rattle.path_store.specs.Cells.{numbered}
use Rattle.path_growth.specs.Link.{Agrees}

-- an edge as its number + 1
abbrev pub found : math.Option ℕ → ℕ
found none = 0
found (some d) = suc d

abbrev pub last_into : List ℕ → ℕ → List ℕ → math.Option ℕ
last_into targets v es = find_last (λ d. eqb (get_or targets d 0) v) es

-- how many edges are kept: 0 where none enters v
unfoldable pub split_at : List ℕ → ℕ → List ℕ → ℕ
split_at targets v es = elim (last_into targets v es) [ none ↦ 0 | some d ↦ suc (position (eqb d) es) ]

-- the same where an edge enters v
unfoldable pub split_of : List ℕ → ℕ → List ℕ → Option ℕ
split_of targets v es = elim (last_into targets v es) [ none ↦ None | some d ↦ Some (suc (position (eqb d) es)) ]

-- ---- last_into: the edge e where it enters v, else the one that was found last
pub record Latest (targets : List ℕ) (v : ℕ) (walk : List ℕ) (i : ℕ) (last : Option ℕ) : Type 0 where
  pub low : i ≤ length walk
  pub is : last ≡ numbered (found (last_into targets v (take i walk)))

module _ (targets : List ℕ) (v : ℕ) (walk : List ℕ) where
  module _ (i : ℕ) (last : Option ℕ) (L : Latest targets v walk i last) (h : i < length walk) where
    front : take (i + 1) walk ≡ take i walk ++ get_or walk i 0 ∷ []
    front = rw (add-one i) (take-suc walk i 0 h)

    pub latest-hit : get_or targets (get_or walk i 0) 0 ≡ v → Latest targets v walk (i + 1) (Some (get_or walk i 0))
    latest-hit e =
        record {
          low = omega arith;
          is =
              ap (λ o. numbered (found o)) (sym (last-hit (λ d. eqb (get_or targets d 0) v) (take i walk) (get_or walk i 0) (eq-eqb _ v e)))
              ∙ ap (λ x. numbered (found (last_into targets v x))) (sym front);
        }

    pub latest-miss : (get_or targets (get_or walk i 0) 0 ≡ v → ⊥) → Latest targets v walk (i + 1) last
    latest-miss e =
        record {
          low = omega arith;
          is =
              L.is
              ∙ ap (λ o. numbered (found o)) (sym (last-miss (λ d. eqb (get_or targets d 0) v) (take i walk) (get_or walk i 0) (ne_eqb _ v e)))
              ∙ ap (λ x. numbered (found (last_into targets v x))) (sym front);
        }

-- ---- first_place
pub place-is : (e : ℕ) (es : List ℕ) → std.position_or_len (eqb e) es ≡ position (eqb e) es
place-is e [] = refl
place-is e (x ∷ es) = go (Bool-cases (eqb e x)) (place-is e es)
  where
    tail : Bool → ℕ
    tail b = cond (not b) (1 + std.position_or_len (eqb e) es) 0

    go : (eqb e x ≡ true) ⊎ (eqb e x ≡ false) → std.position_or_len (eqb e) es ≡ position (eqb e) es → std.position_or_len (eqb e) (x ∷ es) ≡ position (eqb e) (x ∷ es)
    go (inl h) ih = ap tail h ∙ sym (position-hit (eqb e) x es h)
    go (inr h) ih = ap tail h ∙ omega arith ∙ sym (position_past (eqb e) x es h)

pub place-some : (e : ℕ) (es : List ℕ) (i : ℕ) → std.position (eqb e) es ≡ Some i → i ≡ position (eqb e) es
place-some e es i h = go (Bool-cases (ltb (std.position_or_len (eqb e) es) (length es)))
  where
    go : (ltb (std.position_or_len (eqb e) es) (length es) ≡ true) ⊎ (ltb (std.position_or_len (eqb e) es) (length es) ≡ false) → i ≡ position (eqb e) es
    go (inl k) =
        let z : ◌≡◌ {A = Option ℕ} (Some (std.position_or_len (eqb e) es)) (Some i) = rw k at h in
        let q : std.position_or_len (eqb e) es ≡ i = cc in
        sym q ∙ place-is e es
    go (inr k) = let z : ◌≡◌ {A = Option ℕ} None (Some i) = rw k at h in cc

pub place-none : (e : ℕ) (es : List ℕ) → std.position (eqb e) es ≡ None → length es ≤ position (eqb e) es
place-none e es h = go (Bool-cases (ltb (std.position_or_len (eqb e) es) (length es)))
  where
    go : (ltb (std.position_or_len (eqb e) es) (length es) ≡ true) ⊎ (ltb (std.position_or_len (eqb e) es) (length es) ≡ false) → length es ≤ position (eqb e) es
    go (inl k) = let z : ◌≡◌ {A = Option ℕ} (Some (std.position_or_len (eqb e) es)) None = rw k at h in cc
    go (inr k) = omega (arith, ltb-false _ _ k, place-is e es)

-- ---- split_place
pub split-none : (targets : List ℕ) (v : ℕ) (es : List ℕ) → numbered (found (last_into targets v es)) ≡ None → None ≡ split_of targets v es
unfolding split_of
split-none targets v es h = go (last_into targets v es) refl
  where
    go : (o : math.Option ℕ) → last_into targets v es ≡ o → None ≡ split_of targets v es
    go none e = rw (e, split_of)
    go (some d) e = let z : ◌≡◌ {A = Option ℕ} (Some d) None = rw e at h in cc

pub split-some : (targets : List ℕ) (v : ℕ) (es : List ℕ) (d : ℕ) → numbered (found (last_into targets v es)) ≡ Some d
    → (last_into targets v es ≡ some d) × (Some (position (eqb d) es + 1) ≡ split_of targets v es)
unfolding split_of
split-some targets v es d h = go (last_into targets v es) refl
  where
    go : (o : math.Option ℕ) → last_into targets v es ≡ o → (last_into targets v es ≡ some d) × (Some (position (eqb d) es + 1) ≡ split_of targets v es)
    go none e = let z : ◌≡◌ {A = Option ℕ} None (Some d) = rw e at h in cc
    go (some x) e =
        let z : ◌≡◌ {A = Option ℕ} (Some x) (Some d) = rw e at h in
        let q : x ≡ d = cc in
        (rw q at e, rw (e, split_of, q) (ap (λ x. Some x) (add-one (position (eqb d) es))))

-- the count that the Option tells
pub split-told : (targets : List ℕ) (v : ℕ) (es : List ℕ) (k : ℕ) → Some k ≡ split_of targets v es → (k ≡ split_at targets v es) × (0 < k)
unfolding split_at split_of
split-told targets v es k h = go (last_into targets v es) refl
  where
    go : (o : math.Option ℕ) → last_into targets v es ≡ o → (k ≡ split_at targets v es) × (0 < k)
    go none e = let z : ◌≡◌ {A = Option ℕ} (Some k) None = (rw (e, split_of) at h) in cc
    go (some d) e =
        let z : ◌≡◌ {A = Option ℕ} (Some k) (Some (suc (position (eqb d) es))) = (rw (e, split_of) at h) in
        let q : k ≡ suc (position (eqb d) es) = cc in
        (rw (e, split_at) q, omega arith)

pub split-lost : (targets : List ℕ) (v : ℕ) (es : List ℕ) → None ≡ split_of targets v es → split_at targets v es ≡ 0
unfolding split_at split_of
split-lost targets v es h = go (last_into targets v es) refl
  where
    go : (o : math.Option ℕ) → last_into targets v es ≡ o → split_at targets v es ≡ 0
    go none e = rw (e, split_at)
    go (some d) e = let z : ◌≡◌ {A = Option ℕ} None (Some (suc (position (eqb d) es))) = (rw (e, split_of) at h) in cc

-- ---- over the definition's edges

module _ (f : SearchInput) (index targets : List ℕ) (ends : ℕ → Ends) (A : Agrees f index targets ends) where
  pub last-ends : (v : ℕ) (es : List ℕ) → find_last (λ (d : Ends). eqb d.to v) (map ends es) ≡ on_some ends (last_into targets v es)
  last-ends v es = last-map (λ d. eqb (get_or targets d 0) v) (λ (d : Ends). eqb d.to v) ends es (every es)
    where
      every : (es : List ℕ) → All (λ x. eqb (ends x).to v ≡ eqb (get_or targets x 0) v) es
      every [] = nil
      every (x ∷ es) = cons (ap (λ y. eqb y v) (A.target x)) (every es)

  pub place-ends : (d : ℕ) (es : List ℕ) → d < length targets → All (λ x. x < length targets) es → position (eq_ends (ends d)) (map ends es) ≡ position (eqb d) es
  place-ends d es l a = position-map (eqb d) (eq_ends (ends d)) ends es (all-mono (λ x h. A.apart d x l h) a)
