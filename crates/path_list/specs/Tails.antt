-- The bases that the edges of a path add, read off the tables, and two paths compared by them.
use Rattle.std.specs.Prelude.{◌≡◌, refl, true, false, List, [], ◌∷◌, ◌++◌, map, ltb, length, get_or, take, drop, ℕ, zero, suc, ◌+◌, ◌-◌, ◌^◌, ◌<◌, ◌≤◌, min}
use Rattle.std.proofs.Common.{sym, ap, ◌∙◌, add-one, arith, drop-cons, lt-ltb, le-ltb}
use Prim.Native.Nat.{compare, Ordering}
use Rattle.std.proofs.lemmas.List.{length-map}
use Rattle.std.proofs.Math.Decide.{dec_lt}
use Rattle.std.proofs.Math.Seq.{drop-nil}
use Rattle.laws.specs.Lists.{last_or}
use Rattle.laws.specs.Numbers.{compare_list, is_gt, then, compare-eq, lt-compare, eq-compare, gt-compare}
use Rattle.assembly.specs.Fields.{HasVertex, kmer_place, HasEdge, edge_to}
use Rattle.assembly.specs.Store.{kmer_at}
use Rattle.assembly.specs.Kmers.{last-part}
use Rattle.graph_kmers.specs.Paths.{end_base, Spells}

-- ---- the base that an edge adds

pub record Spelt (k : ℕ) (text vs es : List ℕ) (e : ℕ) : Type 0 where
  pub some : 0 < k
  pub small : length text < 2 ^ 32
  pub edge-room : HasEdge es e
  pub to_room : HasVertex vs (edge_to es e)
  pub to-fits : kmer_place vs (edge_to es e) + k ≤ length text

pub spelt-at : (k : ℕ) (text vs es path : List ℕ) (n : ℕ) → Spells k text vs es path n → (i : ℕ) → i < n → Spelt k text vs es (get_or path i 0)
spelt-at k text vs es path n S i h =
    record { some = S.some; small = S.small; edge-room = S.edge-room i h; to_room = S.to_room i h; to-fits = S.to-fits i h }

module _ (k : ℕ) (text vs es : List ℕ) (e : ℕ) (S : Spelt k text vs es e) (v : ℕ) (hv : v ≡ edge_to es e) where
  module _ (p : ℕ) (hp : p ≡ kmer_place vs v) where
    pub base-fits : p + k ≤ length text
    base-fits = rw (hp, hv) S.to-fits

    pub base-is : get_or text (p + k - 1) 0 ≡ end_base k text vs es e
    base-is =
        sym (last-part k text p S.some base-fits)
        ∙ ap (λ q. last_or 0 (take k (drop q text))) hp
        ∙ ap (λ u. last_or 0 (kmer_at k text vs u)) hv

-- ---- two lists of numbers, compared from place i on

pub compare_same : (p a b : List ℕ) → compare_list (p ++ a) (p ++ b) ≡ compare_list a b
compare_same [] a b = refl
compare_same (x ∷ p) a b = rw (compare-eq x x refl) (compare_same p a b)

map_at : (tell : ℕ → ℕ) (l : List ℕ) (i : ℕ) → i < length l → get_or (map tell l) i 0 ≡ tell (get_or l i 0)
map_at tell [] i h = absurd (omega arith)
map_at tell (x ∷ l) zero h = refl
map_at tell (x ∷ l) (suc i) h = map_at tell l i (omega arith)

module _ (tell : ℕ → ℕ) (a : List ℕ) where
  told-cons : (i x : ℕ) → i < length a → x ≡ tell (get_or a i 0) → drop i (map tell a) ≡ x ∷ drop (i + 1) (map tell a)
  told-cons i x l e =
      drop-cons (map tell a) i 0 (let z = length-map a tell in omega arith)
      ∙ ap (λ y. y ∷ drop (suc i) (map tell a)) (map_at tell a i l ∙ sym e)
      ∙ ap (λ j. x ∷ drop j (map tell a)) (sym (add-one i))

  told-end : (i : ℕ) → length a ≤ i → drop i (map tell a) ≡ []
  told-end i l = past (map tell a) i (let z = length-map a tell in omega arith)
    where
      past : (l : List ℕ) (i : ℕ) → length l ≤ i → drop i l ≡ []
      past [] i h = drop-nil i
      past (x ∷ l) zero h = absurd (omega arith)
      past (x ∷ l) (suc i) h = past l i (omega arith)

module _ (tell : ℕ → ℕ) (a b : List ℕ) where
  -- the two agree before place i
  pub record Comparing (i : ℕ) : Type 0 where
    pub is : is_gt (compare_list (drop i (map tell a)) (drop i (map tell b))) ≡ is_gt (compare_list (map tell a) (map tell b))

  pub comparing-start : Comparing 0
  comparing-start = record { is = refl }

  nil-least : (l : List ℕ) → false ≡ is_gt (compare_list [] l)
  nil-least [] = refl
  nil-least (x ∷ l) = refl

  module _ (i : ℕ) (C : Comparing i) where
    -- the first ends
    ending : length a ≤ i → false ≡ is_gt (compare_list (map tell a) (map tell b))
    ending l =
        nil-least (drop i (map tell b))
        ∙ ap (λ (x : List ℕ). is_gt (compare_list x (drop i (map tell b)))) (sym (told-end tell a i l))
        ∙ C.is

    -- the second ends before it
    longer : i < length a → length b ≤ i → true ≡ is_gt (compare_list (map tell a) (map tell b))
    longer l r =
        let p : is_gt (compare_list (tell (get_or a i 0) ∷ drop (i + 1) (map tell a)) []) ≡ is_gt (compare_list (drop i (map tell a)) (drop i (map tell b))) =
        ap (λ (x : List ℕ). is_gt (compare_list x [])) (sym (told-cons tell a i (tell (get_or a i 0)) l refl))
        ∙ ap (λ (x : List ℕ). is_gt (compare_list (drop i (map tell a)) x)) (sym (told-end tell b i r))
        in
        p ∙ C.is

    pub comparing-end : i ≡ min (length a) (length b) → ltb (length b) (length a) ≡ is_gt (compare_list (map tell a) (map tell b))
    comparing-end e = go (dec_lt i (length a))
      where
        go : Dec (i < length a) → ltb (length b) (length a) ≡ is_gt (compare_list (map tell a) (map tell b))
        go (yes l) = lt-ltb (length b) (length a) (omega arith) ∙ longer l (omega arith)
        go (no l) = le-ltb (length b) (length a) (omega arith) ∙ ending (omega arith)

    module _ (l : i < length a) (r : i < length b) (x y : ℕ) (p : x ≡ tell (get_or a i 0)) (q : y ≡ tell (get_or b i 0)) where
      both : is_gt (then (compare x y) (compare_list (drop (i + 1) (map tell a)) (drop (i + 1) (map tell b)))) ≡ is_gt (compare_list (map tell a) (map tell b))
      both =
          ap (λ (z : List ℕ). is_gt (compare_list z (y ∷ drop (i + 1) (map tell b)))) (sym (told-cons tell a i x l p))
          ∙ ap (λ (z : List ℕ). is_gt (compare_list (drop i (map tell a)) z)) (sym (told-cons tell b i y r q))
          ∙ C.is

      pub comparing-differ : (x ≡ y → ⊥) → ltb y x ≡ is_gt (compare_list (map tell a) (map tell b))
      comparing-differ d = go (compare x y) refl
        where
          go : (o : Ordering) → compare x y ≡ o → ltb y x ≡ is_gt (compare_list (map tell a) (map tell b))
          go Ordering.lt e = le-ltb y x (let z = lt-compare x y e in omega arith) ∙ (rw e at both)
          go Ordering.eq e = absurd (d (eq-compare x y e))
          go Ordering.gt e = lt-ltb y x (gt-compare x y e) ∙ (rw e at both)

      pub comparing-next : x ≡ y → Comparing (i + 1)
      comparing-next d = record { is = rw (compare-eq x y d) at both }
