-- The queue: a list of numbers, each an edge's number with its distance from the source 8192 times; the part between two places is the definition's
-- queue, in its order. Assumes nothing.
use Rattle.std.specs.Prelude.{◌≡◌, refl, Bool, true, false, List, [], ◌∷◌, ◌++◌, ltb, get_or, set, take, drop}
use Rattle.std.proofs.Common.{sym, ap, subst, ◌∙◌, append_assoc, add-one, length-append, take_at, drop-set-lt, lt-ltb, le-ltb}
use Prim.Native.Nat.{ℕ, zero, suc, ◌+◌, ◌-◌, ◌/◌, ◌%◌, ◌<◌, ◌≤◌, compare, Ordering}
use native.Mathlib.Omega.{arith}
use Rattle.std.proofs.Math.ListN.{length, length-drop}
use Rattle.std.proofs.lemmas.List.Edits.{sets, sets-eq, take-paste, drop-paste, length-paste}
use Rattle.std.proofs.Math.Decide.{dec_lt}
use Rattle.std.proofs.Math.Seq.{paste, drop-append_seam, length-sets, take-suc, drop-cons, length-take-le, get_or-take}
use Rattle.std.proofs.lemmas.List.{drop-append-le, take-append-le, take-append-drop, drop-take}
use Rattle.laws.specs.ListLaws.{All, all_head, all_tail}
use Rattle.laws.specs.Insertion.{insert, insert-past, insert-here}
use Rattle.laws.specs.Numbers.{is_gt, compare-lt, compare-eq, compare-gt, lt-compare, eq-compare, gt-compare}
use Rattle.definition.specs.Threading.{Ends}
use Rattle.definition.specs.Search.{Queued, earlier}
use Rattle.assembly.specs.Fields.{HasEdge, edge_from, edge_to}
use Rattle.assembly.specs.Store.{edge_at}

-- the ends of edge i
abbrev pub ends_at : List ℕ → ℕ → Ends
ends_at es i = (edge_at es i).ends

-- what a number of the queue stands for
unfoldable pub queued_at : List ℕ → ℕ → Queued
queued_at es x = record { level = x / 8192; ends = ends_at es (x % 8192) }

unfoldable pub before : List ℕ → ℕ → ℕ → Bool
before es a b = earlier (queued_at es a) (queued_at es b)

-- the edge is in the table
abbrev pub Fits : List ℕ → ℕ → Type 0
Fits es x = HasEdge es (x % 8192)

-- ---- the comparison, way by way
less-gt : (m n : ℕ) → ltb m n ≡ is_gt (compare n m)
less-gt m n = go (compare n m) refl
  where
    go : (o : Ordering) → compare n m ≡ o → ltb m n ≡ is_gt (compare n m)
    go Ordering.lt e = rw (e, le-ltb m n (let z = lt-compare n m e in omega arith))
    go Ordering.eq e = rw (e, le-ltb m n (let z = eq-compare n m e in omega arith))
    go Ordering.gt e = rw (e, lt-ltb m n (gt-compare n m e))

module _ (es : List ℕ) (a b la lb : ℕ) (ha : la ≡ a / 8192) (hb : lb ≡ b / 8192) where
  pub level-less : la < lb → true ≡ before es a b
  unfolding before earlier queued_at
  level-less h = rw (compare-gt (b / 8192) (a / 8192) (omega arith))

  pub level-more : lb < la → false ≡ before es a b
  unfolding before earlier queued_at
  level-more h = rw (compare-lt (b / 8192) (a / 8192) (omega arith))

  pub by-level : (la ≡ lb → ⊥) → ltb la lb ≡ before es a b
  by-level n = go (dec_lt la lb)
    where
      go : Dec (la < lb) → ltb la lb ≡ before es a b
      go (yes h) = rw (lt-ltb la lb h) (level-less h)
      go (no h) = rw (le-ltb la lb (omega arith)) (level-more (omega arith))

  module _ (p : lb ≤ la) (q : la ≤ lb) (i j fa fb : ℕ) (hi : i ≡ a % 8192) (hj : j ≡ b % 8192) (ga : fa ≡ edge_from es i) (gb : fb ≡ edge_from es j) where
    fa-is : fa ≡ edge_from es (a % 8192)
    fa-is = rw (← hi) ga

    fb-is : fb ≡ edge_from es (b % 8192)
    fb-is = rw (← hj) gb

    pub from_less : fa < fb → true ≡ before es a b
    unfolding before earlier queued_at
    from_less h =
        let x = fa-is in
        let y = fb-is in
        rw (compare-eq (b / 8192) (a / 8192) (omega arith), compare-gt (edge_from es (b % 8192)) (edge_from es (a % 8192)) (omega arith))

    pub from_more : fb < fa → false ≡ before es a b
    unfolding before earlier queued_at
    from_more h =
        let x = fa-is in
        let y = fb-is in
        rw (compare-eq (b / 8192) (a / 8192) (omega arith), compare-lt (edge_from es (b % 8192)) (edge_from es (a % 8192)) (omega arith))

    pub by-from : (fa ≡ fb → ⊥) → ltb fa fb ≡ before es a b
    by-from n = go (dec_lt fa fb)
      where
        go : Dec (fa < fb) → ltb fa fb ≡ before es a b
        go (yes h) = rw (lt-ltb fa fb h) (from_less h)
        go (no h) = rw (le-ltb fa fb (omega arith)) (from_more (omega arith))

    pub by-to : fb ≤ fa → fa ≤ fb → (ta tb : ℕ) → ta ≡ edge_to es i → tb ≡ edge_to es j → ltb ta tb ≡ before es a b
    unfolding before earlier queued_at
    by-to h k ta tb ea eb =
        let x = fa-is in
        let y = fb-is in
        let u : ta ≡ edge_to es (a % 8192) = rw (← hi) ea in
        let v : tb ≡ edge_to es (b % 8192) = rw (← hj) eb in
        rw (compare-eq (b / 8192) (a / 8192) (omega arith), compare-eq (edge_from es (b % 8192)) (edge_from es (a % 8192)) (omega arith), u, v)
        (less-gt (edge_to es (a % 8192)) (edge_to es (b % 8192)))

-- ---- a part of the list
unfoldable pub part : List ℕ → ℕ → ℕ → List ℕ
part q p e = drop p (take e q)

drop-short : {A : Type 0} (p : ℕ) (l : List A) → length l ≤ p → drop p l ≡ []
drop-short zero [] h = refl
drop-short zero (x ∷ l) h = absurd (omega arith)
drop-short (suc p) [] h = refl
drop-short (suc p) (x ∷ l) h = drop-short p l (omega arith)

module _ (q : List ℕ) (p e : ℕ) (room : e ≤ length q) where
  pub part_none : e ≤ p → part q p e ≡ []
  unfolding part
  part_none h = drop-short p (take e q) (let z = length-take-le e q room in omega arith)

  pub part-cons : p < e → part q p e ≡ get_or q p 0 ∷ part q (p + 1) e
  unfolding part
  part-cons h =
      let z : p < length (take e q) = (let y = length-take-le e q room in omega arith) in
      rw (add-one p, drop-cons (take e q) p 0 z, get_or-take e q p 0 h)

  pub part-snoc : (f : ℕ) → f ≤ p → p < e → part q f (p + 1) ≡ part q f p ++ get_or q p 0 ∷ []
  unfolding part
  part-snoc f h l =
      rw (add-one p, take-suc q p 0 (omega arith)) (drop-append-le f (take p q) (get_or q p 0 ∷ []) (let z = length-take-le p q (omega arith) in omega arith))

  pub length_part : p ≤ e → length (part q p e) ≡ e - p
  unfolding part
  length_part h = let z = length-take-le e q room in length-drop p (take e q) ∙ omega arith

-- ---- the place of a new entry
insert-nil : {A : Type 0} (t : A → A → Bool) (x : A) → insert t x [] ≡ x ∷ []
unfolding insert
insert-nil t x = refl

pub record Known (es q : List ℕ) (front tail x : ℕ) : Type 0 where
  pub low : front ≤ tail
  pub high : tail ≤ length q
  pub names : All (Fits es) (part q front tail)
  pub named : Fits es x

pub record Placed (es q : List ℕ) (front tail x r : ℕ) : Type 0 where
  pub low : front ≤ r
  pub high : r ≤ tail
  pub is : insert (before es) x (part q front tail) ≡ part q front r ++ x ∷ part q r tail

pub record Placing (es q : List ℕ) (front tail x p : ℕ) : Type 0 where
  pub low : front ≤ p
  pub high : p ≤ tail
  pub names : All (Fits es) (part q p tail)
  pub is : insert (before es) x (part q front tail) ≡ part q front p ++ insert (before es) x (part q p tail)

module _ {es q : List ℕ} {front tail x : ℕ} (k : Known es q front tail x) where
  pub placing-start : Placing es q front tail x front
  placing-start =
      record {
        low = omega arith;
        high = k.low;
        names = k.names;
        is = rw (part-none-front) refl;
      }
    where
      part-none-front : part q front front ≡ []
      part-none-front = part_none q front front (let a = k.low in let b = k.high in omega arith) (omega arith)

  module _ {p : ℕ} (b : Placing es q front tail x p) where
    pub placing-end : tail ≤ p → Placed es q front tail x tail
    placing-end h =
        let e : part q tail tail ≡ [] = part_none q tail tail k.high (omega arith) in
        let z : p ≡ tail = (let y = b.high in omega arith) in
        record {
          low = k.low;
          high = omega arith;
          is = (rw z at b.is) ∙ (rw e (ap (λ (l : List ℕ). part q front tail ++ l) (insert-nil (before es) x)));
        }

    module _ (h : p < tail) where
      e : part q p tail ≡ get_or q p 0 ∷ part q (p + 1) tail
      e = part-cons q p tail k.high h

      pub placing-fits : Fits es (get_or q p 0)
      placing-fits = all_head (subst (All (Fits es)) e b.names)

      pub placing-here : before es (get_or q p 0) x ≡ false → Placed es q front tail x p
      placing-here f =
          record {
            low = b.low;
            high = b.high;
            is = b.is ∙ ap (λ (l : List ℕ). part q front p ++ l) (ap (insert (before es) x) e ∙ insert-here (before es) x (get_or q p 0) (part q (p + 1) tail) f ∙ ap (λ (l : List ℕ). x ∷ l) (sym e));
          }

      pub placing-next : before es (get_or q p 0) x ≡ true → Placing es q front tail x (p + 1)
      placing-next f =
          record {
            low = let z = b.low in omega arith;
            high = omega arith;
            names = all_tail (subst (All (Fits es)) e b.names);
            is =
                b.is
                ∙ ap (λ (l : List ℕ). part q front p ++ l) (ap (insert (before es) x) e ∙ insert-past (before es) x (get_or q p 0) (part q (p + 1) tail) f)
                ∙ sym (append_assoc (part q front p) (get_or q p 0 ∷ []) (insert (before es) x (part q (p + 1) tail)))
                ∙ ap (λ (l : List ℕ). l ++ insert (before es) x (part q (p + 1) tail)) (sym (part-snoc q p tail k.high front b.low h));
          }

-- ---- the shift: the part moves up by one, and x goes to its place
module _ (q : List ℕ) (p tail : ℕ) (h : p ≤ tail) (r : tail < length q) where
  abbrev pasted : List ℕ
  pasted = paste q (p + 1) (drop p q) (tail - p)

  abbrev middle : List ℕ
  middle = take (tail - p) (drop p q)

  abbrev last : List ℕ
  last = drop (p + 1 + (tail - p)) q

  low : length (take (p + 1) q) ≡ p + 1
  low = length-take-le (p + 1) q (omega arith)

  much : tail - p ≤ length (drop p q)
  much = let z = length-drop p q in omega arith

  size : length pasted ≡ length q
  size = length-paste q (p + 1) (drop p q) (tail - p) (omega arith) much

  moved : pasted ≡ (take (p + 1) q ++ middle) ++ last
  moved =
      sym (take-append-drop (p + 1 + (tail - p)) pasted)
      ∙ ap (λ (l : List ℕ). l ++ drop (p + 1 + (tail - p)) pasted) (take-paste q (p + 1) (drop p q) (tail - p) (omega arith) much)
      ∙ ap (λ (l : List ℕ). (take (p + 1) q ++ middle) ++ l) (drop-paste q (p + 1) (drop p q) (tail - p) (omega arith) much)

  kept : take p pasted ≡ take p q
  kept =
      ap (λ (l : List ℕ). take p l) moved
      ∙ take-append-le p (take (p + 1) q ++ middle) last (let b = length-append (take (p + 1) q) middle in let c = low in omega arith)
      ∙ take-append-le p (take (p + 1) q) middle (let c = low in omega arith)
      ∙ sym (take-append-le p (take (p + 1) q) (drop (p + 1) q) (let c = low in omega arith))
      ∙ ap (λ (l : List ℕ). take p l) (take-append-drop (p + 1) q)

  behind : drop (p + 1) pasted ≡ middle ++ last
  behind =
      ap (λ (l : List ℕ). drop (p + 1) l) (moved ∙ append_assoc (take (p + 1) q) middle last)
      ∙ subst (λ (k : ℕ). drop k (take (p + 1) q ++ (middle ++ last)) ≡ middle ++ last) low (drop-append_seam (take (p + 1) q) (middle ++ last))

  part-is : middle ≡ part q p tail
  unfolding part
  part-is = sym (drop-take p (tail - p) q) ∙ ap (λ (k : ℕ). drop p (take k q)) (let e : p + (tail - p) ≡ tail = omega arith in e)

  pub shifted : (x : ℕ) → set pasted p x ≡ sets q p (x ∷ part q p tail)
  shifted x =
      let n : length (part q p tail) ≡ tail - p = length_part q p tail (omega arith) h in
      sets-eq (x ∷ []) pasted p (let z = size in omega arith)
      ∙ ap (λ (l : List ℕ). (l ++ (x ∷ [])) ++ drop (p + 1) pasted) kept
      ∙ ap (λ (l : List ℕ). (take p q ++ (x ∷ [])) ++ l) behind
      ∙ append_assoc (take p q) (x ∷ []) (middle ++ last)
      ∙ sym (append_assoc (take p q) (x ∷ middle) last)
      ∙ ap (λ (l : List ℕ). (take p q ++ (x ∷ l)) ++ last) part-is
      ∙ ap (λ (k : ℕ). (take p q ++ (x ∷ part q p tail)) ++ drop k q) (let e : p + 1 + (tail - p) ≡ p + length (x ∷ part q p tail) = omega arith in e)
      ∙ sym (sets-eq (x ∷ part q p tail) q p (omega arith))

-- ---- the insertion
pub record Enqueued (es q q' : List ℕ) (front tail x : ℕ) : Type 0 where
  pub size : length q' ≡ length q
  pub is : part q' front (tail + 1) ≡ insert (before es) x (part q front tail)
  pub rest : (k : ℕ) → tail < k → drop k q' ≡ drop k q

drop-sets : {A : Type 0} (k : ℕ) (l : List A) (i : ℕ) (vs : List A) → i + length vs ≤ k → drop k (sets l i vs) ≡ drop k l
drop-sets k l i [] h = refl
drop-sets k l i (v ∷ vs) h = drop-sets k (set l i v) (suc i) vs (omega arith) ∙ drop-set-lt k l i v (omega arith)

pub enqueued : (es q q' : List ℕ) (front tail x r : ℕ) → tail < length q → Placed es q front tail x r → q' ≡ sets q r (x ∷ part q r tail) → Enqueued es q q' front tail x
unfolding part
enqueued es q q' front tail x r room b e =
    let hi = b.high in
    let lo = b.low in
    let n : length (part q r tail) ≡ tail - r = length_part q r tail (omega arith) hi in
    let a : length (take r q) ≡ r = length-take-le r q (omega arith) in
    let s : sets q r (x ∷ part q r tail) ≡ take r q ++ (x ∷ part q r tail) ++ drop (r + suc (length (part q r tail))) q = sets-eq (x ∷ part q r tail) q r (omega arith) in
    let w : length (take r q ++ (x ∷ part q r tail)) ≡ tail + 1 = length-append (take r q) (x ∷ part q r tail) ∙ omega arith in
    record {
      size = ap length e ∙ length-sets q r (x ∷ part q r tail);
      is =
          ap (λ (l : List ℕ). drop front (take (tail + 1) l)) (e ∙ s)
          ∙ ap (λ (l : List ℕ). drop front l) (take_at (take r q ++ (x ∷ part q r tail)) (drop (r + suc (length (part q r tail))) q) (tail + 1) w)
          ∙ drop-append-le front (take r q) (x ∷ part q r tail) (omega arith)
          ∙ sym b.is;
      rest = λ k z. (ap (λ (l : List ℕ). drop k l) e ∙ drop-sets k q r (x ∷ part q r tail) (omega arith));
    }
