-- A binary heap over any linear order of numbers: the order over a function of places, what one step of a value up or of a hole down leaves of it, and
-- then the heap in the first n places of a list, with a law for each way of the two loops, and for push and pop over them. What the places hold, sorted,
-- is the list that the heap stands for. K is what is known of each number in it.
use Rattle.std.specs.Prelude.{◌≡◌, refl, ◌⊎◌, ◌≢◌, Bool, true, false, List, ◌∷◌, ℕ, zero, suc, ◌+◌, ◌-◌, ◌*◌, ◌/◌, ◌<◌, ◌≤◌, length, get_or, set, drop}
use Rattle.std.proofs.Common.{sym, ap, ◌∙◌, inl, inr, add-one, arith, length-set, get_or-set_same, get_or-set_other, drop-set-lt}
use Rattle.std.proofs.Math.Decide.{dec_lt}
use Rattle.laws.specs.Insertion.{insert}
use Rattle.laws.specs.Sorting.{LinearOrder, sorted_to, same_or, insert-nil, sorted_zero, sorted_suc, sorted-same, all-sorted_to, sorted_to-all, sorted-least, sorted-one, sorted-swap, not-self}

-- the place above
abbrev pub above : ℕ → ℕ
above j = (j - 1) / 2

pub same? : (i j : ℕ) → (i ≡ j) ⊎ (i ≢ j)
same? i j = go (dec_lt i j) (dec_lt j i)
  where
    go : Dec (i < j) → Dec (j < i) → (i ≡ j) ⊎ (i ≢ j)
    go (yes h) d = inr (omega arith)
    go (no h) (yes k) = inr (omega arith)
    go (no h) (no k) = inl (omega arith)

-- g is f with the values at i and k changed about
pub record Swapped (f g : ℕ → ℕ) (i k : ℕ) : Type 0 where
  pub one : g i ≡ f k
  pub other : g k ≡ f i
  pub rest : (j : ℕ) → j ≢ i → j ≢ k → g j ≡ f j

module _ (before : ℕ → ℕ → Bool) where
  -- none stands before the one above it
  abbrev pub Ordered : (ℕ → ℕ) → ℕ → Type 0
  Ordered f n = (j : ℕ) → 0 < j → j < n → before (f j) (f (above j)) ≡ false

  -- all but i and the one above it
  pub record Rising (f : ℕ → ℕ) (i n : ℕ) : Type 0 where
    pub edges : (j : ℕ) → 0 < j → j < n → j ≢ i → before (f j) (f (above j)) ≡ false
    pub past : (j : ℕ) → 0 < j → j < n → above j ≡ i → 0 < i → before (f j) (f (above i)) ≡ false

  -- all but the hole i, whatever it holds
  pub record Hole (f : ℕ → ℕ) (i n : ℕ) : Type 0 where
    pub edges : (j : ℕ) → 0 < j → j < n → j ≢ i → above j ≢ i → before (f j) (f (above j)) ≡ false
    pub past : (j : ℕ) → 0 < j → j < n → above j ≡ i → 0 < i → before (f j) (f (above i)) ≡ false

  pub rising-end : (f : ℕ → ℕ) (i n : ℕ) → Rising f i n → (i ≡ 0) ⊎ (before (f i) (f (above i)) ≡ false) → Ordered f n
  rising-end f i n r e j h l = go e (same? j i)
    where
      go : (i ≡ 0) ⊎ (before (f i) (f (above i)) ≡ false) → (j ≡ i) ⊎ (j ≢ i) → before (f j) (f (above j)) ≡ false
      go s (inr m) = r.edges j h l m
      go (inl z) (inl q) = absurd (omega arith)
      go (inr t) (inl q) = rw q t

  -- no place is below the hole: a value put there is to rise
  pub hole-leaf : (f g : ℕ → ℕ) (i n : ℕ) → Hole f i n → n ≤ 2 * i + 1 → ((j : ℕ) → j ≢ i → g j ≡ f j) → Rising g i n
  hole-leaf f g i n r q e =
      record {
        edges = λ j p l m. rw (e j m, e (above j) (omega arith)) (r.edges j p l m (omega arith));
        past = λ j p l u z. absurd (omega arith);
      }

  -- ---- a step of the hole down: the first of those below i, at k, comes up to i
  module _ (f g : ℕ → ℕ) (i k n : ℕ) (r : Hole f i n) (pos : 0 < k) (low : k < n) (u : above k ≡ i)
      (least : (j : ℕ) → 0 < j → j < n → above j ≡ i → before (f j) (f k) ≡ false) (one : g i ≡ f k) (rest : (j : ℕ) → j ≢ i → g j ≡ f j) where
    hole-edges : (j : ℕ) → 0 < j → j < n → j ≢ k → above j ≢ k → before (g j) (g (above j)) ≡ false
    hole-edges j h l d m = go (same? j i) (same? (above j) i)
      where
        go : (j ≡ i) ⊎ (j ≢ i) → (above j ≡ i) ⊎ (above j ≢ i) → before (g j) (g (above j)) ≡ false
        go (inl e) y = rw (e, one, rest (above i) (omega arith)) (r.past k pos low u (omega arith))
        go (inr c) (inl e) = rw (e, one, rest j c) (least j h l e)
        go (inr c) (inr e) = rw (rest j c, rest (above j) e) (r.edges j h l c e)

    hole-past : (j : ℕ) → 0 < j → j < n → above j ≡ k → 0 < k → before (g j) (g (above k)) ≡ false
    hole-past j h l w p =
        let e : before (f j) (f k) ≡ false = rw w at (r.edges j h l (omega arith) (omega arith)) in
        rw (u, one, rest j (omega arith)) e

    pub hole-next : Hole g k n
    hole-next = record { edges = hole-edges; past = hole-past }

  module _ (O : LinearOrder before) where
    -- ---- the root is before all
    root-to : (f : ℕ → ℕ) (n k : ℕ) → Ordered f n → (i : ℕ) → i ≤ k → i < n → before (f i) (f 0) ≡ false
    root-to f n zero o i h l = let e : i ≡ 0 = omega arith in rw e (not-self before O (f 0))
    root-to f n (suc k) o i h l = go (same? i 0) (λ m. root-to f n k o (above i) (omega arith) (omega arith))
      where
        go : (i ≡ 0) ⊎ (i ≢ 0) → (0 < i → before (f (above i)) (f 0) ≡ false) → before (f i) (f 0) ≡ false
        go (inl e) up = rw e (not-self before O (f 0))
        go (inr m) up = O.through (f i) (f (above i)) (f 0) (o i (omega arith) l) (up (omega arith))

    pub root : (f : ℕ → ℕ) (n : ℕ) → Ordered f n → (i : ℕ) → i < n → before (f i) (f 0) ≡ false
    root f n o i l = root-to f n i o i (omega arith) l

    -- ---- a step up: what stood above i comes down to i
    module _ (f g : ℕ → ℕ) (i n : ℕ) (r : Rising f i n) (pos : 0 < i) (low : i < n) (t : before (f i) (f (above i)) ≡ true) (s : Swapped f g i (above i)) where
      under : before (f (above i)) (f i) ≡ false
      under = O.flip (f i) (f (above i)) t

      rising-edges : (j : ℕ) → 0 < j → j < n → j ≢ above i → before (g j) (g (above j)) ≡ false
      rising-edges j h l m = go (same? j i) (same? (above j) i) (same? (above j) (above i))
        where
          go : (j ≡ i) ⊎ (j ≢ i) → (above j ≡ i) ⊎ (above j ≢ i) → (above j ≡ above i) ⊎ (above j ≢ above i) → before (g j) (g (above j)) ≡ false
          go (inl e) y z = rw (e, s.one, s.other) under
          go (inr d) (inl e) z = rw (e, s.rest j d m, s.one) (r.past j h l e pos)
          go (inr d) (inr c) (inl e) =
              let k : before (f j) (f (above i)) ≡ false = rw e at (r.edges j h l d) in
              rw (e, s.rest j d m, s.other) (O.through (f j) (f (above i)) (f i) k under)
          go (inr d) (inr c) (inr e) = rw (s.rest j d m, s.rest (above j) c e) (r.edges j h l d)

      rising-past : (j : ℕ) → 0 < j → j < n → above j ≡ above i → 0 < above i → before (g j) (g (above (above i))) ≡ false
      rising-past j h l u p = go (same? j i)
        where
          top : before (f (above i)) (f (above (above i))) ≡ false
          top = r.edges (above i) p (omega arith) (omega arith)

          go : (j ≡ i) ⊎ (j ≢ i) → before (g j) (g (above (above i))) ≡ false
          go (inl e) = rw (e, s.one, s.rest (above (above i)) (omega arith) (omega arith)) top
          go (inr d) =
              let k : before (f j) (f (above i)) ≡ false = rw u at (r.edges j h l d) in
              rw (s.rest j d (omega arith), s.rest (above (above i)) (omega arith) (omega arith)) (O.through (f j) (f (above i)) (f (above (above i))) k top)

      pub rising-next : Rising g (above i) n
      rising-next = record { edges = rising-edges; past = rising-past }

-- ---- a heap in a list

abbrev pub nth : List ℕ → ℕ → ℕ
nth h i = get_or h i 0

module _ (before : ℕ → ℕ → Bool) (K : ℕ → Type 0) where
  pub record Heaped (h : List ℕ) (n : ℕ) : Type 0 where
    pub room : n ≤ length h
    pub known : (i : ℕ) → i < n → K (nth h i)
    pub order : Ordered before (nth h) n

  -- r was put in
  pub record Put (h : List ℕ) (n r : ℕ) (h' : List ℕ) : Type 0 where
    pub is : sorted_to before (nth h') (n + 1) ≡ insert before r (sorted_to before (nth h) n)
    pub heap : Heaped h' (n + 1)
    pub rest : drop (n + 1) h' ≡ drop (n + 1) h

  -- r, the first, was taken out
  pub record Taken (h : List ℕ) (n r : ℕ) (h' : List ℕ) : Type 0 where
    pub is : sorted_to before (nth h) n ≡ r ∷ sorted_to before (nth h') (n - 1)
    pub heap : Heaped h' (n - 1)
    pub rest : drop (n - 1) h' ≡ drop (n - 1) h

  -- r is to go where the hole i of the first n places is, or above it
  pub record Raisable (h : List ℕ) (n i r : ℕ) : Type 0 where
    pub low : i < n
    pub room : n ≤ length h
    pub known : (j : ℕ) → j < n → K (nth (set h i r) j)
    pub rising : Rising before (nth (set h i r)) i n

  -- the hole is at i now, and was at e
  pub record Raising (h₀ : List ℕ) (n e r : ℕ) (h : List ℕ) (i : ℕ) : Type 0 where
    pub size : length h ≡ length h₀
    pub same : sorted_to before (nth (set h i r)) n ≡ sorted_to before (nth (set h₀ e r)) n
    pub rest : drop n h ≡ drop n h₀
    pub still : Raisable h n i r

  -- r has risen from the hole e
  pub record Raised (h : List ℕ) (n e r : ℕ) (h' : List ℕ) : Type 0 where
    pub is : sorted_to before (nth h') n ≡ sorted_to before (nth (set h e r)) n
    pub heap : Heaped h' n
    pub rest : drop n h' ≡ drop n h

  -- the hole is at i now, and was the root of the first m places
  pub record Sunk (h₀ : List ℕ) (m : ℕ) (h : List ℕ) (i : ℕ) : Type 0 where
    pub size : length h ≡ length h₀
    pub low : i < m
    pub room : m ≤ length h
    pub known : (j : ℕ) → j < m → K (nth h j)
    pub same : (v : ℕ) → sorted_to before (nth (set h i v)) m ≡ sorted_to before (nth (set h₀ 0 v)) m
    pub rest : drop m h ≡ drop m h₀
    pub hole : Hole before (nth h) i m

  pub heaped-none : (h : List ℕ) → Heaped h 0
  heaped-none h = record { room = omega arith; known = λ i l. absurd (omega arith); order = λ j p l. absurd (omega arith) }

module _ (before : ℕ → ℕ → Bool) where
  -- of the places below i, k has the first number
  pub record Child (h : List ℕ) (m i k : ℕ) : Type 0 where
    pub pos : 0 < k
    pub low : k < m
    pub up : above k ≡ i
    pub least : (j : ℕ) → 0 < j → j < m → above j ≡ i → before (nth h j) (nth h k) ≡ false

-- ---- one number moves from k to the hole at i, and the hole to k
moved : (h : List ℕ) (i k v : ℕ) → i < length h → k < length h → i ≢ k
    → Swapped (nth (set h i v)) (nth (set (set h i (nth h k)) k v)) i k
moved h i k v p q m =
    record {
      one =
          get_or-set_other (set h i (nth h k)) k i v 0 (omega arith) ∙ get_or-set_same h i (nth h k) 0 p ∙ sym (get_or-set_other h i k v 0 (omega arith));
      other = get_or-set_same (set h i (nth h k)) k v 0 (simp length-set q) ∙ sym (get_or-set_same h i v 0 p);
      rest =
          λ j a d.
          get_or-set_other (set h i (nth h k)) k j v 0 d ∙ get_or-set_other h i j (nth h k) 0 a ∙ sym (get_or-set_other h i j v 0 a);
    }

module _ (before : ℕ → ℕ → Bool) (O : LinearOrder before) where
  moved_up : (h : List ℕ) (i k v n : ℕ) → n ≤ length h → i < n → k < i
      → sorted_to before (nth (set (set h i (nth h k)) k v)) n ≡ sorted_to before (nth (set h i v)) n
  moved_up h i k v n r p q =
      let s = moved h i k v (omega arith) (omega arith) (omega arith) in
      sorted-swap before O (nth (set h i v)) (nth (set (set h i (nth h k)) k v)) k i n q p s.other s.one (λ j x y. s.rest j y x)

  moved_down : (h : List ℕ) (i k v n : ℕ) → n ≤ length h → k < n → i < k
      → sorted_to before (nth (set (set h i (nth h k)) k v)) n ≡ sorted_to before (nth (set h i v)) n
  moved_down h i k v n r p q =
      let s = moved h i k v (omega arith) (omega arith) (omega arith) in
      sorted-swap before O (nth (set h i v)) (nth (set (set h i (nth h k)) k v)) i k n q p s.one s.other (λ j x y. s.rest j x y)

  -- ---- the first of the places below: what each way out of `child` says
  module _ (h : List ℕ) (m i : ℕ) where
    pub child-only : 2 * i + 1 < m → m ≤ 2 * i + 1 + 1 → Child before h m i (2 * i + 1)
    child-only l q =
        record {
          pos = omega arith;
          low = l;
          up = omega arith;
          least = λ j p k u. let e : j ≡ 2 * i + 1 = omega arith in rw e (not-self before O (nth h (2 * i + 1)));
        }

    two : (j : ℕ) → 0 < j → above j ≡ i → (j ≡ 2 * i + 1) ⊎ (j ≡ 2 * i + 1 + 1)
    two j p u = go (same? j (2 * i + 1))
      where
        go : (j ≡ 2 * i + 1) ⊎ (j ≢ 2 * i + 1) → (j ≡ 2 * i + 1) ⊎ (j ≡ 2 * i + 1 + 1)
        go (inl e) = inl e
        go (inr d) = inr (omega arith)

    pub child-right : 2 * i + 1 + 1 < m → before (nth h (2 * i + 1 + 1)) (nth h (2 * i + 1)) ≡ true → Child before h m i (2 * i + 1 + 1)
    child-right l t = record { pos = omega arith; low = l; up = omega arith; least = λ j p k u. go j (two j p u) }
      where
        go : (j : ℕ) → (j ≡ 2 * i + 1) ⊎ (j ≡ 2 * i + 1 + 1) → before (nth h j) (nth h (2 * i + 1 + 1)) ≡ false
        go j (inl e) = rw e (O.flip (nth h (2 * i + 1 + 1)) (nth h (2 * i + 1)) t)
        go j (inr e) = rw e (not-self before O (nth h (2 * i + 1 + 1)))

    pub child-left : 2 * i + 1 + 1 < m → before (nth h (2 * i + 1 + 1)) (nth h (2 * i + 1)) ≡ false → Child before h m i (2 * i + 1)
    child-left l t = record { pos = omega arith; low = omega arith; up = omega arith; least = λ j p k u. go j (two j p u) }
      where
        go : (j : ℕ) → (j ≡ 2 * i + 1) ⊎ (j ≡ 2 * i + 1 + 1) → before (nth h j) (nth h (2 * i + 1)) ≡ false
        go j (inl e) = rw e (not-self before O (nth h (2 * i + 1)))
        go j (inr e) = rw e t

  module _ (K : ℕ → Type 0) where
    -- ---- r rises from the hole e
    pub raise-start : (h : List ℕ) (n e r : ℕ) → Raisable before K h n e r → Raising before K h n e r h e
    raise-start h n e r P = record { size = refl; same = refl; rest = refl; still = P }

    module _ (h₀ : List ℕ) (n e r : ℕ) (h : List ℕ) (i : ℕ) (R : Raising before K h₀ n e r h i) where
      pub raise-path : K r
      raise-path =
          let w = R.still.low in
          let f = R.still.room in
          rw (get_or-set_same h i r 0 (omega arith)) at (R.still.known i w)

      pub raise-known : 0 < i → K (nth h (above i))
      raise-known pos =
          let w = R.still.low in
          rw (get_or-set_other h i (above i) r 0 (omega arith)) at (R.still.known (above i) (omega arith))

      pub raise-next : 0 < i → before r (nth h (above i)) ≡ true → Raising before K h₀ n e r (set h i (nth h (above i))) (above i)
      raise-next pos t =
          let w = R.still.low in
          let f = R.still.room in
          let h' = set h i (nth h (above i)) in
          let m : sorted_to before (nth (set h' (above i) r)) n ≡ sorted_to before (nth (set h i r)) n =
          moved_up h i (above i) r n f w (omega arith)
          in
          record {
            size = length-set h i (nth h (above i)) ∙ R.size;
            same = m ∙ R.same;
            rest = drop-set-lt n h i (nth h (above i)) w ∙ R.rest;
            still =
                record {
                  low = omega arith;
                  room = simp length-set f;
                  known = sorted_to-all before K (nth (set h' (above i) r)) n (rw m (all-sorted_to before (nth (set h i r)) n R.still.known));
                  rising =
                      rising-next before O (nth (set h i r)) (nth (set h' (above i) r)) i n R.still.rising pos w
                      (rw (get_or-set_same h i r 0 (omega arith), get_or-set_other h i (above i) r 0 (omega arith)) t)
                      (moved h i (above i) r (omega arith) (omega arith) (omega arith));
                };
          }

      raise-stop : (i ≡ 0) ⊎ (before (nth (set h i r) i) (nth (set h i r) (above i)) ≡ false) → Raised before K h₀ n e r (set h i r)
      raise-stop z =
          record {
            is = R.same;
            heap =
                record {
                  room = simp length-set R.still.room;
                  known = R.still.known;
                  order = rising-end before (nth (set h i r)) i n R.still.rising z;
                };
            rest = drop-set-lt n h i r R.still.low ∙ R.rest;
          }

      -- the hole is the root
      pub raise-root : i ≤ 0 → Raised before K h₀ n e r (set h i r)
      raise-root z = raise-stop (inl (omega arith))

      -- what stands above stays there
      pub raise-end : 0 < i → before r (nth h (above i)) ≡ false → Raised before K h₀ n e r (set h i r)
      raise-end pos t =
          let w = R.still.low in
          let f = R.still.room in
          raise-stop (inr (rw (get_or-set_same h i r 0 (omega arith), get_or-set_other h i (above i) r 0 (omega arith)) t))

    -- ---- the hole goes down from the root
    pub sink-start : (h : List ℕ) (m : ℕ) → Heaped before K h m → 0 < m → Sunk before K h m h 0
    sink-start h m H p =
        record {
          size = refl;
          low = p;
          room = H.room;
          known = H.known;
          same = λ v. refl;
          rest = refl;
          hole = record { edges = λ j q l d e. H.order j q l; past = λ j q l u z. absurd (omega arith) };
        }

    pub sink-next : (h₀ : List ℕ) (m : ℕ) (h : List ℕ) (i k : ℕ) → Sunk before K h₀ m h i → Child before h m i k → Sunk before K h₀ m (set h i (nth h k)) k
    sink-next h₀ m h i k S C =
        let w = S.low in
        let f = S.room in
        let p = C.pos in
        let l = C.low in
        let u = C.up in
        record {
          size = length-set h i (nth h k) ∙ S.size;
          low = l;
          room = simp length-set f;
          known = λ j q. known j q (same? j i);
          same = λ v. moved_down h i k v m f l (omega arith) ∙ S.same v;
          rest = drop-set-lt m h i (nth h k) w ∙ S.rest;
          hole =
              hole-next before (nth h) (nth (set h i (nth h k))) i k m S.hole p l u C.least
              (get_or-set_same h i (nth h k) 0 (omega arith)) (λ j d. get_or-set_other h i j (nth h k) 0 d);
        }
      where
        known : (j : ℕ) → j < m → (j ≡ i) ⊎ (j ≢ i) → K (nth (set h i (nth h k)) j)
        known j q (inl e) =
            let w = S.low in
            let f = S.room in
            rw (e, get_or-set_same h i (nth h k) 0 (omega arith)) (S.known k C.low)
        known j q (inr d) = rw (get_or-set_other h i j (nth h k) 0 d) (S.known j q)

    -- ---- push
    module _ (h₀ : List ℕ) (n r : ℕ) (H : Heaped before K h₀ n) (F : n < length h₀) where
      pub push-start : K r → Raisable before K h₀ (n + 1) n r
      push-start k =
          record {
            low = omega arith;
            room = omega arith;
            known = λ j l. go j (same_or j n (omega arith));
            rising =
                record {
                  edges =
                      λ j p l m.
                      rw (get_or-set_other h₀ n j r 0 m, get_or-set_other h₀ n (above j) r 0 (omega arith)) (H.order j p (omega arith));
                  past = λ j p l u q. absurd (omega arith);
                };
          }
        where
          go : (j : ℕ) → (j ≡ n) ⊎ (j < n) → K (nth (set h₀ n r) j)
          go j (inl e) = rw (e, get_or-set_same h₀ n r 0 F) k
          go j (inr q) = rw (get_or-set_other h₀ n j r 0 (omega arith)) (H.known j q)

      -- with r at the end it is the list with r put in
      start_is : sorted_to before (nth (set h₀ n r)) (n + 1) ≡ insert before r (sorted_to before (nth h₀) n)
      start_is =
          let s : sorted_to before (nth (set h₀ n r)) n ≡ sorted_to before (nth h₀) n =
          sorted-same before (nth (set h₀ n r)) (nth h₀) n (λ i l. get_or-set_other h₀ n i r 0 (omega arith))
          in
          rw (add-one n, sorted_suc before (nth (set h₀ n r)) n, get_or-set_same h₀ n r 0 F, s)

      pub push-end : (h : List ℕ) → Raised before K h₀ (n + 1) n r h → Put before K h₀ n r h
      push-end h R = record { is = R.is ∙ start_is; heap = R.heap; rest = R.rest }

    -- ---- pop
    pub pop-one : (h : List ℕ) (n : ℕ) → n ≡ 1 → Taken before K h n (nth h 0) h
    pop-one h n e =
        let k : n - 1 ≡ 0 = omega arith in
        record {
          is = rw (k, e, sorted_suc before (nth h) 0, sorted_zero before (nth h)) (insert-nil before (nth h 0));
          heap = rw k (heaped-none before K h);
          rest = refl;
        }

    module _ (h₀ : List ℕ) (n m : ℕ) (H : Heaped before K h₀ n) (N : 0 < n) (D : m ≡ n - 1) (E : m ≡ 0 → ⊥) where
      -- none that is left stands before the root
      first-least : (j : ℕ) → j < m → before (nth (set h₀ 0 (nth h₀ m)) j) (nth h₀ 0) ≡ false
      first-least j l = go (same? j 0)
        where
          all : (k : ℕ) → k < n → before (nth h₀ k) (nth h₀ 0) ≡ false
          all = root before O (nth h₀) n H.order

          go : (j ≡ 0) ⊎ (j ≢ 0) → before (nth (set h₀ 0 (nth h₀ m)) j) (nth h₀ 0) ≡ false
          go (inl e) = let w = H.room in rw (e, get_or-set_same h₀ 0 (nth h₀ m) 0 (omega arith)) (all m (omega arith))
          go (inr d) = rw (get_or-set_other h₀ 0 j (nth h₀ m) 0 d) (all j (omega arith))

      first-is : sorted_to before (nth h₀) n ≡ nth h₀ 0 ∷ sorted_to before (nth (set h₀ 0 (nth h₀ m))) m
      first-is =
          let w = H.room in
          let g = nth (set h₀ 0 (nth h₀ m)) in
          let q : n ≡ suc m = omega arith in
          let e : g 0 ≡ nth h₀ m = get_or-set_same h₀ 0 (nth h₀ m) 0 (omega arith) in
          let o : insert before (nth h₀ 0) (sorted_to before g m) ≡ insert before (g 0) (sorted_to before (nth h₀) m) =
          sorted-one before O (nth h₀) g 0 m (omega arith) (λ j l d. sym (get_or-set_other h₀ 0 j (nth h₀ m) 0 d))
          in
          rw (q, sorted_suc before (nth h₀) m)
          (ap (λ (v : ℕ). insert before v (sorted_to before (nth h₀) m)) (sym e) ∙ sym o ∙ sorted-least before g m (nth h₀ 0) first-least)

      pub pop_start : Heaped before K h₀ m
      pop_start =
          let w = H.room in
          record { room = omega arith; known = λ j l. H.known j (omega arith); order = λ j p l. H.order j p (omega arith) }

      -- the hole is at a leaf: the last number is to rise from there
      module _ (h : List ℕ) (i : ℕ) (S : Sunk before K h₀ m h i) where
        pub pop-hole : m ≤ 2 * i + 1 → Raisable before K h m i (nth h₀ m)
        pop-hole q =
            record {
              low = S.low;
              room = S.room;
              known = λ j l. go j l (same? j i);
              rising = hole-leaf before (nth h) (nth (set h i (nth h₀ m))) i m S.hole q (λ j d. get_or-set_other h i j (nth h₀ m) 0 d);
            }
          where
            go : (j : ℕ) → j < m → (j ≡ i) ⊎ (j ≢ i) → K (nth (set h i (nth h₀ m)) j)
            go j l (inl e) =
                let w = S.low in
                let f = S.room in
                rw (e, get_or-set_same h i (nth h₀ m) 0 (omega arith)) (H.known m (omega arith))
            go j l (inr d) = rw (get_or-set_other h i j (nth h₀ m) 0 d) (S.known j l)

        pub pop-end : (h' : List ℕ) → Raised before K h m i (nth h₀ m) h' → Taken before K h₀ n (nth h₀ 0) h'
        pop-end h' R =
            let k : n - 1 ≡ m = omega arith in
            record {
              is = rw k (first-is ∙ ap {B = List ℕ} (λ l. nth h₀ 0 ∷ l) (sym (R.is ∙ S.same (nth h₀ m))));
              heap = rw k R.heap;
              rest = rw k (R.rest ∙ S.rest);
            }
