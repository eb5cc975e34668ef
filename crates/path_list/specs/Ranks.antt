-- The order of the list over the tables: which of two closed paths stands above the other, and their numbers sorted by insertion.
use Rattle.std.specs.Prelude.{◌≡◌, refl, Bool, not, ◌&&◌, ◌||◌, List, [], ◌∷◌, ◌++◌, map, ℕ, zero, suc, ◌+◌, ◌-◌, ◌*◌, ◌<◌, ◌≤◌, length, get_or, set, take, drop, Float}
use Rattle.std.proofs.Common.{sym, ap, ◌∙◌, append_assoc, arith, length-append, length-drop, length-set, take-append-drop, take_at, drop_at, length-take-le}
use Rattle.std.proofs.Math.Bool.{true, false}
use Rattle.std.proofs.lemmas.List.{set_at, get_or_at}
use Rattle.std.proofs.Math.Seq.{split_at, drop-length}
use Rattle.std.specs.Float.Ieee.{lt}
use Rattle.laws.specs.ListLaws.{All, nil, cons, all_append}
use Rattle.laws.specs.Numbers.{compare_list, is_gt}
use Rattle.laws.specs.Insertion.{insert, sorted, insert-past, insert-here, all-sorted}
use Rattle.laws.specs.Sorting.{insert-nil}
use Rattle.samples.specs.Handed.{text_of}
use Rattle.graph_kmers.specs.Paths.{end_base, Spells, spells-cut}
use Rattle.path_store.specs.Cells.{count_of, score_of, Inside}
use Rattle.search_state.specs.State.{up_from}
use Rattle.path_list.specs.declared.lists.Lists as code
use Rattle.path_list.specs.Walked.{record_at}

-- ---- the tables

-- the text, the graph, the records of the paths, the closed ones among them in the order of closing, and their edges written out
pub record Lists : Type 0 where
  pub text : List ℕ
  pub vs : List ℕ
  pub es : List ℕ
  pub t : List ℕ
  pub sc : List Float
  pub closed : List ℕ
  pub walks : List ℕ
  pub k : ℕ
  pub most : ℕ

abbrev pub lists : List ℕ → List ℕ → List ℕ → List ℕ → List Float → List ℕ → List ℕ → ℕ → ℕ → Lists
lists text vs es t sc closed walks k most = record { text = text; vs = vs; es = es; t = t; sc = sc; closed = closed; walks = walks; k = k; most = most }

-- the code's slices as these lists
abbrev pub lists_of : code.Lists → Lists
lists_of x = lists (text_of x.text) x.vertices.now x.edges.now x.paths.records.now x.paths.scores.now x.closed.now x.walks.now x.k x.most

abbrev pub score_at : Lists → ℕ → Float
score_at l i = score_of l.sc (record_at l.closed i)

abbrev pub count_at : Lists → ℕ → ℕ
count_at l i = count_of l.t (record_at l.closed i)

abbrev pub walk_at : Lists → ℕ → List ℕ
walk_at l i = take (count_at l i) (drop (i * l.most) l.walks)

-- the bases behind the first kmer
abbrev pub tail_at : Lists → ℕ → List ℕ
tail_at l i = map (end_base l.k l.text l.vs l.es) (walk_at l i)

-- the closed path i stands above the closed path j
pub above_at : Lists → ℕ → ℕ → Bool
above_at l i j = lt (score_at l j) (score_at l i) || not (lt (score_at l i) (score_at l j)) && is_gt (compare_list (tail_at l i) (tail_at l j))

pub above-is : (l : Lists) (i j : ℕ) → above_at l i j ≡ lt (score_at l j) (score_at l i) || not (lt (score_at l i) (score_at l j)) && is_gt (compare_list (tail_at l i) (tail_at l j))
unfolding above_at
above-is l i j = refl

-- `count` closed paths, each with its record and its edges in the tables
pub record Ready (l : Lists) (count : ℕ) : Type 0 where
  pub closed-room : count ≤ length l.closed
  pub inside : (i : ℕ) → i < count → Inside l.t l.sc (record_at l.closed i)
  pub short : (i : ℕ) → i < count → count_at l i ≤ l.most
  pub walks-room : count * l.most ≤ length l.walks
  pub spells : (i : ℕ) → i < count → Spells l.k l.text l.vs l.es (drop (i * l.most) l.walks) (count_at l i)
  pub few : count ≤ 128

module _ (l : Lists) (count : ℕ) (R : Ready l count) where
  pub ready-spells : (i : ℕ) (w : List ℕ) → i < count → w ≡ walk_at l i → Spells l.k l.text l.vs l.es w (length w)
  ready-spells i w h e = rw e (spells-cut (R.spells i h))

  module _ (i j : ℕ) (a b : Float) (p : a ≡ score_at l i) (q : b ≡ score_at l j) where
    pub above-higher : lt b a ≡ true → true ≡ above_at l i j
    unfolding above_at
    above-higher h = let e : lt (score_at l j) (score_at l i) ≡ true = rw (p, q) at h in rw e

    pub above_lower : lt b a ≡ false → lt a b ≡ true → false ≡ above_at l i j
    unfolding above_at
    above_lower h k =
        let e : lt (score_at l j) (score_at l i) ≡ false = rw (p, q) at h in
        let f : lt (score_at l i) (score_at l j) ≡ true = rw (p, q) at k in
        rw (e, f)

    pub above-tails : lt b a ≡ false → lt a b ≡ false → (v w : List ℕ) → v ≡ walk_at l i → w ≡ walk_at l j → (r : Bool)
        → r ≡ is_gt (compare_list (map (end_base l.k l.text l.vs l.es) v) (map (end_base l.k l.text l.vs l.es) w))
        → r ≡ above_at l i j
    unfolding above_at
    above-tails h k v w ev ew r g =
        let e : lt (score_at l j) (score_at l i) ≡ false = rw (p, q) at h in
        let f : lt (score_at l i) (score_at l j) ≡ false = rw (p, q) at k in
        let d : r ≡ is_gt (compare_list (tail_at l i) (tail_at l j)) = rw (ev, ew) at g in
        rw (e, f) d

-- ---- insertion

-- a number below a bound, by another name
pub low-as : {m n k : ℕ} → m ≡ n → n < k → m < k
low-as e h = omega arith

-- the places from a to count
abbrev pub between : ℕ → ℕ → List ℕ → List ℕ
between a count rank = drop a (take count rank)

-- places x + 1 to count hold numbers of closed paths
pub record Inserts (count x : ℕ) (rank : List ℕ) : Type 0 where
  pub room : count ≤ length rank
  pub few : count ≤ 128
  pub low : x < count
  pub known : All (λ y. y < count) (between (x + 1) count rank)

pub record Inserted (above : ℕ → ℕ → Bool) (count x : ℕ) (old rank : List ℕ) : Type 0 where
  pub is : between x count rank ≡ insert above x (between (x + 1) count old)
  pub size : length rank ≡ length old

-- x goes behind all those that stand above it
insert-behind : (above : ℕ → ℕ → Bool) (x : ℕ) (front rest : List ℕ) → All (λ y. above y x ≡ true) front → insert above x (front ++ rest) ≡ front ++ insert above x rest
insert-behind above x [] rest nil = refl
insert-behind above x (y ∷ front) rest (cons h a) = insert-past above x y (front ++ rest) h ∙ ap (λ (l : List ℕ). y ∷ l) (insert-behind above x front rest a)

-- Those passed have moved up by one place; the place before j is free.
pub record Inserting (above : ℕ → ℕ → Bool) (count x : ℕ) (old rank : List ℕ) (j : ℕ) : Type 0 where
  pub before : List ℕ
  pub front : List ℕ
  pub hole : ℕ
  pub rest : List ℕ
  pub after : List ℕ
  pub is : rank ≡ before ++ (front ++ hole ∷ (rest ++ after))
  pub was : between (x + 1) count old ≡ front ++ rest
  pub at_x : length before ≡ x
  pub at_j : x + length front + 1 ≡ j
  pub at-end : j + length rest ≡ count
  pub passed : All (λ y. above y x ≡ true) front
  pub known : All (λ y. y < count) rest
  pub size : length rank ≡ length old

module _ (above : ℕ → ℕ → Bool) (count x : ℕ) (old : List ℕ) where
  pub inserting-start : Inserts count x old → Inserting above count x old old (x + 1)
  inserting-start I =
      let r = I.room in
      let l = I.low in
      let a : x < length (take count old) = rw (length-take-le count old r) l in
      let e : x + 1 ≡ suc x = omega arith in
      let s : take count old ≡ take x (take count old) ++ (get_or (take count old) x 0 ∷ drop (suc x) (take count old)) = split_at (take count old) x 0 a in
      record {
        before = take x (take count old);
        front = [];
        hole = get_or (take count old) x 0;
        rest = between (x + 1) count old;
        after = drop count old;
        is =
            sym (take-append-drop count old)
            ∙ ap (λ (m : List ℕ). m ++ drop count old) s
            ∙ append_assoc (take x (take count old)) (get_or (take count old) x 0 ∷ drop (suc x) (take count old)) (drop count old)
            ∙ (rw e);
        was = refl;
        at_x = length-take-le x (take count old) (omega arith);
        at_j = omega arith;
        at-end = (let z = length-drop (x + 1) (take count old) in let y = length-take-le count old r in omega arith);
        passed = nil;
        known = I.known;
        size = refl;
      }

  -- the rest is not empty before count
  record Next (rest : List ℕ) : Type 0 where
    head : ℕ
    tail : List ℕ
    is : rest ≡ head ∷ tail

  next_of : (rest : List ℕ) → 0 < length rest → Next rest
  next_of [] h = absurd (omega arith)
  next_of (y ∷ ys) h = record { head = y; tail = ys; is = refl }

  module _ (rank : List ℕ) (j : ℕ) (W : Inserting above count x old rank j) where
    front-place : length (W.before ++ W.front) ≡ j - 1
    front-place = length-append W.before W.front ∙ (let a = W.at_x in let b = W.at_j in omega arith)

    split : (h : ℕ) (l : List ℕ) → W.before ++ (W.front ++ h ∷ l) ≡ (W.before ++ W.front) ++ h ∷ l
    split h l = sym (append_assoc W.before W.front (h ∷ l))

    -- a store to the free place
    store : (y : ℕ) → set rank (j - 1) y ≡ W.before ++ (W.front ++ y ∷ (W.rest ++ W.after))
    store y =
        ap (λ (l : List ℕ). set l (j - 1) y) (W.is ∙ split W.hole (W.rest ++ W.after))
        ∙ set_at (W.before ++ W.front) W.hole (W.rest ++ W.after) y (j - 1) front-place
        ∙ sym (split y (W.rest ++ W.after))

    -- x is stored: it stands where `insert` puts it
    stored : (e : insert above x W.rest ≡ x ∷ W.rest) → between x count (set rank (j - 1) x) ≡ insert above x (between (x + 1) count old)
    stored e =
        let m : List ℕ = W.front ++ x ∷ W.rest in
        let a : set rank (j - 1) x ≡ (W.before ++ (W.front ++ x ∷ W.rest)) ++ W.after =
        store x
        ∙ ap (λ (l : List ℕ). W.before ++ l) (sym (append_assoc W.front (x ∷ W.rest) W.after))
        ∙ sym (append_assoc W.before (W.front ++ x ∷ W.rest) W.after)
        in
        let n : length (W.before ++ (W.front ++ x ∷ W.rest)) ≡ count =
        length-append W.before (W.front ++ x ∷ W.rest)
        ∙ (let z = length-append W.front (x ∷ W.rest) in let p = W.at_x in let q = W.at_j in let r = W.at-end in omega arith)
        in
        ap (λ (l : List ℕ). drop x (take count l)) a
        ∙ ap (λ (l : List ℕ). drop x l) (take_at (W.before ++ (W.front ++ x ∷ W.rest)) W.after count n)
        ∙ drop_at W.before (W.front ++ x ∷ W.rest) x W.at_x
        ∙ ap (λ (l : List ℕ). W.front ++ l) (sym e)
        ∙ sym (insert-behind above x W.front W.rest W.passed)
        ∙ ap (λ (l : List ℕ). insert above x l) (sym W.was)

    pub resize : (y : ℕ) → length (set rank (j - 1) y) ≡ length old
    resize y = length-set rank (j - 1) y ∙ W.size

    -- none is left
    pub inserting-end : count ≤ j → Inserted above count x old (set rank (count - 1) x)
    inserting-end h =
        let z : count - 1 ≡ j - 1 = (let a = W.at-end in omega arith) in
        rw z (record { is = stored (go W.rest (let a = W.at-end in omega arith)); size = resize x })
      where
        go : (rest : List ℕ) → length rest ≡ 0 → insert above x rest ≡ x ∷ rest
        go [] e = insert-nil above x
        go (y ∷ ys) e = absurd (omega arith)

    module _ (h : j < count) where
      next : Next W.rest
      next = next_of W.rest (let a = W.at-end in omega arith)

      next-is : get_or rank j 0 ≡ next.head
      next-is =
          ap (λ (l : List ℕ). get_or l j 0) (W.is ∙ split W.hole (W.rest ++ W.after))
          ∙ ap (λ (r : List ℕ). get_or ((W.before ++ W.front) ++ W.hole ∷ (r ++ W.after)) j 0) next.is
          ∙ ap (λ (l : List ℕ). get_or l j 0) (sym (append_assoc (W.before ++ W.front) (W.hole ∷ []) (next.head ∷ (next.tail ++ W.after))))
          ∙ get_or_at ((W.before ++ W.front) ++ W.hole ∷ []) next.head (next.tail ++ W.after) 0 j
          (length-append (W.before ++ W.front) (W.hole ∷ []) ∙ (let a = front-place in let b = W.at_j in omega arith))

      pub next_known : get_or rank j 0 < count
      next_known = rw next-is (go (rw next.is at W.known))
        where
          go : All (λ y. y < count) (next.head ∷ next.tail) → next.head < count
          go (cons p a) = p

      module _ (y : ℕ) (e : y ≡ get_or rank j 0) where
        -- the next one is not above x
        pub inserting-here : above y x ≡ false → Inserted above count x old (set rank (j - 1) x)
        inserting-here g =
            let f : above next.head x ≡ false = rw (e, next-is) at g in
            record {
              is = stored (rw next.is (insert-here above x next.head next.tail f));
              size = resize x;
            }

        -- the next one moves up
        pub inserting-next : above y x ≡ true → Inserting above count x old (set rank (j - 1) y) (j + 1)
        inserting-next g =
            let f : above next.head x ≡ true = rw (e, next-is) at g in
            let z : y ≡ next.head = e ∙ next-is in
            record {
              before = W.before;
              front = W.front ++ next.head ∷ [];
              hole = next.head;
              rest = next.tail;
              after = W.after;
              is =
                  store y
                  ∙ ap (λ u. W.before ++ (W.front ++ u ∷ (W.rest ++ W.after))) z
                  ∙ ap (λ (r : List ℕ). W.before ++ (W.front ++ next.head ∷ (r ++ W.after))) next.is
                  ∙ ap (λ (l : List ℕ). W.before ++ l) (sym (append_assoc W.front (next.head ∷ []) (next.head ∷ (next.tail ++ W.after))));
              was = W.was ∙ ap (λ (l : List ℕ). W.front ++ l) next.is ∙ sym (append_assoc W.front (next.head ∷ []) next.tail);
              at_x = W.at_x;
              at_j = (let a = length-append W.front (next.head ∷ []) in let b = W.at_j in omega arith);
              at-end = (let a = ap (λ (l : List ℕ). length l) next.is in let b = W.at-end in omega arith);
              passed = all_append W.passed (cons f nil);
              known = go (rw next.is at W.known);
              size = resize y;
            }
          where
            go : All (λ y. y < count) (next.head ∷ next.tail) → All (λ y. y < count) next.tail
            go (cons p a) = a

-- ---- all of them

-- the numbers from x on stand sorted in the places from x on
pub record Ranked (above : ℕ → ℕ → Bool) (count x : ℕ) (rank : List ℕ) : Type 0 where
  pub low : x ≤ count
  pub is : between x count rank ≡ sorted above (up_from x (count - x))

pub all-low : (count x n : ℕ) → x + n ≤ count → All (λ y. y < count) (up_from x n)
unfolding up_from
all-low count x zero h = nil
all-low count x (suc n) h = cons {x = x} (omega arith) (all-low count (suc x) n (omega arith))

sorted_more : (above : ℕ → ℕ → Bool) (x n : ℕ) → sorted above (up_from x (suc n)) ≡ insert above x (sorted above (up_from (suc x) n))
unfolding sorted up_from
sorted_more above x n = refl

sorted_none : (above : ℕ → ℕ → Bool) (x : ℕ) → sorted above (up_from x 0) ≡ []
unfolding sorted up_from
sorted_none above x = refl

module _ (above : ℕ → ℕ → Bool) (count : ℕ) where
  pub ranked-start : (rank : List ℕ) → count ≤ length rank → Ranked above count count rank
  ranked-start rank h =
      let z : count - count ≡ 0 = omega arith in
      record {
        low = omega arith;
        is =
            ap (λ n. drop n (take count rank)) (sym (length-take-le count rank h))
            ∙ drop-length (take count rank)
            ∙ sym (ap (λ n. sorted above (up_from count n)) z ∙ sorted_none above count);
      }

  module _ (x : ℕ) (rank : List ℕ) (W : Ranked above count x rank) where
    pub ranked-known : All (λ y. y < count) (between x count rank)
    ranked-known = rw W.is (all-sorted above (all-low count x (count - x) (let a = W.low in omega arith)))

    pub ranked-asks : (y : ℕ) → count ≤ length rank → count ≤ 128 → 0 < x → y ≡ x - 1 → Inserts count y rank
    ranked-asks y r f p e =
        let z : y + 1 ≡ x = omega arith in
        record { room = r; few = f; low = (let a = W.low in omega arith); known = rw z ranked-known }

    pub ranked-next : (y : ℕ) (rank' : List ℕ) → 0 < x → y ≡ x - 1 → Inserted above count y rank rank' → Ranked above count y rank'
    ranked-next y rank' p e I =
        let a = W.low in
        let z : y + 1 ≡ x = omega arith in
        let s : count - y ≡ suc (count - x) = omega arith in
        let u : suc y ≡ x = omega arith in
        record {
          low = omega arith;
          is =
              I.is
              ∙ ap (λ n. insert above y (between n count rank)) z
              ∙ ap (λ (l : List ℕ). insert above y l) W.is
              ∙ ap (λ n. insert above y (sorted above (up_from n (count - x)))) (sym u)
              ∙ sym (sorted_more above y (count - x))
              ∙ ap (λ n. sorted above (up_from y n)) (sym s);
        }
