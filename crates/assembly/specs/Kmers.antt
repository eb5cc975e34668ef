-- Kmers as parts of the text: their last base, equality byte by byte, and the number of one; a vertex more. Assumes nothing.
use Rattle.std.specs.Prelude.{◌≡◌, refl, ◌≢◌, Bool, true, false, cond, List, [], ◌∷◌, ◌++◌, ℕ, zero, suc, ◌+◌, ◌-◌, ◌*◌, ◌<◌, ◌≤◌, eqb, length, get_or, take, drop}
use Rattle.std.proofs.Common.{sym, ap, ◌∙◌, arith, add-one, length-set, length-drop, length-append, get_or-take, get_or-drop, length-take-le, eq-eqb, ne_eqb}
use Rattle.std.proofs.Math.Decide.{ℕ_discrete}
use Rattle.laws.specs.Lists.{last_or, position}
use Rattle.laws.specs.Numbers.{eq_list, eq_list-true}
use Rattle.definition.specs.Limits.{is_base}
use Rattle.definition.specs.Threading.{Edge, Ends, last_base, number_of, with_kmer}
use Rattle.laws.specs.Rows.{rows, rows_more, length-rows, get_d_rows, rows_none, rows-suc}
use Rattle.laws.specs.Records.{put_field, field-same, field-other, row_other}
use Rattle.assembly.specs.Fields.{HasVertex, vertex_field, out_edge, kmer_place, incoming_count, incoming_edge, edge_from, edge_to}
use Rattle.assembly.specs.Table.{count, count-0, count-more}
use Rattle.assembly.specs.Store.{edge_at, kmers_of, kmer_at, last_of, code, code_lt, Good}

-- the k bytes at a place of the text
abbrev pub part : ℕ → List ℕ → ℕ → List ℕ
part k text q = take k (drop q text)

pub length_part : (k : ℕ) (text : List ℕ) (q : ℕ) → q + k ≤ length text → length (part k text q) ≡ k
length_part k text q h = length-take-le k (drop q text) (rw (length-drop q text) (omega arith))

pub get_d_part : (k : ℕ) (text : List ℕ) (q j : ℕ) → j < k → get_or (part k text q) j 0 ≡ get_or text (q + j) 0
get_d_part k text q j h = get_or-take k (drop q text) j 0 h ∙ get_or-drop q text j 0

last_get : (d x : ℕ) (xs : List ℕ) → last_or d (x ∷ xs) ≡ get_or (x ∷ xs) (length xs) d
last_get d x [] = refl
last_get d x (y ∷ ys) = last_get d y ys

last-get_or : (l : List ℕ) (n : ℕ) → length l ≡ n + 1 → last_or 0 l ≡ get_or l n 0
last-get_or [] n h = absurd (omega arith)
last-get_or (x ∷ xs) n h = last_get 0 x xs ∙ ap (λ (i : ℕ). get_or (x ∷ xs) i 0) (let z : length xs ≡ n = omega arith in z)

-- the last base of a part
pub last-part : (k : ℕ) (text : List ℕ) (q : ℕ) → 0 < k → q + k ≤ length text → last_or 0 (part k text q) ≡ get_or text (q + k - 1) 0
last-part k text q h l =
    last-get_or (part k text q) (k - 1) (length_part k text q l ∙ (let z : k ≡ k - 1 + 1 = omega arith in z))
    ∙ get_d_part k text q (k - 1) (omega arith)
    ∙ ap (λ (i : ℕ). get_or text i 0) (let z : q + (k - 1) ≡ q + k - 1 = omega arith in z)

pub last-of : (k : ℕ) (text vs : List ℕ) (n v : ℕ) → v < n → last_of k text vs n v ≡ last_or 0 (kmer_at k text vs v)
unfolding last_base kmers_of
last-of k text vs n v h = rw (get_d_rows (kmer_at k text vs) n v [] h)

-- ---- equality
-- all bytes agree, or one does not
pub eq_list-yes : (a b : List ℕ) → length a ≡ length b → ((j : ℕ) → j < length a → get_or a j 0 ≡ get_or b j 0) → eq_list a b ≡ true
eq_list-yes [] [] l h = refl
eq_list-yes [] (y ∷ ys) l h = absurd (omega arith)
eq_list-yes (x ∷ xs) [] l h = absurd (omega arith)
eq_list-yes (x ∷ xs) (y ∷ ys) l h = rw (eq-eqb x y (h 0 (omega arith)), eq_list-yes xs ys (omega arith) (λ j k. h (suc j) (omega arith)))

pub eq_list-no : (a b : List ℕ) (j : ℕ) → get_or a j 0 ≢ get_or b j 0 → eq_list a b ≡ false
eq_list-no a b j h = go (eq_list a b) refl
  where
    go : (t : Bool) → eq_list a b ≡ t → t ≡ false
    go true e = absurd (h (rw (eq_list-true a b e)))
    go false e = refl

-- ---- the first place
module _ {A : Type 0} (p : A → Bool) where
  position-hit : (l : List A) (x : A) → position p l < length l → position p (l ++ (x ∷ [])) ≡ position p l
  position-hit [] x h = absurd (omega arith)
  position-hit (y ∷ l) x h = go (p y) refl (position-hit l x)
    where
      go : (t : Bool) → p y ≡ t → (position p l < length l → position p (l ++ (x ∷ [])) ≡ position p l) → position p ((y ∷ l) ++ (x ∷ [])) ≡ position p (y ∷ l)
      go true e ih = rw (e, position)
      go false e ih = rw (e, position) (ap suc (ih (let z : position p (y ∷ l) ≡ suc (position p l) = rw (e, position) in omega arith)))

  position-miss : (l : List A) (x : A) → position p l ≡ length l → position p (l ++ (x ∷ [])) ≡ cond (p x) (length l) (suc (length l))
  position-miss [] x h = go (p x) refl
    where
      go : (t : Bool) → p x ≡ t → position p (x ∷ []) ≡ cond (p x) 0 1
      go true e = rw (e, position)
      go false e = rw (e, position)
  position-miss (y ∷ l) x h = go (p y) refl (position-miss l x) (p x) refl
    where
      go : (t : Bool) → p y ≡ t → (position p l ≡ length l → position p (l ++ (x ∷ [])) ≡ cond (p x) (length l) (suc (length l))) → (s : Bool) → p x ≡ s
          → position p ((y ∷ l) ++ (x ∷ [])) ≡ cond (p x) (suc (length l)) (suc (suc (length l)))
      go true e ih s q = absurd (let z : position p (y ∷ l) ≡ 0 = rw (e, position) in omega arith)
      go false e ih true q = rw (e, position, q) (ap suc (ih (let z : position p (y ∷ l) ≡ suc (position p l) = rw (e, position) in omega arith) ∙ rw q))
      go false e ih false q = rw (e, position, q) (ap suc (ih (let z : position p (y ∷ l) ≡ suc (position p l) = rw (e, position) in omega arith) ∙ rw q))

  pub position-none : (f : ℕ → A) (n : ℕ) → ((j : ℕ) → j < n → p (f j) ≡ false) → position p (rows f n) ≡ n
  position-none f zero h = rw (rows_none f)
  position-none f (suc n) h =
      rw (rows-suc f n)
      (position-miss (rows f n) (f n) (position-none f n (λ j k. h j (omega arith)) ∙ sym (length-rows f n)) ∙ rw (h n (omega arith), length-rows f n))

  pub position_at : (f : ℕ → A) (n v : ℕ) → v < n → ((j : ℕ) → j < v → p (f j) ≡ false) → p (f v) ≡ true → position p (rows f n) ≡ v
  position_at f zero v h q e = absurd (omega arith)
  position_at f (suc n) v h q e = go (λ k. position_at f n v k q e) (ℕ_discrete v n)
    where
      go : (v < n → position p (rows f n) ≡ v) → Dec (v ≡ n) → position p (rows f (suc n)) ≡ v
      go ih (yes z) =
          rw (rows-suc f n)
          (position-miss (rows f n) (f n) (position-none f n (λ j k. q j (omega arith)) ∙ sym (length-rows f n)) ∙ (let w : p (f n) ≡ true = rw (← z) e in rw (w, length-rows f n) (sym z)))
      go ih (no z) =
          let k : v < n = omega arith in
          let y = ih k in
          rw (rows-suc f n) (position-hit (rows f n) (f n) (omega (arith, length-rows f n)) ∙ y)

-- no kmer before v is the one sought
pub record Unseen (k : ℕ) (text vs : List ℕ) (q v : ℕ) : Type 0 where
  pub none : (j : ℕ) → j < v → eq_list (kmer_at k text vs j) (part k text q) ≡ false

pub number-here : (k : ℕ) (text vs : List ℕ) (n q v : ℕ) → Unseen k text vs q v → v < n → eq_list (kmer_at k text vs v) (part k text q) ≡ true → v ≡ number_of (kmers_of k text vs n) (part k text q)
unfolding number_of kmers_of
number-here k text vs n q v u h e = sym (position_at (λ y. eq_list y (part k text q)) (kmer_at k text vs) n v h u.none e)

pub number-none : (k : ℕ) (text vs : List ℕ) (n q : ℕ) → Unseen k text vs q n → n ≡ number_of (kmers_of k text vs n) (part k text q)
unfolding number_of kmers_of
number-none k text vs n q u = sym (position-none (λ y. eq_list y (part k text q)) (kmer_at k text vs) n u.none)

-- ---- the kmer that has the number, and the kmers with one more
pub position-true : {A : Type 0} (p : A → Bool) (d : A) (l : List A) → position p l < length l → p (get_or l (position p l) d) ≡ true
position-true p d [] h = absurd (omega arith)
position-true p d (x ∷ l) h = go (p x) refl (position-true p d l)
  where
    go : (t : Bool) → p x ≡ t → (position p l < length l → p (get_or l (position p l) d) ≡ true) → p (get_or (x ∷ l) (position p (x ∷ l)) d) ≡ true
    go true e ih = let z : position p (x ∷ l) ≡ 0 = rw (e, position) in rw z e
    go false e ih = let z : position p (x ∷ l) ≡ suc (position p l) = rw (e, position) in rw z (ih (omega arith))

pub number-kmer : (k : ℕ) (text vs : List ℕ) (n q w : ℕ) → w ≡ number_of (kmers_of k text vs n) (part k text q) → w < n → kmer_at k text vs w ≡ part k text q
unfolding number_of kmers_of
number-kmer k text vs n q w e h =
    let z : position (λ y. eq_list y (part k text q)) (rows (kmer_at k text vs) n) < length (rows (kmer_at k text vs) n) = rw (← e, length-rows (kmer_at k text vs) n) h in
    eq_list-true (kmer_at k text vs w) (part k text q)
    (rw (← e, get_d_rows (kmer_at k text vs) n w [] h) at (position-true (λ y. eq_list y (part k text q)) [] (rows (kmer_at k text vs) n) z))

pub length-of : (k : ℕ) (text vs : List ℕ) (n : ℕ) → length (kmers_of k text vs n) ≡ n
unfolding kmers_of
length-of k text vs n = length-rows (kmer_at k text vs) n

pub with-yes : (ks : List (List ℕ)) (x : List ℕ) → number_of ks x ≡ length ks → with_kmer ks x ≡ ks ++ (x ∷ [])
unfolding with_kmer
with-yes ks x h = rw (eq-eqb (number_of ks x) (length ks) h, with_kmer)

pub with-no : (ks : List (List ℕ)) (x : List ℕ) → number_of ks x ≢ length ks → with_kmer ks x ≡ ks
unfolding with_kmer
with-no ks x h = rw (ne_eqb (number_of ks x) (length ks) h, with_kmer)

pub with-old : (k : ℕ) (text vs : List ℕ) (n q w : ℕ) → w ≡ number_of (kmers_of k text vs n) (part k text q) → w < n → with_kmer (kmers_of k text vs n) (part k text q) ≡ kmers_of k text vs n
with-old k text vs n q w e h = with-no (kmers_of k text vs n) (part k text q) (λ z. (let y = e ∙ z ∙ length-of k text vs n in omega arith))

-- a vertex more: only its place is written
unfoldable pub born : List ℕ → ℕ → ℕ → List ℕ
born vs n q = put_field vs 12 n 8 q

pub length-born : (vs : List ℕ) (n q : ℕ) → length (born vs n q) ≡ length vs
unfolding born
length-born vs n q = length-set vs (n * 12 + 8) q

module _ (k : ℕ) (text vs : List ℕ) (n q : ℕ) (r : HasVertex vs n) where
  born-8 : kmer_place (born vs n q) n ≡ q
  unfolding born
  born-8 = field-same vs 12 n 8 q (omega arith)

  pub born-row : (u d : ℕ) → d < 12 → u ≢ n → vertex_field (born vs n q) u d ≡ vertex_field vs u d
  unfolding born
  born-row u d h p = row_other vs 12 n 8 q u d (omega arith) h p

  pub born-field : (u d : ℕ) → d < 12 → d ≢ 8 → vertex_field (born vs n q) u d ≡ vertex_field vs u d
  unfolding born
  born-field u d h p = field-other vs 12 n 8 q u d (omega arith) h p

  pub kmers-born : kmers_of k text (born vs n q) (n + 1) ≡ kmers_of k text vs n ++ (part k text q ∷ [])
  unfolding kmers_of
  kmers-born = rw (add-one n) (rows_more (kmer_at k text vs) (kmer_at k text (born vs n q)) n (part k text q) (rw born-8) (λ j h. rw (born-row j 8 (omega arith) h)))

  pub with-new : (w : ℕ) → w ≡ number_of (kmers_of k text vs n) (part k text q) → w ≡ n → with_kmer (kmers_of k text vs n) (part k text q) ≡ kmers_of k text (born vs n q) (n + 1)
  with-new w e z = with-yes (kmers_of k text vs n) (part k text q) (sym e ∙ z ∙ sym (length-of k text vs n)) ∙ sym kmers-born

  -- the last bases of the old vertices are what they were
  born-last : (u : ℕ) → u < n → last_of k text (born vs n q) (n + 1) u ≡ last_of k text vs n u
  born-last u h =
      last-of k text (born vs n q) (n + 1) u (omega arith)
      ∙ ap (λ (x : ℕ). last_or 0 (part k text x)) (born-row u 8 (omega arith) (omega arith))
      ∙ sym (last-of k text vs n u h)

  pub born-last-new : last_of k text (born vs n q) (n + 1) n ≡ last_or 0 (part k text q)
  born-last-new = last-of k text (born vs n q) (n + 1) n (omega arith) ∙ ap (λ (x : ℕ). last_or 0 (part k text x)) born-8

pub count-zero : (p : Ends → Bool) (f : ℕ → Edge) (m : ℕ) → ((j : ℕ) → j < m → p (f j).ends ≡ false) → count p f m ≡ 0
count-zero p f zero h = count-0 p f
count-zero p f (suc m) h = let e : suc m ≡ m + 1 = omega arith in rw e (count-more p f m ∙ rw (h m (omega arith), count-zero p f m (λ j k. h j (omega arith))))

pub born-good : {k : ℕ} {text vs : List ℕ} {n : ℕ} {es : List ℕ} {m : ℕ} (q : ℕ) → Good k text vs n es m → HasVertex vs n → q + k ≤ length text
    → is_base (last_or 0 (part k text q)) ≡ true → Good k text (born vs n q) (n + 1) es m
born-good {k = k} {text = text} {vs = vs} {n = n} {es = es} {m = m} q g r f b =
    record {
      from_in = λ i h. (let z = g.from_in i h in omega arith);
      to_in = λ i h. (let z = g.to_in i h in omega arith);
      slot = λ i h.
          rw (born-last k text vs n q r (edge_to es i) (g.to_in i h))
          (born-row k text vs n q r (edge_from es i) (code (last_of k text vs n (edge_to es i))) (low i h) (let z = g.from_in i h in omega arith) ∙ g.slot i h);
      full = λ u c h l z. full' u c h l z (ℕ_discrete u n);
      base = λ u h. base' u h (ℕ_discrete u n);
      fits = λ u h. fits' u h (ℕ_discrete u n);
      ins = λ u h. ins' u h (ℕ_discrete u n);
      into = λ u h z. into' u h z (ℕ_discrete u n);
      zeros = λ u c h l. born-row k text vs n q r u c l (omega arith) ∙ g.zeros u c (omega arith) l;
    }
  where
    low : (i : ℕ) → i < m → code (last_of k text vs n (edge_to es i)) < 12
    low i h = let z = code_lt (last_of k text vs n (edge_to es i)) in omega arith

    -- of the new vertex, every field but 8 is zero
    none : (c : ℕ) → c < 12 → c ≢ 8 → out_edge (born vs n q) n c ≡ 0
    none c l p = born-field k text vs n q r n c l p ∙ g.zeros n c (omega arith) l

    Full : ℕ → ℕ → ℕ → Type 0
    Full u c s = (s ≤ m) × (edge_from es (s - 1) ≡ u) × (code (last_of k text (born vs n q) (n + 1) (edge_to es (s - 1))) ≡ c)

    full' : (u c : ℕ) → u < n + 1 → c < 8 → 0 < out_edge (born vs n q) u c → Dec (u ≡ n) → Full u c (out_edge (born vs n q) u c)
    full' u c h l z (yes y) = absurd (let x : out_edge (born vs n q) u c ≡ 0 = rw y (none c (omega arith) (omega arith)) in omega arith)
    full' u c h l z (no y) =
        let x = born-row k text vs n q r u c (omega arith) y in
        let w = g.full u c (omega arith) l (rw x at z) in
        let i : out_edge vs u c - 1 < m = (let t = w.0 in let s : 0 < out_edge vs u c = rw x at z in omega arith) in
        rw x (w.0, w.1, rw (born-last k text vs n q r (edge_to es (out_edge vs u c - 1)) (g.to_in (out_edge vs u c - 1) i)) w.2)

    base' : (u : ℕ) → u < n + 1 → Dec (u ≡ n) → is_base (last_of k text (born vs n q) (n + 1) u) ≡ true
    base' u h (yes y) = rw (y, born-last-new k text vs n q r) b
    base' u h (no y) = rw (born-last k text vs n q r u (omega arith)) (g.base u (omega arith))

    fits' : (u : ℕ) → u < n + 1 → Dec (u ≡ n) → kmer_place (born vs n q) u + k ≤ length text
    fits' u h (yes y) = rw (y, born-8 k text vs n q r) f
    fits' u h (no y) = rw (born-row k text vs n q r u 8 (omega arith) y) (g.fits u (omega arith))

    ins' : (u : ℕ) → u < n + 1 → Dec (u ≡ n) → incoming_count (born vs n q) u ≡ count (λ d. eqb d.to u) (edge_at es) m
    ins' u h (yes y) =
        rw y (none 9 (omega arith) (omega arith))
        ∙ sym (count-zero (λ d. eqb d.to u) (edge_at es) m (λ j l. ne_eqb (edge_to es j) u (let z = g.to_in j l in omega arith)))
    ins' u h (no y) = born-row k text vs n q r u 9 (omega arith) y ∙ g.ins u (omega arith)

    into' : (u : ℕ) → u < n + 1 → 0 < incoming_count (born vs n q) u → Dec (u ≡ n) → (0 < incoming_edge (born vs n q) u) × (incoming_edge (born vs n q) u ≤ m) × (edge_to es (incoming_edge (born vs n q) u - 1) ≡ u)
    into' u h z (yes y) = absurd (let x : incoming_count (born vs n q) u ≡ 0 = rw y (none 9 (omega arith) (omega arith)) in omega arith)
    into' u h z (no y) = rw (born-row k text vs n q r u 10 (omega arith) y) (g.into u (omega arith) (rw (born-row k text vs n q r u 9 (omega arith) y) at z))

-- ---- the comparison's loop
pub record Alike (text : List ℕ) (k p q j : ℕ) : Type 0 where
  pub within : j ≤ k
  pub same : (i : ℕ) → i < j → get_or text (p + i) 0 ≡ get_or text (q + i) 0

pub alike_end : (text : List ℕ) (k p q j : ℕ) → Alike text k p q j → k ≤ j → p + k ≤ length text → q + k ≤ length text → true ≡ eq_list (part k text p) (part k text q)
alike_end text k p q j a h l m =
    sym (eq_list-yes (part k text p) (part k text q) (length_part k text p l ∙ sym (length_part k text q m))
    (λ i n. (let z : i < k = rw (length_part k text p l) at n in get_d_part k text p i z ∙ a.same i (omega (arith, a.within)) ∙ sym (get_d_part k text q i z))))

pub alike-not : (text : List ℕ) (k p q j : ℕ) → j < k → (get_or text (p + j) 0 ≡ get_or text (q + j) 0 → ⊥) → false ≡ eq_list (part k text p) (part k text q)
alike-not text k p q j h e =
    sym (eq_list-no (part k text p) (part k text q) j (λ z. e (sym (get_d_part k text p j h) ∙ z ∙ get_d_part k text q j h)))

pub with-length : (k : ℕ) (text vs : List ℕ) (n q w : ℕ) → w ≡ number_of (kmers_of k text vs n) (part k text q) → w ≡ n → length (with_kmer (kmers_of k text vs n) (part k text q)) ≡ n + 1
with-length k text vs n q w e z =
    ap length (with-yes (kmers_of k text vs n) (part k text q) (sym e ∙ z ∙ sym (length-of k text vs n))) ∙ length-append (kmers_of k text vs n) (part k text q ∷ [])
    ∙ (let y = length-of k text vs n in omega arith)

pub position-le : {A : Type 0} (p : A → Bool) (l : List A) → position p l ≤ length l
position-le p [] = omega arith
position-le p (x ∷ l) = go (p x) refl (position-le p l)
  where
    go : (t : Bool) → p x ≡ t → position p l ≤ length l → position p (x ∷ l) ≤ suc (length l)
    go true e ih = let z : position p (x ∷ l) ≡ 0 = rw (e, position) in omega arith
    go false e ih = let z : position p (x ∷ l) ≡ suc (position p l) = rw (e, position) in omega arith

pub number-le : (k : ℕ) (text vs : List ℕ) (n q : ℕ) → number_of (kmers_of k text vs n) (part k text q) ≤ n
unfolding number_of
number-le k text vs n q = let z = position-le (λ y. eq_list y (part k text q)) (kmers_of k text vs n) in let y = length-of k text vs n in omega arith

pub with-grows : (ks : List (List ℕ)) (x : List ℕ) → length ks ≤ length (with_kmer ks x)
with-grows ks x = go (ℕ_discrete (number_of ks x) (length ks))
  where
    go : Dec (number_of ks x ≡ length ks) → length ks ≤ length (with_kmer ks x)
    go (yes e) = rw (with-yes ks x e) (let z = length-append ks (x ∷ []) in omega arith)
    go (no e) = rw (with-no ks x e) (omega arith)
