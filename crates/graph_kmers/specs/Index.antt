-- The index of kmers. Its first half holds for each bucket the last vertex of it, its second half for each vertex the last one before it of the same bucket;
-- numbers plus 1, 0 for none. Assumes nothing.
use Rattle.std.specs.Prelude.{◌≡◌, refl, ◌≢◌, Bool, true, false, Option, None, Some, SomeIff, ℕ, zero, suc, ◌+◌, ◌-◌, ◌*◌, ◌/◌, ◌%◌, ◌<◌, ◌≤◌, ltb, get_or, set}
use Rattle.std.proofs.Common.{sym, ap, ◌∙◌, arith, mod-lt, ltb-true, ltb-false, length-append, get_or-set_same, get_or-set_other, List, [], ◌∷◌, ◌++◌}
use Rattle.std.proofs.Math.Decide.{ℕ_discrete}
use Rattle.std.proofs.Math.ListN.{length, length-set, get_or-append}
use Rattle.std.proofs.lemmas.List.{get_or_at}
use Rattle.laws.specs.Lists.{position}
use Rattle.laws.specs.Numbers.{eq_list, eq_list-true, eq_list-self}
use Rattle.laws.specs.Rows.{get_d_rows}
use Rattle.definition.specs.Threading.{number_of}
use Rattle.assembly.specs.Fields.{HasVertices, slot_of, kmer_place}
use Rattle.assembly.specs.Store.{kmers_of, kmer_at}
use Rattle.assembly.specs.Kmers.{part, get_d_part, length-of, number-here, number-none}

-- ---- the bucket of a kmer
-- what the first j bytes are hashed to
pub hash_up : List ℕ → ℕ → ℕ
hash_up x zero = 0
hash_up x (suc j) = (hash_up x j * 31 + get_or x j 0) % 4294967296

pub hash-0 : (x : List ℕ) → 0 ≡ hash_up x 0
unfolding hash_up
hash-0 x = refl

pub hash-next : (k : ℕ) (text : List ℕ) (q j h b : ℕ) → j < k → h ≡ hash_up (part k text q) j → b ≡ get_or text (q + j) 0
    → (h * 31 + b) % 4294967296 ≡ hash_up (part k text q) (j + 1)
unfolding hash_up
hash-next k text q j h b l e d =
    let n : j + 1 ≡ suc j = omega arith in
    rw (n, hash_up, get_d_part k text q j l, ← e, ← d)

unfoldable pub bucket_of : ℕ → ℕ → List ℕ → ℕ
bucket_of k size x = hash_up x k % size

pub bucket-lt : (k size : ℕ) (x : List ℕ) → 0 < size → bucket_of k size x < size
unfolding bucket_of
bucket-lt k size x h = mod-lt (hash_up x k) h

-- ---- what an index holds
-- c is the last vertex before m of the bucket h, plus 1, or 0
pub record Last (k size : ℕ) (ks : List (List ℕ)) (m h c : ℕ) : Type 0 where
  pub below : c ≤ m
  pub its : 0 < c → bucket_of k size (get_or ks (c - 1) []) ≡ h
  pub none : (w : ℕ) → c ≤ w → w < m → bucket_of k size (get_or ks w []) ≢ h

pub record Sized (k size : ℕ) (ks : List (List ℕ)) (idx : List ℕ) : Type 0 where
  pub room : length ks ≤ size
  pub heads : (h : ℕ) → h < size → Last k size ks (length ks) h (get_or idx h 0)
  pub nexts : (v : ℕ) → v < length ks → Last k size ks v (bucket_of k size (get_or ks v [])) (get_or idx (size + v) 0)
  pub apart : (v w : ℕ) → v < w → w < length ks → get_or ks v [] ≢ get_or ks w []

abbrev pub size_of : List ℕ → ℕ
size_of idx = length idx / 2

-- the index has the kmers, which are all different
abbrev pub Indexed : ℕ → List (List ℕ) → List ℕ → Type 0
Indexed k ks idx = Sized k (size_of idx) ks idx

pub index-empty : (k : ℕ) (idx : List ℕ) → ((i : ℕ) → get_or idx i 0 ≡ 0) → Indexed k [] idx
index-empty k idx z =
    record {
      room = omega arith;
      heads = λ h l. rw (z h) (record { below = omega arith; its = λ p. absurd (omega arith); none = λ w a b. absurd (omega arith) });
      nexts = λ v l. absurd (omega arith);
      apart = λ v w a b. absurd (omega arith);
    }

-- the first place where p holds is no later than any
pub position_first : {A : Type 0} (p : A → Bool) (d : A) (l : List A) (v : ℕ) → v < length l → p (get_or l v d) ≡ true → position p l ≤ v
position_first p d [] v h e = absurd (omega arith)
position_first p d (y ∷ l) v h e = go (p y) refl v h e (λ u a b. position_first p d l u a b)
  where
    go : (t : Bool) → p y ≡ t → (v : ℕ) → v < suc (length l) → p (get_or (y ∷ l) v d) ≡ true → ((u : ℕ) → u < length l → p (get_or l u d) ≡ true → position p l ≤ u) → position p (y ∷ l) ≤ v
    go true c v a b ih = let z : position p (y ∷ l) ≡ 0 = rw (c, position) in omega arith
    go false c zero a b ih = absurd (let z : ◌≡◌ {A = ℕ} 0 1 = cc in omega arith)
    go false c (suc u) a b ih = let z : position p (y ∷ l) ≡ suc (position p l) = rw (c, position) in let w = ih u (omega arith) b in omega arith

-- ---- the lookup
differ : (k size : ℕ) (y x : List ℕ) → bucket_of k size y ≢ bucket_of k size x → eq_list y x ≡ false
differ k size y x n = go (eq_list y x) refl
  where
    go : (t : Bool) → eq_list y x ≡ t → t ≡ false
    go true e = absurd (n (ap (bucket_of k size) (eq_list-true y x e)))
    go false e = refl

-- the vertices left to compare are those of x's bucket below c
pub record Walks (k size : ℕ) (ks : List (List ℕ)) (x : List ℕ) (c : ℕ) : Type 0 where
  pub below : c ≤ length ks
  pub its : 0 < c → bucket_of k size (get_or ks (c - 1) []) ≡ bucket_of k size x
  pub none : (w : ℕ) → c ≤ w → w < length ks → eq_list (get_or ks w []) x ≡ false

module _ {k size : ℕ} {ks : List (List ℕ)} {idx : List ℕ} (i : Sized k size ks idx) (x : List ℕ) where
  pub walk_start : 0 < size → Walks k size ks x (get_or idx (bucket_of k size x) 0)
  walk_start p =
      let l = i.heads (bucket_of k size x) (bucket-lt k size x p) in
      record { below = l.below; its = l.its; none = λ w a b. differ k size (get_or ks w []) x (l.none w a b) }

  -- v is the last of them
  module _ (v : ℕ) (u : Walks k size ks x (v + 1)) where
    the-next : Last k size ks v (bucket_of k size (get_or ks v [])) (get_or idx (size + v) 0)
    the-next = i.nexts v (let z = u.below in omega arith)

    its-bucket : bucket_of k size (get_or ks v []) ≡ bucket_of k size x
    its-bucket = let z : v + 1 - 1 ≡ v = omega arith in rw z at (u.its (omega arith))

    pub walk-next : eq_list (get_or ks v []) x ≡ false → Walks k size ks x (get_or idx (size + v) 0)
    walk-next e =
        record {
          below = (let z = the-next.below in let y = u.below in omega arith);
          its = λ q. the-next.its q ∙ its-bucket;
          none = λ w a b. go w a b (ltb w v) refl (ℕ_discrete w v);
        }
      where
        go : (w : ℕ) → get_or idx (size + v) 0 ≤ w → w < length ks → (t : Bool) → ltb w v ≡ t → Dec (w ≡ v) → eq_list (get_or ks w []) x ≡ false
        go w a b true l d = differ k size (get_or ks w []) x (λ y. the-next.none w a (ltb-true w v l) (y ∙ sym its-bucket))
        go w a b false l (yes z) = rw z e
        go w a b false l (no z) = u.none w (let y = ltb-false w v l in omega arith) b

-- the number in a slot, as the lookup takes it
pub slot-is : (o : Option ℕ) (x : ℕ) → SomeIff o (1 ≤ x) (x - 1) → x ≡ slot_of o
slot-is None x h = let z : 1 ≤ x → ⊥ = h in omega arith
slot-is (Some v) x h = let z = h.0 in let y = h.1 in omega arith

-- what a lookup among n vertices answers: the number w, which is n where there is none
abbrev pub Found : ℕ → ℕ → Option ℕ → Type 0
Found n w (Some v) = (v ≡ w) × (v < n)
Found n w None = n ≡ w

-- what is found is the number: there is no other vertex of the kmer
module _ {k size : ℕ} (text vs : List ℕ) {idx : List ℕ} (n : ℕ) (i : Sized k size (kmers_of k text vs n) idx) (q : ℕ) where
  kmer-is : (w : ℕ) → w < n → get_or (kmers_of k text vs n) w [] ≡ kmer_at k text vs w
  unfolding kmers_of
  kmer-is w h = get_d_rows (kmer_at k text vs) n w [] h

  pub walk_none : Walks k size (kmers_of k text vs n) (part k text q) 0 → n ≡ number_of (kmers_of k text vs n) (part k text q)
  walk_none u = number-none k text vs n q (record { none = λ j h. rw (← kmer-is j h) (u.none j (omega arith) (rw (length-of k text vs n) h)) })

  module _ (v : ℕ) (u : Walks k size (kmers_of k text vs n) (part k text q) (v + 1)) where
    pub walk-in : v < n
    walk-in = let z = u.below in let y = length-of k text vs n in omega arith

    pub walk-found : eq_list (kmer_at k text vs v) (part k text q) ≡ true → v ≡ number_of (kmers_of k text vs n) (part k text q)
    walk-found e = number-here k text vs n q v (record { none = λ j h. go j h (eq_list (kmer_at k text vs j) (part k text q)) refl }) walk-in e
      where
        go : (j : ℕ) → j < v → (t : Bool) → eq_list (kmer_at k text vs j) (part k text q) ≡ t → t ≡ false
        go j h true d =
            absurd (i.apart j v h (rw (length-of k text vs n) walk-in)
            (kmer-is j (let z = walk-in in omega arith) ∙ eq_list-true (kmer_at k text vs j) (part k text q) d ∙ sym (eq_list-true (kmer_at k text vs v) (part k text q) e) ∙ sym (kmer-is v walk-in)))
        go j h false d = refl

    -- the comparison's answer in the walk's words
    pub walk-on : eq_list (kmer_at k text vs v) (part k text q) ≡ false → Walks k size (kmers_of k text vs n) (part k text q) (get_or idx (size + v) 0)
    walk-on e = walk-next i (part k text q) v u (rw (kmer-is v walk-in) e)

-- what a lookup asks
pub record Finds (k : ℕ) (text vs idx : List ℕ) (n q : ℕ) : Type 0 where
  pub inside : q + k ≤ length text
  pub rows : HasVertices vs n
  pub fits : (v : ℕ) → v < n → kmer_place vs v + k ≤ length text
  pub buckets : 0 < size_of idx
  pub indexed : Indexed k (kmers_of k text vs n) idx

-- the index has the kmers of the first n vertices of a table
pub record Finding (k : ℕ) (text vs idx : List ℕ) (n : ℕ) : Type 0 where
  pub buckets : 0 < size_of idx
  pub indexed : Indexed k (kmers_of k text vs n) idx

pub finding-finds : {k : ℕ} {text vs idx : List ℕ} {n : ℕ} (q : ℕ) → Finding k text vs idx n → (q + k ≤ length text) × (HasVertices vs n) × ((v : ℕ) → v < n → kmer_place vs v + k ≤ length text)
    → Finds k text vs idx n q
finding-finds q f a = record { inside = a.0; rows = a.1; fits = a.2; buckets = f.buckets; indexed = f.indexed }

-- ---- a kmer more
-- a kmer that a vertex has is numbered
number-first : (ks : List (List ℕ)) (x : List ℕ) (v : ℕ) → v < length ks → get_or ks v [] ≡ x → number_of ks x ≤ v
unfolding number_of
number-first ks x v l e = position_first (λ y. eq_list y x) [] ks v l (rw e (eq_list-self x))

unfoldable pub entered : List ℕ → ℕ → ℕ → List ℕ
entered idx n h = set (set idx (size_of idx + n) (get_or idx h 0)) h (n + 1)

pub length-entered : (idx : List ℕ) (n h : ℕ) → length (entered idx n h) ≡ length idx
unfolding entered
length-entered idx n h = length-set (set idx (size_of idx + n) (get_or idx h 0)) h (n + 1) ∙ length-set idx (size_of idx + n) (get_or idx h 0)

module _ (k : ℕ) (ks : List (List ℕ)) (idx : List ℕ) (x : List ℕ) (i : Indexed k ks idx) (new : number_of ks x ≡ length ks) (room : length ks < size_of idx) where
  h-lt : bucket_of k (size_of idx) x < size_of idx
  h-lt = bucket-lt k (size_of idx) x (omega arith)

  old : (w : ℕ) → w < length ks → get_or (ks ++ (x ∷ [])) w [] ≡ get_or ks w []
  old w l = get_or-append ks (x ∷ []) [] w l

  here : get_or (ks ++ (x ∷ [])) (length ks) [] ≡ x
  here = get_or_at ks x [] [] (length ks) refl

  more : length (ks ++ (x ∷ [])) ≡ length ks + 1
  more = length-append ks (x ∷ [])

  -- of the vertices before m nothing changes
  last-old : (m b c : ℕ) → m ≤ length ks → Last k (size_of idx) ks m b c → Last k (size_of idx) (ks ++ (x ∷ [])) m b c
  last-old m b c l a =
      record {
        below = a.below;
        its = λ p. rw (old (c - 1) (let z = a.below in omega arith)) (a.its p);
        none = λ w s t. rw (old w (omega arith)) (a.none w s t);
      }

  last_more : (b c : ℕ) → b ≢ bucket_of k (size_of idx) x → Last k (size_of idx) ks (length ks) b c → Last k (size_of idx) (ks ++ (x ∷ [])) (length ks + 1) b c
  last_more b c d a =
      record {
        below = (let z = a.below in omega arith);
        its = (last-old (length ks) b c (omega arith) a).its;
        none = λ w s t. go w s t (ℕ_discrete w (length ks));
      }
    where
      go : (w : ℕ) → c ≤ w → w < length ks + 1 → Dec (w ≡ length ks) → bucket_of k (size_of idx) (get_or (ks ++ (x ∷ [])) w []) ≢ b
      go w s t (yes z) = rw (z, here) (λ e. d (sym e))
      go w s t (no z) = (last-old (length ks) b c (omega arith) a).none w s (omega arith)

  last-new : Last k (size_of idx) (ks ++ (x ∷ [])) (length ks + 1) (bucket_of k (size_of idx) x) (length ks + 1)
  last-new =
      record {
        below = omega arith;
        its = λ p. (let z : length ks + 1 - 1 ≡ length ks = omega arith in rw (z, here));
        none = λ w s t. absurd (omega arith);
      }

  abbrev first : List ℕ
  first = set idx (size_of idx + length ks) (get_or idx (bucket_of k (size_of idx) x) 0)

  abbrev both : List ℕ
  both = set (set idx (size_of idx + length ks) (get_or idx (bucket_of k (size_of idx) x) 0)) (bucket_of k (size_of idx) x) (length ks + 1)

  head-new : get_or both (bucket_of k (size_of idx) x) 0 ≡ length ks + 1
  head-new = get_or-set_same first (bucket_of k (size_of idx) x) (length ks + 1) 0 (rw (length-set idx (size_of idx + length ks) (get_or idx (bucket_of k (size_of idx) x) 0)) (let z = h-lt in omega arith))

  head-old : (b : ℕ) → b < size_of idx → b ≢ bucket_of k (size_of idx) x → get_or both b 0 ≡ get_or idx b 0
  head-old b l d =
      get_or-set_other first (bucket_of k (size_of idx) x) b (length ks + 1) 0 d
      ∙ get_or-set_other idx (size_of idx + length ks) b (get_or idx (bucket_of k (size_of idx) x) 0) 0 (omega arith)

  next-new : get_or both (size_of idx + length ks) 0 ≡ get_or idx (bucket_of k (size_of idx) x) 0
  next-new =
      get_or-set_other first (bucket_of k (size_of idx) x) (size_of idx + length ks) (length ks + 1) 0 (let z = h-lt in omega arith)
      ∙ get_or-set_same idx (size_of idx + length ks) (get_or idx (bucket_of k (size_of idx) x) 0) 0 (omega arith)

  next-old : (v : ℕ) → v < length ks → get_or both (size_of idx + v) 0 ≡ get_or idx (size_of idx + v) 0
  next-old v l =
      get_or-set_other first (bucket_of k (size_of idx) x) (size_of idx + v) (length ks + 1) 0 (let z = h-lt in omega arith)
      ∙ get_or-set_other idx (size_of idx + length ks) (size_of idx + v) (get_or idx (bucket_of k (size_of idx) x) 0) 0 (omega arith)

  not_in : (v : ℕ) → v < length ks → get_or ks v [] ≢ x
  not_in v l e = let z = number-first ks x v l e in omega arith

  both-indexed : Sized k (size_of idx) (ks ++ (x ∷ [])) both
  both-indexed =
      record {
        room = rw more (omega arith);
        heads = λ b l. rw more (head b l (ℕ_discrete b (bucket_of k (size_of idx) x)));
        nexts = λ v l. next v (rw more at l) (ℕ_discrete v (length ks));
        apart = λ v w a l. apart' v w a (rw more at l) (ℕ_discrete w (length ks));
      }
    where
      head : (b : ℕ) → b < size_of idx → Dec (b ≡ bucket_of k (size_of idx) x) → Last k (size_of idx) (ks ++ (x ∷ [])) (length ks + 1) b (get_or both b 0)
      head b l (yes z) = rw (z, head-new) last-new
      head b l (no z) = rw (head-old b l z) (last_more b (get_or idx b 0) z (i.heads b l))

      next : (v : ℕ) → v < length ks + 1 → Dec (v ≡ length ks) → Last k (size_of idx) (ks ++ (x ∷ [])) v (bucket_of k (size_of idx) (get_or (ks ++ (x ∷ [])) v [])) (get_or both (size_of idx + v) 0)
      next v l (yes z) = rw (z, here, next-new) (last-old (length ks) (bucket_of k (size_of idx) x) (get_or idx (bucket_of k (size_of idx) x) 0) (omega arith) (i.heads (bucket_of k (size_of idx) x) h-lt))
      next v l (no z) = rw (old v (omega arith), next-old v (omega arith)) (last-old v (bucket_of k (size_of idx) (get_or ks v [])) (get_or idx (size_of idx + v) 0) (omega arith) (i.nexts v (omega arith)))

      apart' : (v w : ℕ) → v < w → w < length ks + 1 → Dec (w ≡ length ks) → get_or (ks ++ (x ∷ [])) v [] ≢ get_or (ks ++ (x ∷ [])) w []
      apart' v w a l (yes z) = rw (z, here, old v (omega arith)) (not_in v (omega arith))
      apart' v w a l (no z) = rw (old v (omega arith), old w (omega arith)) (i.apart v w a (omega arith))

  entered-indexed : Indexed k (ks ++ (x ∷ [])) (entered idx (length ks) (bucket_of k (size_of idx) x))
  unfolding entered
  entered-indexed = rw (length-set first (bucket_of k (size_of idx) x) (length ks + 1), length-set idx (size_of idx + length ks) (get_or idx (bucket_of k (size_of idx) x) 0)) both-indexed

  pub entered_at : (n b : ℕ) → n ≡ length ks → b ≡ bucket_of k (size_of idx) x → Indexed k (ks ++ (x ∷ [])) (entered idx n b)
  entered_at n b e d = rw (e, d) entered-indexed
