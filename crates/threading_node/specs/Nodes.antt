-- The node table as a numbered tree: what the table's links hold, and the two changes of it. A slot is a number from 1; slot 0 stands for the place
-- whose children are the roots.
use Rattle.std.specs.Prelude.{◌≡◌, refl, Bool, true, false, cond, List, [], ◌∷◌, ◌++◌, ℕ, suc, ◌+◌, ◌<◌, ◌≤◌}
use Rattle.std.proofs.Common.{sym}
use Prim.Native.Nat.{Ordering}
use Rattle.definition.specs.Threading.{Ends, compare_ends, eq_ends}
use Rattle.threading_node.specs.Ends.{lt_trans, gt-lt, lt-ne, eq-same, eq_ends-self, eq_ends-ne}
use Rattle.laws.specs.Lists.{is_empty}
use Rattle.definition.specs.Evidence.{Branches, bare, branch}

-- where an edge stands in a row of siblings, or between which slots it is to stand: 0 is before the first, and after the last
pub data Place : Type 0 where
  Here : ℕ → Place
  Between : ℕ → ℕ → Place

-- number, edge, count, the branches below, the branches after
pub data Nodes : Type 0 where
  nil : Nodes
  node : ℕ → Ends → ℕ → Nodes → Nodes → Nodes

unfoldable pub erase : Nodes → Branches
erase nil = bare
erase (node i f c b x) = branch f c (erase b) (erase x)

unfoldable pub size : Nodes → ℕ
size nil = 0
size (node i f c b x) = suc (size b + size x)

-- the child for e gains m; a new one has the number k
unfoldable pub reach_n : ℕ → Ends → ℕ → Nodes → Nodes
reach_n m e k nil = node k e m nil nil
reach_n m e k (node i f c b x) =
    elim (compare_ends e f) [
      | Ordering.lt ↦ node k e m nil (node i f c b x)
      | Ordering.eq ↦ node i f (c + m) b x
      | Ordering.gt ↦ node i f c b (reach_n m e k x)
    ]

-- the node at the path, and its child for e, gain m
unfoldable pub take_n : ℕ → Ends → ℕ → Nodes → List Ends → Nodes
take_n m e k nil [] = reach_n m e k nil
take_n m e k nil (d ∷ p) = nil
take_n m e k (node i f c b x) [] = reach_n m e k (node i f c b x)
take_n m e k (node i f c b x) (d ∷ p) =
    elim (eq_ends d f) [ true ↦ node i f (cond (is_empty p) (c + m) c) (take_n m e k b p) x | false ↦ node i f c b (take_n m e k x (d ∷ p)) ]

-- where the child for e stands among these, or is to stand: after which slot (0: first), before which (0: last)
unfoldable pub seek_n : Ends → ℕ → Nodes → Place
seek_n e prev nil = Between prev 0
seek_n e prev (node i f c b x) = elim (compare_ends e f) [ Ordering.lt ↦ Between prev i | Ordering.eq ↦ Here i | Ordering.gt ↦ seek_n e i x ]

-- the link to the first of them, after the change
unfoldable pub head_link : Ends → ℕ → ℕ → Nodes → ℕ
head_link e k l nil = k
head_link e k l (node i f c b x) = elim (compare_ends e f) [ Ordering.lt ↦ k | Ordering.eq ↦ l | Ordering.gt ↦ l ]

-- the slot of the child for e, after the change
unfoldable pub landed : Ends → ℕ → Nodes → ℕ
landed e k nil = k
landed e k (node i f c b x) = elim (compare_ends e f) [ Ordering.lt ↦ k | Ordering.eq ↦ i | Ordering.gt ↦ landed e k x ]

-- from the node q, whose branches these are, the path leads to the slot
pub data At : Nodes → ℕ → List Ends → ℕ → Type 0 where
  here : {t : Nodes} {q : ℕ} → At t q [] q
  down : {i c q k : ℕ} {f : Ends} {b x : Nodes} {p : List Ends} → At b i p k → At (node i f c b x) q (f ∷ p) k
  along : {i c q k : ℕ} {f d : Ends} {b x : Nodes} {p : List Ends} → eq_ends d f ≡ false → At x q (d ∷ p) k → At (node i f c b x) q (d ∷ p) k

unfoldable pub kids_at : {t : Nodes} {q k : ℕ} {p : List Ends} → At t q p k → Nodes
kids_at (here {t = t}) = t
kids_at (down a) = kids_at a
kids_at (along h a) = kids_at a

-- every edge among these comes after e
unfoldable pub Above : Ends → Nodes → Type 0
Above e nil = Unit {0}
Above e (node i f c b x) = (compare_ends e f ≡ Ordering.lt) × Above e x

unfoldable pub Rising : Nodes → Type 0
Rising nil = Unit {0}
Rising (node i f c b x) = Above f x × Rising b × Rising x

-- the table's columns
pub record Fields : Type 0 where
  pub from : ℕ → ℕ
  pub to : ℕ → ℕ
  pub count : ℕ → ℕ
  pub kid : ℕ → ℕ
  pub next : ℕ → ℕ

pub record Cell (f : Fields) (n l i : ℕ) (e : Ends) (c : ℕ) : Type 0 where
  pub is : l ≡ i
  pub some : 0 < i
  pub live : i ≤ n
  pub from : f.from i ≡ e.from
  pub to : f.to i ≡ e.to
  pub count : f.count i ≡ c

-- the link leads to these branches, all of them in slots up to n
unfoldable pub Links : Fields → ℕ → ℕ → Nodes → Type 0
Links f n l nil = l ≡ 0
Links f n l (node i e c b x) = Cell f n l i e c × Links f n (f.kid i) b × Links f n (f.next i) x

-- each slot's path, below the node with the path π
unfoldable pub Own : (ℕ → List Ends) → List Ends → Nodes → Type 0
Own own π nil = Unit {0}
Own own π (node i e c b x) = (own i ≡ π ++ e ∷ []) × Own own (π ++ e ∷ []) b × Own own π x

-- ---- the cases of a comparison, as laws

module _ (m : ℕ) (e : Ends) (k i : ℕ) (f : Ends) (c : ℕ) (b x : Nodes) where
  pub reach_n-lt : compare_ends e f ≡ Ordering.lt → reach_n m e k (node i f c b x) ≡ node k e m nil (node i f c b x)
  unfolding reach_n
  reach_n-lt h = rw (h, reach_n)

  pub reach_n-eq : compare_ends e f ≡ Ordering.eq → reach_n m e k (node i f c b x) ≡ node i f (c + m) b x
  unfolding reach_n
  reach_n-eq h = rw (h, reach_n)

  pub reach_n-gt : compare_ends e f ≡ Ordering.gt → reach_n m e k (node i f c b x) ≡ node i f c b (reach_n m e k x)
  unfolding reach_n
  reach_n-gt h = rw (h, reach_n)

pub take_n-here : (m : ℕ) (e : Ends) (k : ℕ) (t : Nodes) → take_n m e k t [] ≡ reach_n m e k t
unfolding take_n
take_n-here m e k nil = refl
take_n-here m e k (node i f c b x) = refl

module _ (m : ℕ) (e : Ends) (k i : ℕ) (f : Ends) (c : ℕ) (b x : Nodes) (d : Ends) (p : List Ends) where
  pub take_n-down : eq_ends d f ≡ true → take_n m e k (node i f c b x) (d ∷ p) ≡ node i f (cond (is_empty p) (c + m) c) (take_n m e k b p) x
  unfolding take_n
  take_n-down h = rw (h, take_n)

  pub take_n-along : eq_ends d f ≡ false → take_n m e k (node i f c b x) (d ∷ p) ≡ node i f c b (take_n m e k x (d ∷ p))
  unfolding take_n
  take_n-along h = rw (h, take_n)

-- ---- order is kept

pub above-less : (e f : Ends) (t : Nodes) → compare_ends e f ≡ Ordering.lt → Above f t → Above e t
unfolding Above
above-less e f nil h a = tt
above-less e f (node i g c b x) h a = (lt_trans e f g h a.0, above-less e f x h a.1)

above-reach : (m : ℕ) (e : Ends) (k : ℕ) (d : Ends) (t : Nodes) → compare_ends d e ≡ Ordering.lt → Above d t → Above d (reach_n m e k t)
unfolding Above reach_n
above-reach m e k d nil h a = (h, tt)
above-reach m e k d (node i f c b x) h a = go (compare_ends e f) refl (above-reach m e k d x h a.1)
  where
    go : (o : Ordering) → compare_ends e f ≡ o → Above d (reach_n m e k x) → Above d (reach_n m e k (node i f c b x))
    go Ordering.lt q ih = rw (reach_n-lt m e k i f c b x q) (h, a)
    go Ordering.eq q ih = rw (reach_n-eq m e k i f c b x q) a
    go Ordering.gt q ih = rw (reach_n-gt m e k i f c b x q) (a.0, ih)

pub rising-reach : (m : ℕ) (e : Ends) (k : ℕ) (t : Nodes) → Rising t → Rising (reach_n m e k t)
unfolding Rising Above reach_n
rising-reach m e k nil r = (tt, tt, tt)
rising-reach m e k (node i f c b x) r = go (compare_ends e f) refl (rising-reach m e k x r.2)
  where
    go : (o : Ordering) → compare_ends e f ≡ o → Rising (reach_n m e k x) → Rising (reach_n m e k (node i f c b x))
    go Ordering.lt q ih = rw (reach_n-lt m e k i f c b x q) ((q, above-less e f x q r.0), tt, r)
    go Ordering.eq q ih = rw (reach_n-eq m e k i f c b x q) r
    go Ordering.gt q ih = rw (reach_n-gt m e k i f c b x q) (above-reach m e k f x (gt-lt e f q) r.0, r.1, ih)

-- a change at a path that goes on changes no edge of the first row
above-take : (m : ℕ) (e : Ends) (k : ℕ) (d : Ends) (t : Nodes) (g : Ends) (p : List Ends) → Above d t → Above d (take_n m e k t (g ∷ p))
unfolding Above take_n
above-take m e k d nil g p a = tt
above-take m e k d (node i f c b x) g p a = go (eq_ends g f) refl (above-take m e k d x g p a.1)
  where
    go : (o : Bool) → eq_ends g f ≡ o → Above d (take_n m e k x (g ∷ p)) → Above d (take_n m e k (node i f c b x) (g ∷ p))
    go true q ih = rw (take_n-down m e k i f c b x g p q) a
    go false q ih = rw (take_n-along m e k i f c b x g p q) (a.0, ih)

pub rising-take : (m : ℕ) (e : Ends) (k : ℕ) (t : Nodes) (p : List Ends) → Rising t → Rising (take_n m e k t p)
unfolding Rising take_n
rising-take m e k nil [] r = rising-reach m e k nil r
rising-take m e k nil (d ∷ p) r = tt
rising-take m e k (node i f c b x) [] r = rising-reach m e k (node i f c b x) r
rising-take m e k (node i f c b x) (d ∷ p) r = go (eq_ends d f) refl (rising-take m e k b p r.1) (rising-take m e k x (d ∷ p) r.2)
  where
    go : (o : Bool) → eq_ends d f ≡ o → Rising (take_n m e k b p) → Rising (take_n m e k x (d ∷ p)) → Rising (take_n m e k (node i f c b x) (d ∷ p))
    go true q ihb ihx = rw (take_n-down m e k i f c b x d p q) (r.0, ihb, r.2)
    go false q ihb ihx = rw (take_n-along m e k i f c b x d p q) (above-take m e k f x d p r.0, r.1, ihx)

-- ---- paths are kept, and a new one is made

pub at_above : (f d : Ends) {t : Nodes} {q k : ℕ} {p : List Ends} → At t q (d ∷ p) k → Above f t → compare_ends f d ≡ Ordering.lt
unfolding Above
at_above f d (down a) v = v.0
at_above f d (along h a) v = at_above f d a v.1

pub at-reach : (m : ℕ) (e : Ends) (k : ℕ) {t : Nodes} {q l : ℕ} {p : List Ends} → At t q p l → Rising t → At (reach_n m e k t) q p l
unfolding Rising
at-reach m e k here r = here
at-reach m e k (down {i = i} {c = c} {q = q} {k = l} {f = f} {b = b} {x = x} {p = p} a) r = go (compare_ends e f) refl
  where
    go : (o : Ordering) → compare_ends e f ≡ o → At (reach_n m e k (node i f c b x)) q (f ∷ p) l
    go Ordering.lt h = rw (reach_n-lt m e k i f c b x h) (along (eq_ends-ne f e (λ z. lt-ne e f h (sym z))) (down a))
    go Ordering.eq h = rw (reach_n-eq m e k i f c b x h) (down a)
    go Ordering.gt h = rw (reach_n-gt m e k i f c b x h) (down a)
at-reach m e k (along {i = i} {c = c} {q = q} {k = l} {f = f} {d = d} {b = b} {x = x} {p = p} n a) r = go (compare_ends e f) refl (at-reach m e k a r.2)
  where
    go : (o : Ordering) → compare_ends e f ≡ o → At (reach_n m e k x) q (d ∷ p) l → At (reach_n m e k (node i f c b x)) q (d ∷ p) l
    go Ordering.lt h ih = rw (reach_n-lt m e k i f c b x h) (along (eq_ends-ne d e (λ z. lt-ne e d (lt_trans e f d h (at_above f d a r.0)) (sym z))) (along n a))
    go Ordering.eq h ih = rw (reach_n-eq m e k i f c b x h) (along n a)
    go Ordering.gt h ih = rw (reach_n-gt m e k i f c b x h) (along n ih)

pub at_take : (m : ℕ) (e : Ends) (k : ℕ) (s : List Ends) {t : Nodes} {q l : ℕ} {p : List Ends} → At t q p l → Rising t → At (take_n m e k t s) q p l
unfolding Rising
at_take m e k [] {t} a r = rw take_n-here (at-reach m e k a r)
at_take m e k (d ∷ s) here r = here
at_take m e k (d ∷ s) (down {i = i} {c = c} {q = q} {k = l} {f = f} {b = b} {x = x} {p = p} a) r = go (eq_ends d f) refl (at_take m e k s a r.1)
  where
    go : (o : Bool) → eq_ends d f ≡ o → At (take_n m e k b s) i p l → At (take_n m e k (node i f c b x) (d ∷ s)) q (f ∷ p) l
    go true h ih = rw (take_n-down m e k i f c b x d s h) (down ih)
    go false h ih = rw (take_n-along m e k i f c b x d s h) (down a)
at_take m e k (d ∷ s) (along {i = i} {c = c} {q = q} {k = l} {f = f} {d = g} {b = b} {x = x} {p = p} n a) r = go (eq_ends d f) refl (at_take m e k (d ∷ s) a r.2)
  where
    go : (o : Bool) → eq_ends d f ≡ o → At (take_n m e k x (d ∷ s)) q (g ∷ p) l → At (take_n m e k (node i f c b x) (d ∷ s)) q (g ∷ p) l
    go true h ih = rw (take_n-down m e k i f c b x d s h) (along n a)
    go false h ih = rw (take_n-along m e k i f c b x d s h) (along n ih)

pub at-landed : (m : ℕ) (e : Ends) (k : ℕ) (q : ℕ) (t : Nodes) → At (reach_n m e k t) q (e ∷ []) (landed e k t)
unfolding reach_n landed
at-landed m e k q nil = down here
at-landed m e k q (node i f c b x) = go (compare_ends e f) refl (at-landed m e k q x)
  where
    same : (f : Ends) → e ≡ f → At (node i f (c + m) b x) q (e ∷ []) i
    same f z = rw z (down here)

    go : (o : Ordering) → compare_ends e f ≡ o → At (reach_n m e k x) q (e ∷ []) (landed e k x) → At (reach_n m e k (node i f c b x)) q (e ∷ []) (landed e k (node i f c b x))
    go Ordering.lt h ih = rw (h, reach_n, landed) (down here)
    go Ordering.eq h ih = rw (h, reach_n, landed) (same f (eq-same e f h))
    go Ordering.gt h ih = rw (h, reach_n, landed) (along (eq_ends-ne e f (λ z. lt-ne f e (gt-lt e f h) (sym z))) ih)

-- the node that the path leads to has, after the change, the child for e
pub at_new : (m : ℕ) (e : Ends) (k : ℕ) {t : Nodes} {q l : ℕ} {p : List Ends} (a : At t q p l) → At (take_n m e k t p) q (p ++ e ∷ []) (landed e k (kids_at a))
unfolding kids_at
at_new m e k (here {t = t} {q = q}) = rw take_n-here (at-landed m e k q t)
at_new m e k (down {i = i} {c = c} {q = q} {k = l} {f = f} {b = b} {x = x} {p = p} a) = rw (take_n-down m e k i f c b x f p (eq_ends-self f)) (down (at_new m e k a))
at_new m e k (along {i = i} {c = c} {q = q} {k = l} {f = f} {d = d} {b = b} {x = x} {p = p} n a) = rw (take_n-along m e k i f c b x d p n) (along n (at_new m e k a))
