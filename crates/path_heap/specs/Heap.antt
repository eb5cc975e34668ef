-- The heap of waiting paths by their scores: what its functions say, and how it goes with the definition's insertion.
use Rattle.std.specs.Prelude.{◌≡◌, Bool, not, List, [], ◌∷◌, ℕ, ◌+◌, ◌-◌, ◌<◌, length, get_or, drop, Float}
use Rattle.std.specs.Float.{nan}
use Rattle.std.specs.Float.Ieee.{lt}
use Rattle.laws.specs.ListLaws.{All, all_head, all_tail}
use Rattle.laws.specs.Insertion.{insert, all_insert}
use Rattle.laws.specs.Sorting.{sorted_to, sorted_zero, all-sorted_to, sorted_to-all, length-sorted_to, sorted-agree}
use Rattle.laws.specs.Heaps.{nth, Heaped}
use Rattle.path_heap.specs.First.{Known, leads, leads-same}

-- ---- what the contracts say

-- the first n paths of h, as the definition keeps them: the greater score first, of equal scores the earlier push first
unfoldable pub waiting : List Float → List ℕ → ℕ → List ℕ
waiting sc h n = sorted_to (leads sc) (nth h) n

-- the definition's `ahead`, over record numbers: q stays in front of the new path p where its score is not less
abbrev pub ahead_of : List Float → ℕ → ℕ → Bool
ahead_of sc q p = not (lt (get_or sc q nan) (get_or sc p nan))

-- the first n places are a heap of paths with scores
abbrev pub ScoreHeap : List Float → List ℕ → ℕ → Type 0
ScoreHeap sc h n = Heaped (leads sc) (Known sc) h n

-- the path r is later than all that wait
pub record Pushable (sc : List Float) (h : List ℕ) (n r : ℕ) : Type 0 where
  pub heap : ScoreHeap sc h n
  pub free : n < length h
  pub known : Known sc r
  pub later : (i : ℕ) → i < n → nth h i < r

pub record Pushed (sc : List Float) (h : List ℕ) (n r : ℕ) (h' : List ℕ) : Type 0 where
  pub is : waiting sc h' (n + 1) ≡ insert (ahead_of sc) r (waiting sc h n)
  pub heap : ScoreHeap sc h' (n + 1)
  pub rest : drop (n + 1) h' ≡ drop (n + 1) h

pub record Popped (sc : List Float) (h : List ℕ) (n r : ℕ) (h' : List ℕ) : Type 0 where
  pub is : waiting sc h n ≡ r ∷ waiting sc h' (n - 1)
  pub heap : ScoreHeap sc h' (n - 1)
  pub rest : drop (n - 1) h' ≡ drop (n - 1) h

-- ---- the empty list, and what a caller carries along
pub waiting_none : (sc : List Float) (h : List ℕ) → waiting sc h 0 ≡ []
unfolding waiting
waiting_none sc h = sorted_zero (leads sc) (nth h)

pub waiting-length : (sc : List Float) (h : List ℕ) (n : ℕ) → length (waiting sc h n) ≡ n
unfolding waiting
waiting-length sc h n = length-sorted_to (leads sc) (nth h) n

pub waiting-all : (P : ℕ → Type 0) (sc : List Float) (h : List ℕ) (n : ℕ) → ((i : ℕ) → i < n → P (nth h i)) → All P (waiting sc h n)
unfolding waiting
waiting-all P sc h n k = all-sorted_to (leads sc) (nth h) n k

pub all-waiting : (P : ℕ → Type 0) (sc : List Float) (h : List ℕ) (n : ℕ) → All P (waiting sc h n) → (i : ℕ) → i < n → P (nth h i)
unfolding waiting
all-waiting P sc h n k = sorted_to-all (leads sc) P (nth h) n k

-- what holds of all that wait holds of the one that is taken
pub popped-first : (P : ℕ → Type 0) (sc : List Float) (h : List ℕ) (n r : ℕ) (h' : List ℕ) → Popped sc h n r h' → ((i : ℕ) → i < n → P (nth h i)) → P r
popped-first P sc h n r h' p k =
    let a : All P (r ∷ waiting sc h' (n - 1)) = rw p.is at (waiting-all P sc h n k) in
    all_head a

-- what holds of all that wait holds of all that are left
pub popped-all : (P : ℕ → Type 0) (sc : List Float) (h : List ℕ) (n r : ℕ) (h' : List ℕ) → Popped sc h n r h'
    → ((i : ℕ) → i < n → P (nth h i)) → (i : ℕ) → i < n - 1 → P (nth h' i)
popped-all P sc h n r h' p k =
    let a : All P (r ∷ waiting sc h' (n - 1)) = rw p.is at (waiting-all P sc h n k) in
    all-waiting P sc h' (n - 1) (all_tail a)

-- what holds of the path and of all that waited holds of all that wait
pub pushed-all : (P : ℕ → Type 0) (sc : List Float) (h : List ℕ) (n r : ℕ) (h' : List ℕ) → Pushed sc h n r h' → P r
    → ((i : ℕ) → i < n → P (nth h i)) → (i : ℕ) → i < n + 1 → P (nth h' i)
pushed-all P sc h n r h' p q k = all-waiting P sc h' (n + 1) (rw p.is (all_insert (ahead_of sc) r q (waiting-all P sc h n k)))

-- ---- a table of scores that agrees on the paths that wait, and so one where the score of a new path is set
module _ (sc sd : List Float) (h : List ℕ) (n : ℕ) (e : (i : ℕ) → i < n → get_or sd (nth h i) nan ≡ get_or sc (nth h i) nan) where
  pub waiting-scores : waiting sd h n ≡ waiting sc h n
  unfolding waiting
  waiting-scores = sorted-agree (leads sd) (leads sc) (nth h) n (λ i j p q. leads-same sd sc (nth h i) (nth h j) (e i p) (e j q))
