-- The runs of a read, threaded one after the other: what is left of the threading after a run. Assumes nothing.
use Rattle.std.specs.Prelude.{◌≡◌, refl, Bool, true, false, List, [], ◌∷◌, ◌++◌, ℕ, ◌+◌, ◌-◌, ◌<◌, ◌≤◌, leb, length, take, drop}
use Rattle.std.proofs.Common.{sym, ap, ◌∙◌, le-leb}
use Rattle.std.proofs.lemmas.Bool.{lt-leb}
use Rattle.definition.specs.Stretch.{Stretch}
use Rattle.definition.specs.Threading.{Graph, thread, thread_all}
use Rattle.usable_stretches.specs.Runs.{long_of, one, runs_at, RunEnd, at-end, run-ahead}

-- a run, where it is long enough
unfoldable pub thread_run : ℕ → Stretch → Graph → Graph
thread_run k r g = elim (leb k (length r.bytes)) [ true ↦ thread false k r g | false ↦ g ]

pub run_long : (k : ℕ) (r : Stretch) (g : Graph) → k ≤ length r.bytes → thread_run k r g ≡ thread false k r g
unfolding thread_run
run_long k r g h = rw (le-leb k (length r.bytes) h, thread_run)

pub run_short : (k : ℕ) (r : Stretch) (g : Graph) → length r.bytes < k → thread_run k r g ≡ g
unfolding thread_run
run_short k r g h = rw (lt-leb k (length r.bytes) h, thread_run)

pub all_none : (k : ℕ) (g : Graph) → thread_all k [] g ≡ g
unfolding thread_all
all_none k g = refl

all_cons : (k : ℕ) (r : Stretch) (rs : List Stretch) (g : Graph) → thread_all k (r ∷ rs) g ≡ thread_all k rs (thread false k r g)
unfolding thread_all
all_cons k r rs g = refl

pub all_append : (k : ℕ) (xs ys : List Stretch) (g : Graph) → thread_all k (xs ++ ys) g ≡ thread_all k ys (thread_all k xs g)
all_append k [] ys g = ap (λ (h : Graph). thread_all k ys h) (sym (all_none k g))
all_append k (x ∷ xs) ys g =
    all_cons k x (xs ++ ys) g
    ∙ all_append k xs ys (thread false k x g)
    ∙ ap (λ (h : Graph). thread_all k ys h) (sym (all_cons k x xs g))

all_one : (k : ℕ) (r : Stretch) (g : Graph) → thread_all k (long_of k (r ∷ [])) g ≡ thread_run k r g
unfolding thread_run
all_one k r g = go (leb k (length r.bytes)) refl
  where
    go : (t : Bool) → leb k (length r.bytes) ≡ t → thread_all k (long_of k (r ∷ [])) g ≡ thread_run k r g
    go true c = rw (c, thread_run) (all_cons k r [] g ∙ all_none k (thread false k r g))
    go false c = rw (c, thread_run) (all_none k g)

-- what is left of a read after a run
pub thread-ahead : (good : ℕ → ℕ → Bool) (s start e : ℕ) (bs qs : List ℕ) → e ≤ length bs → e ≤ length qs → (k p q : ℕ) → 0 < k → start ≤ p → p < e → RunEnd good bs qs p e q → (g : Graph)
    → thread_all k (long_of k (runs_at good s start e bs qs p)) g
    ≡ thread_all k (long_of k (runs_at good s start e bs qs (q + 1))) (thread_run k (one s (p - start) (take (q - p) (drop p bs))) g)
thread-ahead good s start e bs qs eb eq k p q h a l r g =
    ap (λ (x : List Stretch). thread_all k x g) (run-ahead good s start e bs qs eb eq k p q h a l r)
    ∙ all_append k (long_of k (one s (p - start) (take (q - p) (drop p bs)) ∷ [])) (long_of k (runs_at good s start e bs qs (q + 1))) g
    ∙ ap (λ (x : Graph). thread_all k (long_of k (runs_at good s start e bs qs (q + 1))) x) (all_one k (one s (p - start) (take (q - p) (drop p bs))) g)

pub thread-end : (good : ℕ → ℕ → Bool) (s start e : ℕ) (bs qs : List ℕ) → e ≤ length bs → e ≤ length qs → (k p : ℕ) → e ≤ p → (g : Graph)
    → thread_all k (long_of k (runs_at good s start e bs qs p)) g ≡ g
thread-end good s start e bs qs eb eq k p h g = rw (at-end good s start e bs qs eb eq p h) (all_none k g)
