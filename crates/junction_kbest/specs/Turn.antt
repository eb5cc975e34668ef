-- The definition's turn, by what its steps give.
use Rattle.std.specs.Prelude.{◌≡◌, cond, ℕ, ◌<◌, ◌≤◌, length, refl, List, [], ◌∷◌}
use Rattle.std.proofs.Common.{ap, ◌∙◌, le-leb, lt-ltb, le-ltb}
use Rattle.std.proofs.lemmas.Bool.{lt-leb}
use Rattle.laws.specs.Lists.{is_empty}
use Rattle.definition.specs.Refusal.{ok, refused}
use Rattle.definition.specs.Score.{Scoring}
use Rattle.definition.specs.Threading.{Ends, leaving}
use Rattle.definition.specs.Search.{SearchInput, Path, Closed, State, Made, at_end, broken, made, Turn, ended, failed, full, push_all, end_from, chain, join_tree, close_at, extensions, made_of, extend_at, take_path, recover, advance, push_made, turn}

-- the most that may wait
abbrev pub most_waiting : {S : Type 0} → List (Closed S) → ℕ
most_waiting cs = cond (is_empty cs) 1000 10000

-- the state with other waiting paths, and with other pivotal edges
abbrev pub with_waiting : {S : Type 0} → State S → List (Path S) → State S
with_waiting s ps = record { waiting = ps; closed = s.closed; pivotal = s.pivotal; pushes = s.pushes; longest = s.longest }

abbrev pub with_pivotal : {S : Type 0} → State S → List Ends → State S
with_pivotal s es = record { waiting = []; closed = s.closed; pivotal = es; pushes = s.pushes; longest = s.longest }

-- a path's last vertex, its chain, and where that leads
module _ {S : Type 0} (f : SearchInput) (p : Path S) where
  abbrev pub last_of : ℕ
  last_of = end_from f.source p.edges

  abbrev pub chain_of : List Ends
  chain_of = chain f last_of

-- what ends a turn with a refusal
pub data Stopped {S : Type 0} (t : Turn S) (k : ℕ) : Type 0 where
  fails : t ≡ failed k → Stopped t k
  fills : k ≡ 12 → (s : State S) (ps : List (Path S)) → t ≡ full s ps → Stopped t k

module _ {S : Type 0} (𝓢 : Scoring S) (f : SearchInput) (asked limit : ℕ) (s : State S) where
  pub turn-done : asked ≤ length s.closed → turn 𝓢 f asked limit s ≡ ended s
  unfolding turn
  turn-done h = rw (le-leb asked (length s.closed) h, turn)

  module _ (unmet : length s.closed < asked) where
    pub turn-open : turn 𝓢 f asked limit s ≡ push_made 𝓢 limit s (advance 𝓢 f s s.waiting s.pivotal)
    unfolding turn
    turn-open = rw (lt-leb asked (length s.closed) unmet, turn)

    turn_by : (m : Made S) → advance 𝓢 f s s.waiting s.pivotal ≡ m → turn 𝓢 f asked limit s ≡ push_made 𝓢 limit s m
    turn_by m e = turn-open ∙ ap (push_made 𝓢 limit s) e

    -- ---- nothing waits
    pub turn-ended : s.waiting ≡ [] → s.pivotal ≡ [] → turn 𝓢 f asked limit s ≡ ended s
    unfolding advance push_made
    turn-ended h k = turn_by at_end (rw (h, k, advance))

    module _ (e : Ends) (es : List Ends) (h : s.waiting ≡ []) (k : s.pivotal ≡ e ∷ es) where
      pub turn-recovers : (m : Made S) → recover 𝓢 f e (with_pivotal s es) ≡ m → turn 𝓢 f asked limit s ≡ push_made 𝓢 limit s m
      unfolding advance
      turn-recovers m q = turn_by m (rw (h, k, advance) q)

    -- ---- a waiting path
    module _ (p : Path S) (ps : List (Path S)) (h : s.waiting ≡ p ∷ ps) where
      pub turn-over : most_waiting s.closed < length s.waiting → turn 𝓢 f asked limit s ≡ ended s
      unfolding advance push_made
      turn-over k =
          turn_by at_end (ap (λ (l : List (Path S)). advance 𝓢 f s l s.pivotal) h ∙ (rw (lt-ltb (most_waiting s.closed) (length s.waiting) k, advance)))

      module _ (k : length s.waiting ≤ most_waiting s.closed) where
        pub turn-takes : (m : Made S) → take_path 𝓢 f p (with_waiting s ps) ≡ m → turn 𝓢 f asked limit s ≡ push_made 𝓢 limit s m
        unfolding advance
        turn-takes m q =
            turn_by m
            (ap (λ (l : List (Path S)). advance 𝓢 f s l s.pivotal) h ∙ (rw (le-ltb (most_waiting s.closed) (length s.waiting) k, advance)) ∙ q)

  -- ---- what is made is pushed
  pub push-made : (s' : State S) (ps : List (Path S)) → push_made 𝓢 limit s (made s' ps) ≡ push_all 𝓢 limit ps s'
  unfolding push_made
  push-made s' ps = refl

  pub push-broken : (k : ℕ) → push_made 𝓢 limit s (broken k) ≡ failed k
  unfolding push_made
  push-broken k = refl

-- ---- a taken path
module _ {S : Type 0} (𝓢 : Scoring S) (f : SearchInput) (p : Path S) (s : State S) where
  pub take-drops : 5 < p.since → take_path 𝓢 f p s ≡ made s []
  unfolding take_path
  take-drops h = rw (lt-ltb 5 p.since h, take_path)

  pub take-extends : p.since ≤ 5 → take_path 𝓢 f p s ≡ extend_at 𝓢 f p (chain_of f p) (end_from (last_of f p) (chain_of f p)) s
  unfolding take_path
  take-extends h = rw (le-ltb 5 p.since h, take_path)

module _ {S : Type 0} (𝓢 : Scoring S) (f : SearchInput) (p : Path S) (c : List Ends) (v : ℕ) (s : State S) where
  pub join-fails : (k : ℕ) → join_tree f v p ≡ refused k → extend_at 𝓢 f p c v s ≡ broken k
  unfolding extend_at
  join-fails k h = rw (h, extend_at)

  module _ (q : Path S) (h : join_tree f v p ≡ ok q) where
    pub close-fails : (k : ℕ) → close_at f v q c s ≡ refused k → extend_at 𝓢 f p c v s ≡ broken k
    unfolding extend_at
    close-fails k e = rw (h, e, extend_at)

    module _ (s' : State S) (e : close_at f v q c s ≡ ok s') where
      pub extend-fails : (k : ℕ) → extensions 𝓢 f q c v (leaving f.edges v) ≡ refused k → extend_at 𝓢 f p c v s ≡ broken k
      unfolding extend_at made_of
      extend-fails k d = rw (h, e, d, extend_at)

      pub extend-makes : (qs : List (Path S)) → extensions 𝓢 f q c v (leaving f.edges v) ≡ ok qs → extend_at 𝓢 f p c v s ≡ made s' qs
      unfolding extend_at made_of
      extend-makes qs d = rw (h, e, d, extend_at)
