-- Chains of single edges, over numbers. `index`: at a vertex 0 where a chain stops, else the number + 1 of its sole out-edge. `targets`: at an edge its
-- target.
use Rattle.std.specs.Prelude.{◌≡◌, ◌⊎◌, Bool, true, false, ◌||◌, cond, eqb, length}
use Rattle.std.proofs.Common.{◌∙◌, inl, inr, add-one, eqb-true, eq-eqb, ne_eqb, refl, sym, ap, List, [], ◌∷◌, ◌++◌, map, append_assoc, append-nil, ℕ, zero, suc, ◌+◌, ◌-◌, ◌<◌, ◌≤◌, arith, get_or}
use Rattle.std.proofs.lemmas.List.{map-append, length-map}
use Rattle.std.specs.Int.{from_bool}
use Rattle.laws.specs.Lists.{any, tally}
use Rattle.laws.specs.BoolLaws.{Bool-cases, both_ways, or_split, or_right}

-- ---- the definition's words, over edge numbers

unfoldable pub end_from : List ℕ → ℕ → List ℕ → ℕ
end_from targets v [] = v
end_from targets v (e ∷ es) = end_from targets (get_or targets e 0) es

-- how often v is the target of one of the edges
pub hits : List ℕ → ℕ → List ℕ → ℕ
hits targets v es = tally (eqb v) (map (λ e. get_or targets e 0) es)

-- how often v stands among the vertices of a path of these edges from s
unfoldable pub times : List ℕ → ℕ → ℕ → List ℕ → ℕ
times targets s v es = tally (eqb v) (s ∷ map (λ e. get_or targets e 0) es)

unfoldable pub chain_from : List ℕ → List ℕ → ℕ → ℕ → List ℕ → List ℕ
chain_from index targets zero v c = c
chain_from index targets (suc n) v c =
    elim (get_or index v 0) [ zero ↦ c | suc e ↦ elim (any (eqb e) c) [ true ↦ c | false ↦ chain_from index targets n (get_or targets e 0) (c ++ e ∷ []) ] ]

unfoldable pub chain : List ℕ → List ℕ → ℕ → List ℕ
chain index targets v = chain_from index targets (length targets) v []

-- ---- n steps along `index`

-- the sole edge at v, and the vertex that it leads to
abbrev pub sole : List ℕ → ℕ → ℕ
sole index v = get_or index v 0 - 1

abbrev pub next : List ℕ → List ℕ → ℕ → ℕ
next index targets v = get_or targets (get_or index v 0 - 1) 0

unfoldable pub run : List ℕ → List ℕ → ℕ → ℕ → List ℕ
run index targets v zero = []
run index targets v (suc n) = sole index v ∷ run index targets (next index targets v) n

unfoldable pub after : List ℕ → List ℕ → ℕ → ℕ → ℕ
after index targets v zero = v
after index targets v (suc n) = after index targets (next index targets v) n

-- no step of the n meets a stop
unfoldable pub Runs : List ℕ → List ℕ → ℕ → ℕ → Type 0
Runs index targets v zero = Unit {0}
Runs index targets v (suc n) = (0 < get_or index v 0) × Runs index targets (next index targets v) n

pub record Graph (index targets : List ℕ) : Type 0 where
  pub near : (v : ℕ) → get_or index v 0 ≤ length targets
  pub far : (e : ℕ) → e < length targets → get_or targets e 0 < length index
  pub small : length targets < 4294967295

-- a bit as a number, as the code makes it
pub bit-is : (b : Bool) → from_bool b ≡ cond b 1 0
bit-is true = refl
bit-is false = refl

pub any_append : (p : ℕ → Bool) (a b : List ℕ) → any p (a ++ b) ≡ true → (any p a ≡ true) ⊎ (any p b ≡ true)
any_append p [] b h = inr h
any_append p (x ∷ a) b h = go (or_split (p x) (any p (a ++ b)) h) (λ k. any_append p a b k)
  where
    or_left : (b : Bool) → (true || b) ≡ true
    or_left b = refl

    go : (p x ≡ true) ⊎ (any p (a ++ b) ≡ true) → (any p (a ++ b) ≡ true → (any p a ≡ true) ⊎ (any p b ≡ true))
        → ((p x || any p a) ≡ true) ⊎ (any p b ≡ true)
    go (inl k) up = inl (rw k (or_left (any p a)))
    go (inr k) up = more (up k)
      where
        more : (any p a ≡ true) ⊎ (any p b ≡ true) → ((p x || any p a) ≡ true) ⊎ (any p b ≡ true)
        more (inl m) = inl (rw m (or_right (p x)))
        more (inr m) = inr m

pub any-one : (e x : ℕ) → any (eqb x) (e ∷ []) ≡ true → x ≡ e
any-one e x h = go (or_split (eqb x e) false h)
  where
    go : (eqb x e ≡ true) ⊎ (false ≡ true) → x ≡ e
    go (inl k) = eqb-true x e k
    go (inr k) = both_ways k refl

pub any-nil : (p : ℕ → Bool) → any p [] ≡ false
any-nil p = refl

pub any-hit : (e d : ℕ) (l : List ℕ) → e ≡ d → any (eqb e) (d ∷ l) ≡ true
any-hit e d l h = rw (eq-eqb e d h)

pub any-miss : (e d : ℕ) (l : List ℕ) → (e ≡ d → ⊥) → any (eqb e) (d ∷ l) ≡ any (eqb e) l
any-miss e d l h = rw (ne_eqb e d h)

pub tally-append : (p : ℕ → Bool) (a b : List ℕ) → tally p (a ++ b) ≡ tally p a + tally p b
tally-append p [] b = omega arith
tally-append p (x ∷ a) b = let h = tally-append p a b in omega arith

tally-le : (p : ℕ → Bool) (a : List ℕ) → tally p a ≤ length a
tally-le p [] = omega arith
tally-le p (x ∷ a) = go (p x) (tally-le p a)
  where
    go : (b : Bool) → tally p a ≤ length a → cond b 1 0 + tally p a ≤ suc (length a)
    go true h = omega arith
    go false h = omega arith

-- ---- vertices of a path
module _ (targets : List ℕ) where
  pub end-nil : (v : ℕ) → end_from targets v [] ≡ v
  unfolding end_from
  end-nil v = refl

  pub end-append : (v : ℕ) (a b : List ℕ) → end_from targets v (a ++ b) ≡ end_from targets (end_from targets v a) b
  unfolding end_from
  end-append v [] b = refl
  end-append v (e ∷ a) b = end-append (get_or targets e 0) a b

  pub end-one : (v e : ℕ) → end_from targets v (e ∷ []) ≡ get_or targets e 0
  unfolding end_from
  end-one v e = refl

  pub hits-append : (v : ℕ) (a b : List ℕ) → hits targets v (a ++ b) ≡ hits targets v a + hits targets v b
  unfolding hits
  hits-append v a b = rw (map-append (λ e. get_or targets e 0) a b) (tally-append (eqb v) (map (λ e. get_or targets e 0) a) (map (λ e. get_or targets e 0) b))

  pub hits-nil : (v : ℕ) → hits targets v [] ≡ 0
  unfolding hits
  hits-nil v = refl

  pub hits-step : (v e : ℕ) (es : List ℕ) → hits targets v (e ∷ es) ≡ cond (eqb v (get_or targets e 0)) 1 0 + hits targets v es
  unfolding hits
  hits-step v e es = refl

  pub times-step : (s v : ℕ) (es : List ℕ) → times targets s v es ≡ cond (eqb v s) 1 0 + hits targets v es
  unfolding times hits
  times-step s v es = refl

  pub times-append : (s v : ℕ) (a b : List ℕ) → times targets s v (a ++ b) ≡ times targets s v a + hits targets v b
  unfolding times hits
  times-append s v a b =
      let h : tally (eqb v) (map (λ e. get_or targets e 0) (a ++ b)) ≡ tally (eqb v) (map (λ e. get_or targets e 0) a) + tally (eqb v) (map (λ e. get_or targets e 0) b)
      = rw (map-append (λ e. get_or targets e 0) a b) (tally-append (eqb v) (map (λ e. get_or targets e 0) a) (map (λ e. get_or targets e 0) b))
      in
      omega arith

  pub times-le : (s v : ℕ) (es : List ℕ) → times targets s v es ≤ length es + 1
  unfolding times
  times-le s v es = omega (arith, tally-le (eqb v) (s ∷ map (λ e. get_or targets e 0) es), length-map es (λ e. get_or targets e 0))

  pub hits-le : (v : ℕ) (es : List ℕ) → hits targets v es ≤ length es
  unfolding hits
  hits-le v es = omega (arith, tally-le (eqb v) (map (λ e. get_or targets e 0) es), length-map es (λ e. get_or targets e 0))

module _ (index targets : List ℕ) where
  -- ---- the run
  pub run-zero : (v : ℕ) → run index targets v 0 ≡ []
  unfolding run
  run-zero v = refl

  pub run_more : (v n : ℕ) → 0 < n → run index targets v n ≡ sole index v ∷ run index targets (next index targets v) (n - 1)
  unfolding run
  run_more v zero h = absurd (omega arith)
  run_more v (suc n) h = let e : suc n - 1 ≡ n = omega arith in rw e

  pub run_length : (v n : ℕ) → length (run index targets v n) ≡ n
  unfolding run
  run_length v zero = refl
  run_length v (suc n) = ap suc (run_length (next index targets v) n)

  pub after-zero : (v : ℕ) → after index targets v 0 ≡ v
  unfolding after
  after-zero v = refl

  after-suc : (v n : ℕ) → after index targets v (suc n) ≡ next index targets (after index targets v n)
  unfolding after
  after-suc v zero = refl
  after-suc v (suc n) = after-suc (next index targets v) n

  pub after_more : (v n : ℕ) → after index targets v (n + 1) ≡ next index targets (after index targets v n)
  after_more v n = rw (add-one n) (after-suc v n)

  run-suc : (v n : ℕ) → run index targets v (suc n) ≡ run index targets v n ++ sole index (after index targets v n) ∷ []
  unfolding run after
  run-suc v zero = refl
  run-suc v (suc n) = ap (λ l. sole index v ∷ l) (run-suc (next index targets v) n)

  pub run-snoc : (v n : ℕ) → run index targets v (n + 1) ≡ run index targets v n ++ sole index (after index targets v n) ∷ []
  run-snoc v n = rw (add-one n) (run-suc v n)

  pub end-run : (v n : ℕ) → end_from targets v (run index targets v n) ≡ after index targets v n
  unfolding run after end_from
  end-run v zero = refl
  end-run v (suc n) = end-run (next index targets v) n

  pub runs-zero : (v : ℕ) → Runs index targets v 0
  unfolding Runs
  runs-zero v = tt

  runs-suc : (v n : ℕ) → Runs index targets v n → 0 < get_or index (after index targets v n) 0 → Runs index targets v (suc n)
  unfolding Runs after
  runs-suc v zero r h = (h, tt)
  runs-suc v (suc n) r h = (r.0, runs-suc (next index targets v) n r.1 h)

  pub runs-more : (v n : ℕ) → Runs index targets v n → 0 < get_or index (after index targets v n) 0 → Runs index targets v (n + 1)
  runs-more v n r h = rw (add-one n) (runs-suc v n r h)

  pub runs-now : (v n : ℕ) → 0 < n → Runs index targets v n → 0 < get_or index v 0
  unfolding Runs
  runs-now v zero h r = absurd (omega arith)
  runs-now v (suc n) h r = r.0

  pub runs-next : (v n : ℕ) → 0 < n → Runs index targets v n → Runs index targets (next index targets v) (n - 1)
  unfolding Runs
  runs-next v zero h r = absurd (omega arith)
  runs-next v (suc n) h r = let e : suc n - 1 ≡ n = omega arith in rw e r.1

  -- the next vertex is one of the graph's
  pub next_low : Graph index targets → (v : ℕ) → 0 < get_or index v 0 → next index targets v < length index
  next_low g v h = g.far (sole index v) (omega (arith, g.near v))

  -- ---- the definition's chain, step by step
  pub chain-end : (n v : ℕ) (c : List ℕ) → get_or index v 0 ≡ 0 → chain_from index targets n v c ≡ c
  unfolding chain_from
  chain-end zero v c h = refl
  chain-end (suc n) v c h = rw (h, chain_from)

  chain-had' : (n v e : ℕ) (c : List ℕ) → get_or index v 0 ≡ suc e → any (eqb e) c ≡ true → chain_from index targets (suc n) v c ≡ c
  unfolding chain_from
  chain-had' n v e c h k = rw (h, k, chain_from)

  chain-on' : (n v e : ℕ) (c : List ℕ) → get_or index v 0 ≡ suc e → any (eqb e) c ≡ false
      → chain_from index targets (suc n) v c ≡ chain_from index targets n (get_or targets e 0) (c ++ e ∷ [])
  unfolding chain_from
  chain-on' n v e c h k = rw (h, k, chain_from)

  pub chain-had : (n v : ℕ) (c : List ℕ) → 0 < get_or index v 0 → any (eqb (sole index v)) c ≡ true → chain_from index targets n v c ≡ c
  unfolding chain_from
  chain-had zero v c h k = refl
  chain-had (suc n) v c h k = chain-had' n v (sole index v) c (omega arith) k

  pub chain-on : (n v : ℕ) (c : List ℕ) → 0 < n → 0 < get_or index v 0 → any (eqb (sole index v)) c ≡ false
      → chain_from index targets n v c ≡ chain_from index targets (n - 1) (next index targets v) (c ++ sole index v ∷ [])
  chain-on zero v c p h k = absurd (omega arith)
  chain-on (suc n) v c p h k = let e : suc n - 1 ≡ n = omega arith in rw e (chain-on' n v (sole index v) c (omega arith) k)

  pub chain-out : (v : ℕ) (c : List ℕ) → chain_from index targets 0 v c ≡ c
  unfolding chain_from
  chain-out v c = refl

  -- ---- a run that stops within the number of edges is the chain: it has no edge twice, since after the same edge it would stop as late
  Stops : ℕ → ℕ → Type 0
  Stops v zero = get_or index v 0 ≡ 0
  Stops v (suc d) = (0 < get_or index v 0) × Stops (next index targets v) d

  stops-unique : (v d k : ℕ) → Stops v d → Stops v k → d ≡ k
  unfolding Stops
  stops-unique v zero zero p q = refl
  stops-unique v zero (suc k) p q = absurd (omega (arith, q.0))
  stops-unique v (suc d) zero p q = absurd (omega (arith, p.0))
  stops-unique v (suc d) (suc k) p q = ap suc (stops-unique (next index targets v) d k p.1 q.1)

  runs-stops : (v d : ℕ) → Runs index targets v d → get_or index (after index targets v d) 0 ≡ 0 → Stops v d
  unfolding Runs after Stops
  runs-stops v zero r h = h
  runs-stops v (suc d) r h = (r.0, runs-stops (next index targets v) d r.1 h)

  record Past (d e : ℕ) : Type 0 where
    late : ℕ
    le : d ≤ late
    stops : Stops (get_or targets e 0) late

  chain_run : (n d v : ℕ) (c : List ℕ) → d ≤ n → Stops v d → ((e : ℕ) → any (eqb e) c ≡ true → Past d e)
      → chain_from index targets n v c ≡ c ++ run index targets v d
  unfolding Stops run
  chain_run n zero v c l s past = chain-end n v c s ∙ sym (append-nil c)
  chain_run zero (suc d) v c l s past = absurd (omega arith)
  chain_run (suc n) (suc d) v c l s past = go (λ p. chain_run n d (next index targets v) (c ++ sole index v ∷ []) (omega arith) s.1 p) (Bool-cases (any (eqb (sole index v)) c))
    where
      step : (e : ℕ) → (any (eqb e) c ≡ true) ⊎ (any (eqb e) (sole index v ∷ []) ≡ true) → Past d e
      step e (inl h) = let p = past e h in record { late = p.late; le = omega (arith, p.le); stops = p.stops }
      step e (inr h) = let q = any-one (sole index v) e h in rw q (record { late = d; le = omega arith; stops = s.1 })

      go : (((e : ℕ) → any (eqb e) (c ++ sole index v ∷ []) ≡ true → Past d e)
          → chain_from index targets n (next index targets v) (c ++ sole index v ∷ []) ≡ (c ++ sole index v ∷ []) ++ run index targets (next index targets v) d)
          → (any (eqb (sole index v)) c ≡ true) ⊎ (any (eqb (sole index v)) c ≡ false)
          → chain_from index targets (suc n) v c ≡ c ++ sole index v ∷ run index targets (next index targets v) d
      go up (inl h) =
          let p = past (sole index v) h in
          absurd (omega (arith, p.le, stops-unique (next index targets v) p.late d p.stops s.1))
      go up (inr h) =
          chain-on' n v (sole index v) c (omega (arith, s.0)) h
          ∙ up (λ e k. step e (any_append (eqb e) c (sole index v ∷ []) k))
          ∙ append_assoc c (sole index v ∷ []) (run index targets (next index targets v) d)

  pub chain-plain : (v d : ℕ) → d ≤ length targets → Runs index targets v d → get_or index (after index targets v d) 0 ≡ 0 → chain index targets v ≡ run index targets v d
  unfolding chain
  chain-plain v d l r h = chain_run (length targets) d v [] l (runs-stops v d r h) (λ e k. both_ways k (any-nil (eqb e)))
