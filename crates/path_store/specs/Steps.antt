-- The loops over chains: what each keeps, and a law for each of its ways.
use Rattle.std.specs.Prelude.{◌≡◌, refl, true, false, cond, Some, List, eqb, get_or, set}
use Rattle.std.proofs.Common.{ap, ◌∙◌, add-one, length-set, sym, ℕ, zero, suc, ◌+◌, ◌-◌, ◌<◌, ◌≤◌, arith, length}
use Rattle.std.proofs.lemmas.List.Edits.{sets}
use Rattle.laws.specs.Lists.{any}
use Rattle.path_store.specs.Cells.{numbered, numbered-some, numbered-less}
use Rattle.path_store.specs.Walk.{hits, chain, chain_from, run, after, Runs, Graph, sole, next, run-zero, run_more, run_length, run-snoc, after-zero, after_more, runs-zero, runs-more, runs-now, runs-next, next_low, chain-end, chain-had, chain-on, chain-out, chain-plain, any-nil, hits-nil, hits-le, hits-step, any-hit, any-miss}

module _ (index targets : List ℕ) where
  pub record Plain (v limit r : ℕ) : Type 0 where
    pub low : r ≤ limit
    pub runs : Runs index targets v r
    pub stops : r < limit → get_or index (after index targets v r) 0 ≡ 0

  -- r is the length of the chain of v
  pub record Chained (v r : ℕ) : Type 0 where
    pub is : chain index targets v ≡ run index targets v r
    pub runs : Runs index targets v r
    pub low : r ≤ length targets

  pub after-low : Graph index targets → (v n : ℕ) → v < length index → Runs index targets v n → after index targets v n < length index
  unfolding after Runs
  after-low g v zero h r = h
  after-low g v (suc n) h r = after-low g (next index targets v) n (next_low index targets g v r.0) r.1

  -- where the sole edge at u leads
  next-sole : (u e : ℕ) → numbered (get_or index u 0) ≡ Some e → next index targets u ≡ get_or targets e 0
  next-sole u e h = ap (λ x. get_or targets x 0) (sym (numbered-less (get_or index u 0) e h))

  -- ---- chain_plain
  pub record Plainly (v limit u i : ℕ) : Type 0 where
    pub low : i ≤ limit
    pub runs : Runs index targets v i
    pub at : u ≡ after index targets v i
    pub fits : u < length index

  pub plain-start : (v limit : ℕ) → v < length index → Plainly v limit v 0
  plain-start v limit h = record { low = omega arith; runs = runs-zero index targets v; at = sym (after-zero index targets v); fits = h }

  module _ (v limit u i : ℕ) (p : Plainly v limit u i) where
    pub plain-next : (e : ℕ) → Graph index targets → i < limit → numbered (get_or index u 0) ≡ Some e → Plainly v limit (get_or targets e 0) (i + 1)
    plain-next e g l h =
        let pos : 0 < get_or index u 0 = omega (arith, numbered-some (get_or index u 0) e h) in
        rw (← next-sole u e h)
        record {
          low = omega arith;
          runs = runs-more index targets v i p.runs (rw p.at at pos);
          at = ap (λ x. next index targets x) p.at ∙ sym (after_more index targets v i);
          fits = next_low index targets g u pos;
        }

  -- ---- among_chain
  pub record Among (v n e u left : ℕ) : Type 0 where
    pub runs : Runs index targets u left
    pub fits : u < length index
    pub is : any (eqb e) (run index targets u left) ≡ any (eqb e) (run index targets v n)

  module _ (v n e u left : ℕ) (p : Among v n e u left) where
    pub among-hit : 0 < left → e ≡ sole index u → true ≡ any (eqb e) (run index targets v n)
    among-hit l h = sym (any-hit e (sole index u) (run index targets (next index targets u) (left - 1)) h) ∙ sym (ap (λ x. any (eqb e) x) (run_more index targets u left l)) ∙ p.is

    pub among_next : Graph index targets → 0 < left → (e ≡ sole index u → ⊥) → Among v n e (next index targets u) (left - 1)
    among_next g l h =
        record {
          runs = runs-next index targets u left l p.runs;
          fits = next_low index targets g u (runs-now index targets u left l p.runs);
          is = sym (any-miss e (sole index u) (run index targets (next index targets u) (left - 1)) h) ∙ sym (ap (λ x. any (eqb e) x) (run_more index targets u left l)) ∙ p.is;
        }

    pub among-end : left ≤ 0 → false ≡ any (eqb e) (run index targets v n)
    among-end h =
        let z : left ≡ 0 = omega arith in
        sym (any-nil (eqb e)) ∙ ap (λ x. any (eqb e) x) (sym (run-zero index targets u)) ∙ ap (λ x. any (eqb e) (run index targets u x)) (sym z) ∙ p.is

  -- ---- chain_slow
  pub record Slowly (v u i : ℕ) : Type 0 where
    pub low : i ≤ length targets
    pub runs : Runs index targets v i
    pub at : u ≡ after index targets v i
    pub fits : u < length index
    pub left : chain_from index targets (length targets - i) u (run index targets v i) ≡ chain index targets v

  pub slow-start : (v : ℕ) → v < length index → Slowly v v 0
  unfolding chain
  slow-start v h =
      let z : length targets - 0 ≡ length targets = omega arith in
      record { low = omega arith; runs = runs-zero index targets v; at = sym (after-zero index targets v); fits = h; left = rw (z, run-zero index targets v) }

  module _ (v u i : ℕ) (p : Slowly v u i) where
    pub slow-stop : get_or index u 0 ≡ 0 → Chained v i
    slow-stop h = record { is = sym p.left ∙ chain-end index targets (length targets - i) u (run index targets v i) h; runs = p.runs; low = p.low }

    pub slow-had : (e : ℕ) → numbered (get_or index u 0) ≡ Some e → any (eqb e) (run index targets v i) ≡ true → Chained v i
    slow-had e h k =
        let q = numbered-less (get_or index u 0) e h in
        let pos = numbered-some (get_or index u 0) e h in
        record { is = sym p.left ∙ chain-had index targets (length targets - i) u (run index targets v i) (omega (arith, pos)) (rw q at k); runs = p.runs; low = p.low }

    pub slow-next : (e : ℕ) → Graph index targets → i < length targets → numbered (get_or index u 0) ≡ Some e → any (eqb e) (run index targets v i) ≡ false
        → Slowly v (get_or targets e 0) (i + 1)
    slow-next e g l h k =
        let x = numbered-less (get_or index u 0) e h in
        let pos : 0 < get_or index u 0 = omega (arith, numbered-some (get_or index u 0) e h) in
        let q : length targets - (i + 1) ≡ length targets - i - 1 = omega arith in
        rw (← next-sole u e h)
        record {
          low = omega arith;
          runs = runs-more index targets v i p.runs (rw p.at at pos);
          at = ap (λ x. next index targets x) p.at ∙ sym (after_more index targets v i);
          fits = next_low index targets g u pos;
          left =
              rw (q, run-snoc index targets v i, ← p.at) (sym (chain-on index targets (length targets - i) u (run index targets v i) (omega arith) pos (rw x at k))) ∙ p.left;
        }

    pub slow-end : length targets ≤ i → Chained v i
    slow-end h =
        let z : length targets - i ≡ 0 = omega arith in
        record {
          is = sym p.left ∙ ap (λ x. chain_from index targets x u (run index targets v i)) z ∙ chain-out index targets u (run index targets v i);
          runs = p.runs;
          low = p.low;
        }

  pub plain-chained : (v c : ℕ) → Plain v (length targets) c → c < length targets → Chained v c
  plain-chained v c p l = record { is = chain-plain index targets v c p.low p.runs (p.stops l); runs = p.runs; low = p.low }

  -- ---- count_chain
  pub record Counting (s c v u left n : ℕ) : Type 0 where
    pub runs : Runs index targets u left
    pub fits : u < length index
    pub is : n + hits targets v (run index targets u left) ≡ hits targets v (run index targets s c)

  module _ (s c v u left n : ℕ) (p : Counting s c v u left n) where
    pub counting-next : (w d : ℕ) → Graph index targets → 0 < left → w ≡ next index targets u → d ≡ cond (eqb v w) 1 0 → Counting s c v w (left - 1) (n + d)
    counting-next w d g l e h' =
        let h : d ≡ cond (eqb v (next index targets u)) 1 0 = rw e at h' in
        rw e (go h)
      where
        go : (h : d ≡ cond (eqb v (next index targets u)) 1 0) → Counting s c v (next index targets u) (left - 1) (n + d)
        go h =
            record {
              runs = runs-next index targets u left l p.runs;
              fits = next_low index targets g u (runs-now index targets u left l p.runs);
              is =
                  omega
                  (arith, h, p.is, ap (λ x. hits targets v x) (run_more index targets u left l), hits-step targets v (sole index u) (run index targets (next index targets u) (left - 1)));
            }

    pub counting-fits : n ≤ c
    counting-fits = omega (arith, p.is, hits-le targets v (run index targets s c), run_length index targets s c)

    pub counting-end : left ≤ 0 → n ≡ hits targets v (run index targets s c)
    counting-end h =
        let z : left ≡ 0 = omega arith in
        omega (arith, p.is, ap (λ x. hits targets v (run index targets u x)) z, ap (λ x. hits targets v x) (run-zero index targets u), hits-nil targets v)

  -- ---- write_chain
  pub record Writing (out₀ : List ℕ) (at₀ s c : ℕ) (out : List ℕ) (at u left : ℕ) : Type 0 where
    pub size : length out ≡ length out₀
    pub room : at + left ≤ length out₀
    pub runs : Runs index targets u left
    pub fits : u < length index
    pub is : sets out at (run index targets u left) ≡ sets out₀ at₀ (run index targets s c)

  module _ (out₀ : List ℕ) (at₀ s c : ℕ) (out : List ℕ) (at u left : ℕ) (p : Writing out₀ at₀ s c out at u left) where
    pub writing-next : (e : ℕ) → Graph index targets → 0 < left → e ≡ sole index u → Writing out₀ at₀ s c (set out at e) (at + 1) (next index targets u) (left - 1)
    writing-next e g l h =
        record {
          size = simp length-set p.size;
          room = omega (arith, p.room);
          runs = runs-next index targets u left l p.runs;
          fits = next_low index targets g u (runs-now index targets u left l p.runs);
          is =
              rw (add-one at, h) (ap (λ x. sets out at x) (sym (run_more index targets u left l)) ∙ p.is);
        }

    pub writing-end : left ≤ 0 → out ≡ sets out₀ at₀ (run index targets s c)
    writing-end h =
        let z : left ≡ 0 = omega arith in
        ap (λ x. sets out at x) (sym (run-zero index targets u)) ∙ ap (λ x. sets out at (run index targets u x)) (sym z) ∙ p.is

  -- ---- walk
  pub record Walking (v n u left : ℕ) : Type 0 where
    pub runs : Runs index targets u left
    pub fits : u < length index
    pub is : after index targets u left ≡ after index targets v n

  pub walking_start : (v n : ℕ) → v < length index → Runs index targets v n → Walking v n v n
  walking_start v n h r = record { runs = r; fits = h; is = refl }

  after_next : (v n : ℕ) → 0 < n → after index targets (next index targets v) (n - 1) ≡ after index targets v n
  unfolding after
  after_next v zero h = absurd (omega arith)
  after_next v (suc n) h = let e : suc n - 1 ≡ n = omega arith in rw e

  module _ (v n u left : ℕ) (p : Walking v n u left) where
    pub walking-next : Graph index targets → 0 < left → Walking v n (next index targets u) (left - 1)
    walking-next g l =
        record {
          runs = runs-next index targets u left l p.runs;
          fits = next_low index targets g u (runs-now index targets u left l p.runs);
          is = after_next u left l ∙ p.is;
        }

    pub walking-end : left ≤ 0 → u ≡ after index targets v n
    walking-end h =
        let z : left ≡ 0 = omega arith in
        sym (after-zero index targets u) ∙ ap (λ x. after index targets u x) (sym z) ∙ p.is
