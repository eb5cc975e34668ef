-- The definition's list of edges as a table of rows in the order of birth: every row counted in turn. A row more is one `put` by definition, a row's
-- gain is a `put` because counts of different ends commute, and what is found in the list is said of the rows one by one. Assumes nothing.
use Rattle.std.specs.Prelude.{◌≡◌, ◌≢◌, Bool, ◌&&◌}
use Rattle.std.proofs.Math.Path.{refl, ap}
use Rattle.std.proofs.Common.{sym, ◌∙◌, add-one, arith, List, [], ◌∷◌, ℕ, zero, suc, ◌+◌, ◌<◌, ◌≤◌}
use Rattle.std.proofs.Math.Bool.{true, false, cond}
use Rattle.std.proofs.Math.Option.{none, some}
use Rattle.std.proofs.Math.Decide.{ℕ_discrete}
use Rattle.std.proofs.Math.ListN.{length}
use Rattle.laws.specs.Lists.{keep, find, sole}
use Rattle.laws.specs.ListLaws.{length-nil}
use Rattle.definition.specs.Threading.{Ends, Edge, merge, put}
use Rattle.assembly.specs.Puts.{put_same, put-comm, find-miss, find-hit, keep-miss, keep-first, keep-more, Absent, absent-put, length-put}

pub table : (ℕ → Edge) → ℕ → List Edge
table f zero = []
table f (suc n) = put (f n) (table f n)

pub table-0 : (f : ℕ → Edge) → table f 0 ≡ []
unfolding table
table-0 f = refl

pub table-suc : (f : ℕ → Edge) (n : ℕ) → table f (suc n) ≡ put (f n) (table f n)
unfolding table
table-suc f n = refl

-- no two of the first n rows have the same ends
abbrev pub Distinct : (ℕ → Edge) → ℕ → Type 0
Distinct f n = (i j : ℕ) → i < n → j < n → (f i).ends ≡ (f j).ends → i ≡ j

fewer : (f : ℕ → Edge) (n : ℕ) → Distinct f (suc n) → Distinct f n
fewer f n d i j h k e = d i j (omega arith) (omega arith) e

pub table_same : (f g : ℕ → Edge) (n : ℕ) → ((j : ℕ) → j < n → g j ≡ f j) → table g n ≡ table f n
unfolding table
table_same f g zero h = refl
table_same f g (suc n) h = rw (table_same f g n (λ j k. h j (omega arith)), h n (omega arith))

-- a row more
pub table_more : (f g : ℕ → Edge) (n : ℕ) (x : Edge) → g n ≡ x → ((j : ℕ) → j < n → g j ≡ f j) → table g (n + 1) ≡ put x (table f n)
unfolding table
table_more f g n x e h = rw (add-one n, e, table_same f g n h)

-- a row's gain
pub table-gain : (f g : ℕ → Edge) (n i : ℕ) (x : Edge) → i < n → x.ends ≡ (f i).ends → g i ≡ merge (f i) x → ((j : ℕ) → j ≢ i → g j ≡ f j) → Distinct f n
    → table g n ≡ put x (table f n)
unfolding table
table-gain f g zero i x h e m s d = absurd (omega arith)
table-gain f g (suc n) i x h e m s d = go (λ k. table-gain f g n i x k e m s (fewer f n d)) (ℕ_discrete i n)
  where
    go : (i < n → table g n ≡ put x (table f n)) → Dec (i ≡ n) → put (g n) (table g n) ≡ put x (put (f n) (table f n))
    go ih (yes q) =
        rw (table_same f g n (λ j k. s j (omega arith)), ← q, m) (sym (put_same x (f i) (table f i) e))
    go ih (no q) =
        rw (ih (omega arith), s n (λ z. q (sym z))) (put-comm (f n) x (table f n) (λ z. q (sym (d n i (omega arith) h (z ∙ e)))))

pub table-absent : (f : ℕ → Edge) (n : ℕ) (d : Ends) → ((j : ℕ) → j < n → (f j).ends ≢ d) → Absent d (table f n)
unfolding table
table-absent f zero d h = tt
table-absent f (suc n) d h = absent-put d (f n) (table f n) (h n (omega arith)) (table-absent f n d (λ j k. h j (omega arith)))

own-absent : (f : ℕ → Edge) (n : ℕ) → Distinct f (suc n) → Absent (f n).ends (table f n)
own-absent f n d = table-absent f n (f n).ends (λ j k e. (let z = d j n (omega arith) (omega arith) e in omega arith))

pub length-table : (f : ℕ → Edge) (n : ℕ) → Distinct f n → length (table f n) ≡ n
unfolding table
length-table f zero d = refl
length-table f (suc n) d = length-put (f n) (table f n) (own-absent f n d) ∙ ap suc (length-table f n (fewer f n d))

-- ---- found, kept and sole, by ends
pub find-keep : (p q : Edge → Bool) (es : List Edge) → find q (keep p es) ≡ find (λ e. p e && q e) es
find-keep p q [] = refl
find-keep p q (e ∷ es) = go (p e) refl (q e) refl (find-keep p q es)
  where
    go : (a : Bool) → p e ≡ a → (b : Bool) → q e ≡ b → find q (keep p es) ≡ find (λ x. p x && q x) es → find q (keep p (e ∷ es)) ≡ find (λ x. p x && q x) (e ∷ es)
    go true h true k ih = rw (h, k, find)
    go true h false k ih = rw (h, k, find) ih
    go false h b k ih = rw (h, find) ih

sole-not : (l : List Edge) → length l ≢ 1 → sole l ≡ none
sole-not [] h = refl
sole-not (x ∷ []) h = absurd (h refl)
sole-not (x ∷ y ∷ l) h = refl

not-both : (b : Bool) → b ≡ true → b ≡ false → ⊥
not-both b h k = let z : true ≡ false = sym h ∙ k in let y : ◌≡◌ {A = ℕ} 0 1 = cc in omega arith

module _ (p : Ends → Bool) (f : ℕ → Edge) where
  abbrev on : Edge → Bool
  on e = p e.ends

  pub find-table-none : (n : ℕ) → ((j : ℕ) → j < n → p (f j).ends ≡ false) → find on (table f n) ≡ none
  unfolding table
  find-table-none zero h = refl
  find-table-none (suc n) h = find-miss p (f n) (table f n) (h n (omega arith)) ∙ find-table-none n (λ j k. h j (omega arith))

  pub find-table-some : (n i : ℕ) → i < n → p (f i).ends ≡ true → ((j : ℕ) → j < n → p (f j).ends ≡ true → j ≡ i) → find on (table f n) ≡ some (f i)
  unfolding table
  find-table-some zero i h e u = absurd (omega arith)
  find-table-some (suc n) i h e u = go (λ k. find-table-some n i k e (λ j l. u j (omega arith))) (ℕ_discrete i n) (p (f n).ends) refl
    where
      no-j : (j : ℕ) → j < n → i ≡ n → (b : Bool) → p (f j).ends ≡ b → b ≡ false
      no-j j l q true c = absurd (let z = u j (omega arith) c in omega arith)
      no-j j l q false c = refl

      go : (i < n → find on (table f n) ≡ some (f i)) → Dec (i ≡ n) → (b : Bool) → p (f n).ends ≡ b → find on (put (f n) (table f n)) ≡ some (f i)
      go ih (yes q) b c =
          rw q (find-hit p (f n) (table f n) (rw q at e) (find-table-none n (λ j l. no-j j l q (p (f j).ends) refl)))
      go ih (no q) true c = absurd (q (sym (u n (omega arith) c)))
      go ih (no q) false c = find-miss p (f n) (table f n) c ∙ ih (omega arith)

  -- how many of the first n rows pass
  pub count : ℕ → ℕ
  count zero = 0
  count (suc n) = cond (p (f n).ends) 1 0 + count n

  pub count-0 : count 0 ≡ 0
  unfolding count
  count-0 = refl

  pub count-more : (n : ℕ) → count (n + 1) ≡ cond (p (f n).ends) 1 0 + count n
  unfolding count
  count-more n = rw (add-one n)

  count_yes : (n : ℕ) → p (f n).ends ≡ true → count (suc n) ≡ suc (count n)
  unfolding count
  count_yes n e = rw e (omega arith)

  count_no : (n : ℕ) → p (f n).ends ≡ false → count (suc n) ≡ count n
  unfolding count
  count_no n e = rw e (omega arith)

  pub count-pos : (n i : ℕ) → i < n → p (f i).ends ≡ true → 0 < count n
  count-pos zero i h e = absurd (omega arith)
  count-pos (suc n) i h e = go (λ k. count-pos n i k e) (ℕ_discrete i n) (p (f n).ends) refl
    where
      go : (i < n → 0 < count n) → Dec (i ≡ n) → (b : Bool) → p (f n).ends ≡ b → 0 < count (suc n)
      go ih d true c = let z = count_yes n c in omega arith
      go ih (yes q) false c = absurd (not-both (p (f n).ends) (rw q at e) c)
      go ih (no q) false c = let z = count_no n c in let y = ih (omega arith) in omega arith

  pub length-keep : (n : ℕ) → Distinct f n → length (keep on (table f n)) ≡ count n
  unfolding table count
  length-keep zero d = refl
  length-keep (suc n) d = go (p (f n).ends) refl (length-keep n (fewer f n d))
    where
      go : (b : Bool) → p (f n).ends ≡ b → length (keep on (table f n)) ≡ count n → length (keep on (put (f n) (table f n))) ≡ cond (p (f n).ends) 1 0 + count n
      go true c ih = keep-more p (f n) (table f n) c (own-absent f n d) ∙ (rw c (omega arith))
      go false c ih = ap length (keep-miss p (f n) (table f n) c) ∙ (rw c (omega arith))

  keep_one : (n i : ℕ) → Distinct f n → count n ≡ 1 → i < n → p (f i).ends ≡ true → keep on (table f n) ≡ f i ∷ []
  unfolding table
  keep_one zero i d k h e = absurd (omega arith)
  keep_one (suc n) i d k h e = go (λ l m. keep_one n i (fewer f n d) l m e) (ℕ_discrete i n) (p (f n).ends) refl
    where
      go : (count n ≡ 1 → i < n → keep on (table f n) ≡ f i ∷ []) → Dec (i ≡ n) → (b : Bool) → p (f n).ends ≡ b → keep on (put (f n) (table f n)) ≡ f i ∷ []
      go ih (yes q) true c =
          let z = count_yes n c in
          let y = length-keep n (fewer f n d) in
          rw q (keep-first p (f n) (table f n) c (length-nil (keep on (table f n)) (omega arith)))
      go ih (no q) true c = absurd (let z = count_yes n c in let y = count-pos n i (omega arith) e in omega arith)
      go ih (yes q) false c = absurd (not-both (p (f n).ends) (rw q at e) c)
      go ih (no q) false c = keep-miss p (f n) (table f n) c ∙ ih (sym (count_no n c) ∙ k) (omega arith)

  -- the sole one that passes: by the count, and any row that passes
  pub sole-is : (n i : ℕ) → Distinct f n → count n ≡ 1 → i < n → p (f i).ends ≡ true → sole (keep on (table f n)) ≡ some (f i)
  sole-is n i d k h e = rw (keep_one n i d k h e)

  pub sole_none : (n : ℕ) → Distinct f n → count n ≢ 1 → sole (keep on (table f n)) ≡ none
  sole_none n d k = sole-not (keep on (table f n)) (λ z. k (sym (length-keep n d) ∙ z))

-- the count is a matter of ends alone
pub count_same : (p : Ends → Bool) (f g : ℕ → Edge) (n : ℕ) → ((j : ℕ) → j < n → p (g j).ends ≡ p (f j).ends) → count p g n ≡ count p f n
unfolding count
count_same p f g zero h = refl
count_same p f g (suc n) h = rw (h n (omega arith), count_same p f g n (λ j k. h j (omega arith)))

pub count-le : (p : Ends → Bool) (f : ℕ → Edge) (n : ℕ) → count p f n ≤ n
unfolding count
count-le p f zero = omega arith
count-le p f (suc n) = go (p (f n).ends) refl (count-le p f n)
  where
    go : (b : Bool) → p (f n).ends ≡ b → count p f n ≤ n → cond (p (f n).ends) 1 0 + count p f n ≤ suc n
    go true e h = rw e (omega arith)
    go false e h = rw e (omega arith)
