-- Kmer sizes: "only `KmerSize`, 2 and up".
use Rattle.std.proofs.Math.Path.{◌≡◌, refl}
use Rattle.std.proofs.Common.{◌∙◌, arith}
use Rattle.std.specs.Prelude.{ℕ, ◌<◌, ◌≤◌, Bool, ◌&&◌, List, [], ◌∷◌}
use Rattle.std.proofs.Math.Bool.{true, false, and-false}
use Rattle.std.proofs.Math.Dec.{leb}
use borrow.Author.Tests.{le-leb, lt-leb}
use Rattle.definition.specs.Refusal.{Result, ok, refused, Rule, first_broken}
use Rattle.definition.specs.Limits.{k_fits}
use Rattle.std.specs.Prelude as Prelude
use Rattle.std.specs.Prelude.{Ok, Err, IfOk}
use Rattle.refusals.specs.declared.Refusal.{Refusal}
use Rattle.refusals.specs.Numbers.{number, refusal_of}
use Rattle.bio_ids.specs.declared.KmerSize.{KmerSize}

-- the size or the number that an answer of `try_new` holds
abbrev pub size_of : Prelude.Result KmerSize Refusal → Result ℕ
size_of (Ok s) = ok s.0
size_of (Err e) = refused (number e)

-- k itself, where it is 2 and up
unfoldable pub at_least_two : ℕ → Result ℕ
at_least_two k = elim (leb 2 k) [ true ↦ ok k | false ↦ refused 1 ]

-- "k outside limits" is 1
abbrev pub k_rules : ℕ → List Rule
k_rules k = record { number = 1; holds = k_fits k } ∷ []

-- of k and the answer for it: the refusal is the first rule of k that is broken, and the size of an accepted k is k
abbrev pub Sized : ℕ → Prelude.Result KmerSize Refusal → Type 0
Sized k r = (refusal_of r ≡ first_broken (k_rules k)) × IfOk r (λ s. s.0 ≡ k)

-- ---- laws, one for each return of the code

pub too_small : (k : ℕ) → k < 2 → refused 1 ≡ at_least_two k
unfolding at_least_two
too_small k h = rw (lt-leb 2 k h, at_least_two)

pub is-size : (k : ℕ) → 2 ≤ k → ok k ≡ at_least_two k
unfolding at_least_two
is-size k h = rw (le-leb 2 k h, at_least_two)

broken : (k : ℕ) → k_fits k ≡ false → 1 ≡ first_broken (k_rules k)
unfolding first_broken
broken k h = rw (h, first_broken)

holds : (k : ℕ) → k_fits k ≡ true → 0 ≡ first_broken (k_rules k)
unfolding first_broken
holds k h = rw (h, first_broken)

pub k-above : (k : ℕ) → 128 < k → 1 ≡ first_broken (k_rules k)
unfolding k_fits
k-above k h = broken k (rw (lt-leb k 128 h, and-false (leb 2 k)))

-- below the upper limit k fits where it is a kmer size
module _ (k : ℕ) where
  pub k-tried : (tried : Prelude.Result KmerSize Refusal) → size_of tried ≡ at_least_two k → k ≤ 128 → refusal_of tried ≡ first_broken (k_rules k)
  unfolding at_least_two k_fits
  k-tried (Ok s) e h = holds k (go (leb 2 k) refl)
    where
      go : (b : Bool) → leb 2 k ≡ b → (leb 2 k && leb k 128) ≡ true
      go true g = rw (g, le-leb k 128 h)
      go false g =
          let n : ok s.0 ≡ refused 1 = e ∙ rw (g, at_least_two) in
          let z : ◌≡◌ {A = ℕ} 0 1 = cc in
          absurd (omega arith)
  k-tried (Err r) e h = go (leb 2 k) refl
    where
      go : (b : Bool) → leb 2 k ≡ b → number r ≡ first_broken (k_rules k)
      go true g =
          let o : refused (number r) ≡ ok k = e ∙ rw (g, at_least_two) in
          let z : ◌≡◌ {A = ℕ} 0 1 = cc in
          absurd (omega arith)
      go false g =
          let o : refused (number r) ≡ refused 1 = e ∙ rw (g, at_least_two) in
          let y : number r ≡ 1 = cc in
          y ∙ broken k (rw g)

  pub k-size : (tried : Prelude.Result KmerSize Refusal) → size_of tried ≡ at_least_two k → IfOk tried (λ s. s.0 ≡ k)
  unfolding at_least_two
  k-size (Err r) e = tt
  k-size (Ok s) e = go (leb 2 k) refl
    where
      go : (b : Bool) → leb 2 k ≡ b → s.0 ≡ k
      go true g =
          let o : ok s.0 ≡ ok k = e ∙ rw (g, at_least_two) in
          cc
      go false g =
          let o : ok s.0 ≡ refused 1 = e ∙ rw (g, at_least_two) in
          let z : ◌≡◌ {A = ℕ} 0 1 = cc in
          absurd (omega arith)
