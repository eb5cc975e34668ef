-- The origins of a path, from its edges written out: a loop that copies what a table tells of each edge.
use Rattle.std.specs.Prelude.{◌≡◌, refl, List, [], ◌∷◌, ◌++◌, map, ℕ, ◌+◌, ◌<◌, ◌≤◌, length, get_or, take, set}
use Rattle.std.proofs.Common.{sym, ap, ◌∙◌, add-one, arith, take-suc, length-take-le}
use Rattle.std.proofs.lemmas.List.{map-append, length-map}
use Rattle.std.proofs.lemmas.List.Edits.{sets}
use Rattle.laws.specs.Stores.{sets_more}
use Rattle.laws.specs.ListLaws.{All, nil, cons}
use Rattle.definition.specs.Threading.{Ends, Origin, Edge}
use Rattle.definition.specs.Listing.{origin_at}
use Rattle.definition.specs.Search.{SearchInput}
use Rattle.path_growth.specs.Link.{Agrees}

-- what a table tells of each of the first i edges is stored from the place `from` on
pub record Copying (tell : ℕ → ℕ) (walk out₀ : List ℕ) (from : ℕ) (out : List ℕ) (i : ℕ) : Type 0 where
  pub low : i ≤ length walk
  pub is : out ≡ sets out₀ from (map tell (take i walk))

module _ (tell : ℕ → ℕ) (walk out₀ : List ℕ) (from : ℕ) (out : List ℕ) (i : ℕ) (C : Copying tell walk out₀ from out i) where
  pub copying-next : (x : ℕ) → i < length walk → x ≡ tell (get_or walk i 0) → Copying tell walk out₀ from (set out (from + i) x) (i + 1)
  copying-next x h e =
      let k : length (map tell (take i walk)) ≡ i = length-map (take i walk) tell ∙ length-take-le i walk (omega arith) in
      let q : take (i + 1) walk ≡ take i walk ++ get_or walk i 0 ∷ [] = ap (λ y. take y walk) (add-one i) ∙ take-suc walk i 0 (omega arith) in
      let m : map tell (take (i + 1) walk) ≡ map tell (take i walk) ++ tell (get_or walk i 0) ∷ [] =
      ap (λ (y : List ℕ). map tell y) q ∙ map-append tell (take i walk) (get_or walk i 0 ∷ [])
      in
      record {
        low = omega arith;
        is =
            ap (λ (y : List ℕ). set y (from + i) x) C.is
            ∙ ap (λ y. set (sets out₀ from (map tell (take i walk))) (from + y) x) (sym k)
            ∙ ap (λ y. set (sets out₀ from (map tell (take i walk))) (from + length (map tell (take i walk))) y) e
            ∙ sym (sets_more out₀ from (map tell (take i walk)) (tell (get_or walk i 0)))
            ∙ ap (λ (y : List ℕ). sets out₀ from y) (sym m);
      }

-- ---- over the definition

module _ (f : SearchInput) (index targets : List ℕ) (ends : ℕ → Ends) (A : Agrees f index targets ends) where
  -- the origins, by what a table of records tells of each edge
  pub origins-same : (es₀ : List Edge) (tell : ℕ → Origin) (part : Origin → ℕ) → ((e : ℕ) → e < length targets → origin_at es₀ (ends e) ≡ tell e) → (es : List ℕ)
      → All (λ e. e < length targets) es → map part (map (origin_at es₀) (map ends es)) ≡ map (λ e. part (tell e)) es
  origins-same es₀ tell part h [] nil = refl
  origins-same es₀ tell part h (e ∷ es) (cons l a) = rw (h e l) (ap (λ (x : List ℕ). part (tell e) ∷ x) (origins-same es₀ tell part h es a))
