-- Edge numbers and the definition's edges: the chain, the vertices and the end of a path over `Ends` are those over numbers.
use Rattle.std.specs.Prelude.{◌≡◌, ◌⊎◌, Bool, false, ◌||◌, eqb, take}
use Rattle.std.proofs.Common.{sym, ◌∙◌, inl, inr, arith, refl, ap, true, List, [], ◌∷◌, ◌++◌, map, append-nil, ℕ, zero, suc, ◌<◌, length, get_or}
use Rattle.std.proofs.lemmas.List.{map-append}
use Rattle.std.proofs.Math.Option.{none, some}
use Rattle.laws.specs.Lists.{any, tally}
use Rattle.laws.specs.BoolLaws.{both_ways, or_right}
use Rattle.definition.specs.Threading.{Ends, Edge, eq_ends}
use Rattle.definition.specs.Search.{SearchInput, onward, among}
use Rattle.definition.specs.Search as defs
use Rattle.path_store.specs.Walk.{Graph, times, end_from, chain, chain_from, any_append, any-one, any-nil, any-hit}
use Rattle.path_growth.specs.Extend.{longer, longer-is}

pub record On (f : SearchInput) (ends : ℕ → Ends) (v e : ℕ) : Type 0 where
  pub edge : Edge
  pub is : onward f v ≡ some edge
  pub name : edge.ends ≡ ends e

-- the two slices tell the edges of the search: `ends e` is the name of the edge e
pub record Agrees (f : SearchInput) (index targets : List ℕ) (ends : ℕ → Ends) : Type 0 where
  pub graph : Graph index targets
  pub size : length f.edges ≡ length targets
  pub target : (e : ℕ) → (ends e).to ≡ get_or targets e 0
  pub apart : (e d : ℕ) → e < length targets → d < length targets → eq_ends (ends e) (ends d) ≡ eqb e d
  pub stop : (v : ℕ) → get_or index v 0 ≡ 0 → onward f v ≡ none
  pub on : (v e : ℕ) → get_or index v 0 ≡ suc e → On f ends v e

module _ (f : SearchInput) (index targets : List ℕ) (ends : ℕ → Ends) (A : Agrees f index targets ends) where
  Within : List ℕ → Type 0
  Within c = (d : ℕ) → any (eqb d) c ≡ true → d < length targets

  tail : (x : ℕ) (c : List ℕ) → Within (x ∷ c) → Within c
  unfolding Within
  tail x c w d h = w d (go (eqb d x))
    where
      go : (b : Bool) → (b || any (eqb d) c) ≡ true
      go b = rw h (or_right b)

  head : (x : ℕ) (c : List ℕ) → Within (x ∷ c) → x < length targets
  unfolding Within
  head x c w = w x (any-hit x x c refl)

  among_same : (e : ℕ) (c : List ℕ) → e < length targets → Within c → among (ends e) (map ends c) ≡ any (eqb e) c
  unfolding among
  among_same e [] l w = refl
  among_same e (x ∷ c) l w = rw (A.apart e x l (head x c w), among_same e c l (tail x c w))

  more : (c : List ℕ) (e : ℕ) → e < length targets → Within c → Within (c ++ e ∷ [])
  unfolding Within
  more c e l w d h = go (any_append (eqb d) c (e ∷ []) h)
    where
      go : (any (eqb d) c ≡ true) ⊎ (any (eqb d) (e ∷ []) ≡ true) → d < length targets
      go (inl k) = w d k
      go (inr k) = rw (any-one e d k) l

  defs-on : (n v : ℕ) (d : Edge) (c : List Ends) → onward f v ≡ some d → among d.ends c ≡ false
      → defs.chain_from f (suc n) v c ≡ defs.chain_from f n d.ends.to (c ++ d.ends ∷ [])
  unfolding defs.chain_from
  defs-on n v d c h k = rw (h, k, defs.chain_from)

  steps : (n v : ℕ) (c : List ℕ) → Within c → map ends (chain_from index targets n v c) ≡ defs.chain_from f n v (map ends c)
  unfolding defs.chain_from chain_from
  steps zero v c w = refl
  steps (suc n) v c w = go (get_or index v 0) refl (λ e l u. steps n (get_or targets e 0) (c ++ e ∷ []) (more c e l w))
    where
      go : (x : ℕ) → get_or index v 0 ≡ x
          → ((e : ℕ) → e < length targets → Unit {0} → map ends (chain_from index targets n (get_or targets e 0) (c ++ e ∷ [])) ≡ defs.chain_from f n (get_or targets e 0) (map ends (c ++ e ∷ [])))
          → map ends (chain_from index targets (suc n) v c) ≡ defs.chain_from f (suc n) v (map ends c)
      go zero h up = rw (h, A.stop v h, chain_from, defs.chain_from)
      go (suc e) h up = test (any (eqb e) c) refl
        where
          l : e < length targets
          l = omega (arith, A.graph.near v)

          o : On f ends v e
          o = A.on v e h

          test : (b : Bool) → any (eqb e) c ≡ b → map ends (chain_from index targets (suc n) v c) ≡ defs.chain_from f (suc n) v (map ends c)
          test true k = rw (h, o.is, o.name, among_same e c l w, k, chain_from, defs.chain_from)
          test false k =
              let q : among o.edge.ends (map ends c) ≡ false = rw o.name (among_same e c l w ∙ k) in
              ap (λ x. map ends x) (chain-on' e h k)
              ∙ up e l tt
              ∙ ap (λ x. defs.chain_from f n (get_or targets e 0) x) (map-append ends c (e ∷ []))
              ∙ ap (λ x. defs.chain_from f n x (map ends c ++ ends e ∷ [])) (sym (A.target e))
              ∙ ap (λ (x : Ends). defs.chain_from f n x.to (map ends c ++ x ∷ [])) (sym o.name)
              ∙ sym (defs-on n v o.edge (map ends c) o.is q)
            where
              chain-on' : (e : ℕ) → get_or index v 0 ≡ suc e → any (eqb e) c ≡ false → chain_from index targets (suc n) v c ≡ chain_from index targets n (get_or targets e 0) (c ++ e ∷ [])
              chain-on' e h k = rw (h, k, chain_from)

  pub chain_same : (v : ℕ) → map ends (chain index targets v) ≡ defs.chain f v
  unfolding defs.chain chain Within
  chain_same v = rw A.size (steps (length targets) v [] (λ d h. both_ways h (any-nil (eqb d))))

  pub end_same : (v : ℕ) (es : List ℕ) → end_from targets v es ≡ defs.end_from v (map ends es)
  unfolding defs.end_from end_from
  end_same v [] = refl
  end_same v (e ∷ es) = rw (A.target e) (end_same (get_or targets e 0) es)

  pub targets-same : (es : List ℕ) → map (λ e. get_or targets e 0) es ≡ map (λ (e : Ends). e.to) (map ends es)
  targets-same [] = refl
  targets-same (e ∷ es) = rw (A.target e, targets-same es)

  pub times-same : (s v : ℕ) (es : List ℕ) → times targets s v es ≡ defs.times v (defs.vertices_from s (map ends es))
  unfolding defs.times defs.vertices_from times
  times-same s v es = ap (λ (x : List ℕ). tally (eqb v) (s ∷ x)) (targets-same es)

  -- the edge lists that `lengthen` and `close_at` make
  pub longer-same : (s : ℕ) (es : List ℕ) (e : ℕ)
      → map ends (longer index targets s es (suc e)) ≡ map ends es ++ defs.chain f (defs.end_from s (map ends es)) ++ ends e ∷ []
  longer-same s es e =
      ap (λ x. map ends x) (longer-is index targets s es (suc e))
      ∙ map-append ends (es ++ chain index targets (end_from targets s es)) (e ∷ [])
      ∙ ap (λ x. x ++ ends e ∷ []) (map-append ends es (chain index targets (end_from targets s es)))
      ∙ (rw (chain_same (end_from targets s es), end_same s es))

  pub closed_same : (s : ℕ) (es : List ℕ) → map ends (longer index targets s es 0) ≡ map ends es ++ defs.chain f (defs.end_from s (map ends es))
  closed_same s es =
      ap (λ x. map ends x) (longer-is index targets s es 0 ∙ append-nil (es ++ chain index targets (end_from targets s es)))
      ∙ map-append ends es (chain index targets (end_from targets s es))
      ∙ (rw (chain_same (end_from targets s es), end_same s es))

  -- the list that `recover` makes
  pub recovered-same : (k : ℕ) (es : List ℕ) (e : ℕ) → map ends (take k es ++ e ∷ []) ≡ take k (map ends es) ++ ends e ∷ []
  recovered-same k es e = map-append ends (take k es) (e ∷ []) ∙ ap (λ x. x ++ ends e ∷ []) (front k es)
    where
      front : (k : ℕ) (es : List ℕ) → map ends (take k es) ≡ take k (map ends es)
      front zero es = refl
      front (suc k) [] = refl
      front (suc k) (x ∷ es) = ap (λ l. ends x ∷ l) (front k es)
