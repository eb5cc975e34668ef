-- One offer of a fork becomes an extension, which the repeat rule keeps or gives up.
use Rattle.std.specs.Prelude.{Ok, Err, ◌≡◌, refl, Bool, true, false, List, [], ◌∷◌, map, ℕ, zero, suc, ◌+◌, ◌-◌, ◌<◌, length, Float}
use Rattle.std.specs.Result.{IsErrAnd}
use Rattle.std.proofs.lemmas.Result.{err_from_is_err_and}
use Rattle.std.proofs.Common.{sym, ap, subst, ◌∙◌, arith}
use Rattle.std.proofs.Math.Option.{Option, none, some}
use Rattle.std.proofs.lemmas.List.{length-map}
use Rattle.std.specs.Float.Ieee.{binary64, add}
use Rattle.laws.specs.Lists.{keep}
use Rattle.definition.specs.Refusal.{Result, ok, refused, and_then}
use Rattle.definition.specs.Limits.{column_fits}
use Rattle.definition.specs.Score.{column_penalty, column_scoring}
use Rattle.definition.specs.Evidence.{Branches}
use Rattle.definition.specs.Search.{SearchInput, Path, Offer, extend, repeat_rule}
use Rattle.theorems.proofs.Column.{column-keeps}
use Rattle.assembly.specs.Store.{edge_at}
use Rattle.refusals.specs.declared.Refusal.{Refusal}
use Rattle.refusals.specs.Numbers.{number}
use Rattle.fork_offers.specs.declared.Offer as code
use Rattle.kbest_haplotype.specs.Penalties.{priced}
use Rattle.path_growth.specs.declared.Taken.{Taken}
use Rattle.path_store.specs.Cells.{score_of}
use Rattle.path_edges.specs.Path.{Table, table-front}
use Rattle.path_edges.specs.Visit.{keeps}
use Rattle.path_growth.specs.View.{keeps-view}
use Rattle.search_state.specs.Settings.{Setting}
use Rattle.search_state.specs.Ground.{name_of}
use Rattle.search_state.specs.State.{path_of, up_from}
use Rattle.path_extensions.specs.declared.Way.{Way}
use Rattle.path_extensions.specs.Made.{Here, given-up, up_one}
use Rattle.path_extensions.specs.One.{Extended, Run, Answers, Wanted, chain_of, Gives, Place, Stands, Lengthens, lengthened}

-- ---- the score

-- the offer as the definition's
abbrev pub offer_of : List ℕ → code.Offer → Offer
offer_of es o = record { ends = (edge_at es o.edge).ends; count = o.count; out_of = o.total; guided = o.guided }

-- ---- what is asked and what is made

pub record OfferStands (g : Setting) (es x index targets : List ℕ) (column : List Float) (t : List ℕ) (sc : List Float) (ac : List ℕ) (n : ℕ) (taken : Taken) (o : code.Offer) : Type 0 where
  pub stands : Stands g es x index targets t sc ac n taken
  pub place : Place g t sc ac n
  pub fits : column_fits column ≡ true
  pub edge : o.edge < g.edges

abbrev pub extended : List Float → List ℕ → code.Offer → SearchInput → Path Float → Result (Path Float)
extended column es o f p = extend (column_scoring column) f p (chain_of f p) (offer_of es o)

abbrev pub offered : List Float → List ℕ → code.Offer → Wanted
offered column es o f p = and_then (extended column es o f p) (λ q. ok (q ∷ []))

-- the repeat rule has its say
abbrev pub tried : List Float → List ℕ → code.Offer → Wanted
tried column es o f p = and_then (extended column es o f p) (λ q. ok (keep (repeat_rule f) (q ∷ [])))

-- the way on that the offer is, at a score
abbrev pub way_of : code.Offer → Float → Way
way_of o s = record { edge = o.edge; score = s; guided = o.guided; free = false }

module _ (column : List Float) (es : List ℕ) (o : code.Offer) (f : SearchInput) (p : Path Float) where
  extend-refused : (n : ℕ) → priced (column_penalty column o.count o.total) ≡ refused n → extended column es o f p ≡ refused n
  unfolding extend column_scoring
  extend-refused n h = go (column_penalty column o.count o.total) refl h
    where
      go : (q : Option Float) → column_penalty column o.count o.total ≡ q → priced q ≡ refused n → extended column es o f p ≡ refused n
      go none e k = let y : 10 ≡ n = cc in rw (e, extend) (ap (λ (i : ℕ). refused i) y)
      go (some d) e k = let z : ◌≡◌ {A = ℕ} 0 1 = cc in absurd (omega arith)

  extend-is : (d : Float) → column_penalty column o.count o.total ≡ some d → offered column es o f p ≡ lengthened es (way_of o (add binary64 p.score d)) f p
  unfolding extend column_scoring
  extend-is d h = rw (h, extend)

priced-some : (o : Option Float) (s : Float) → priced o ≡ ok s → o ≡ some s
priced-some none s h = let z : ◌≡◌ {A = ℕ} 0 1 = cc in absurd (omega arith)
priced-some (some d) s h = let y : d ≡ s = cc in ap some y

module _ {g : Setting} {es x index targets : List ℕ} {column : List Float} {t : List ℕ} {sc : List Float} {ac : List ℕ} {n : ℕ} {taken : Taken} {o : code.Offer}
    (O : OfferStands g es x index targets column t sc ac n taken o) where
  pub offer-refused : (e : Refusal) → refused (number e) ≡ priced (column_penalty column o.count o.total) → {r : Extended} → IsErrAnd r (λ d. d ≡ e)
      → Gives g es x index targets t sc ac n taken 1 (offered column es o) r t sc ac
  offer-refused e h {r} i =
      let q = err_from_is_err_and r i in
      rw (q.1, q.2)
      (record {
        is = λ f bs H. ap (λ (y : Result (Path Float)). and_then y (λ q. ok (q ∷ []))) (extend-refused column es o f (path_of f es index targets bs t sc taken.path) (number e) (sym h));
      })

  module _ {d : Float} (hd : ok d ≡ priced (column_penalty column o.count o.total)) where
    scored : column_penalty column o.count o.total ≡ some d
    scored = priced-some (column_penalty column o.count o.total) d (sym hd)

    pub offer-asks : Lengthens g es x index targets t sc ac n taken (way_of o (add binary64 (score_of sc taken.path) d))
    unfolding column_scoring
    offer-asks =
        record {
          stands = O.stands;
          place = O.place;
          edge = O.edge;
          score = (column-keeps column O.fits).plus-fine (score_of sc taken.path) d o.count o.total (O.stands.here.records.number taken.path O.stands.here.known) scored;
        }

    pub offer-made : {r : Extended} {t' : List ℕ} {sc' : List Float} {ac' : List ℕ}
        → Gives g es x index targets t sc ac n taken 1 (lengthened es (way_of o (add binary64 (score_of sc taken.path) d))) r t' sc' ac'
        → Gives g es x index targets t sc ac n taken 1 (offered column es o) r t' sc' ac'
    offer-made {r} {t'} {sc'} {ac'} G =
        record {
          is = λ f bs H.
              subst (λ (want : Result (List (Path Float))). Answers (Run f g es x index targets bs t sc n taken.path t' sc' ac' 1 want) (λ k. want ≡ refused k) r)
              (sym (extend-is column es o f (path_of f es index targets bs t sc taken.path) d scored)) (G.is f bs H);
        }

-- ---- the repeat rule

pub up-length : (a k : ℕ) → length (up_from a k) ≡ k
unfolding up_from
up-length a zero = refl
up-length a (suc k) = ap suc (up-length (suc a) k)

-- the one path that a result holds
record Only (R : Result (Path Float)) (ps : List (Path Float)) : Type 0 where
  one : Path Float
  is : R ≡ ok one
  all : ps ≡ one ∷ []

only_of : (R : Result (Path Float)) (ps : List (Path Float)) → and_then R (λ q. ok (q ∷ [])) ≡ ok ps → Only R ps
only_of (ok q) ps h = record { one = q; is = refl; all = cc }
only_of (refused k) ps h = let z : ◌≡◌ {A = ℕ} 0 1 = cc in absurd (omega arith)

refused-of : (R : Result (Path Float)) (k : ℕ) (F : Path Float → List (Path Float)) → and_then R (λ q. ok (q ∷ [])) ≡ refused k → and_then R (λ q. ok (F q)) ≡ refused k
refused-of (ok q) k F h = let z : ◌≡◌ {A = ℕ} 0 1 = cc in absurd (omega arith)
refused-of (refused j) k F h = h

keep-yes : (f : SearchInput) (q : Path Float) → repeat_rule f q ≡ true → keep (repeat_rule f) (q ∷ []) ≡ q ∷ []
keep-yes f q h = rw h

keep-no : (f : SearchInput) (q : Path Float) → repeat_rule f q ≡ false → keep (repeat_rule f) (q ∷ []) ≡ []
keep-no f q h = rw h

module _ {g : Setting} {es x index targets : List ℕ} {column : List Float} {t : List ℕ} {sc : List Float} {ac : List ℕ} {n : ℕ} {taken : Taken} {o : code.Offer} {t' : List ℕ} {sc' : List Float} {ac' : List ℕ}
    (O : OfferStands g es x index targets column t sc ac n taken o) where
  pub tried-refused : {r : Extended} {k : Refusal} → Gives g es x index targets t sc ac n taken 1 (offered column es o) r t' sc' ac' → r ≡ Err k
      → Gives g es x index targets t sc ac n taken 1 (tried column es o) r t' sc' ac'
  tried-refused {r} {k} G e = rw e (record { is = λ f bs H. refused-of (extended column es o f (path_of f es index targets bs t sc taken.path)) (number k) (λ q. keep (repeat_rule f) (q ∷ [])) (told f bs H) })
    where
      told : (f : SearchInput) (bs : ℕ → List Branches) → Here g es x index targets t sc ac n taken f bs → offered column es o f (path_of f es index targets bs t sc taken.path) ≡ refused (number k)
      told f bs H = rw e at (G.is f bs H)

  module _ {r : Extended} {m : ℕ} (G : Gives g es x index targets t sc ac n taken 1 (offered column es o) r t' sc' ac') (e : r ≡ Ok m) where
    module _ (f : SearchInput) (bs : ℕ → List Branches) (H : Here g es x index targets t sc ac n taken f bs) where
      run : Run f g es x index targets bs t sc n taken.path t' sc' ac' 1 (offered column es o f (path_of f es index targets bs t sc taken.path)) m
      run = rw e at (G.is f bs H)

      it : Only (extended column es o f (path_of f es index targets bs t sc taken.path)) run.paths
      it = only_of (extended column es o f (path_of f es index targets bs t sc taken.path)) run.paths run.is

      next : m ≡ n + 1
      next =
          let a : length run.paths ≡ m - n =
          ap length run.made.is ∙ length-map (up_from n (m - n)) (path_of f es index targets run.made.bs' t' sc') ∙ up-length n (m - n)
          in
          let b : length run.paths ≡ 1 = ap length it.all in
          let d = run.made.up in
          omega arith

      read : it.one ≡ path_of f es index targets run.made.bs' t' sc' n
      read =
          let z : m - n ≡ n + 1 - n = let y = next in omega arith in
          let y : it.one ∷ [] ≡ path_of f es index targets run.made.bs' t' sc' n ∷ [] =
          sym it.all ∙ run.made.is ∙ ap (λ (i : ℕ). map (path_of f es index targets run.made.bs' t' sc') (up_from n i)) z ∙ ap (map (path_of f es index targets run.made.bs' t' sc')) (up_one n)
          in
          cc

      pub rule-table : Table index targets t' sc' (n + 1)
      rule-table = table-front index targets t' sc' m (n + 1) run.made.records.held.table (let z = next in omega arith)

      module _ {b : Bool} (hb : b ≡ keeps index targets 0 t' n) where
        ruled : b ≡ repeat_rule f it.one
        ruled =
            hb ∙ ap (λ (s : ℕ). keeps index targets s t' n) (sym H.on_ground.source)
            ∙ keeps-view f (name_of es) index targets H.on_ground.agrees (run.made.bs' n) t' sc' m n run.made.records.held.rooted (let z = next in omega arith) ∙ ap (repeat_rule f) (sym read)

        kept_run : b ≡ true → Run f g es x index targets bs t sc n taken.path t' sc' ac' 1 (tried column es o f (path_of f es index targets bs t sc taken.path)) m
        kept_run h =
            record {
              paths = run.paths;
              is =
                  ap (λ (y : Result (Path Float)). and_then y (λ q. ok (keep (repeat_rule f) (q ∷ [])))) it.is
                  ∙ ap ok (keep-yes f it.one (sym ruled ∙ h) ∙ sym it.all);
              made = run.made;
              most = run.most;
            }

        lost-run : b ≡ false → Run f g es x index targets bs t sc n taken.path t' sc' ac' 1 (tried column es o f (path_of f es index targets bs t sc taken.path)) n
        lost-run h =
            record {
              paths = [];
              is = ap (λ (y : Result (Path Float)). and_then y (λ q. ok (keep (repeat_rule f) (q ∷ [])))) it.is ∙ ap ok (keep-no f it.one (sym ruled ∙ h));
              made = given-up f g es x index targets bs t sc n taken.path t' sc' ac' m run.paths run.made;
              most = omega arith;
            }

    module _ {b : Bool} (hb : b ≡ keeps index targets 0 t' n) where
      pub tried-kept : b ≡ true → Gives g es x index targets t sc ac n taken 1 (tried column es o) (Ok m) t' sc' ac'
      tried-kept h = record { is = λ f bs H. kept_run f bs H hb h }

      pub tried-lost : b ≡ false → Gives g es x index targets t sc ac n taken 1 (tried column es o) (Ok n) t' sc' ac'
      tried-lost h = record { is = λ f bs H. lost-run f bs H hb h }
