-- All offers of a fork in turn: what the loop over the rows keeps.
use Rattle.std.specs.Prelude.{Ok, Err, ◌≡◌, refl, Bool, true, false, cond, List, [], ◌∷◌, ◌++◌, map, ℕ, zero, suc, ◌+◌, ◌-◌, ◌*◌, ◌<◌, ◌≤◌, length, Float}
use Rattle.std.proofs.Common.{sym, ap, ◌∙◌, add-one, mul-le-mul_right, append_assoc, arith}
use Rattle.std.proofs.lemmas.List.{map-append}
use Rattle.laws.specs.Lists.{keep}
use Rattle.laws.specs.Rows.{rows, rows_more, length-rows}
use Rattle.definition.specs.Refusal.{Result, ok, refused, and_then, each}
use Rattle.definition.specs.Limits.{column_fits}
use Rattle.definition.specs.Score.{column_scoring}
use Rattle.definition.specs.Evidence.{Branches}
use Rattle.definition.specs.Search.{SearchInput, Path, Offer, extend, repeat_rule}
use Rattle.fork_offers.specs.declared.Offer as code
use Rattle.fork_offers.specs.Fields.{HasOffers, row_of}
use Rattle.refusals.specs.declared.Refusal.{Refusal}
use Rattle.refusals.specs.Numbers.{number}
use Rattle.fork_offers.specs.Rows.{offer_at, offers_of, Few}
use Rattle.path_growth.specs.declared.Taken.{Taken}
use Rattle.path_store.specs.Cells.{HasPaths, since_of}
use Rattle.search_state.specs.Settings.{Setting}
use Rattle.search_state.specs.State.{path_of, up_from}
use Rattle.path_extensions.specs.Made.{Here, MadeTo, made_none, made-both, here-after, up-append}
use Rattle.path_extensions.specs.One.{Extended, Run, Wanted, chain_of, Gives, Place, Stands}
use Rattle.path_extensions.specs.Offer.{OfferStands, tried}

-- there is room for eight records from n on
pub record Rooms (g : Setting) (t : List ℕ) (sc : List Float) (ac : List ℕ) (n : ℕ) : Type 0 where
  pub paths : HasPaths t (n + 8)
  pub scores : n + 8 ≤ length sc
  pub actives : (n + 8) * g.active ≤ length ac
  pub number : n + 8 < 2147483648

pub rooms-place : (g : Setting) (t : List ℕ) (sc : List Float) (ac : List ℕ) (n : ℕ) → Rooms g t sc ac n → (t' : List ℕ) (sc' : List Float) (ac' : List ℕ) (m : ℕ) → length t' ≡ length t
    → length sc' ≡ length sc → length ac' ≡ length ac → m + 1 ≤ n + 8 → Place g t' sc' ac' m
rooms-place g t sc ac n R t' sc' ac' m a b c h =
    let p = R.paths in
    let q = R.scores in
    let r = R.actives in
    let s = R.number in
    let z : (m + 1) * g.active ≤ (n + 8) * g.active = mul-le-mul_right g.active h in
    record { paths = omega arith; scores = omega arith; actives = omega arith; number = omega arith }

pub record OffersStand (g : Setting) (es x index targets : List ℕ) (column : List Float) (t : List ℕ) (sc : List Float) (ac out : List ℕ) (n : ℕ) (taken : Taken) (k : ℕ) : Type 0 where
  pub stands : Stands g es x index targets t sc ac n taken
  pub rooms : Rooms g t sc ac n
  pub fits : column_fits column ≡ true
  pub few : k ≤ 6
  pub inside : HasOffers out k
  pub edges : Few g.edges out k

-- the extensions of a fork: each offer's, then those that the repeat rule keeps
abbrev pub all_tried : List Float → List ℕ → List ℕ → ℕ → Wanted
all_tried column es out k f p = and_then (each (extend (column_scoring column) f p (chain_of f p)) (offers_of es out k)) (λ qs. ok (keep (repeat_rule f) qs))

-- ---- the definition, offer by offer

module _ {A B : Type 0} (F : A → Result B) where
  each-refused : (o : A) (os : List A) (k : ℕ) → F o ≡ refused k → each F (o ∷ os) ≡ refused k
  each-refused o os k e = rw (e, each)

  each-late : (o : A) (os : List A) (q : B) (k : ℕ) → F o ≡ ok q → each F os ≡ refused k → each F (o ∷ os) ≡ refused k
  each-late o os q k e d = rw (e, d, each)

  each-ok : (o : A) (os : List A) (q : B) (qs : List B) → F o ≡ ok q → each F os ≡ ok qs → each F (o ∷ os) ≡ ok (q ∷ qs)
  each-ok o os q qs e d = rw (e, d, each)

  module _ (rule : B → Bool) where
    -- the paths that are kept already, and what is left
    pub rest : List A → List B → Result (List B)
    rest os done = and_then (each F os) (λ qs. ok (done ++ keep rule qs))

    rest-is : (os : List A) (done : List B) (r : Result (List B)) → each F os ≡ r → rest os done ≡ and_then r (λ qs. ok (done ++ keep rule qs))
    unfolding rest
    rest-is os done r e = ap (λ (y : Result (List B)). and_then y (λ qs. ok (done ++ keep rule qs))) e

    rest-step : (o : A) (os : List A) (done ps : List B) → and_then (F o) (λ q. ok (keep rule (q ∷ []))) ≡ ok ps → rest (o ∷ os) done ≡ rest os (done ++ ps)
    rest-step o os done ps h = go (F o) refl h (each F os) refl
      where
        front : (q : B) (qs : List B) → keep rule (q ∷ qs) ≡ keep rule (q ∷ []) ++ keep rule qs
        front q qs = by (rule q)
          where
            by : (b : Bool) → cond b (q ∷ keep rule qs) (keep rule qs) ≡ cond b (q ∷ []) [] ++ keep rule qs
            by true = refl
            by false = refl

        go : (r : Result B) → F o ≡ r → and_then r (λ q. ok (keep rule (q ∷ []))) ≡ ok ps → (s : Result (List B)) → each F os ≡ s → rest (o ∷ os) done ≡ rest os (done ++ ps)
        go (refused k) e z s d = let y : ◌≡◌ {A = ℕ} 0 1 = cc in absurd (omega arith)
        go (ok q) e z (refused k) d = rest-is (o ∷ os) done (refused k) (each-late o os q k e d) ∙ sym (rest-is os (done ++ ps) (refused k) d)
        go (ok q) e z (ok qs) d =
            let y : keep rule (q ∷ []) ≡ ps = cc in
            let w : done ++ keep rule (q ∷ qs) ≡ (done ++ ps) ++ keep rule qs =
            ap (λ (l : List B). done ++ l) (front q qs ∙ ap (λ (l : List B). l ++ keep rule qs) y) ∙ sym (append_assoc done ps (keep rule qs))
            in
            rest-is (o ∷ os) done (ok (q ∷ qs)) (each-ok o os q qs e d) ∙ ap ok w ∙ sym (rest-is os (done ++ ps) (ok qs) d)

    rest-stop : (o : A) (os : List A) (done : List B) (k : ℕ) → and_then (F o) (λ q. ok (keep rule (q ∷ []))) ≡ refused k → rest (o ∷ os) done ≡ refused k
    rest-stop o os done k h = go (F o) refl h
      where
        go : (r : Result B) → F o ≡ r → and_then r (λ q. ok (keep rule (q ∷ []))) ≡ refused k → rest (o ∷ os) done ≡ refused k
        go (refused j) e z = rest-is (o ∷ os) done (refused j) (each-refused o os j e) ∙ z
        go (ok q) e z = let y : ◌≡◌ {A = ℕ} 0 1 = cc in absurd (omega arith)

rows-up : {A : Type 0} (F : ℕ → A) (k : ℕ) → rows F k ≡ map F (up_from 0 k)
unfolding up_from
rows-up F zero = none (rows F 0) (length-rows F 0)
  where
    none : {A : Type 0} (xs : List A) → length xs ≡ 0 → xs ≡ []
    none [] h = refl
    none (x ∷ xs) h = absurd (omega arith)
rows-up {A} F (suc k) =
    let z : k + 1 ≡ suc k = omega arith in
    let y : 0 + k ≡ k = omega arith in
    rows_more F F k (F k) refl (λ j h. refl) ∙ ap (λ (l : List A). l ++ F k ∷ []) (rows-up F k) ∙ sym (map-append F (up_from 0 k) (k ∷ []))
    ∙ ap (λ (i : ℕ). map F (up_from 0 k ++ up_from i 1)) (sym y) ∙ ap (map F) (sym (up-append 0 k 1)) ∙ ap (λ (i : ℕ). map F (up_from 0 i)) z

up-head : (a k : ℕ) → a < k → up_from a (k - a) ≡ a ∷ up_from (a + 1) (k - (a + 1))
unfolding up_from
up-head a k h =
    let z : k - a ≡ suc (k - (a + 1)) = omega arith in
    ap (λ (i : ℕ). up_from a i) z ∙ ap (λ (i : ℕ). a ∷ up_from i (k - (a + 1))) (sym (add-one a))

-- ---- the loop

pub record Tried (g : Setting) (es x index targets : List ℕ) (column : List Float) (t₀ : List ℕ) (sc₀ : List Float) (out : List ℕ) (n : ℕ) (taken : Taken) (k : ℕ) (t : List ℕ) (sc : List Float)
    (ac : List ℕ) (made row : ℕ) (f : SearchInput) (bs : ℕ → List Branches) : Type 0 where
  pub done : List (Path Float)
  pub to-here : MadeTo f g es x index targets bs t₀ sc₀ n taken.path t sc ac made done
  pub most : made ≤ n + row
  pub left : all_tried column es out k f (path_of f es index targets bs t₀ sc₀ taken.path)
      ≡ rest (extend (column_scoring column) f (path_of f es index targets bs t₀ sc₀ taken.path) (chain_of f (path_of f es index targets bs t₀ sc₀ taken.path))) (repeat_rule f)
      (map (offer_at es out) (up_from row (k - row))) done

pub record Trying (g : Setting) (es x index targets : List ℕ) (column : List Float) (t₀ : List ℕ) (sc₀ : List Float) (ac₀ out : List ℕ) (n : ℕ) (taken : Taken) (k : ℕ) (t : List ℕ)
    (sc : List Float) (ac : List ℕ) (made row : ℕ) : Type 0 where
  pub run : (f : SearchInput) (bs : ℕ → List Branches) → Here g es x index targets t₀ sc₀ ac₀ n taken f bs → Tried g es x index targets column t₀ sc₀ out n taken k t sc ac made row f bs
  pub paths : length t ≡ length t₀
  pub scores : length sc ≡ length sc₀
  pub actives : length ac ≡ length ac₀
  pub low : row ≤ k

module _ {g : Setting} {es x index targets : List ℕ} {column : List Float} {t₀ : List ℕ} {sc₀ : List Float} {ac₀ out : List ℕ} {n : ℕ} {taken : Taken} {k : ℕ}
    (O : OffersStand g es x index targets column t₀ sc₀ ac₀ out n taken k) where
  pub trying_start : Trying g es x index targets column t₀ sc₀ ac₀ out n taken k t₀ sc₀ ac₀ n 0
  unfolding rest offers_of
  trying_start =
      record {
        run = λ f bs H.
            let p = path_of f es index targets bs t₀ sc₀ taken.path in
            let z : k - 0 ≡ k = omega arith in
            record {
              done = [];
              to-here = made_none f g es x index targets bs t₀ sc₀ n ac₀ taken.path H.records;
              most = omega arith;
              left =
                  ap (λ (os : List Offer). and_then (each (extend (column_scoring column) f p (chain_of f p)) os) (λ qs. ok (keep (repeat_rule f) qs)))
                  (rows-up (offer_at es out) k ∙ ap (λ (i : ℕ). map (offer_at es out) (up_from 0 i)) (sym z));
            };
        paths = refl;
        scores = refl;
        actives = refl;
        low = omega arith;
      }

  module _ {t : List ℕ} {sc : List Float} {ac : List ℕ} {made row : ℕ} (T : Trying g es x index targets column t₀ sc₀ ac₀ out n taken k t sc ac made row) where
    module _ (l : k ≤ row) where
      pub trying-end : Gives g es x index targets t₀ sc₀ ac₀ n taken 6 (all_tried column es out k) (Ok made) t sc ac
      unfolding rest
      trying-end =
          record {
            is = λ f bs H.
                let q = T.run f bs H in
                let z : k - row ≡ 0 = omega arith in
                let b = T.low in
                let d = q.most in
                let e = O.few in
                record { paths = q.done; is = q.left ∙ ended (map (offer_at es out) (up_from row (k - row))) (none z) f (path_of f es index targets bs t₀ sc₀ taken.path) q.done; made = q.to-here; most = omega arith };
          }
        where
          none : k - row ≡ 0 → map (offer_at es out) (up_from row (k - row)) ≡ []
          none z = unfold up_from in rw z

          nil-right : (l : List (Path Float)) → l ++ [] ≡ l
          nil-right [] = refl
          nil-right (a ∷ l) = ap (λ (m : List (Path Float)). a ∷ m) (nil-right l)

          ended : (os : List Offer) → os ≡ [] → (f : SearchInput) (p : Path Float) (done : List (Path Float))
              → and_then (each (extend (column_scoring column) f p (chain_of f p)) os) (λ qs. ok (done ++ keep (repeat_rule f) qs)) ≡ ok done
          ended os e f p done = rw e (ap ok (nil-right done))

    module _ (l : row < k) where
      module _ (f : SearchInput) (bs : ℕ → List Branches) (H : Here g es x index targets t₀ sc₀ ac₀ n taken f bs) where
        so_far : Tried g es x index targets column t₀ sc₀ out n taken k t sc ac made row f bs
        so_far = T.run f bs H

        here-now : Here g es x index targets t sc ac made taken f so_far.to-here.bs'
        here-now = here-after g es x index targets t₀ sc₀ ac₀ n taken f bs H t sc ac made so_far.done so_far.to-here

        same-path : path_of f es index targets so_far.to-here.bs' t sc taken.path ≡ path_of f es index targets bs t₀ sc₀ taken.path
        same-path = let h = H.known in so_far.to-here.kept.path taken.path h (omega arith)

        left-now : all_tried column es out k f (path_of f es index targets bs t₀ sc₀ taken.path)
            ≡ rest (extend (column_scoring column) f (path_of f es index targets bs t₀ sc₀ taken.path) (chain_of f (path_of f es index targets bs t₀ sc₀ taken.path))) (repeat_rule f)
            (offer_at es out row ∷ map (offer_at es out) (up_from (row + 1) (k - (row + 1)))) so_far.done
        left-now =
            so_far.left
            ∙ ap
            (λ (is : List ℕ).
            rest (extend (column_scoring column) f (path_of f es index targets bs t₀ sc₀ taken.path) (chain_of f (path_of f es index targets bs t₀ sc₀ taken.path))) (repeat_rule f) (map (offer_at es out) is)
            so_far.done)
            (up-head row k l)

      module _ {o : code.Offer} (ho : o ≡ row_of out row) where
        pub trying-asks : OfferStands g es x index targets column t sc ac made taken o
        unfolding so_far
        trying-asks =
            let H = O.stands.here in
            let S = so_far O.stands.input O.stands.trees H in
            let e : since_of t taken.path ≡ since_of t₀ taken.path = S.to-here.cells taken.path 6 H.known (omega arith) in
            let a = O.inside in
            let b = S.most in
            let d = O.few in
            rw ho
            (record {
              stands = record { input = O.stands.input; trees = S.to-here.bs'; here = here-now O.stands.input O.stands.trees H; guided = rw e O.stands.guided };
              place = rooms-place g t₀ sc₀ ac₀ n O.rooms t sc ac made T.paths T.scores T.actives (omega arith);
              fits = O.fits;
              edge = O.edges row l;
            })

        module _ {r : Extended} {t' : List ℕ} {sc' : List Float} {ac' : List ℕ} (G₀ : Gives g es x index targets t sc ac made taken 1 (tried column es o) r t' sc' ac') where
          G : Gives g es x index targets t sc ac made taken 1 (tried column es (row_of out row)) r t' sc' ac'
          G = rw ho at G₀

          pub trying-stop : {j : Refusal} → r ≡ Err j → Gives g es x index targets t₀ sc₀ ac₀ n taken 6 (all_tried column es out k) r t' sc' ac'
          unfolding so_far G
          trying-stop {j} e =
              rw e
              (record {
                is = λ f bs H.
                    let told : tried column es (row_of out row) f (path_of f es index targets (so_far f bs H).to-here.bs' t sc taken.path) ≡ refused (number j) = rw e at (G.is f (so_far f bs H).to-here.bs' (here-now f bs H)) in
                    left-now f bs H
                    ∙ rest-stop (extend (column_scoring column) f (path_of f es index targets bs t₀ sc₀ taken.path) (chain_of f (path_of f es index targets bs t₀ sc₀ taken.path))) (repeat_rule f)
                    (offer_at es out row) (map (offer_at es out) (up_from (row + 1) (k - (row + 1)))) (so_far f bs H).done (number j)
                    (ap (λ (p : Path Float). tried column es (row_of out row) f p) (sym (same-path f bs H)) ∙ told);
              })

          pub trying-next : {m : ℕ} → r ≡ Ok m → length t' ≡ length t → length sc' ≡ length sc → length ac' ≡ length ac
              → Trying g es x index targets column t₀ sc₀ ac₀ out n taken k t' sc' ac' m (row + 1)
          unfolding so_far G
          trying-next {m} e a b c =
              record {
                run = λ f bs H.
                    let S = so_far f bs H in
                    let R : Run f g es x index targets S.to-here.bs' t sc made taken.path t' sc' ac' 1 (tried column es (row_of out row) f (path_of f es index targets S.to-here.bs' t sc taken.path)) m
                    = rw e at (G.is f S.to-here.bs' (here-now f bs H)) in
                    let u = S.most in
                    let v = R.most in
                    record {
                      done = S.done ++ R.paths;
                      to-here = made-both f g es x index targets bs t₀ sc₀ n taken.path t sc ac made S.done S.to-here t' sc' ac' m R.paths R.made;
                      most = omega arith;
                      left =
                          left-now f bs H
                          ∙ rest-step (extend (column_scoring column) f (path_of f es index targets bs t₀ sc₀ taken.path) (chain_of f (path_of f es index targets bs t₀ sc₀ taken.path))) (repeat_rule f)
                          (offer_at es out row) (map (offer_at es out) (up_from (row + 1) (k - (row + 1)))) S.done R.paths
                          (ap (λ (p : Path Float). tried column es (row_of out row) f p) (sym (same-path f bs H)) ∙ R.is);
                    };
                paths = a ∙ T.paths;
                scores = b ∙ T.scores;
                actives = c ∙ T.actives;
                low = omega arith;
              }
