-- What stands when a path is taken, and records made after it: the earlier ones stay, and the new ones are the definition's paths.
use Rattle.std.specs.Prelude.{◌≡◌, refl, ◌≢◌, List, [], ◌∷◌, ◌++◌, map, ℕ, zero, suc, ◌+◌, ◌-◌, ◌<◌, ◌≤◌, Float}
use Rattle.std.proofs.Common.{sym, ap, ◌∙◌, arith}
use Rattle.std.proofs.lemmas.List.{map-append}
use Rattle.std.proofs.Math.Decide.{dec_lt}
use Rattle.definition.specs.Evidence.{Branches}
use Rattle.definition.specs.Search.{SearchInput, Path}
use Rattle.path_growth.specs.declared.Taken.{Taken}
use Rattle.path_store.specs.Cells.{parent_of, score_of, end_of}
use Rattle.path_edges.specs.Path.{Same, table-front}
use Rattle.path_growth.specs.Grow.{Following}
use Rattle.path_growth.specs.Held.{Held}
use Rattle.path_growth.specs.View.{view_of, view-kept, closed-kept}
use Rattle.search_state.specs.Settings.{Setting}
use Rattle.search_state.specs.Ground.{Ground, name_of}
use Rattle.search_state.specs.State.{path_of, Records, Kept, New, Idle, up_from}

-- the search's tables, of which n records are made, and a taken one of them with the chain after it
pub record Here (g : Setting) (es x index targets t : List ℕ) (sc : List Float) (ac : List ℕ) (n : ℕ) (taken : Taken) (f : SearchInput) (bs : ℕ → List Branches) : Type 0 where
  pub vertices : List ℕ
  pub on_ground : Ground f g vertices es x index targets
  pub records : Records f g es x index targets bs t sc ac n
  pub known : taken.path < n
  pub follows : Following index targets t taken.path taken

-- The records n to n' - 1 are made from the record `path`, and are the paths ps; those before n stay.
pub record MadeTo (f : SearchInput) (g : Setting) (es x index targets : List ℕ) (bs : ℕ → List Branches) (t : List ℕ) (sc : List Float) (n path : ℕ) (t' : List ℕ) (sc' : List Float) (ac' : List ℕ)
    (n' : ℕ) (ps : List (Path Float)) : Type 0 where
  pub bs' : ℕ → List Branches
  pub records : Records f g es x index targets bs' t' sc' ac' n'
  pub kept : Kept f es index targets bs t sc bs' t' sc' n n
  pub same : (q : ℕ) → q < n → bs' q ≡ bs q
  pub cells : Same 9 t t' n
  pub up : n ≤ n'
  pub new : New t' n n' path
  pub is : ps ≡ map (path_of f es index targets bs' t' sc') (up_from n (n' - n))

-- ---- numbers in a row

module _ {A : Type 0} (F G : ℕ → A) where
  pub map_same : (a k : ℕ) → ((q : ℕ) → a ≤ q → q < a + k → F q ≡ G q) → map F (up_from a k) ≡ map G (up_from a k)
  unfolding up_from
  map_same a zero h = refl
  map_same a (suc k) h = rw (h a (omega arith) (omega arith), map_same (suc a) k (λ q l m. h q (omega arith) (omega arith)))

pub up-append : (a k m : ℕ) → up_from a (k + m) ≡ up_from a k ++ up_from (a + k) m
unfolding up_from
up-append a zero m =
    let y : 0 + m ≡ m = omega arith in
    let z : a ≡ a + 0 = omega arith in
    ap (λ (i : ℕ). up_from a i) y ∙ ap (λ (i : ℕ). up_from i m) z
up-append a (suc k) m =
    let y : suc k + m ≡ suc (k + m) = omega arith in
    let z : suc a + k ≡ a + suc k = omega arith in
    ap (λ (i : ℕ). up_from a i) y ∙ ap (λ (l : List ℕ). a ∷ l) (up-append (suc a) k m ∙ ap (λ (i : ℕ). up_from (suc a) k ++ up_from i m) z)

pub up_none : (a n : ℕ) → n ≤ a → up_from a (n - a) ≡ []
unfolding up_from
up_none a n h = let z : n - a ≡ 0 = omega arith in rw z

pub up_one : (a : ℕ) → up_from a (a + 1 - a) ≡ a ∷ []
unfolding up_from
up_one a = let z : a + 1 - a ≡ 1 = omega arith in rw z

-- ---- the first records stay

module _ (f : SearchInput) (g : Setting) (es x index targets : List ℕ) where
  pub records-front : (bs : ℕ → List Branches) (t : List ℕ) (sc : List Float) (ac : List ℕ) (n m : ℕ) → Records f g es x index targets bs t sc ac n → m ≤ n → Records f g es x index targets bs t sc ac m
  records-front bs t sc ac n m R l =
      record {
        held = record { table = table-front index targets t sc n m R.held.table l; rooted = λ r h. R.held.rooted r (omega arith) };
        actives = λ r h. R.actives r (omega arith);
        small = λ r h. R.small r (omega arith);
        short = λ r h. R.short r (omega arith);
        trees = λ r h. R.trees r (omega arith);
        number = λ r h. R.number r (omega arith);
      }

  module _ (bs : ℕ → List Branches) (t : List ℕ) (sc : List Float) (n : ℕ) where
    pub kept_of : Held index targets f.source t sc n → (bs' : ℕ → List Branches) (u : List ℕ) (sd : List Float) → Same 9 t u n → ((q : ℕ) → q < n → score_of sd q ≡ score_of sc q)
        → ((q : ℕ) → q < n → bs' q ≡ bs q) → Kept f es index targets bs t sc bs' u sd n n
    kept_of H bs' u sd c s b =
        record {
          path = λ q l m.
              ap (λ (d : List Branches). view_of f (name_of es) index targets d u sd q) (b q l) ∙ view-kept f (name_of es) index targets (bs q) t u sc sd n q H.table c (s q l) l;
          closed = λ k q l. closed-kept f (name_of es) index targets t u sc sd n k q H.table (λ a j h i. c a j h (omega arith)) (s q l) l;
          joined = λ q l m. c q 7 l (omega arith);
          parent = λ q l. c q 0 l (omega arith);
          score = s;
        }

    -- nothing is made
    pub made_none : (ac : List ℕ) (path : ℕ) → Records f g es x index targets bs t sc ac n → MadeTo f g es x index targets bs t sc n path t sc ac n []
    made_none ac path R =
        record {
          bs' = bs;
          records = R;
          kept = kept_of R.held bs t sc (λ r j h k. refl) (λ q l. refl) (λ q l. refl);
          same = λ q l. refl;
          cells = λ r j h k. refl;
          up = omega arith;
          new = record { unjoined = λ q a b. absurd (omega arith); parent = λ q a b. absurd (omega arith) };
          is = sym (ap (map (path_of f es index targets bs t sc)) (up_none n n (omega arith)));
        }

    module _ (path : ℕ) (t' : List ℕ) (sc' : List Float) (ac' : List ℕ) where
      -- the last record made is given up: the next one takes its number
      pub given-up : (m : ℕ) (ps : List (Path Float)) → MadeTo f g es x index targets bs t sc n path t' sc' ac' m ps → MadeTo f g es x index targets bs t sc n path t' sc' ac' n []
      given-up m ps M =
          record {
            bs' = M.bs';
            records = records-front M.bs' t' sc' ac' m n M.records M.up;
            kept = M.kept;
            same = M.same;
            cells = M.cells;
            up = omega arith;
            new = record { unjoined = λ q a b. absurd (omega arith); parent = λ q a b. absurd (omega arith) };
            is = sym (ap (map (path_of f es index targets M.bs' t' sc')) (up_none n n (omega arith)));
          }

      -- more are made after those
      module _ (n₁ : ℕ) (ps : List (Path Float)) (M : MadeTo f g es x index targets bs t sc n path t' sc' ac' n₁ ps) (u : List ℕ) (sd : List Float) (ad : List ℕ) (n₂ : ℕ) (qs : List (Path Float))
          (N : MadeTo f g es x index targets M.bs' t' sc' n₁ path u sd ad n₂ qs) where
        joined : ps ++ qs ≡ map (path_of f es index targets N.bs' u sd) (up_from n (n₂ - n))
        joined =
            let a = M.up in
            let b = N.up in
            let z : (n₁ - n) + (n₂ - n₁) ≡ n₂ - n = omega arith in
            let y : n + (n₁ - n) ≡ n₁ = omega arith in
            let F = path_of f es index targets M.bs' t' sc' in
            let G = path_of f es index targets N.bs' u sd in
            let e : ps ≡ map G (up_from n (n₁ - n)) = M.is ∙ sym (map_same G F n (n₁ - n) (λ q l m. N.kept.path q (omega arith) (omega arith))) in
            ap (λ (l : List (Path Float)). l ++ qs) e
            ∙ ap (λ (l : List (Path Float)). map G (up_from n (n₁ - n)) ++ l) N.is
            ∙ sym (map-append G (up_from n (n₁ - n)) (up_from n₁ (n₂ - n₁)))
            ∙ ap (λ (i : ℕ). map G (up_from n (n₁ - n) ++ up_from i (n₂ - n₁))) (sym y)
            ∙ ap (map G) (sym (up-append n (n₁ - n) (n₂ - n₁)))
            ∙ ap (λ (i : ℕ). map G (up_from n i)) z

        newer : New u n n₂ path
        newer =
            record {
              unjoined = λ q l m. go (λ h. N.kept.joined q h (omega arith) ∙ M.new.unjoined q l h) (λ h. N.new.unjoined q h m) (dec_lt q n₁);
              parent = λ q l m. go (λ h. N.kept.parent q h ∙ M.new.parent q l h) (λ h. N.new.parent q h m) (dec_lt q n₁);
            }
          where
            go : {q a b : ℕ} → (q < n₁ → a ≡ b) → (n₁ ≤ q → a ≡ b) → Dec (q < n₁) → a ≡ b
            go below beyond (yes h) = below h
            go below beyond (no h) = beyond (omega arith)

        pub made-both : MadeTo f g es x index targets bs t sc n path u sd ad n₂ (ps ++ qs)
        unfolding joined newer
        made-both =
            let a = M.up in
            let b = N.up in
            record {
              bs' = N.bs';
              records = N.records;
              kept =
                  record {
                    path = λ q l m. N.kept.path q (omega arith) (omega arith) ∙ M.kept.path q l m;
                    closed = λ k q l. N.kept.closed k q (omega arith) ∙ M.kept.closed k q l;
                    joined = λ q l m. N.kept.joined q (omega arith) (omega arith) ∙ M.kept.joined q l m;
                    parent = λ q l. N.kept.parent q (omega arith) ∙ M.kept.parent q l;
                    score = λ q l. N.kept.score q (omega arith) ∙ M.kept.score q l;
                  };
              same = λ q l. N.same q (omega arith) ∙ M.same q l;
              cells = λ r j h k. N.cells r j (omega arith) k ∙ M.cells r j h k;
              up = omega arith;
              new = newer;
              is = joined;
            }

-- the taken path is still there
pub here-after : (g : Setting) (es x index targets t : List ℕ) (sc : List Float) (ac : List ℕ) (n : ℕ) (taken : Taken) (f : SearchInput) (bs : ℕ → List Branches)
    → Here g es x index targets t sc ac n taken f bs → (t' : List ℕ) (sc' : List Float) (ac' : List ℕ) (n' : ℕ) (ps : List (Path Float))
    → (M : MadeTo f g es x index targets bs t sc n taken.path t' sc' ac' n' ps) → Here g es x index targets t' sc' ac' n' taken f M.bs'
here-after g es x index targets t sc ac n taken f bs H t' sc' ac' n' ps M =
    let e : end_of t' taken.path ≡ end_of t taken.path = M.cells taken.path 4 H.known (omega arith) in
    let a = M.up in
    let b = H.known in
    record {
      vertices = H.vertices;
      on_ground = H.on_ground;
      records = M.records;
      known = omega arith;
      follows = record { path = refl; chain = rw e H.follows.chain; vertex = rw e H.follows.vertex };
    }

-- ---- for callers

-- all records stay, so all but any one do
pub kept_but : {f : SearchInput} {es index targets : List ℕ} {bs : ℕ → List Branches} {t : List ℕ} {sc : List Float} {bs' : ℕ → List Branches} {t' : List ℕ} {sc' : List Float} {n : ℕ} (r : ℕ)
    → Kept f es index targets bs t sc bs' t' sc' n n → Kept f es index targets bs t sc bs' t' sc' n r
kept_but r K =
    record { path = λ q l m. K.path q l (omega arith); closed = K.closed; joined = λ q l m. K.joined q l (omega arith); parent = K.parent; score = K.score }

-- a new record may wait
pub made-idle : {f : SearchInput} {g : Setting} {es x index targets : List ℕ} {bs : ℕ → List Branches} {t : List ℕ} {sc : List Float} {n path : ℕ} {t' : List ℕ} {sc' : List Float} {ac' : List ℕ} {n' : ℕ}
    {ps : List (Path Float)} → MadeTo f g es x index targets bs t sc n path t' sc' ac' n' ps → path < n → (q : ℕ) → n ≤ q → q < n' → Idle t' n' q
made-idle {n} {path} {t'} {n'} M k q l m = record { known = m; unjoined = M.new.unjoined q l m; childless = λ i h. apart i h (dec_lt i n) }
  where
    apart : (i : ℕ) → i < n' → Dec (i < n) → parent_of t' i ≢ suc q
    apart i h (yes d) e = let a = (M.records.held.table.rows i h).rises in omega arith
    apart i h (no d) e = let a = M.new.parent i (omega arith) h in omega arith
