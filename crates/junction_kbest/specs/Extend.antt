-- A taken path is extended over the stores: the tree at the end of its chain joins, it may close, and all its extensions are made.
use Rattle.std.specs.Prelude.{◌≡◌, refl, ◌⊎◌, Bool, true, false, ◌&&◌, not, List, [], ◌∷◌, ◌++◌, map, ℕ, ◌+◌, ◌-◌, ◌*◌, ◌<◌, ◌≤◌, ltb, eqb, length, Float, Ok, Err}
use Rattle.std.proofs.Common.{sym, ap, subst, ◌∙◌, inl, inr, mul-le-mul_right, arith}
use Rattle.std.proofs.Math.Option.{none, some}
use Rattle.laws.specs.Lists.{any}
use Rattle.definition.specs.Refusal.{Result, ok, refused}
use Rattle.definition.specs.Limits.{column_fits}
use Rattle.definition.specs.Score.{column_scoring}
use Rattle.definition.specs.Threading.{Ends, leaving}
use Rattle.definition.specs.Evidence.{Branches, has_branch, tree_at}
use Rattle.definition.specs.Search.{SearchInput, Path, State, Made, broken, made, join_tree, close_at, extensions, extend_at}
use Rattle.tables.specs.Widths.{offer_numbers}
use Rattle.path_growth.specs.declared.Taken.{Taken}
use Rattle.path_store.specs.Cells.{HasPaths, since_of}
use Rattle.path_growth.specs.Grow.{Following}
use Rattle.search_state.specs.Settings.{Setting}
use Rattle.search_state.specs.declared.Progress.{Progress}
use Rattle.std.specs.Prelude as std
use Rattle.refusals.specs.declared.Refusal.{Refusal}
use Rattle.refusals.specs.Numbers.{number}
use Rattle.search_state.specs.Ground.{Ground}
use Rattle.search_state.specs.State.{path_of, Idle, Holds, Apart, up_from}
use Rattle.search_state.specs.Keep.{with_records, holds_kept}
use Rattle.path_closing.specs.Joins.{Joining, Joined}
use Rattle.path_closing.specs.Closes.{Closing, ClosedOn, chain_after, closing, joined-chain, joined-closing}
use Rattle.path_closing.specs.ClosesTaken.{with_closed}
use Rattle.path_extensions.specs.Made.{MadeTo, kept_but, made-idle}
use Rattle.path_extensions.specs.One.{Run}
use Rattle.path_extensions.specs.Vertex.{Taking, Extends, extensions_at}
use Rattle.turn_rules.specs.Rules.{first_new}
use Rattle.junction_kbest.specs.Turn.{join-fails, close-fails, extend-fails, extend-makes}

-- ---- what the contract says

-- there is room for a closed path and eight extensions
pub record Roomy (g : Setting) (t : List ℕ) (sc : List Float) (ac closed : List ℕ) (p : Progress) : Type 0 where
  pub paths : HasPaths t (p.records + 9)
  pub scores : p.records + 9 ≤ length sc
  pub actives : (p.records + 9) * g.active ≤ length ac
  pub number : p.records + 9 < 2147483648
  pub closed-room : p.closed < length closed

-- the stores as a search f has them, once the path is taken and its chain is known
pub record Extending (f : SearchInput) (g : Setting) (vs es x index targets : List ℕ) (column : List Float) (bs : ℕ → List Branches) (closing : ℕ → ℕ) (t : List ℕ) (sc : List Float) (ac queue closed order marks : List ℕ)
    (p : Progress) (s : State Float) (taken : Taken) : Type 0 where
  pub on_ground : Ground f g vs es x index targets
  pub fits : column_fits column ≡ true
  pub holds : Holds f g es x index targets bs closing t sc ac queue closed order marks p s
  pub idle : Idle t p.records taken.path
  pub apart : Apart sc queue p.waiting taken.path
  pub following : Following index targets t taken.path taken
  pub guided : since_of t taken.path ≤ 5
  pub roomy : Roomy g t sc ac closed p

-- progress but for records and closings
pub record Further (p p' : Progress) : Type 0 where
  pub low : first_new p p' ≤ p'.records
  pub high : p'.records ≤ first_new p p' + 6
  pub closed-low : p.closed ≤ p'.closed
  pub closed-high : p'.closed ≤ p.closed + 1
  pub waiting : p'.waiting ≡ p.waiting
  pub next : p'.next ≡ p.next
  pub pivotal : p'.pivotal ≡ p.pivotal
  pub pushes : p'.pushes ≡ p.pushes
  pub mark : p'.mark ≡ p.mark

-- the stores after a step that makes the paths of `want`, for any search f
pub record Makes (f : SearchInput) (g : Setting) (es x index targets queue order : List ℕ) (p p' : Progress) (want : Made Float) (t' : List ℕ) (sc' : List Float) (ac' closed' marks' : List ℕ) : Type 0 where
  pub branches : ℕ → List Branches
  pub closings : ℕ → ℕ
  pub state : State Float
  pub is : want ≡ made state (map (path_of f es index targets branches t' sc') (up_from (first_new p p') (p'.records - first_new p p')))
  pub holds : Holds f g es x index targets branches closings t' sc' ac' queue closed' order marks' p' state
  pub new : (q : ℕ) → first_new p p' ≤ q → q < p'.records → Idle t' p'.records q
  pub further : Further p p'

abbrev pub MakesBy : SearchInput → Setting → List ℕ → List ℕ → List ℕ → List ℕ → List ℕ → List ℕ → Progress → std.Result Progress Refusal → Made Float → List ℕ → List Float → List ℕ → List ℕ → List ℕ → Type 0
MakesBy f g es x index targets queue order p (Ok p') want t' sc' ac' closed' marks' = Makes f g es x index targets queue order p p' want t' sc' ac' closed' marks'
MakesBy f g es x index targets queue order p (Err k) want t' sc' ac' closed' marks' = want ≡ broken (number k)

-- what the code asks: the stores are those of some search
pub record ExtendsTaken (g : Setting) (vs es x index targets : List ℕ) (column : List Float) (t : List ℕ) (sc : List Float) (ac closed marks out : List ℕ) (p : Progress) (taken : Taken) : Type 0 where
  pub input : SearchInput
  pub branches : ℕ → List Branches
  pub closings : ℕ → ℕ
  pub queue : List ℕ
  pub order : List ℕ
  pub state : State Float
  pub all : Extending input g vs es x index targets column branches closings t sc ac queue closed order marks p state taken
  pub rows : offer_numbers ≤ length out

-- the definition's extend_at, of the path that was taken
abbrev pub extended_at : List Float → SearchInput → List ℕ → List ℕ → List ℕ → (ℕ → List Branches) → List ℕ → List Float → Taken → State Float → Made Float
extended_at column f es index targets bs t sc taken s =
    extend_at (column_scoring column) f (path_of f es index targets bs t sc taken.path) (chain_after f (path_of f es index targets bs t sc taken.path)) taken.vertex s

-- by the answer, for every search whose stores these are
pub record TakenExtended (g : Setting) (vs es x index targets : List ℕ) (column : List Float) (t : List ℕ) (sc : List Float) (ac closed marks : List ℕ) (p : Progress) (taken : Taken) (r : std.Result Progress Refusal) (t' : List ℕ)
    (sc' : List Float) (ac' closed' marks' : List ℕ) : Type 0 where
  pub is : (f : SearchInput) (bs : ℕ → List Branches) (closings : ℕ → ℕ) (queue order : List ℕ) (s : State Float)
      → Extending f g vs es x index targets column bs closings t sc ac queue closed order marks p s taken
      → MakesBy f g es x index targets queue order p r (extended_at column f es index targets bs t sc taken s) t' sc' ac' closed' marks'

-- ---- a tree that joins gives guidance

same_ok : {A : Type 0} {a b : A} → ok a ≡ ok b → a ≡ b
same_ok e = cc

no-refused : {A B : Type 0} {a : A} {k : ℕ} → ◌≡◌ {A = Result A} (refused k) (ok a) → B
no-refused e = let z : ◌≡◌ {A = ℕ} 0 1 = cc in absurd (omega arith)

pub join-since : (f : SearchInput) (v : ℕ) (p q : Path Float) → p.since ≤ 5 → join_tree f v p ≡ ok q → q.since ≤ 5
unfolding join_tree
join-since f v p q h e = go (tree_at f.trees v) refl
  where
    kept : ok p ≡ ok q → q.since ≤ 5
    kept k = let z : p.since ≡ q.since = ap (λ (r : Path Float). r.since) (same_ok k) in omega arith

    go : (o : _) → tree_at f.trees v ≡ o → q.since ≤ 5
    go none k = kept (sym (rw (k, join_tree)) ∙ e)
    go (some b) k = branchy (has_branch b && not (any (eqb v) p.visited)) refl (ltb (length p.active) f.active) refl
      where
        branchy : (c : Bool) → (has_branch b && not (any (eqb v) p.visited)) ≡ c → (d : Bool) → ltb (length p.active) f.active ≡ d → q.since ≤ 5
        branchy false y d z = kept (sym (rw (k, y, join_tree)) ∙ e)
        branchy true y true z =
            let w : ok (record { edges = p.edges; score = p.score; active = p.active ++ b ∷ []; visited = v ∷ p.visited; since = 0 }) ≡ ok q = sym (rw (k, y, z, join_tree)) ∙ e in
            let u : ◌≡◌ {A = ℕ} 0 q.since = ap (λ (r : Path Float). r.since) (same_ok w) in
            omega arith
        branchy true y false z = no-refused {k = 11} (sym (rw (k, y, z, join_tree)) ∙ e)

-- ---- the steps, one after the other

-- how much further a closing has brought the search
record Closer (p p₁ : Progress) : Type 0 where
  records : p₁.records ≡ first_new p p₁
  records-high : p₁.records ≤ p.records + 1
  closed-low : p.closed ≤ p₁.closed
  closed-high : p₁.closed ≤ p.closed + 1
  waiting : p₁.waiting ≡ p.waiting
  next : p₁.next ≡ p.next
  pivotal : p₁.pivotal ≡ p.pivotal
  pushes : p₁.pushes ≡ p.pushes
  mark : p₁.mark ≡ p.mark

closer-of : (p p₁ : Progress) → (p₁ ≡ p) ⊎ (p₁ ≡ with_closed p) → Closer p p₁
closer-of p p₁ (inl e) =
    subst (Closer p) (sym e) (record {
      records = omega arith;
      records-high = omega arith;
      closed-low = omega arith;
      closed-high = omega arith;
      waiting = refl;
      next = refl;
      pivotal = refl;
      pushes = refl;
      mark = refl;
    })
closer-of p p₁ (inr e) =
    subst (Closer p) (sym e) (record {
      records = omega arith;
      records-high = omega arith;
      closed-low = omega arith;
      closed-high = omega arith;
      waiting = refl;
      next = refl;
      pivotal = refl;
      pushes = refl;
      mark = refl;
    })

module _ (f : SearchInput) (g : Setting) (vs es x index targets : List ℕ) (column : List Float) (bs : ℕ → List Branches) (cl : ℕ → ℕ) (t : List ℕ) (sc : List Float) (ac queue closed order marks : List ℕ) (p : Progress)
    (s : State Float) (taken : Taken) (E : Extending f g vs es x index targets column bs cl t sc ac queue closed order marks p s taken) where
  abbrev r : ℕ
  r = taken.path

  abbrev v : ℕ
  v = taken.vertex

  abbrev first : Path Float
  first = path_of f es index targets bs t sc taken.path

  abbrev want : Made Float
  want = extended_at column f es index targets bs t sc taken s

  pub joins : Joining f g vs es x index targets bs t sc ac p.records taken
  joins =
      let a = E.roomy.actives in
      let b : p.records * g.active ≤ (p.records + 9) * g.active = mul-le-mul_right g.active (omega arith) in
      let c = E.roomy.number in
      record {
        on_ground = E.on_ground;
        records = E.holds.records;
        known = E.idle.known;
        following = E.following;
        unjoined = E.idle.unjoined;
        childless = E.idle.childless;
        room = omega arith;
        few = omega arith;
      }

  pub join-refused : (k : ℕ) → join_tree f taken.vertex first ≡ refused k → want ≡ broken k
  join-refused k h = join-fails (column_scoring column) f first (chain_after f first) v s k h

  module _ (t₁ : List ℕ) (sc₁ : List Float) (ac₁ : List ℕ) (J : Joined f g es x index targets bs t sc p.records taken t₁ sc₁ ac₁) (lt : length t₁ ≡ length t) (ls : length sc₁ ≡ length sc)
      (la : length ac₁ ≡ length ac) where
    abbrev second : Path Float
    second = path_of f es index targets J.branches t₁ sc₁ taken.path

    same-chain : chain_after f second ≡ chain_after f first
    same-chain = joined-chain f g vs es x index targets bs cl t sc ac queue closed order marks p s taken E.holds E.idle.known E.apart t₁ sc₁ ac₁ J

    pub closes : Closing f g vs es x index targets J.branches cl t₁ sc₁ ac₁ queue closed order marks p s taken
    closes =
        let a = E.roomy.paths in
        let b = E.roomy.scores in
        let c = E.roomy.actives in
        let d : (p.records + 1) * g.active ≤ (p.records + 9) * g.active = mul-le-mul_right g.active (omega arith) in
        let e = E.roomy.number in
        joined-closing f g vs es x index targets bs cl t sc ac queue closed order marks p s taken E.holds E.idle.known E.apart t₁ sc₁ ac₁ J E.on_ground E.roomy.closed-room (omega arith)
        (omega arith) (omega arith) (omega arith)

    closed-want : {o : Result (State Float)} → closing f es index targets J.branches t₁ sc₁ taken s ≡ o → close_at f v second (chain_after f first) s ≡ o
    closed-want h = ap (λ (c : List Ends). close_at f v second c s) (sym same-chain) ∙ h

    pub close-refused : (k : ℕ) → closing f es index targets J.branches t₁ sc₁ taken s ≡ refused k → want ≡ broken k
    close-refused k h = close-fails (column_scoring column) f first (chain_after f first) v s second J.is k (closed-want h)

    module _ (p₁ : Progress) (t₂ : List ℕ) (sc₂ : List Float) (closed₂ marks₂ : List ℕ) (C : ClosedOn f g es x index targets J.branches t₁ sc₁ ac₁ queue order p s taken p₁ t₂ sc₂ closed₂ marks₂)
        (lt₂ : length t₂ ≡ length t₁) (ls₂ : length sc₂ ≡ length sc₁) where
      abbrev third : Path Float
      third = path_of f es index targets C.branches t₂ sc₂ taken.path

      chain-third : chain_after f third ≡ chain_after f first
      chain-third = ap (chain_after f) C.path ∙ same-chain

      pub takes : Taking g vs es x index targets t₂ sc₂ ac₁ p₁.records taken f C.branches
      takes = record { on_ground = E.on_ground; records = C.holds.records; known = C.known; follows = C.following }

      closer : Closer p p₁
      closer = closer-of p p₁ C.progress

      pub extends : (out : List ℕ) → offer_numbers ≤ length out → Extends g vs es x index targets column t₂ sc₂ ac₁ out p₁.records taken
      extends out rows =
          let a = E.roomy.paths in
          let b = E.roomy.scores in
          let c = E.roomy.actives in
          let e = E.roomy.number in
          let h = closer.records-high in
          let d : (p₁.records + 8) * g.active ≤ (p.records + 9) * g.active = mul-le-mul_right g.active (omega arith) in
          let m = join-since f v first second E.guided J.is in
          let z : since_of t₂ r ≡ second.since = ap (λ (q : Path Float). q.since) C.path in
          record {
            input = f;
            trees = C.branches;
            taking = takes;
            guided = omega arith;
            fits = E.fits;
            rooms = record { paths = omega arith; scores = omega arith; actives = omega arith; number = omega arith };
            rows = rows;
          }

      extended-want : {o : Result (List (Path Float))} → extensions_at column v f third ≡ o → extensions (column_scoring column) f second (chain_after f first) v (leaving f.edges v) ≡ o
      extended-want h =
          ap (λ (q : Path Float). extensions (column_scoring column) f q (chain_after f first) v (leaving f.edges v)) (sym C.path)
          ∙ ap (λ (c : List Ends). extensions (column_scoring column) f third c v (leaving f.edges v)) (sym chain-third)
          ∙ h

      pub extend-refused : (k : ℕ) → extensions_at column v f third ≡ refused k → want ≡ broken k
      extend-refused k h =
          extend-fails (column_scoring column) f first (chain_after f first) v s second J.is C.state (closed-want C.is) k (extended-want h)

      module _ (n' : ℕ) (t₃ : List ℕ) (sc₃ : List Float) (ac₃ : List ℕ)
          (R : Run f g es x index targets C.branches t₂ sc₂ p₁.records taken.path t₃ sc₃ ac₃ 6 (extensions_at column taken.vertex f third) n') where
        abbrev M : MadeTo f g es x index targets C.branches t₂ sc₂ p₁.records taken.path t₃ sc₃ ac₃ n' R.paths
        M = R.made

        abbrev p₂ : Progress
        p₂ = with_records p₁ n'

        from_is : first_new p p₂ ≡ p₁.records
        from_is = sym closer.records

        pub all_made : Makes f g es x index targets queue order p p₂ want t₃ sc₃ ac₃ closed₂ marks₂
        all_made =
            let up = M.up in
            let most = R.most in
            record {
              branches = M.bs';
              closings = C.closings;
              state = C.state;
              is =
                  extend-makes (column_scoring column) f first (chain_after f first) v s second J.is C.state (closed-want C.is) R.paths (extended-want R.is)
                  ∙ ap (λ (l : List (Path Float)). made C.state l) M.is
                  ∙ ap (λ (n : ℕ). made C.state (map (path_of f es index targets M.bs' t₃ sc₃) (up_from n (n' - n)))) (sym from_is);
              holds =
                  holds_kept f g es x index targets C.branches C.closings t₂ sc₂ ac₁ queue closed₂ order marks₂ p₁ C.state C.holds M.bs' t₃ sc₃ ac₃ n' r M.records up
                  (kept_but r M.kept) C.apart M.new.parent;
              new = λ q a b. made-idle M C.known q (let z = from_is in omega arith) b;
              further =
                  record {
                    low = (let z = from_is in omega arith);
                    high = (let z = from_is in omega arith);
                    closed-low = closer.closed-low;
                    closed-high = closer.closed-high;
                    waiting = closer.waiting;
                    next = closer.next;
                    pivotal = closer.pivotal;
                    pushes = closer.pushes;
                    mark = closer.mark;
                  };
            }
