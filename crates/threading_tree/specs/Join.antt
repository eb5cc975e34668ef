-- A tree is opened in a walk: its root joins the groups, or its group gains one. (Rust: add_tree_if_necessary)
use Rattle.std.specs.Prelude.{◌≡◌, refl, ℕ, zero, suc, ◌+◌, ◌*◌, ◌^◌, ◌<◌, ◌≤◌, List, [], ◌∷◌, ◌++◌, length, Option, Some, None, Result, Ok, Err}
use Rattle.std.proofs.Common.{ap, sym, subst, ◌∙◌, add-one, zero-add, length-set, length-append, get_or-set_other, arith}
use Rattle.laws.specs.Records.{field, put_field, field-same, field-other, row_other}
use Rattle.definition.specs.Threading.{Ends}
use Rattle.definition.specs.Evidence.{Walk, open_tree}
use Rattle.threading_node.specs.Ends.{ends}
use Rattle.threading_node.specs.Nodes.{Fields, Nodes, size, take_n, landed, At, here, kids_at, Rising, at_take, at_new, take_n-here}
use Rattle.threading_node.specs.Good.{Good}
use Rattle.threading_node.specs.Slots.{cols, told, Beyond}
use Rattle.threading_tree.specs.Walks.{Group, raise, HasAt, first, after, Same, same-raised, same-opened}
use Rattle.threading_tree.specs.All.{Standing1, Standing, total, new-live}
use Rattle.threading_tree.specs.Apart.{at_one, path-one, Differs, Apart, apart-new, apart-raise, groups-few, groups-fewer}
use Rattle.threading_node.specs.Take.{Went, Full}
use Rattle.threading_node.specs.Open.{RootAt, Openable, OpenedAt}
use Rattle.threading_node.specs.declared.Reached as SD
use Rattle.threading_tree.specs.declared.ThreadingState as TS
use Rattle.refusals.specs.declared.Refusal.{Refusal}
use Rattle.refusals.specs.Numbers.{number}

-- the first of the first w places that holds the slot; or none of them does
abbrev pub Sited : List ℕ → ℕ → ℕ → Option ℕ → Type 0
Sited op w at (Some i) = (i < w) × (field op 2 i 0 ≡ at) × ((k : ℕ) → k < i → field op 2 k 0 ≡ at → ⊥)
Sited op w at None = (k : ℕ) → k < w → field op 2 k 0 ≡ at → ⊥

pub record Joinable (cap n v : ℕ) (root : Option ℕ) (w : ℕ) (x op : List ℕ) : Type 0 where
  pub openable : Openable cap n v root x
  pub groups : List Group
  pub standing : Standing openable.tree op 0 groups
  pub many : length groups ≡ w
  pub apart : Apart groups
  pub in-open : cap * 2 ≤ length op
  pub spare : total groups + 1 < 2 ^ 32

-- the tree after the opening
abbrev pub opened : ℕ → ℕ → Nodes → Nodes
opened v n t = take_n 1 (ends v v) (suc n) t []

pub record Joins (cap n v : ℕ) (y op : List ℕ) (t : Nodes) (gs : List Group) (h : TS.ThreadingState) : Type 0 where
  pub good : Good (cols y) h.nodes (opened v n t)
  pub slot : ℕ
  pub at : h.root ≡ Some slot
  pub root : At (opened v n t) 0 (ends v v ∷ []) slot
  pub some : 0 < slot
  pub room : h.nodes ≤ cap
  pub kept : h.cap ≡ cap
  pub groups : List Group
  pub standing : Standing (opened v n t) op 0 groups
  pub many : length groups ≡ h.groups
  pub apart : Apart groups
  pub walk : (w : Walk) → Same w t gs → Same (open_tree v w) (opened v n t) groups

pub record Turns (cap n v : ℕ) (x y op op' : List ℕ) (t : Nodes) (k : ℕ) : Type 0 where
  pub number : k ≡ 9
  pub over : size (opened v n t) ≡ suc cap
  pub same : y ≡ x
  pub same-open : op' ≡ op

abbrev pub Join : ℕ → ℕ → ℕ → List ℕ → List ℕ → List ℕ → List ℕ → Nodes → List Group → Result TS.ThreadingState Refusal → Type 0
Join cap n v x y op op' t gs (Ok h) = Joins cap n v y op' t gs h
Join cap n v x y op op' t gs (Err k) = Turns cap n v x y op op' t (number k)

pub record JoinedTo (cap n v : ℕ) (root : Option ℕ) (w : ℕ) (x y op op' : List ℕ) (r : Result TS.ThreadingState Refusal) : Type 0 where
  pub is : (t : Nodes) (gs : List Group) → Good (cols x) n t → RootAt root v t → Standing t op 0 gs → length gs ≡ w → Apart gs → Join cap n v x y op op' t gs r
  pub counts : (l : ℕ) → (cols y).count l ≤ (cols x).count l + 1
  pub beyond : Beyond (told cap) x y
  pub beyond-open : Beyond (cap * 2) op op'

-- ---- the groups after the opening

stand-opened : (v n : ℕ) (t : Nodes) → Rising t → (op : List ℕ) (i : ℕ) (gs : List Group) → Standing t op i gs → Standing (opened v n t) op i gs
unfolding Standing
stand-opened v n t r op i [] h = tt
stand-opened v n t r op i (g ∷ gs) h =
    (record { at = at_take 1 (ends v v) (suc n) [] h.0.at r; mult-is = h.0.mult-is; some = h.0.some }, stand-opened v n t r op (suc i) gs h.1)

-- a store at another place does not matter
kept : (t : Nodes) (op : List ℕ) (j f m i : ℕ) (g : Group) → f < 2 → (i ≡ j → ⊥) → Standing1 t op i g → Standing1 t (put_field op 2 j f m) i g
kept t op j f m i g l n h =
    record {
      at = rw (row_other op 2 j f m i 0 l (omega arith) n) h.at;
      mult-is = row_other op 2 j f m i 1 l (omega arith) n ∙ h.mult-is;
      some = h.some;
    }

mult-kept : (t : Nodes) (op : List ℕ) (j m i : ℕ) (gs : List Group) → j < i → Standing t op i gs → Standing t (put_field op 2 j 1 m) i gs
unfolding Standing
mult-kept t op j m i [] k h = tt
mult-kept t op j m i (g ∷ gs) k h = (kept t op j 1 m i g (omega arith) (λ z. omega arith) h.0, mult-kept t op j m (suc i) gs (omega arith) h.1)

-- the group at the place k + i gains one
stand-raise : (t : Nodes) (op : List ℕ) (p : List Ends) (k i : ℕ) (gs : List Group) → HasAt p gs i → (k + i) * 2 + 1 < length op → Standing t op k gs
    → Standing t (put_field op 2 (k + i) 1 (field op 2 (k + i) 1 + 1)) k (raise gs i)
unfolding Standing raise
stand-raise t op p k zero [] x6 h s = elim x6 [ ]
stand-raise t op p k (suc i) [] x7 h s = elim x7 [ ]
stand-raise t op p k zero (g ∷ gs) (first z) h s =
    let e : k + 0 ≡ k = omega arith in (
      rw e
          (record {
            at = rw (field-other op 2 k 1 (field op 2 k 1 + 1) k 0 (omega arith) (omega arith) (λ y. omega arith)) s.0.at;
            mult-is = field-same op 2 k 1 (field op 2 k 1 + 1) (rw e at h) ∙ add-one (field op 2 k 1) ∙ ap suc s.0.mult-is;
            some = omega arith;
          }),
      mult-kept t op (k + 0) (field op 2 (k + 0) 1 + 1) (suc k) gs (omega arith) s.1,
    )
stand-raise t op p k (suc i) (g ∷ gs) (after z) h s =
    let e : k + suc i ≡ suc k + i = omega arith in
    (kept t op (k + suc i) 1 (field op 2 (k + suc i) 1 + 1) k g (omega arith) (λ y. omega arith) s.0, subst (λ (j : ℕ). Standing t (put_field op 2 j 1 (field op 2 j 1 + 1)) (suc k) (raise gs i)) (sym e) (stand-raise t op p (suc k) i gs z (omega arith) s.1))

-- one more at the end
abbrev pub joined : List ℕ → ℕ → ℕ → List ℕ
joined op j a = put_field (put_field op 2 j 0 a) 2 j 1 1

stand-new : (t : Nodes) (op : List ℕ) (p : List Ends) (a k j : ℕ) (gs : List Group) → k + length gs ≡ j → j * 2 + 2 ≤ length op → At t 0 p a
    → Standing t op k gs → Standing t (joined op j a) k (gs ++ record { path = p; mult = 1 } ∷ [])
unfolding Standing
stand-new t op p a k j [] e ho at s =
    let z : k ≡ j = omega arith in
    let l : length (put_field op 2 j 0 a) ≡ length op = length-set op (j * 2 + 0) a in
    let w : field (joined op j a) 2 j 0 ≡ a = field-other (put_field op 2 j 0 a) 2 j 1 1 j 0 (omega arith) (omega arith) (λ y. omega arith) ∙ field-same op 2 j 0 a (omega arith) in
    (record { at = rw (z, w) at; mult-is = rw z (field-same (put_field op 2 j 0 a) 2 j 1 1 (omega arith)); some = omega arith }, tt)
stand-new t op p a k j (g ∷ gs) e ho at s = (
  kept t (put_field op 2 j 0 a) j 1 1 k g (omega arith) (λ z. omega arith) (kept t op j 0 a k g (omega arith) (λ z. omega arith) s.0),
  stand-new t op p a (suc k) j gs (omega arith) ho at s.1,
)

-- the group at a place whose slot is the root's
has-at : (f : Fields) (n : ℕ) (t : Nodes) (g : Good f n t) (op : List ℕ) (p : List Ends) (a : ℕ) → At t 0 p a → (k i : ℕ) (gs : List Group)
    → i < length gs → field op 2 (k + i) 0 ≡ a → Standing t op k gs → HasAt p gs i
unfolding Standing
has-at f n t g op p a h k i [] l e s = absurd (omega arith)
has-at f n t g op p a h k zero (x ∷ gs) l e s =
    let z : field op 2 k 0 ≡ a = rw (let q : k + 0 ≡ k = omega arith in q) at e in
    first (path-one f n t a x.path p g (rw z at s.0.at) h)
has-at f n t g op p a h k (suc i) (x ∷ gs) l e s =
    after (has-at f n t g op p a h (suc k) i gs (omega arith) (rw (let q : k + suc i ≡ suc k + i = omega arith in q) at e) s.1)

-- no group has the root's path, where no place has its slot
differs : (t : Nodes) (op : List ℕ) (p : List Ends) (a : ℕ) → At t 0 p a → (k w : ℕ) (gs : List Group) → k + length gs ≡ w → ((j : ℕ) → j < w → field op 2 j 0 ≡ a → ⊥)
    → Standing t op k gs → Differs p gs
unfolding Standing Differs
differs t op p a h k w [] e n s = tt
differs t op p a h k w (x ∷ gs) e n s =
    (λ z. n k (omega arith) (at_one s.0.at (rw z at h)), differs t op p a h (suc k) w gs (omega arith) n s.1)

-- a multiplicity is at most the number of all open trees
mult-under : (t : Nodes) (op : List ℕ) (k i : ℕ) (gs : List Group) → i < length gs → Standing t op k gs → field op 2 (k + i) 1 ≤ total gs
unfolding Standing total
mult-under t op k i [] h s = absurd (omega arith)
mult-under t op k zero (g ∷ gs) h s = let e : k + 0 ≡ k = omega arith in let m = s.0.mult-is in rw e (omega arith)
mult-under t op k (suc i) (g ∷ gs) h s =
    let e : k + suc i ≡ suc k + i = omega arith in
    let q = mult-under t op (suc k) i gs (omega arith) s.1 in
    rw e (omega arith)

raise-many : (gs : List Group) (i : ℕ) → length (raise gs i) ≡ length gs
unfolding raise
raise-many [] i = refl
raise-many (g ∷ gs) zero = refl
raise-many (g ∷ gs) (suc i) = ap suc (raise-many gs i)

pub not-empty : (v : ℕ) → ends v v ∷ [] ≡ [] → ⊥
not-empty v h = let z : ◌≡◌ {A = ℕ} 0 1 = cc in omega arith

-- ---- the code's answers

module _ (cap n v : ℕ) (root : Option ℕ) (w : ℕ) (x op : List ℕ) (p : Joinable cap n v root w x op) where
  pub join-few : w ≤ cap
  join-few =
      let a = groups-few (cols x) n p.openable.tree p.openable.good op p.groups p.apart p.standing in
      let b = p.many in
      let c = p.openable.room in
      omega arith

  pub join-search : w * 2 ≤ length op
  join-search = let a = join-few in let b = p.in-open in omega arith

  module _ (y : List ℕ) (r : Result SD.Reached Refusal) (o : OpenedAt cap n v root x y r) where
    pub join-turned : (k : Refusal) → r ≡ Err k → JoinedTo cap n v root w x y op op (Err k)
    join-turned k z =
        record {
          is = λ t gs g ro s l a.
              let q : Full cap n 1 (ends v v) x y t [] (number k) = rw z at (o.is t g ro) in
              record { number = q.number; over = q.over; same = q.same; same-open = refl };
          counts = o.counts;
          beyond = o.beyond;
          beyond-open = λ i q. refl;
        }

    module _ (st : SD.Reached) (z : r ≡ Ok st) where
      went : (t : Nodes) → Good (cols x) n t → RootAt root v t → Went cap n 1 (ends v v) y t [] (landed (ends v v) (suc n) t) st
      went t g ro = rw z at (o.is t g ro)

      root-at : (t : Nodes) → Good (cols x) n t → RootAt root v t → At (opened v n t) 0 (ends v v ∷ []) st.at
      unfolding kids_at
      root-at t g ro = rw (went t g ro).at (at_new 1 (ends v v) (suc n) (here {t = t} {q = 0}))

      root-some : (t : Nodes) → Good (cols x) n t → RootAt root v t → 0 < st.at
      root-some t g ro = positive st.at (λ y. not-empty v (path-one (cols' t g ro) st.nodes (opened v n t) 0 (ends v v ∷ []) [] (went t g ro).good (rw y at (root-at t g ro)) here))
        where
          cols' : (t : Nodes) → Good (cols x) n t → RootAt root v t → Fields
          cols' t g ro = cols y

          positive : (k : ℕ) → (k ≡ 0 → ⊥) → 0 < k
          positive k h = omega arith

      -- the root's slot is one of the table
      pub root-fits : st.at < 2 ^ 32
      unfolding kids_at
      root-fits =
          let t = p.openable.tree in
          let q = went t p.openable.good p.openable.rooted in
          let a = new-live (cols y) st.nodes 1 (ends v v) (suc n) (here {t = t} {q = 0}) q.good in
          let b = q.at in
          let c = q.room in
          let d = p.openable.wide.few in
          omega arith

      module _ (i : ℕ) (h : i < w) (there : field op 2 i 0 ≡ st.at) where
        pub raised-in : i * 2 + 2 ≤ length op
        raised-in = let a = join-search in omega arith

        pub raised-fits : field op 2 i 1 + 1 < 2 ^ 32
        raised-fits =
            let m = p.many in
            let a = mult-under p.openable.tree op 0 i p.groups (omega arith) p.standing in
            let b = p.spare in
            let c : field op 2 (0 + i) 1 ≡ field op 2 i 1 = rw (zero-add i) in
            omega arith

        pub join-raised : (op' : List ℕ) → op' ≡ put_field op 2 i 1 (field op 2 i 1 + 1) → JoinedTo cap n v root w x y op op' (Ok (record { nodes = st.nodes; cap = cap; groups = w; root = Some st.at }))
        join-raised op' is =
            rw is
            (record {
              is = λ t gs g ro s l a. one t gs g ro s l a;
              counts = o.counts;
              beyond = o.beyond;
              beyond-open = λ j q. let a = join-few in get_or-set_other op (i * 2 + 1) j (field op 2 i 1 + 1) 0 (λ e. omega arith);
            })
          where
            one : (t : Nodes) (gs : List Group) → Good (cols x) n t → RootAt root v t → Standing t op 0 gs → length gs ≡ w → Apart gs
                → Joins cap n v y (put_field op 2 i 1 (field op 2 i 1 + 1)) t gs (record { nodes = st.nodes; cap = cap; groups = w; root = Some st.at })
            one t gs g ro s l a =
                let q = went t g ro in
                let so = stand-opened v n t g.rising op 0 gs s in
                let has : HasAt (ends v v ∷ []) gs i
                = has-at (cols y) st.nodes (opened v n t) q.good op (ends v v ∷ []) st.at (root-at t g ro) 0 i gs (omega arith) (rw (zero-add i) there) so in
                let ri = raised-in in
                record {
                  good = q.good;
                  slot = st.at;
                  at = refl;
                  root = root-at t g ro;
                  some = root-some t g ro;
                  room = q.room;
                  kept = refl;
                  groups = raise gs i;
                  standing = rw (zero-add i) at (stand-raise (opened v n t) op (ends v v ∷ []) 0 i gs has (omega arith) so);
                  many = raise-many gs i ∙ l;
                  apart = apart-raise gs i a;
                  walk = λ k m. rw (take_n-here 1 (ends v v) (suc n) t) (same-raised v (suc n) i k t gs m has);
                }

      module _ (f : (k : ℕ) → k < w → field op 2 k 0 ≡ st.at → ⊥) where
        none-there : (t : Nodes) (gs : List Group) → Good (cols x) n t → RootAt root v t → Standing t op 0 gs → length gs ≡ w → Differs (ends v v ∷ []) gs
        none-there t gs g ro s l =
            differs (opened v n t) op (ends v v ∷ []) st.at (root-at t g ro) 0 w gs (omega arith) f (stand-opened v n t g.rising op 0 gs s)

        pub new_in : w < cap
        new_in =
            let t = p.openable.tree in
            let g = p.openable.good in
            let ro = p.openable.rooted in
            let q = went t g ro in
            let m = p.many in
            let ro2 = q.room in
            let e =
            groups-fewer (cols y) st.nodes (opened v n t) q.good op (ends v v ∷ []) st.at (root-at t g ro) (not-empty v) p.groups
            (none-there t p.groups g ro p.standing p.many) p.apart (stand-opened v n t g.rising op 0 p.groups p.standing) in
            omega arith

        pub join-room : w * 2 + 2 ≤ length op
        join-room = let a = new_in in let b = p.in-open in omega arith

        pub join-new : (op' : List ℕ) → op' ≡ joined op w st.at → JoinedTo cap n v root w x y op op' (Ok (record { nodes = st.nodes; cap = cap; groups = w + 1; root = Some st.at }))
        join-new op' is =
            rw is
            (record {
              is = λ t gs g ro s l a. one t gs g ro s l a;
              counts = o.counts;
              beyond = o.beyond;
              beyond-open = λ j q.
                  let a = new_in in
                  get_or-set_other (put_field op 2 w 0 st.at) (w * 2 + 1) j 1 0 (λ e. omega arith) ∙ get_or-set_other op (w * 2 + 0) j st.at 0 (λ e. omega arith);
            })
          where
            one : (t : Nodes) (gs : List Group) → Good (cols x) n t → RootAt root v t → Standing t op 0 gs → length gs ≡ w → Apart gs
                → Joins cap n v y (joined op w st.at) t gs (record { nodes = st.nodes; cap = cap; groups = w + 1; root = Some st.at })
            one t gs g ro s l a =
                let q = went t g ro in
                let so = stand-opened v n t g.rising op 0 gs s in
                record {
                  good = q.good;
                  slot = st.at;
                  at = refl;
                  root = root-at t g ro;
                  some = root-some t g ro;
                  room = q.room;
                  kept = refl;
                  groups = gs ++ record { path = ends v v ∷ []; mult = 1 } ∷ [];
                  standing = stand-new (opened v n t) op (ends v v ∷ []) st.at 0 w gs (omega arith) join-room (root-at t g ro) so;
                  many = length-append gs (record { path = ends v v ∷ []; mult = 1 } ∷ []) ∙ ap (λ (k : ℕ). k + 1) l;
                  apart = apart-new (ends v v ∷ []) gs (not-empty v) (none-there t gs g ro s l) a;
                  walk = λ k m. rw (take_n-here 1 (ends v v) (suc n) t) (same-opened v (suc n) k t gs m);
                }
