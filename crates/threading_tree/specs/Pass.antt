-- One edge of a walk, as the definition passes it: the first vertex's tree is opened where that vertex warrants one, and every open tree takes the
-- edge unless it is the only one that leaves. The contracts here are HeldWalk before and after.
use Rattle.std.specs.Prelude.{◌≡◌, refl, Bool, cond, List, eqb, length, Result, Ok, Err, ℕ, ◌+◌, ◌*◌, ◌^◌, ◌<◌, ◌≤◌, true, false}
use Rattle.std.proofs.Common.{subst, sym, ◌∙◌, arith, eq-eqb, ne_eqb}
use Rattle.std.proofs.Math.Decide.{ℕ_discrete}
use Rattle.definition.specs.Threading.{Ends, Edge, leaving}
use Rattle.definition.specs.Evidence.{Walk, opens, take_edge, open_tree, pass}
use Rattle.threading_node.specs.Ends.{ends}
use Rattle.threading_node.specs.Links.{link_to, Linked}
use Rattle.threading_node.specs.Slots.{told, Beyond}
use Rattle.threading_node.specs.Take.{Packable}
use Rattle.threading_tree.specs.All.{Walking, TookAll}
use Rattle.threading_tree.specs.Join.{Joinable, JoinedTo}
use Rattle.threading_tree.specs.Held.{HeldWalk, held-roots, held-under, held-few, held-walking, held-takes, held-full, held-joinable, held-opened, held-cap, held-opens, held-turned}
use Rattle.threading_tree.specs.Grows.{many, take-edge-grows, open-many}
use Rattle.threading_tree.specs.declared.ThreadingState as TS
use Rattle.refusals.specs.declared.Refusal.{Refusal}
use Rattle.refusals.specs.Numbers.{number}

-- ---- the definition's step in two halves

unfoldable pub open_where : Bool → ℕ → Walk → Walk
open_where true v w = open_tree v w
open_where false v w = w

-- nothing is taken where the edge is the only one that leaves
unfoldable pub take_unless : Bool → Ends → Walk → Walk
take_unless true e w = w
take_unless false e w = take_edge e w

pub pass-is : (es : List Edge) (e : Ends) (w : Walk) → pass es e w ≡ take_unless (eqb (length (leaving es e.from)) 1) e (open_where (opens es e.from) e.from w)
unfolding pass open_where take_unless
pass-is es e w = go (opens es e.from) (eqb (length (leaving es e.from)) 1) refl refl
  where
    go : (o q : Bool) → opens es e.from ≡ o → eqb (length (leaving es e.from)) 1 ≡ q
        → pass es e w ≡ take_unless (eqb (length (leaving es e.from)) 1) e (open_where (opens es e.from) e.from w)
    go true true y z = rw (z, pass, take_unless, y, open_where)
    go true false y z = rw (z, pass, take_unless, y, open_where)
    go false true y z = rw (z, pass, take_unless, y, open_where)
    go false false y z = rw (z, pass, take_unless, y, open_where)

-- ---- contracts over walks

-- by the answer: the tables hold the walk that F makes, the caller keeping the root of v; or its trees have more nodes than the maximum
abbrev pub SteppedTo : (Walk → Walk) → ℕ → ℕ → ℕ → (ℕ → ℕ) → Walk → List ℕ → List ℕ → Result TS.ThreadingState Refusal → Type 0
SteppedTo F cap v b root w y op (Ok k) =
    Linked k.root × ((root' : ℕ → ℕ) → root' v ≡ link_to k.root → ((u : ℕ) → (u ≡ v → ⊥) → root' u ≡ root u) → HeldWalk (F w) cap k.nodes k.groups b root' y op) × (k.cap ≡ cap)
SteppedTo F cap v b root w y op (Err k) = (number k ≡ 9) × (cap < many (F w))

-- `more w` is how much the bound of the counts grows
pub record Steps (F : Walk → Walk) (more : Walk → ℕ) (cap v : ℕ) (h : TS.ThreadingState) (x y op op' : List ℕ) (r : Result TS.ThreadingState Refusal) : Type 0 where
  pub is : (w : Walk) (b : ℕ) (root : ℕ → ℕ) → HeldWalk w cap h.nodes h.groups b root x op → root v ≡ link_to h.root → SteppedTo F cap v (b + more w) root w y op' r
  pub beyond : Beyond (told cap) x y
  pub beyond-open : Beyond (cap * 2) op op'

-- the tables hold a walk, `h` tells of it, and no count passes a u32 where s trees more are open
pub record Stepping (cap : ℕ) (e : Ends) (s : ℕ) (h : TS.ThreadingState) (x op : List ℕ) : Type 0 where
  pub walk : Walk
  pub bound : ℕ
  pub roots : ℕ → ℕ
  pub holds : HeldWalk walk cap h.nodes h.groups bound roots x op
  pub root : roots e.from ≡ link_to h.root
  pub linked : Linked h.root
  pub ends : Packable e
  pub spare : bound + (length walk.opened + s) < 2 ^ 32

abbrev pub opening : Walk → ℕ
opening w = 1

abbrev pub taking : Walk → ℕ
taking w = length w.opened

abbrev pub passing : Walk → ℕ
passing w = 2 + length w.opened

-- the root's edge in place of the edge, and fewer trees more
pub stepping-root : (cap a b s s' : ℕ) (h : TS.ThreadingState) (x op : List ℕ) → s' ≤ s → Stepping cap (ends a b) s h x op → Stepping cap (ends a a) s' h x op
stepping-root cap a b s s' h x op q p =
    let c = p.spare in
    record {
      walk = p.walk;
      bound = p.bound;
      roots = p.roots;
      holds = p.holds;
      root = p.root;
      linked = p.linked;
      ends = (p.ends.0, p.ends.0);
      spare = omega arith;
    }

-- ---- the tree is opened, or nothing is done

agrees : (v r : ℕ) (root root' : ℕ → ℕ) → root v ≡ r → root' v ≡ r → ((u : ℕ) → (u ≡ v → ⊥) → root' u ≡ root u) → (u : ℕ) → root' u ≡ root u
agrees v r root root' a b off u = go (ℕ_discrete u v)
  where
    go : Dec (u ≡ v) → root' u ≡ root u
    go (yes z) = rw z (b ∙ sym a)
    go (no z) = off u z

-- nothing is done: the bound may grow all the same
stays : (F : Walk → Walk) (more : Walk → ℕ) (cap v : ℕ) (h : TS.ThreadingState) (x op : List ℕ) → ((w : Walk) → F w ≡ w) → Linked h.root → h.cap ≡ cap → Steps F more cap v h x x op op (Ok h)
stays F more cap v h x op f l hc =
    record {
      is = λ w b root k a. (l, λ root' e off. rw (f w) (held-under (b + more w) (omega arith) (held-roots root' (agrees v (link_to h.root) root root' a e off) k)), hc);
      beyond = λ i q. refl;
      beyond-open = λ i q. refl;
    }

module _ (cap : ℕ) (e : Ends) (h : TS.ThreadingState) (x op : List ℕ) (o : Bool) where
  pub open-joinable : Stepping cap e 1 h x op → Joinable cap h.nodes e.from h.root h.groups x op
  open-joinable p =
      let a = p.spare in
      held-joinable p.walk cap h.nodes h.groups p.bound p.roots x op p.holds e.from h.root p.root p.linked p.ends.0 (omega arith) (omega arith)

  pub open-not : Stepping cap e 1 h x op → h.cap ≡ cap → o ≡ false → Steps (open_where o e.from) opening cap e.from h x x op op (Ok h)
  unfolding open_where
  open-not p hc z = rw z (stays (open_where false e.from) opening cap e.from h x op (λ w. refl) p.linked hc)

  pub open-does : Stepping cap e 1 h x op → o ≡ true → (y op' : List ℕ) (r : Result TS.ThreadingState Refusal) → JoinedTo cap h.nodes e.from h.root h.groups x y op op' r → length y ≡ length x → length op' ≡ length op
      → Steps (open_where o e.from) opening cap e.from h x y op op' r
  unfolding open_where
  open-does p z y op' r j ly lo = rw z (record { is = go r j; beyond = j.beyond; beyond-open = j.beyond-open })
    where
      go : (r : Result TS.ThreadingState Refusal) → JoinedTo cap h.nodes e.from h.root h.groups x y op op' r → (w : Walk) (b : ℕ) (root : ℕ → ℕ)
          → HeldWalk w cap h.nodes h.groups b root x op → root e.from ≡ link_to h.root → SteppedTo (open_where true e.from) cap e.from (b + 1) root w y op' r
      go (Ok s) q w b root k a = (
        held-opened w cap h.nodes h.groups b root x op k e.from h.root a p.linked y op' s q,
        λ root' c off. held-opens w cap h.nodes h.groups b root x op k e.from h.root a p.linked y op' s root' q ly lo c off,
        held-cap w cap h.nodes h.groups b root x op k e.from h.root a p.linked y op' s q,
      )
      go (Err m) q w b root k a = held-turned w cap h.nodes h.groups b root x op k e.from h.root a p.linked y op' m q

-- ---- every open tree takes the edge, or nothing is done

module _ (cap : ℕ) (e : Ends) (h : TS.ThreadingState) (x op : List ℕ) (q : Bool) where
  pub take-walking : Stepping cap e 0 h x op → Walking cap h.nodes h.groups e x op
  take-walking p = let a = p.spare in held-walking p.walk cap h.nodes h.groups p.bound p.roots x op p.holds e p.ends (omega arith)

  pub take-not : Stepping cap e 0 h x op → h.cap ≡ cap → q ≡ true → Steps (take_unless q e) taking cap e.from h x x op op (Ok h)
  unfolding take_unless
  take-not p hc z = rw z (stays (take_unless true e) taking cap e.from h x op (λ w. refl) p.linked hc)

  module _ (p : Stepping cap e 0 h x op) (z : q ≡ false) (y op' : List ℕ) (r : Result ℕ Refusal) (t : TookAll cap h.nodes h.groups e x y op op' r) where
    far : Beyond (cap * 2) op op'
    far i j = let a = held-few p.walk cap h.nodes h.groups p.bound p.roots x op p.holds e in t.beyond-open i (omega arith)

    pub take-does : (k : ℕ) → h.cap ≡ cap → r ≡ Ok k → length y ≡ length x → length op' ≡ length op
        → Steps (take_unless q e) taking cap e.from h x y op op' (Ok (record { nodes = k; cap = h.cap; groups = h.groups; root = h.root }))
    unfolding take_unless
    take-does k hc f ly lo =
        rw z
        (record {
          is = λ w b root c a. (
            p.linked,
            λ root' d off.
                held-roots root' (agrees e.from (link_to h.root) root root' a d off) (held-takes w cap h.nodes h.groups b root x op c e y op' k (rw f at t) ly lo),
            hc,
          );
          beyond = t.beyond;
          beyond-open = far;
        })

    pub take-full : (m : Refusal) → r ≡ Err m → Steps (take_unless q e) taking cap e.from h x y op op' (Err m)
    unfolding take_unless
    take-full m f =
        rw z
        (record {
          is = λ w b root c a. held-full w cap h.nodes h.groups b root x op c e y op' m (rw f at t);
          beyond = t.beyond;
          beyond-open = far;
        })

-- ---- one after the other

unfoldable keep_root : (ℕ → ℕ) → ℕ → ℕ → ℕ → ℕ
keep_root root v r u = cond (eqb u v) r (root u)

keep_at : (root : ℕ → ℕ) (v r : ℕ) → keep_root root v r v ≡ r
unfolding keep_root
keep_at root v r = rw (eq-eqb v v refl)

keep-off : (root : ℕ → ℕ) (v r u : ℕ) → (u ≡ v → ⊥) → keep_root root v r u ≡ root u
unfolding keep_root
keep-off root v r u n = rw (ne_eqb u v n)

unless-grows : (q : Bool) (e : Ends) (w : Walk) → many w ≤ many (take_unless q e w)
unfolding take_unless
unless-grows true e w = omega arith
unless-grows false e w = take-edge-grows e w

pub where-many : (o : Bool) (v : ℕ) (w : Walk) → length (open_where o v w).opened ≤ length w.opened + 1
unfolding open_where
where-many true v w = let a = open-many v w in omega arith
where-many false v w = omega arith

module _ (cap : ℕ) (e : Ends) (h : TS.ThreadingState) (x op : List ℕ) (o q : Bool) (y op1 : List ℕ) (r1 : Result TS.ThreadingState Refusal) (s1 : Steps (open_where o e.from) opening cap e.from h x y op op1 r1) where
  pub pass-refused : (m : Refusal) → r1 ≡ Err m → Steps (λ w. take_unless q e (open_where o e.from w)) passing cap e.from h x y op op1 r1
  pass-refused m z =
      let s : Steps (open_where o e.from) opening cap e.from h x y op op1 (Err m) = rw z at s1 in
      rw z
      (record {
        is = λ w b root k a. let c = s.is w b root k a in let g = unless-grows q e (open_where o e.from w) in (c.0, over (many (open_where o e.from w)) (many (take_unless q e (open_where o e.from w))) c.1 g);
        beyond = s1.beyond;
        beyond-open = s1.beyond-open;
      })
    where
      over : (a b : ℕ) → cap < a → a ≤ b → cap < b
      over a b p q = omega arith

  module _ (k : TS.ThreadingState) (z : r1 ≡ Ok k) where
    s : Steps (open_where o e.from) opening cap e.from h x y op op1 (Ok k)
    s = rw z at s1

    after : (w : Walk) (b : ℕ) (root : ℕ → ℕ) → HeldWalk w cap h.nodes h.groups b root x op → root e.from ≡ link_to h.root
        → HeldWalk (open_where o e.from w) cap k.nodes k.groups (b + 1) (keep_root root e.from (link_to k.root)) y op1
    after w b root c a =
        (s.is w b root c a).1 (keep_root root e.from (link_to k.root)) (keep_at root e.from (link_to k.root)) (λ u n. keep-off root e.from (link_to k.root) u n)

    pass-cap : Stepping cap e 2 h x op → k.cap ≡ cap
    pass-cap p = (s.is p.walk p.bound p.roots p.holds p.root).2

    pub pass_on : Stepping cap e 2 h x op → Stepping k.cap e 0 k y op1
    pass_on p =
        let a = where-many o e.from p.walk in
        let b = p.spare in
        rw (pass-cap p)
        (record {
          walk = open_where o e.from p.walk;
          bound = p.bound + 1;
          roots = keep_root p.roots e.from (link_to k.root);
          holds = after p.walk p.bound p.roots p.holds p.root;
          root = keep_at p.roots e.from (link_to k.root);
          linked = (s.is p.walk p.bound p.roots p.holds p.root).0;
          ends = p.ends;
          spare = omega arith;
        })

    pub pass-both : (y2 op2 : List ℕ) (r : Result TS.ThreadingState Refusal) → Stepping cap e 2 h x op → Steps (take_unless q e) taking k.cap e.from k y y2 op1 op2 r
        → Steps (λ w. take_unless q e (open_where o e.from w)) passing cap e.from h x y2 op op2 r
    pass-both y2 op2 r p s0 =
        let s2 : Steps (take_unless q e) taking cap e.from k y y2 op1 op2 r = subst (λ (m : ℕ). Steps (take_unless q e) taking m e.from k y y2 op1 op2 r) (pass-cap p) s0 in
        record {
          is = λ w b root c a. go r w b root (s2.is (open_where o e.from w) (b + 1) (keep_root root e.from (link_to k.root)) (after w b root c a) (keep_at root e.from (link_to k.root)));
          beyond = λ i j. s2.beyond i j ∙ s1.beyond i j;
          beyond-open = λ i j. s2.beyond-open i j ∙ s1.beyond-open i j;
        }
      where
        go : (r : Result TS.ThreadingState Refusal) (w : Walk) (b : ℕ) (root : ℕ → ℕ)
            → SteppedTo (take_unless q e) cap e.from ((b + 1) + length (open_where o e.from w).opened) (keep_root root e.from (link_to k.root)) (open_where o e.from w) y2 op2 r
            → SteppedTo (λ w. take_unless q e (open_where o e.from w)) cap e.from (b + (2 + length w.opened)) root w y2 op2 r
        go (Ok j) w b root t =
            let m = where-many o e.from w in
            (t.0, λ root' c off. held-under (b + (2 + length w.opened)) (omega arith) (t.1 root' c (λ u n. off u n ∙ sym (keep-off root e.from (link_to k.root) u n))), t.2)
        go (Err m) w b root t = t
