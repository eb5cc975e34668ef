-- The active trees after an edge is taken.
use Rattle.std.specs.Prelude.{◌≡◌, refl, ◌⊎◌, ℕ, zero, suc, ◌+◌, ◌-◌, ◌^◌, ◌<◌, ◌≤◌, true, false, not, eqb, set, Option, Some, None, IfSome, IfNone, is_some}
use Rattle.std.proofs.Common.{sym, subst, ◌∙◌, inl, inr, ne_eqb}
use Rattle.std.proofs.Math.Path.{ap}
use mathlib.Core.List.{List, [], ◌∷◌, ◌++◌, append_assoc}
use native.Mathlib.Omega.{arith}
use Rattle.std.proofs.Math.ListN.{length, get_or, length-set}
use Rattle.std.proofs.Math.Seq.{get_or-set_same, get_or-set_other}
use Rattle.definition.specs.Threading.{Ends}
use Rattle.definition.specs.Evidence.{Branches, bare, has_branch}
use Rattle.definition.specs.Search.{child, walk_trees}
use Rattle.threading_node.specs.Slots.{cols, Slot}
use Rattle.threading_node.specs.Take.{Wide, wide-slot}
use Rattle.threading_node.specs.Links.{slot_at, link_to, link_is}
use Rattle.threading_tree.specs.Read.{Leads, ChildSlot, leads-has}
use Rattle.fork_offers.specs.Actives.{Stand, Actives, Active, First, stand-le, stand-kept, stand-more, append-nil, actives-one, actives-end, actives-first}

-- ---- an edge is taken (Rust: traverse_edge_for_all_trees)

-- slot s of the table may be read
pub record Treed (cap n : ℕ) (x : List ℕ) (s : ℕ) : Type 0 where
  pub branches : Branches
  pub leads : Leads n x ((cols x).kid s) branches
  pub live : s ≤ n
  pub room : n ≤ cap
  pub wide : Wide cap x

-- by the answer, the slot of the child of s for the edge e, which has a branch
pub record WalkedTo (n : ℕ) (x : List ℕ) (s : ℕ) (e : Ends) (r : Option ℕ) : Type 0 where
  pub there : (b : Branches) → Leads n x ((cols x).kid s) b → IfSome r (λ c. (c ≤ n) × Leads n x ((cols x).kid c) (child e b) × (has_branch (child e b) ≡ true))
  pub missing : (b : Branches) → Leads n x ((cols x).kid s) b → IfNone r (has_branch (child e b) ≡ false)

bare-none : (b : Branches) → b ≡ bare → has_branch b ≡ false
unfolding has_branch
bare-none b z = rw z

module _ (cap n : ℕ) (x : List ℕ) (s : ℕ) (p : Treed cap n x s) where
  module _ (start : Option ℕ) (k : start ≡ slot_at ((cols x).kid s)) where
    linked : (b : Branches) → Leads n x ((cols x).kid s) b → Leads n x (link_to start) b
    linked b h = subst (λ (d : ℕ). Leads n x d b) (sym (ap link_to k ∙ link_is ((cols x).kid s))) h

    module _ (e : Ends) where
      pub walked_none : ChildSlot n x (link_to start) e None → WalkedTo n x s e None
      walked_none hc =
          record { there = λ b h. tt; missing = λ b h. bare-none (child e b) (hc.missing b (linked b h) refl).child }

      module _ (c : ℕ) (hc : ChildSlot n x (link_to start) e (Some c)) where
        pub walked-slot : Slot c x
        walked-slot =
            let q = (hc.there p.branches (linked p.branches p.leads) c refl).live in
            let r = p.room in
            wide-slot p.wide c (omega arith)

        module _ (l : Option ℕ) (hl : l ≡ slot_at ((cols x).kid c)) where
          has : (b : Branches) → Leads n x ((cols x).kid s) b → has_branch (child e b) ≡ is_some l
          has b h = leads-has n x ((cols x).kid c) (child e b) (hc.there b (linked b h) c refl).leads ∙ told ((cols x).kid c) ∙ sym (ap is_some hl)
            where
              told : (i : ℕ) → not (eqb i 0) ≡ is_some (slot_at i)
              told zero = refl
              told (suc i) = ap not (ne_eqb (suc i) 0 (λ z. omega arith))

          pub walked-bare : is_some l ≡ false → WalkedTo n x s e None
          walked-bare z = record { there = λ b h. tt; missing = λ b h. has b h ∙ z }

          pub walked-there : is_some l ≡ true → WalkedTo n x s e (Some c)
          walked-there z =
              record {
                there = λ b h. let q = hc.there b (linked b h) c refl in (q.live, q.leads, has b h ∙ z);
                missing = λ b h. tt;
              }

-- The trees from `at` to `end` are walked to the places from `to` on, which lie before them or beyond them.
pub record Walkable (cap n : ℕ) (x a : List ℕ) (at end to : ℕ) : Type 0 where
  pub active : Active cap n x a at end
  pub apart : (to ≤ at) ⊎ (end ≤ to)
  pub room : to + (end - at) ≤ length a
  -- a slot fits in 16 bits
  pub few : cap < 2 ^ 16

-- r trees are left, from `to` on; no other place has changed but those that the trees may need
pub record Walked (cap n : ℕ) (x a a' : List ℕ) (at end to : ℕ) (e : Ends) (r : ℕ) : Type 0 where
  pub is : (bs : List Branches) → Actives cap n x a at end bs → Actives cap n x a' to (to + r) (walk_trees e bs)
  pub few : r ≤ end - at
  pub before : (k : ℕ) → k < to → get_or a' k 0 ≡ get_or a k 0
  pub beyond : (k : ℕ) → to + (end - at) ≤ k → get_or a' k 0 ≡ get_or a k 0

pub record Walking (cap n : ℕ) (x a a' : List ℕ) (at end to : ℕ) (e : Ends) (i j : ℕ) : Type 0 where
  pub rest : Active cap n x a' i end
  pub done : List Branches
  pub made : Stand n x a' to j done
  pub run : (bs : List Branches) → Actives cap n x a at end bs → done ++ walk_trees e rest.branches ≡ walk_trees e bs
  pub apart : (to ≤ at) ⊎ (end ≤ to)
  pub room : to + (end - at) ≤ length a'
  pub few : cap < 2 ^ 16
  pub long : length a' ≡ length a
  pub from : at ≤ i
  pub start : to ≤ j
  pub behind : j + at ≤ i + to
  pub before : (k : ℕ) → k < to → get_or a' k 0 ≡ get_or a k 0
  pub beyond : (k : ℕ) → to + (end - at) ≤ k → get_or a' k 0 ≡ get_or a k 0

walk_none : (e : Ends) → walk_trees e [] ≡ []
unfolding walk_trees
walk_none e = refl

walk-keep : (e : Ends) (b : Branches) (bs : List Branches) → has_branch (child e b) ≡ true → walk_trees e (b ∷ bs) ≡ child e b ∷ walk_trees e bs
unfolding walk_trees
walk-keep e b bs h = rw h

walk-drop : (e : Ends) (b : Branches) (bs : List Branches) → has_branch (child e b) ≡ false → walk_trees e (b ∷ bs) ≡ walk_trees e bs
unfolding walk_trees
walk-drop e b bs h = rw h

module _ (cap n : ℕ) (x a : List ℕ) (at end to : ℕ) (e : Ends) where
  pub walking_start : Walkable cap n x a at end to → Walking cap n x a a at end to e at to
  walking_start p =
      record {
        rest = p.active;
        done = [];
        made = refl;
        run = λ bs h. ap (walk_trees e) (actives-one cap n x a at end p.active.branches bs p.active.stands h);
        apart = p.apart;
        room = p.room;
        few = p.few;
        long = refl;
        from = omega arith;
        start = omega arith;
        behind = omega arith;
        before = λ k h. refl;
        beyond = λ k h. refl;
      }

  module _ (a' : List ℕ) (i j : ℕ) (k : Walking cap n x a a' at end to e i j) where
    pub walking-end : end ≤ i → Walked cap n x a a' at end to e (j - to)
    walking-end l =
        let s = k.start in
        let z : j ≡ to + (j - to) = omega arith in
        let b = k.behind in
        let f = k.from in
        let le = stand-le n x a' i end k.rest.branches k.rest.stands.stand in
        let ro = k.room in
        record {
          is = λ bs h.
              let y : k.done ≡ walk_trees e bs
              = sym (append-nil k.done) ∙ ap (λ (d : List Branches). k.done ++ d) (sym (walk_none e))
              ∙ ap (λ (d : List Branches). k.done ++ walk_trees e d) (sym (actives-end cap n x a' i end k.rest.branches k.rest.stands l)) ∙ k.run bs h in
              record {
                stand = subst (λ (d : List Branches). Stand n x a' to (to + (j - to)) d) y (subst (λ (d : ℕ). Stand n x a' to d k.done) z k.made);
                inside = omega arith;
                room = k.rest.stands.room;
                wide = k.rest.stands.wide;
              };
          few = omega arith;
          before = k.before;
          beyond = k.beyond;
        }

    module _ (l : i < end) where
      pub walking-treed : (s : ℕ) → s ≡ get_or a' i 0 → Treed cap n x s
      walking-treed s z =
          let f = actives-first cap n x a' i end k.rest.branches k.rest.stands l in
          let v = f.live in
          record {
            branches = f.head;
            leads = subst (λ (d : ℕ). Leads n x ((cols x).kid d) f.head) (sym z) f.leads;
            live = omega arith;
            room = k.rest.stands.room;
            wide = k.rest.stands.wide;
          }

      module _ (s : ℕ) (hs : s ≡ get_or a' i 0) where
        first : First cap n x a' i end k.rest.branches
        first = actives-first cap n x a' i end k.rest.branches k.rest.stands l

        leads : Leads n x ((cols x).kid s) first.head
        leads = subst (λ (d : ℕ). Leads n x ((cols x).kid d) first.head) (sym hs) first.leads

        pub walking-drop : WalkedTo n x s e None → Walking cap n x a a' at end to e (i + 1) j
        unfolding first leads
        walking-drop hc =
            let b = k.behind in
            let f = k.from in
            record {
              rest = record { branches = first.tail; stands = first.rest };
              done = k.done;
              made = k.made;
              run = λ bs h.
                  ap (λ (d : List Branches). k.done ++ d) (sym (ap (walk_trees e) first.is ∙ walk-drop e first.head first.tail (hc.missing first.head leads)))
                  ∙ k.run bs h;
              apart = k.apart;
              room = k.room;
              few = k.few;
              long = k.long;
              from = omega arith;
              start = k.start;
              behind = omega arith;
              before = k.before;
              beyond = k.beyond;
            }

        module _ (c : ℕ) (hc : WalkedTo n x s e (Some c)) where
          pub walking-small : c < 2 ^ 16
          unfolding first leads
          walking-small =
              let q = (hc.there first.head leads).0 in
              let r = k.rest.stands.room in
              let w = k.few in
              omega arith

          pub walking-keep : Walking cap n x a (set a' j c) at end to e (i + 1) (j + 1)
          unfolding first leads
          walking-keep =
              let b = k.behind in
              let f = k.from in
              let ss = k.start in
              let ro = k.room in
              let w = hc.there first.head leads in
              let len : length (set a' j c) ≡ length a' = length-set a' j c in
              let other : (m : ℕ) → (m ≡ j → ⊥) → get_or (set a' j c) m 0 ≡ get_or a' m 0 = λ m ne. get_or-set_other a' j m c 0 ne in
              let same : get_or (set a' j c) j 0 ≡ c = get_or-set_same a' j c 0 (omega arith) in
              let far : (m : ℕ) → i + 1 ≤ m → m < end → m ≡ j → ⊥ = λ m p q y. (apart-far k.apart m p q y) in
              let ins = first.rest.inside in
              record {
                rest =
                    record {
                      branches = first.tail;
                      stands =
                          record {
                            stand = stand-kept n x a' (set a' j c) (i + 1) end first.tail (λ m p q. other m (far m p q)) first.rest.stand;
                            inside = omega arith;
                            room = first.rest.room;
                            wide = first.rest.wide;
                          };
                    };
                done = k.done ++ child e first.head ∷ [];
                made =
                    stand-more n x (set a' j c) to j k.done (child e first.head)
                    (stand-kept n x a' (set a' j c) to j k.done (λ m p q. other m (λ y. omega arith)) k.made) (rw same w.0) (rw same w.1);
                run = λ bs h.
                    append_assoc k.done (child e first.head ∷ []) (walk_trees e first.tail)
                    ∙ ap (λ (d : List Branches). k.done ++ d) (sym (ap (walk_trees e) first.is ∙ walk-keep e first.head first.tail w.2)) ∙ k.run bs h;
                apart = k.apart;
                room = omega arith;
                few = k.few;
                long = len ∙ k.long;
                from = omega arith;
                start = omega arith;
                behind = omega arith;
                before = λ m h. other m (λ y. omega arith) ∙ k.before m h;
                beyond = λ m h. other m (λ y. omega arith) ∙ k.beyond m h;
              }
            where
              apart-far : (to ≤ at) ⊎ (end ≤ to) → (m : ℕ) → i + 1 ≤ m → m < end → m ≡ j → ⊥
              apart-far (inl q) m p r y = let b = k.behind in omega arith
              apart-far (inr q) m p r y = let b = k.start in omega arith
