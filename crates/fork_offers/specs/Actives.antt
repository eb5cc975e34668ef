-- The active trees of a path over the stores: slots of the node table, which stand for the branches below them.
use Rattle.std.specs.Prelude.{Option, ◌≡◌, refl, ℕ, ◌+◌, ◌<◌, ◌≤◌, List, [], ◌∷◌, ◌++◌, leb, ℤ, length, get_or}
use Rattle.std.proofs.Common.{ap, arith}
use Rattle.laws.specs.Numbers.{reaches}
use Rattle.definition.specs.Evidence.{Branches}
use Rattle.threading_node.specs.Slots.{cols, Slot}
use Rattle.threading_node.specs.Take.{Wide, wide-slot}
use Rattle.threading_node.specs.Links.{slot_at, link_to, Linked}
use Rattle.threading_tree.specs.Read.{Leads, Readable, leads_one, readable-at}

-- ---- a total and the threshold

-- r is the least total that reaches the threshold t
pub record Least (t : ℤ) (r : ℕ) : Type 0 where
  pub is : (m : ℕ) → reaches m t ≡ leb r m

-- ---- the slots from i to the end, and the branches that they stand for

abbrev pub Stand : ℕ → List ℕ → List ℕ → ℕ → ℕ → List Branches → Type 0
Stand n x a i end [] = i ≡ end
Stand n x a i end (b ∷ bs) = (i < end) × (get_or a i 0 ≤ n) × Leads n x ((cols x).kid (get_or a i 0)) b × Stand n x a (i + 1) end bs

-- The places i to `end` of the list a are slots of the table x, with n of at most cap nodes, and their children are the branches bs.
pub record Actives (cap n : ℕ) (x a : List ℕ) (i end : ℕ) (bs : List Branches) : Type 0 where
  pub stand : Stand n x a i end bs
  pub inside : end ≤ length a
  pub room : n ≤ cap
  pub wide : Wide cap x

-- what the code asks: the places stand for some branches
pub record Active (cap n : ℕ) (x a : List ℕ) (i end : ℕ) : Type 0 where
  pub branches : List Branches
  pub stands : Actives cap n x a i end branches

same-cons : (b d : Branches) (bs ds : List Branches) → b ≡ d → bs ≡ ds → b ∷ bs ≡ d ∷ ds
same-cons b d bs ds p q = cc

stand-one : (n : ℕ) (x a : List ℕ) (i end : ℕ) (bs ds : List Branches) → Stand n x a i end bs → Stand n x a i end ds → bs ≡ ds
stand-one n x a i end [] [] h k = refl
stand-one n x a i end [] (d ∷ ds) h k = let q = k.0 in absurd (omega arith)
stand-one n x a i end (b ∷ bs) [] h k = let q = h.0 in absurd (omega arith)
stand-one n x a i end (b ∷ bs) (d ∷ ds) h k =
    same-cons b d bs ds (leads_one n x ((cols x).kid (get_or a i 0)) b d h.2 k.2) (stand-one n x a (i + 1) end bs ds h.3 k.3)

pub stand-le : (n : ℕ) (x a : List ℕ) (i end : ℕ) (bs : List Branches) → Stand n x a i end bs → i ≤ end
stand-le n x a i end [] h = omega arith
stand-le n x a i end (b ∷ bs) h = let q = h.0 in omega arith

pub append-nil : (bs : List Branches) → bs ++ [] ≡ bs
append-nil [] = refl
append-nil (b ∷ bs) = ap (λ (d : List Branches). b ∷ d) (append-nil bs)

-- the slots that are read from a list that agrees there
pub stand-kept : (n : ℕ) (x a a' : List ℕ) (i end : ℕ) (bs : List Branches) → ((k : ℕ) → i ≤ k → k < end → get_or a' k 0 ≡ get_or a k 0) → Stand n x a i end bs → Stand n x a' i end bs
stand-kept n x a a' i end [] e h = h
stand-kept n x a a' i end (b ∷ bs) e h =
    let l = h.0 in
    let z : get_or a' i 0 ≡ get_or a i 0 = e i (omega arith) l in
    (l, rw z h.1, rw z h.2, stand-kept n x a a' (i + 1) end bs (λ k p q. e k (omega arith) q) h.3)

-- one more at the end
pub stand-more : (n : ℕ) (x a : List ℕ) (i end : ℕ) (bs : List Branches) (d : Branches) → Stand n x a i end bs → get_or a end 0 ≤ n → Leads n x ((cols x).kid (get_or a end 0)) d → Stand n x a i (end + 1) (bs ++ d ∷ [])
stand-more n x a i end [] d h l k = (omega arith, rw h l, rw h k, ap (λ (j : ℕ). j + 1) h)
stand-more n x a i end (b ∷ bs) d h l k = let q = h.0 in (omega arith, h.1, h.2, stand-more n x a (i + 1) end bs d h.3 l k)

-- the first of the active trees
pub record First (cap n : ℕ) (x a : List ℕ) (i end : ℕ) (bs : List Branches) : Type 0 where
  pub head : Branches
  pub tail : List Branches
  pub is : bs ≡ head ∷ tail
  pub live : get_or a i 0 ≤ n
  pub leads : Leads n x ((cols x).kid (get_or a i 0)) head
  pub rest : Actives cap n x a (i + 1) end tail

module _ (cap n : ℕ) (x a : List ℕ) (i end : ℕ) where
  pub actives-one : (bs ds : List Branches) → Actives cap n x a i end bs → Actives cap n x a i end ds → bs ≡ ds
  actives-one bs ds h k = stand-one n x a i end bs ds h.stand k.stand

  pub actives-end : (bs : List Branches) → Actives cap n x a i end bs → end ≤ i → bs ≡ []
  actives-end [] h l = refl
  actives-end (b ∷ bs) h l = let q = h.stand.0 in absurd (omega arith)

  pub actives-first : (bs : List Branches) → Actives cap n x a i end bs → i < end → First cap n x a i end bs
  actives-first [] h l = let q : i ≡ end = h.stand in absurd (omega arith)
  actives-first (b ∷ bs) h l =
      let s = h.stand in
      record {
        head = b;
        tail = bs;
        is = refl;
        live = s.1;
        leads = s.2;
        rest = record { stand = s.3; inside = h.inside; room = h.room; wide = h.wide };
      }

  module _ (p : Active cap n x a i end) where
    module _ (l : i < end) where
      module _ (s : ℕ) (e : s ≡ get_or a i 0) where
        pub active-slot : Slot s x
        active-slot =
            let f = (actives-first p.branches p.stands l).live in
            let r = p.stands.room in
            wide-slot p.stands.wide s (omega arith)

        module _ (start : Option ℕ) (k : start ≡ slot_at ((cols x).kid s)) where
          pub active-readable : Readable cap n x (link_to start) × Linked start
          active-readable =
              let f = actives-first p.branches p.stands l in
              readable-at cap n x ((cols x).kid s) (record { branches = f.head; leads = rw (← e) at f.leads; room = p.stands.room; wide = p.stands.wide }) start k

-- ---- for callers

-- no active tree
pub actives-none : (cap n : ℕ) (x a : List ℕ) (i : ℕ) → i ≤ length a → n ≤ cap → Wide cap x → Actives cap n x a i i []
actives-none cap n x a i h r w = record { stand = refl; inside = h; room = r; wide = w }

-- the slots are read from another list that agrees there
pub actives-kept : (cap n : ℕ) (x a a' : List ℕ) (i end : ℕ) (bs : List Branches) → length a' ≡ length a → ((k : ℕ) → i ≤ k → k < end → get_or a' k 0 ≡ get_or a k 0)
    → Actives cap n x a i end bs → Actives cap n x a' i end bs
actives-kept cap n x a a' i end bs l e h =
    let q = h.inside in
    record { stand = stand-kept n x a a' i end bs e h.stand; inside = omega arith; room = h.room; wide = h.wide }

-- a tree joins: its slot stands at the end (Rust: add_junction_tree)
pub actives-join : (cap n : ℕ) (x a : List ℕ) (i end : ℕ) (bs : List Branches) (b : Branches) → Actives cap n x a i end bs → end < length a → get_or a end 0 ≤ n
    → Leads n x ((cols x).kid (get_or a end 0)) b → Actives cap n x a i (end + 1) (bs ++ b ∷ [])
actives-join cap n x a i end bs b h l v k =
    record { stand = stand-more n x a i end bs b h.stand v k; inside = omega arith; room = h.room; wide = h.wide }

-- as many branches as places
pub actives-many : (cap n : ℕ) (x a : List ℕ) (i end : ℕ) (bs : List Branches) → Actives cap n x a i end bs → i + length bs ≡ end
actives-many cap n x a i end bs h = many i bs h.stand
  where
    many : (i : ℕ) (bs : List Branches) → Stand n x a i end bs → i + length bs ≡ end
    many i [] k = let z : i ≡ end = k in omega arith
    many i (b ∷ bs) k = let z = many (i + 1) bs k.3 in omega arith
