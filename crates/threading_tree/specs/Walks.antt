-- A walk's open trees: the definition lists them with repetitions; the code holds groups, a slot with a multiplicity. Both take an edge alike.
use Rattle.std.specs.Prelude.{◌≡◌, refl, ℕ, zero, suc, List, [], ◌∷◌, ◌++◌, map, replicate}
use Rattle.std.proofs.Common.{sym, ap, ◌∙◌, append_assoc}
use Rattle.definition.specs.Threading.{Ends}
use Rattle.threading_node.specs.Ends.{ends}
use Rattle.definition.specs.Evidence.{Branches, Tree, reach, take_at, at_tree, Opened, Walk, growth, grow_all, take_edge, open_tree}
use Rattle.threading_node.specs.Nodes.{Nodes, erase, reach_n, take_n, At, Rising, at_take, rising-take}
use Rattle.threading_tree.specs.Forest.{forest, root_path, erase-take, erase-reach, take_times, forest-open}
use Rattle.threading_tree.specs.Commute.{take-take, forest-take}

-- ---- a list of paths, each of which takes the edge

unfoldable pub grow_b : List (List Ends) → Ends → Branches → Branches
grow_b [] e b = b
grow_b (p ∷ ps) e b = grow_b ps e (take_at b p e)

-- every path leads somewhere
unfoldable pub Stand : Nodes → List (List Ends) → Type 0
Stand t [] = Unit {0}
Stand t (p ∷ ps) = ((s : ℕ) × At t 0 p s) × Stand t ps

stand-take : (m : ℕ) (e : Ends) (k : ℕ) (t : Nodes) (q : List Ends) (ps : List (List Ends)) → Rising t → Stand t ps → Stand (take_n m e k t q) ps
unfolding Stand
stand-take m e k t q [] r h = tt
stand-take m e k t q (p ∷ ps) r h = ((h.0.0, at_take m e k q h.0.1 r), stand-take m e k t q ps r h.1)

-- the definition's growth of its trees
pub forest-grow : (e : Ends) (os : List Opened) (t : Nodes) → Rising t → Stand t (map root_path os) → (ts : List Tree) → erase t ≡ forest ts
    → forest (grow_all os e ts) ≡ grow_b (map root_path os) e (forest ts)
unfolding Stand grow_b grow_all
forest-grow e [] t r h ts z = refl
forest-grow e (o ∷ os) t r h ts z =
    let y : forest (at_tree o.vertex (growth o.path e) ts) ≡ take_at (forest ts) (root_path o) e = forest-take e o.vertex h.0.1 refl r ts z in
    let x : erase (take_n 1 e 0 t (root_path o)) ≡ forest (at_tree o.vertex (growth o.path e) ts) = erase-take e 0 t (root_path o) ∙ ap (λ (b : Branches). take_at b (root_path o) e) z ∙ sym y in
    forest-grow e os (take_n 1 e 0 t (root_path o)) (rising-take 1 e 0 t (root_path o) r) (stand-take 1 e 0 t (root_path o) (map root_path os) r h.1) (at_tree o.vertex (growth o.path e) ts) x
    ∙ ap (λ (b : Branches). grow_b (map root_path os) e b) y

-- ---- order does not matter

pub data Perm : List (List Ends) → List (List Ends) → Type 0 where
  same : {ps : List (List Ends)} → Perm ps ps
  skip : {p : List Ends} {ps qs : List (List Ends)} → Perm ps qs → Perm (p ∷ ps) (p ∷ qs)
  swap : {p q : List Ends} {ps : List (List Ends)} → Perm (p ∷ q ∷ ps) (q ∷ p ∷ ps)
  both : {ps qs rs : List (List Ends)} → Perm ps qs → Perm qs rs → Perm ps rs

stand-perm : (t : Nodes) {ps qs : List (List Ends)} → Perm ps qs → Stand t ps → Stand t qs
unfolding Stand
stand-perm t same h = h
stand-perm t (skip w) h = (h.0, stand-perm t w h.1)
stand-perm t swap h = (h.1.0, (h.0, h.1.1))
stand-perm t (both w w') h = stand-perm t w' (stand-perm t w h)

pub grow-perm : (e : Ends) {ps qs : List (List Ends)} → Perm ps qs → (t : Nodes) → Rising t → Stand t ps → grow_b ps e (erase t) ≡ grow_b qs e (erase t)
unfolding Stand grow_b
grow-perm e same t r h = refl
grow-perm e (skip {p = p} {ps = ps} {qs = qs} w) t r h =
    let y = grow-perm e w (take_n 1 e 0 t p) (rising-take 1 e 0 t p r) (stand-take 1 e 0 t p ps r h.1) in
    rw (erase-take e 0 t p) at y
grow-perm e (swap {p = p} {q = q} {ps = ps}) t r h = ap (λ (b : Branches). grow_b ps e b) (take-take e h.0.1 h.1.0.1 r)
grow-perm e (both w w') t r h = grow-perm e w t r h ∙ grow-perm e w' t r (stand-perm t w h)

perm-map : (f : List Ends → List Ends) {ps qs : List (List Ends)} → Perm ps qs → Perm (map f ps) (map f qs)
perm-map f same = same
perm-map f (skip w) = skip (perm-map f w)
perm-map f swap = swap
perm-map f (both w w') = both (perm-map f w) (perm-map f w')

perm-front : (rs : List (List Ends)) {ps qs : List (List Ends)} → Perm ps qs → Perm (rs ++ ps) (rs ++ qs)
perm-front [] w = w
perm-front (p ∷ rs) w = skip (perm-front rs w)

-- the last goes first
perm-last : (p : List Ends) (ps : List (List Ends)) → Perm (ps ++ p ∷ []) (p ∷ ps)
perm-last p [] = same
perm-last p (q ∷ ps) = both (skip (perm-last p ps)) swap

perm-back : (p : List Ends) {ps qs : List (List Ends)} → Perm ps qs → Perm (ps ++ p ∷ []) (qs ++ p ∷ [])
perm-back p same = same
perm-back p (skip w) = skip (perm-back p w)
perm-back p swap = swap
perm-back p (both w w') = both (perm-back p w) (perm-back p w')

-- ---- groups

pub record Group : Type 0 where
  pub path : List Ends
  pub mult : ℕ

unfoldable pub spread : List Group → List (List Ends)
spread [] = []
spread (g ∷ gs) = replicate g.mult g.path ++ spread gs

-- each group takes the edge, its multiplicity over
unfoldable pub grow_m : Ends → List Group → Branches → Branches
grow_m e [] b = b
grow_m e (g ∷ gs) b = grow_m e gs (take_times g.mult e g.path b)

times-inner : (m : ℕ) (e : Ends) (p : List Ends) (b : Branches) → take_times m e p (take_at b p e) ≡ take_at (take_times m e p b) p e
unfolding take_times
times-inner zero e p b = refl
times-inner (suc m) e p b = ap (λ (x : Branches). take_at x p e) (times-inner m e p b)

grow-times : (m : ℕ) (e : Ends) (p : List Ends) (ps : List (List Ends)) (b : Branches) → grow_b (replicate m p ++ ps) e b ≡ grow_b ps e (take_times m e p b)
unfolding grow_b take_times
grow-times zero e p ps b = refl
grow-times (suc m) e p ps b = grow-times m e p ps (take_at b p e) ∙ ap (λ (x : Branches). grow_b ps e x) (times-inner m e p b)

pub grow-spread : (e : Ends) (gs : List Group) (b : Branches) → grow_b (spread gs) e b ≡ grow_m e gs b
unfolding grow_b spread grow_m
grow-spread e [] b = refl
grow-spread e (g ∷ gs) b = grow-times g.mult e g.path (spread gs) b ∙ grow-spread e gs (take_times g.mult e g.path b)

-- ---- the groups stand for the definition's open trees

abbrev pub onward : Ends → Group → Group
onward e g = record { path = g.path ++ e ∷ []; mult = g.mult }

map-append : (f : List Ends → List Ends) (ps qs : List (List Ends)) → map f (ps ++ qs) ≡ map f ps ++ map f qs
map-append f [] qs = refl
map-append f (p ∷ ps) qs = ap (λ (rs : List (List Ends)). f p ∷ rs) (map-append f ps qs)

map-replicate : (f : List Ends → List Ends) (m : ℕ) (p : List Ends) → map f (replicate m p) ≡ replicate m (f p)
map-replicate f zero p = refl
map-replicate f (suc m) p = ap (λ (rs : List (List Ends)). f p ∷ rs) (map-replicate f m p)

spread-onward : (e : Ends) (gs : List Group) → spread (map (onward e) gs) ≡ map (λ p. p ++ e ∷ []) (spread gs)
unfolding spread
spread-onward e [] = refl
spread-onward e (g ∷ gs) =
    rw (map-append (λ p. p ++ e ∷ []) (replicate g.mult g.path) (spread gs), map-replicate (λ p. p ++ e ∷ []) g.mult g.path, spread-onward e gs)

opened-onward : (e : Ends) (os : List Opened) → map root_path (map (λ o. record { vertex = o.vertex; path = o.path ++ e ∷ [] }) os) ≡ map (λ p. p ++ e ∷ []) (map root_path os)
opened-onward e [] = refl
opened-onward e (o ∷ os) = ap (λ (rs : List (List Ends)). (root_path o ++ e ∷ []) ∷ rs) (opened-onward e os)

-- the numbered tree and the groups are those of the walk
pub record Same (w : Walk) (t : Nodes) (gs : List Group) : Type 0 where
  pub trees : erase t ≡ forest w.trees
  pub opened : Perm (map root_path w.opened) (spread gs)

-- every group takes the edge: the walk takes it
pub same-take : (e : Ends) (w : Walk) (t t' : Nodes) (gs : List Group) → Same w t gs → Rising t → Stand t (spread gs) → erase t' ≡ grow_m e gs (erase t) → Same (take_edge e w) t' (map (onward e) gs)
unfolding take_edge
same-take e w t t' gs h r st z =
    let st' : Stand t (map root_path w.opened) = stand-perm t (back h.opened) st in
    record {
      trees =
          z ∙ sym (grow-spread e gs (erase t)) ∙ sym (grow-perm e h.opened t r st') ∙ ap (λ (b : Branches). grow_b (map root_path w.opened) e b) h.trees
          ∙ sym (forest-grow e w.opened t r st' w.trees h.trees);
      opened = rw (opened-onward e w.opened, spread-onward e gs) (perm-map (λ p. p ++ e ∷ []) h.opened);
    }
  where
    back : {ps qs : List (List Ends)} → Perm ps qs → Perm qs ps
    back same = same
    back (skip w) = skip (back w)
    back swap = swap
    back (both w w') = both (back w') (back w)

-- a tree is opened: its group gains one, or is new
unfoldable pub raise : List Group → ℕ → List Group
raise [] i = []
raise (g ∷ gs) zero = record { path = g.path; mult = suc g.mult } ∷ gs
raise (g ∷ gs) (suc i) = g ∷ raise gs i

pub data HasAt (p : List Ends) : List Group → ℕ → Type 0 where
  first : {g : Group} {gs : List Group} → g.path ≡ p → HasAt p (g ∷ gs) 0
  after : {g : Group} {gs : List Group} {i : ℕ} → HasAt p gs i → HasAt p (g ∷ gs) (suc i)

spread-raise : (p : List Ends) {gs : List Group} {i : ℕ} → HasAt p gs i → Perm (spread gs ++ p ∷ []) (spread (raise gs i))
unfolding spread raise
spread-raise p (first {g = g} {gs = gs} z) = rw z (perm-last p (replicate g.mult p ++ spread gs))
spread-raise p (after {g = g} {gs = gs} h) = rw (append_assoc (replicate g.mult g.path) (spread gs) (p ∷ [])) (perm-front (replicate g.mult g.path) (spread-raise p h))

spread-new : (p : List Ends) (gs : List Group) → spread (gs ++ record { path = p; mult = 1 } ∷ []) ≡ spread gs ++ p ∷ []
unfolding spread
spread-new p [] = refl
spread-new p (g ∷ gs) = rw (spread-new p gs) (sym (append_assoc (replicate g.mult g.path) (spread gs) (p ∷ [])))

map_last : (os : List Opened) (o : Opened) → map root_path (os ++ o ∷ []) ≡ map root_path os ++ root_path o ∷ []
map_last [] o = refl
map_last (x ∷ os) o = ap (λ (rs : List (List Ends)). root_path x ∷ rs) (map_last os o)

pub same-open : (v k : ℕ) (w : Walk) (t : Nodes) (gs gs' : List Group) → Same w t gs → Perm (spread gs ++ (ends v v ∷ []) ∷ []) (spread gs') → Same (open_tree v w) (reach_n 1 (ends v v) k t) gs'
unfolding open_tree
same-open v k w t gs gs' h p =
    record {
      trees = erase-reach (ends v v) k t ∙ ap (λ (b : Branches). reach (ends v v) b) h.trees ∙ sym (forest-open v w.trees);
      opened = rw (map_last w.opened (record { vertex = v; path = [] })) (both (perm-back (ends v v ∷ []) h.opened) p);
    }

pub same-raised : (v k i : ℕ) (w : Walk) (t : Nodes) (gs : List Group) → Same w t gs → HasAt (ends v v ∷ []) gs i → Same (open_tree v w) (reach_n 1 (ends v v) k t) (raise gs i)
same-raised v k i w t gs h p = same-open v k w t gs (raise gs i) h (spread-raise (ends v v ∷ []) p)

pub same-opened : (v k : ℕ) (w : Walk) (t : Nodes) (gs : List Group) → Same w t gs → Same (open_tree v w) (reach_n 1 (ends v v) k t) (gs ++ record { path = ends v v ∷ []; mult = 1 } ∷ [])
same-opened v k w t gs h = same-open v k w t gs (gs ++ record { path = ends v v ∷ []; mult = 1 } ∷ []) h (rw (spread-new (ends v v ∷ []) gs) same)
