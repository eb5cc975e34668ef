-- No child of slot 0 comes from elsewhere: after a change below, or after another root is reached, the roots are those that were there.
use Rattle.std.specs.Prelude.{◌≡◌, ◌⊎◌, Bool, true, false, List, [], ◌∷◌, refl, ℕ, suc}
use Rattle.std.proofs.Common.{inl, inr}
use Prim.Native.Nat.{Ordering}
use Rattle.definition.specs.Threading.{Ends, compare_ends, eq_ends}
use Rattle.threading_node.specs.Nodes.{Nodes, nil, node, size, reach_n, take_n, At, here, down, along, reach_n-lt, reach_n-eq, reach_n-gt, take_n-down, take_n-along}
use Rattle.threading_tree.specs.Walks.{Group}
use Rattle.threading_tree.specs.All.{grow_n}
use Rattle.threading_tree.specs.Apart.{Apart}

at_split : {i c q s : ℕ} {h f : Ends} {b x : Nodes} → At (node i h c b x) q (f ∷ []) s → ((f ≡ h) × (i ≡ s)) ⊎ ((eq_ends f h ≡ false) × At x q (f ∷ []) s)
at_split (down here) = inl (refl, refl)
at_split (along n a) = inr (n, a)

-- the first of a row, whatever its count and children
at_first : (i c q s : ℕ) (h f : Ends) (b x : Nodes) → f ≡ h → i ≡ s → At (node i h c b x) q (f ∷ []) s
at_first i c q s h f b x z y = rw (z, ← y) (down here)

module _ (m : ℕ) (e : Ends) (k q s : ℕ) (f : Ends) where
  pub at-reach-back : (t : Nodes) → (f ≡ e → ⊥) → At (reach_n m e k t) q (f ∷ []) s → At t q (f ∷ []) s
  unfolding reach_n
  at-reach-back nil ne a = one (at_split a)
    where
      one : ((f ≡ e) × (k ≡ s)) ⊎ ((eq_ends f e ≡ false) × At nil q (f ∷ []) s) → At nil q (f ∷ []) s
      one (inl w) = absurd (ne w.0)
      one (inr w) = w.1
  at-reach-back (node i h c b x) ne a = go (compare_ends e h) refl (at-reach-back x ne)
    where
      lower : ((f ≡ e) × (k ≡ s)) ⊎ ((eq_ends f e ≡ false) × At (node i h c b x) q (f ∷ []) s) → At (node i h c b x) q (f ∷ []) s
      lower (inl w) = absurd (ne w.0)
      lower (inr w) = w.1

      same : ((f ≡ h) × (i ≡ s)) ⊎ ((eq_ends f h ≡ false) × At x q (f ∷ []) s) → At (node i h c b x) q (f ∷ []) s
      same (inl w) = at_first i c q s h f b x w.0 w.1
      same (inr w) = along w.0 w.1

      upper : (At (reach_n m e k x) q (f ∷ []) s → At x q (f ∷ []) s) → ((f ≡ h) × (i ≡ s)) ⊎ ((eq_ends f h ≡ false) × At (reach_n m e k x) q (f ∷ []) s)
          → At (node i h c b x) q (f ∷ []) s
      upper ih (inl w) = at_first i c q s h f b x w.0 w.1
      upper ih (inr w) = along w.0 (ih w.1)

      go : (o : Ordering) → compare_ends e h ≡ o → (At (reach_n m e k x) q (f ∷ []) s → At x q (f ∷ []) s) → At (node i h c b x) q (f ∷ []) s
      go Ordering.lt z ih = lower (at_split (rw (reach_n-lt m e k i h c b x z) at a))
      go Ordering.eq z ih = same (at_split (rw (reach_n-eq m e k i h c b x z) at a))
      go Ordering.gt z ih = upper ih (at_split (rw (reach_n-gt m e k i h c b x z) at a))

  at-take-back : (d : Ends) (p : List Ends) (t : Nodes) → At (take_n m e k t (d ∷ p)) q (f ∷ []) s → At t q (f ∷ []) s
  unfolding take_n
  at-take-back d p nil a = a
  at-take-back d p (node i h c b x) a = go (eq_ends d h) refl (at-take-back d p x)
    where
      same : ((f ≡ h) × (i ≡ s)) ⊎ ((eq_ends f h ≡ false) × At x q (f ∷ []) s) → At (node i h c b x) q (f ∷ []) s
      same (inl w) = at_first i c q s h f b x w.0 w.1
      same (inr w) = along w.0 w.1

      upper : (At (take_n m e k x (d ∷ p)) q (f ∷ []) s → At x q (f ∷ []) s) → ((f ≡ h) × (i ≡ s)) ⊎ ((eq_ends f h ≡ false) × At (take_n m e k x (d ∷ p)) q (f ∷ []) s)
          → At (node i h c b x) q (f ∷ []) s
      upper ih (inl w) = at_first i c q s h f b x w.0 w.1
      upper ih (inr w) = along w.0 (ih w.1)

      go : (o : Bool) → eq_ends d h ≡ o → (At (take_n m e k x (d ∷ p)) q (f ∷ []) s → At x q (f ∷ []) s) → At (node i h c b x) q (f ∷ []) s
      go true z ih = same (at_split (rw (take_n-down m e k i h c b x d p z) at a))
      go false z ih = upper ih (at_split (rw (take_n-along m e k i h c b x d p z) at a))

  pub at-below-back : (p : List Ends) (t : Nodes) → (p ≡ [] → ⊥) → At (take_n m e k t p) q (f ∷ []) s → At t q (f ∷ []) s
  at-below-back [] t ne a = absurd (ne refl)
  at-below-back (d ∷ p) t ne a = at-take-back d p t a

pub at-grow-back : (e : Ends) (q s : ℕ) (f : Ends) (gs : List Group) (t : Nodes) → Apart gs → At (grow_n e gs t) q (f ∷ []) s → At t q (f ∷ []) s
unfolding grow_n Apart
at-grow-back e q s f [] t h a = a
at-grow-back e q s f (g ∷ gs) t h a =
    at-below-back g.mult e (suc (size t)) q s f g.path t h.0 (at-grow-back e q s f gs (take_n g.mult e (suc (size t)) t g.path) h.2 a)
