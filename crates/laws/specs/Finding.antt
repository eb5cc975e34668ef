-- Laws of the functions of Lists that look for an element: one step at a time, at the end of a list, and before or after a map.
use Rattle.std.specs.Prelude.{◌≡◌, refl, ◌⊎◌, Bool, true, false, cond, List, [], ◌∷◌, ◌++◌, map, suc, ◌≤◌, length}
use Rattle.std.proofs.Common.{sym, ap, ◌∙◌, inl, inr, arith}
use Rattle.std.proofs.Math.Option.{Option, none, some}
use Rattle.laws.specs.Lists.{drop_first, position, find_last}
use Rattle.laws.specs.ListLaws.{All, nil, cons}
use Rattle.laws.specs.BoolLaws.{Bool-cases}

module _ {A : Type 0} (p : A → Bool) where
  pub drop-hit : (x : A) (xs : List A) → p x ≡ true → drop_first p (x ∷ xs) ≡ xs
  drop-hit x xs h = rw (h, drop_first)

  pub drop_past : (x : A) (xs : List A) → p x ≡ false → drop_first p (x ∷ xs) ≡ x ∷ drop_first p xs
  drop_past x xs h = rw (h, drop_first)

  pub position-hit : (x : A) (xs : List A) → p x ≡ true → position p (x ∷ xs) ≡ 0
  position-hit x xs h = rw (h, position)

  pub position_past : (x : A) (xs : List A) → p x ≡ false → position p (x ∷ xs) ≡ suc (position p xs)
  position_past x xs h = rw (h, position)

  pub position-le : (xs : List A) → position p xs ≤ length xs
  position-le [] = omega arith
  position-le (x ∷ xs) = go (Bool-cases (p x)) (position-le xs)
    where
      go : (p x ≡ true) ⊎ (p x ≡ false) → position p xs ≤ length xs → position p (x ∷ xs) ≤ suc (length xs)
      go (inl h) ih = omega (arith, position-hit x xs h)
      go (inr h) ih = omega (arith, position_past x xs h)

  -- the last that passes: by the rest, or else the first element
  pub last-later : (x y : A) (xs : List A) → find_last p xs ≡ some y → find_last p (x ∷ xs) ≡ some y
  last-later x y xs h = rw (h, find_last)

  pub last-first : (x : A) (xs : List A) → find_last p xs ≡ none → find_last p (x ∷ xs) ≡ cond (p x) (some x) none
  last-first x xs h = rw (h, find_last)

  -- one more element at the end
  pub last-hit : (xs : List A) (x : A) → p x ≡ true → find_last p (xs ++ x ∷ []) ≡ some x
  last-hit [] x h = last-first x [] refl ∙ (rw h)
  last-hit (y ∷ xs) x h = last-later y x (xs ++ x ∷ []) (last-hit xs x h)

  pub last-miss : (xs : List A) (x : A) → p x ≡ false → find_last p (xs ++ x ∷ []) ≡ find_last p xs
  last-miss [] x h = last-first x [] refl ∙ (rw h)
  last-miss (y ∷ xs) x h = go (find_last p xs) refl (last-miss xs x h)
    where
      go : (o : Option A) → find_last p xs ≡ o → find_last p (xs ++ x ∷ []) ≡ find_last p xs → find_last p (y ∷ (xs ++ x ∷ [])) ≡ find_last p (y ∷ xs)
      go none e ih = last-first y (xs ++ x ∷ []) (ih ∙ e) ∙ sym (last-first y xs e)
      go (some z) e ih = last-later y z (xs ++ x ∷ []) (ih ∙ e) ∙ sym (last-later y z xs e)

module _ {A B : Type 0} where
  abbrev pub on_some : (A → B) → Option A → Option B
  on_some g none = none
  on_some g (some x) = some (g x)

  module _ (p : A → Bool) (q : B → Bool) (g : A → B) where
    -- where the tests agree on the elements
    pub last-map : (xs : List A) → All (λ x. q (g x) ≡ p x) xs → find_last q (map g xs) ≡ on_some g (find_last p xs)
    last-map [] nil = refl
    last-map (x ∷ xs) (cons h a) = go (find_last p xs) refl (last-map xs a)
      where
        here : (b : Bool) → p x ≡ b → cond (q (g x)) (some (g x)) none ≡ on_some g (cond (p x) (some x) none)
        here true e = rw (h, e)
        here false e = rw (h, e)

        go : (o : Option A) → find_last p xs ≡ o → find_last q (map g xs) ≡ on_some g (find_last p xs) → find_last q (g x ∷ map g xs) ≡ on_some g (find_last p (x ∷ xs))
        go none e ih = last-first q (g x) (map g xs) (ih ∙ (rw e)) ∙ here (p x) refl ∙ ap (λ o. on_some g o) (sym (last-first p x xs e))
        go (some y) e ih = last-later q (g x) (g y) (map g xs) (ih ∙ (rw e)) ∙ ap (λ o. on_some g o) (sym (last-later p x y xs e))

    pub position-map : (xs : List A) → All (λ x. q (g x) ≡ p x) xs → position q (map g xs) ≡ position p xs
    position-map [] nil = refl
    position-map (x ∷ xs) (cons h a) = go (Bool-cases (p x)) (position-map xs a)
      where
        go : (p x ≡ true) ⊎ (p x ≡ false) → position q (map g xs) ≡ position p xs → position q (g x ∷ map g xs) ≡ position p (x ∷ xs)
        go (inl e) ih = position-hit q (g x) (map g xs) (h ∙ e) ∙ sym (position-hit p x xs e)
        go (inr e) ih = position_past q (g x) (map g xs) (h ∙ e) ∙ ap suc ih ∙ sym (position_past p x xs e)

    pub drop-map : (xs : List A) → All (λ x. q (g x) ≡ p x) xs → drop_first q (map g xs) ≡ map g (drop_first p xs)
    drop-map [] nil = refl
    drop-map (x ∷ xs) (cons h a) = go (Bool-cases (p x)) (drop-map xs a)
      where
        go : (p x ≡ true) ⊎ (p x ≡ false) → drop_first q (map g xs) ≡ map g (drop_first p xs) → drop_first q (g x ∷ map g xs) ≡ map g (drop_first p (x ∷ xs))
        go (inl e) ih = drop-hit q (g x) (map g xs) (h ∙ e) ∙ ap (λ (l : List A). map g l) (sym (drop-hit p x xs e))
        go (inr e) ih =
            drop_past q (g x) (map g xs) (h ∙ e) ∙ ap (λ (l : List B). g x ∷ l) ih ∙ ap (λ (l : List A). map g l) (sym (drop_past p x xs e))
