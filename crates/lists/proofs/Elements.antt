-- Lists: what stands in them, what a test finds there, and what keeps its place.
use Rattle.std.proofs.Common.{◌≡◌, ℕ, zero, suc, ◌<◌, Bool, true, false, cond, ◌||◌, ◌⊎◌, List, [], ◌∷◌}
use Rattle.std.proofs.Common.{length, map, Contains, All, Option, Some, None, slice_get, get_or, find, filter}
use Rattle.std.proofs.Common.{flat_map, ap, ◌∙◌, ap₂, subst, refl, sym, inl, inr, ⊎_elim, arith}
use Rattle.std.specs.List.{list_any, list_all}
use Rattle.std.proofs.lemmas.List.{length-map, get_or-map}
use Rattle.std.proofs.lemmas.List.Elements.{All-contains, All-nil, All-append, All-head, All-tail, Contains-get_or}
use Rattle.std.proofs.lemmas.List.Sums.{list_all-from_AllPass, AllPass-from_list_all}
use Rattle.std.proofs.lemmas.Option.{none-some, same_Some, slice_get_within, get_or_from_slice_get}
use Rattle.std.proofs.lemmas.List.Folds.{Any-from_list_any, list_any-from_Any, find_at}

-- two tests of which each passes where the other does
pub same_from_both : (a b : Bool) → (a ≡ true → b ≡ true) → (b ≡ true → a ≡ true) → a ≡ b
same_from_both true b there back = sym (there refl)
same_from_both false true there back = back refl
same_from_both false false there back = refl

-- what holds of each element of the lists that are joined
pub All-flat_map : {X Y : Type 0} (P : Y → Type 0) (f : X → List Y) (xs : List X) → ((x : X) → All P (f x)) → All P (flat_map f xs)
All-flat_map P f [] each = All-nil P
All-flat_map P f (x ∷ xs) each = All-append P (f x) (flat_map f xs) (each x) (All-flat_map P f xs each)

pub list_any-map : {X Y : Type 0} (p : Y → Bool) (f : X → Y) (xs : List X) → list_any p (map f xs) ≡ list_any (λ x. p (f x)) xs
list_any-map p f [] = refl
list_any-map p f (x ∷ xs) = ap (λ rest. p (f x) || rest) (list_any-map p f xs)

pub Contains-map : {X Y : Type 0} (f : X → Y) (xs : List X) (x : X) → Contains xs x → Contains (map f xs) (f x)
Contains-map f xs x c = (c.0, rw length-map c.1, get_or-map f xs c.0 x (f x) c.1 ∙ ap f c.2)

module _ {X : Type 0} where
  pub Contains-head : (x : X) (xs : List X) → Contains (x ∷ xs) x
  Contains-head x xs = (0, omega arith, refl)

  pub Contains-tail : (x y : X) (xs : List X) → Contains xs y → Contains (x ∷ xs) y
  Contains-tail x y xs c = (suc c.0, omega (arith, c.1), c.2)

  pub Contains-none : (x : X) → Contains [] x → ⊥
  Contains-none x c = omega (arith, c.1)

  pub Contains-cases : (x y : X) (xs : List X) → Contains (x ∷ xs) y → (x ≡ y) ⊎ Contains xs y
  Contains-cases x y xs c = at c.0 c.1 c.2
    where
      at : (k : ℕ) → k < length (x ∷ xs) → get_or (x ∷ xs) k y ≡ y → (x ≡ y) ⊎ Contains xs y
      at zero h e = inl e
      at (suc k) h e = inr (k, omega arith, e)

  pub Contains-slice_get : (xs : List X) (k : ℕ) (x : X) → slice_get xs k ≡ Some x → Contains xs x
  Contains-slice_get xs k x e = (k, slice_get_within xs k x e, get_or_from_slice_get xs k x x e)

  pub none_past : (xs : List X) (k : ℕ) → slice_get xs k ≡ None → k < length xs → ⊥
  none_past [] k e h = omega (arith, h)
  none_past (x ∷ xs) zero e h = none-some x (sym e)
  none_past (x ∷ xs) (suc k) e h = none_past xs k e (omega arith)

  pub All-slice_get : (P : X → Type 0) (xs : List X) (k : ℕ) (x : X) → All P xs → slice_get xs k ≡ Some x → P x
  All-slice_get P xs k x all e = All-contains P xs x all (Contains-slice_get xs k x e)

  pub All-from_Contains : (P : X → Type 0) (xs : List X) → ((x : X) → Contains xs x → P x) → All P xs
  All-from_Contains P xs each = λ k d h. each (get_or xs k d) (Contains-get_or xs k d h)

  -- some element passes
  pub list_any-found : (p : X → Bool) (xs : List X) → list_any p xs ≡ true → (x : X) × Contains xs x × (p x ≡ true)
  list_any-found p xs e = let any = Any-from_list_any p xs e in (any.1, (any.0, any.2, any.3), any.4)

  pub list_any-Contains : (p : X → Bool) (xs : List X) (x : X) → Contains xs x → p x ≡ true → list_any p xs ≡ true
  list_any-Contains p xs x c e = list_any-from_Any p xs (c.0, x, c.1, c.2, e)

  -- two tests that agree at each element find the same
  pub list_any_agree : (p q : X → Bool) (xs : List X) → ((x : X) → Contains xs x → p x ≡ q x) → list_any p xs ≡ list_any q xs
  list_any_agree p q [] same = refl
  list_any_agree p q (x ∷ xs) same =
      ap₂ ◌||◌ (same x (Contains-head x xs)) (list_any_agree p q xs (λ y c. same y (Contains-tail x y xs c)))

  -- the first that passes
  pub find-Contains : (p : X → Bool) (xs : List X) (x : X) → find p xs ≡ Some x → Contains xs x
  find-Contains p xs x e = Contains-slice_get xs _ x (rw find_at at e)

  pub find_passes : (p : X → Bool) (xs : List X) (x : X) → find p xs ≡ Some x → p x ≡ true
  find_passes p [] x e = absurd (none-some x e)
  find_passes p (y ∷ ys) x e = at (p y) refl e (find_passes p ys x)
    where
      at : (b : Bool) → p y ≡ b → cond b (Some y) (find p ys) ≡ Some x → (find p ys ≡ Some x → p x ≡ true) → p x ≡ true
      at true passes e later = subst (λ z. p z ≡ true) (same_Some y x e) passes
      at false fails e later = later e

  -- what holds of each element holds of the one that is found
  pub All-found : (P : X → Type 0) (p : X → Bool) (xs : List X) (x : X) → All P xs → find p xs ≡ Some x → P x
  All-found P p xs x all e = All-contains P xs x all (find-Contains p xs x e)

  -- two tests that agree at each element find the same one
  pub find_agree : (p q : X → Bool) (xs : List X) → All (λ x. p x ≡ q x) xs → find p xs ≡ find q xs
  find_agree p q [] same = refl
  find_agree p q (x ∷ xs) same =
      ap₂ (λ (b : Bool) (found : Option X). cond b (Some x) found) (All-head (λ y. p y ≡ q y) x xs same)
      (find_agree p q xs (All-tail (λ y. p y ≡ q y) x xs same))

  pub find_some : (p : X → Bool) (xs : List X) (x : X) → Contains xs x → p x ≡ true → (y : X) × (find p xs ≡ Some y)
  find_some p [] x c e = absurd (Contains-none x c)
  find_some p (y ∷ ys) x c e = at (p y) refl (Contains-cases y x ys c) (λ h. find_some p ys x h e)
    where
      at : (b : Bool) → p y ≡ b → (y ≡ x) ⊎ Contains ys x → (Contains ys x → (z : X) × (find p ys ≡ Some z))
          → (z : X) × (cond b (Some y) (find p ys) ≡ Some z)
      at true passes cases later = (y, refl)
      at false fails cases later = ⊎_elim (λ same. absurd (grind (arith, fails, same, e))) later cases

  -- nothing is found where no element passes, and only there
  pub find_none : (p : X → Bool) (xs : List X) → All (λ x. p x ≡ false) xs → find p xs ≡ None
  find_none p [] fails = refl
  find_none p (x ∷ xs) fails =
      rw (All-head (λ y. p y ≡ false) x xs fails) (find_none p xs (All-tail (λ y. p y ≡ false) x xs fails))

  pub All-find_none : (p : X → Bool) (xs : List X) → find p xs ≡ None → All (λ x. p x ≡ false) xs
  All-find_none p xs e = All-from_Contains (λ x. p x ≡ false) xs fails
    where
      fails : (x : X) → Contains xs x → p x ≡ false
      fails x c = at (p x) refl
        where
          at : (b : Bool) → p x ≡ b → p x ≡ false
          at true passes = let some = find_some p xs x c passes in absurd (grind (arith, some.1, e))
          at false fails = fails

  -- each element passes
  pub list_all-from_Contains : (p : X → Bool) (xs : List X) → ((x : X) → Contains xs x → p x ≡ true) → list_all p xs ≡ true
  list_all-from_Contains p xs each = list_all-from_AllPass p xs (All-from_Contains (λ x. p x ≡ true) xs each)

  pub list_all-Contains : (p : X → Bool) (xs : List X) (x : X) → list_all p xs ≡ true → Contains xs x → p x ≡ true
  list_all-Contains p xs x e c = All-contains (λ x. p x ≡ true) xs x (AllPass-from_list_all p xs e) c

  -- a filter that each element passes
  pub filter_all : (p : X → Bool) (xs : List X) → All (λ x. p x ≡ true) xs → filter p xs ≡ xs
  filter_all p [] all = refl
  filter_all p (x ∷ xs) all = rw (All-head (λ x. p x ≡ true) x xs all, filter_all p xs (All-tail (λ x. p x ≡ true) x xs all))

  pub filter_none : (p : X → Bool) (xs : List X) → ((x : X) → Contains xs x → p x ≡ false) → filter p xs ≡ []
  filter_none p [] fails = refl
  filter_none p (x ∷ xs) fails = rw (fails x (Contains-head x xs)) (filter_none p xs (λ y c. fails y (Contains-tail x y xs c)))

  pub first_some : (xs : List X) → (length xs ≡ 0 → ⊥) → (x : X) × (slice_get xs 0 ≡ Some x)
  first_some [] more = absurd (more refl)
  first_some (x ∷ xs) more = (x, refl)
