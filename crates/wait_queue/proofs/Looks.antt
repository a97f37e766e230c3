-- The first waiter that is ready, found by looking at each in turn.
use Rattle.std.proofs.Common.{◌≡◌, ℕ, zero, suc, ◌*◌, ◌^◌, ◌%◌, bit_or, ◌<◌, Bool, true, false, cond, nat_lt, Some, None, Option, List, [], ◌∷◌, length, get_or, set, refl, sym, subst, ap, ◌∙◌, arith, ⊎_elim, All, find, ◌++◌, get_or-set_same, get_or-set_other}
use Rattle.std.specs.Prelude.{position}
use Rattle.std.specs.List.{remove, position_or_len}
use Rattle.std.proofs.lemmas.Option.{slice_get_past}
use Rattle.std.proofs.lemmas.List.Folds.{find_at}
use Rattle.lists.proofs.Elements.{All-find_none}
use Rattle.std.proofs.lemmas.Bool.{cases_eq, ltb-false}
use Rattle.std.proofs.lemmas.List.Elements.{All-cons, All-head, All-tail}
use Rattle.cell_base.specs.declared.cells.ResId.{ResId}
use Rattle.cell_base.specs.declared.requests.Refusal.TheVariants.{JobLoaded}
use Rattle.cell_base.specs.declared.requests.Request.TheVariants.{Load}
use Rattle.wait_queue.specs.declared.waiter.Waiter.{Waiter}
use Rattle.wait_queue.specs.Waiting.{without_first}
use Rattle.wait_queue.specs.Watching.{IsCovered}
use Rattle.wait_queue.proofs.Masks.{kept_bit}

-- what an index gives where it is outside
abbrev pub nobody : Waiter
nobody = record { session = 0; request = Load (record { 0 = 0 }) (record { 0 = 0 }); refusal = JobLoaded }

module _ (p : Waiter → Bool) where
  -- the first that passes is found
  pub first-found : (ws : List Waiter) (i : ℕ) (d : Waiter) → i < length ws → p (get_or ws i d) ≡ true
      → ((k : ℕ) → k < i → p (get_or ws k d) ≡ false) → find p ws ≡ Some (get_or ws i d)
  first-found [] i d within passes before = absurd (omega arith)
  first-found (w ∷ ws) zero d within passes before = rw passes refl
  first-found (w ∷ ws) (suc i) d within passes before =
      rw (before 0 (omega arith)) (first-found ws i d (omega arith) passes (λ k below. before (suc k) (omega arith)))

  -- and taken out
  pub first-removed : (ws : List Waiter) (i : ℕ) (d : Waiter) → i < length ws → p (get_or ws i d) ≡ true
      → ((k : ℕ) → k < i → p (get_or ws k d) ≡ false) → remove ws i ≡ without_first p ws
  first-removed [] i d within passes before = absurd (omega arith)
  first-removed (w ∷ ws) zero d within passes before = rw passes refl
  first-removed (w ∷ ws) (suc i) d within passes before =
      rw (before 0 (omega arith))
      (ap (λ zs. w ∷ zs) (first-removed ws i d (omega arith) passes (λ k below. before (suc k) (omega arith))))

  -- where none passes nobody leaves
  pub none-removed : (ws : List Waiter) → All (λ w. p w ≡ false) ws → without_first p ws ≡ ws
  none-removed [] fails = refl
  none-removed (w ∷ ws) fails =
      rw (fails 0 w (omega arith)) (ap (λ zs. w ∷ zs) (none-removed ws (λ k d within. fails (suc k) d (omega arith))))

module _ (p : Waiter → Bool) where
  -- where there is no index there is no such waiter
  pub unplaced-find : (ws : List Waiter) → position p ws ≡ None → find p ws ≡ None
  unplaced-find ws e =
      elim (nat_lt (position_or_len p ws) (length ws)) as (λ b. nat_lt (position_or_len p ws) (length ws) ≡ b
      → cond b (Some (position_or_len p ws)) None ≡ None → find p ws ≡ None) [
        | true ↦ λ is some. absurd (let h : Some (position_or_len p ws) ≡ None = some in cc)
        | false ↦ λ is none. find_at p ws ∙ slice_get_past ws (position_or_len p ws) (ltb-false (position_or_len p ws) (length ws) is)
      ] refl e

  pub unplaced-rest : (ws : List Waiter) → position p ws ≡ None → without_first p ws ≡ ws
  unplaced-rest ws e = none-removed p ws (All-find_none p ws (unplaced-find ws e))

-- ---- pairs of waiters and what they watch

module _ (R : Waiter → Option ResId → Type 0) where
  -- the relation holds at each place
  abbrev pub Each : List Waiter → List (Option ResId) → Type 0
  Each ws xs = (k : ℕ) (d : Waiter) (e : Option ResId) → k < length ws → R (get_or ws k d) (get_or xs k e)

  pub each-removed : (ws : List Waiter) (xs : List (Option ResId)) (i : ℕ) → length xs ≡ length ws → Each ws xs
      → Each (remove ws i) (remove xs i)
  each-removed [] xs zero pairs each k d e within = absurd (omega arith)
  each-removed [] xs (suc i) pairs each k d e within = absurd (omega arith)
  each-removed (w ∷ ws) [] i pairs each k d e within = absurd (omega (arith, pairs))
  each-removed (w ∷ ws) (x ∷ xs) zero pairs each k d e within = each (suc k) d e (omega arith)
  each-removed (w ∷ ws) (x ∷ xs) (suc i) pairs each zero d e within = each 0 d e (omega arith)
  each-removed (w ∷ ws) (x ∷ xs) (suc i) pairs each (suc k) d e within =
      each-removed ws xs i (omega (arith, pairs)) (λ k d e h. each (suc k) d e (omega arith)) k d e (omega arith)

  pub each-pushed : (ws : List Waiter) (xs : List (Option ResId)) (w : Waiter) (x : Option ResId) → length xs ≡ length ws → Each ws xs
      → R w x → Each (ws ++ w ∷ []) (xs ++ x ∷ [])
  each-pushed [] [] w x pairs each new zero d e within = new
  each-pushed [] [] w x pairs each new (suc k) d e within = absurd (omega arith)
  each-pushed [] (y ∷ xs) w x pairs each new k d e within = absurd (omega (arith, pairs))
  each-pushed (v ∷ ws) [] w x pairs each new k d e within = absurd (omega (arith, pairs))
  each-pushed (v ∷ ws) (y ∷ xs) w x pairs each new zero d e within = each 0 d e (omega arith)
  each-pushed (v ∷ ws) (y ∷ xs) w x pairs each new (suc k) d e within =
      each-pushed ws xs w x (omega (arith, pairs)) (λ k d e h. each (suc k) d e (omega arith)) new k d e (omega arith)

pub pairs-removed : (ws : List Waiter) (xs : List (Option ResId)) (i : ℕ) → length xs ≡ length ws
    → length (remove xs i) ≡ length (remove ws i)
pairs-removed [] [] zero pairs = refl
pairs-removed [] [] (suc i) pairs = refl
pairs-removed [] (x ∷ xs) i pairs = absurd (omega (arith, pairs))
pairs-removed (w ∷ ws) [] i pairs = absurd (omega (arith, pairs))
pairs-removed (w ∷ ws) (x ∷ xs) zero pairs = omega (arith, pairs)
pairs-removed (w ∷ ws) (x ∷ xs) (suc i) pairs = ap suc (pairs-removed ws xs i (omega (arith, pairs)))

pub all-removed : {X : Type 0} (P : X → Type 0) (xs : List X) (i : ℕ) → All P xs → All P (remove xs i)
all-removed P [] zero all = all
all-removed P [] (suc i) all = all
all-removed P (x ∷ xs) zero all = All-tail P x xs all
all-removed P (x ∷ xs) (suc i) all = All-cons P x (remove xs i) (All-head P x xs all) (all-removed P xs i (All-tail P x xs all))

-- what stands at a place, where one place is set
pub set-one : {X : Type 0} (P : ℕ → X → Type 0) (xs ys : List X) (i : ℕ) (x d : X) (k : ℕ) → ys ≡ set xs i x → i < length xs
    → ((k ≡ i → ⊥) → P k (get_or xs k d)) → P i x → P k (get_or ys k d)
set-one P xs ys i x d k is here old new =
    subst (λ zs. P k (get_or zs k d)) (sym is)
    (⊎_elim (λ (e : k ≡ i). subst (λ q. P q (get_or (set xs i x) q d)) (sym e) (subst (P i) (sym (get_or-set_same xs i x d here)) new))
    (λ (away : k ≡ i → ⊥). subst (P k) (sym (get_or-set_other xs i k x d away)) (old away))
    (cases_eq k i))

-- a mask with one bit more
pub covered-more : (mask k : ℕ) (w : Option ResId) → IsCovered mask w → IsCovered (bit_or mask (1 * 2 ^ k % 2 ^ 64)) w
covered-more mask k None cover = tt
covered-more mask k (Some r) cover = kept_bit mask (1 * 2 ^ k % 2 ^ 64) r.0 cover

-- the others stay as they are
pub without-all : (p : Waiter → Bool) (P : Waiter → Type 0) (ws : List Waiter) → All P ws → All P (without_first p ws)
without-all p P [] all = all
without-all p P (w ∷ ws) all =
    elim (p w) as (λ b. All P (cond b ws (w ∷ without_first p ws))) [
      | true ↦ All-tail P w ws all
      | false ↦ All-cons P w (without_first p ws) (All-head P w ws all) (without-all p P ws (All-tail P w ws all))
    ]
