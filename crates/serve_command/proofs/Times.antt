-- How many of a list pass a test.
use Rattle.std.proofs.Common.{◌≡◌, ℕ, ◌+◌, Bool, true, false, cond, Some, None, List, [], ◌∷◌, ◌++◌, length, refl, ap, subst, ◌∙◌, arith, find}
use Rattle.std.specs.List.{filter}
use Rattle.std.proofs.lemmas.List.{length-append}
use Rattle.std.proofs.lemmas.List.Elements.{filter-append}
use Rattle.wait_queue.specs.declared.waiter.Waiter.{Waiter}
use Rattle.wait_queue.specs.Waiting.{without_first}

-- how many pass
abbrev pub times : {X : Type 0} → (X → Bool) → List X → ℕ
times p xs = length (filter p xs)

pub times-append : {X : Type 0} (p : X → Bool) (xs ys : List X) → times p (xs ++ ys) ≡ times p xs + times p ys
times-append p xs ys = ap length (filter-append p xs ys) ∙ length-append (filter p xs) (filter p ys)

pub times-cons : {X : Type 0} (p : X → Bool) (x : X) (xs : List X) → times p (x ∷ xs) ≡ cond (p x) 1 0 + times p xs
times-cons p x xs =
    elim (p x) as (λ b. length (cond b (x ∷ filter p xs) (filter p xs)) ≡ cond b 1 0 + times p xs) [
      | true ↦ omega arith
      | false ↦ omega arith
    ]

pub times-push : {X : Type 0} (p : X → Bool) (xs : List X) (x : X) → times p (xs ++ x ∷ []) ≡ times p xs + cond (p x) 1 0
times-push p xs x = omega (arith, times-append p xs (x ∷ []), times-cons p x [])

-- where none is found none passes
pub times-none : {X : Type 0} (p : X → Bool) (xs : List X) → find p xs ≡ None → times p xs ≡ 0
times-none p [] none = refl
times-none p (x ∷ xs) none =
    elim (p x) as (λ b. cond b (Some x) (find p xs) ≡ None → length (cond b (x ∷ filter p xs) (filter p xs)) ≡ 0) [
      | true ↦ λ some. absurd (let h : Some x ≡ None = some in cc)
      | false ↦ λ rest. times-none p xs rest
    ] none

-- what is found passes
pub found-passes : {X : Type 0} (p : X → Bool) (xs : List X) (x : X) → find p xs ≡ Some x → p x ≡ true
found-passes p [] x none = absurd (let h : None ≡ Some x = none in cc)
found-passes p (y ∷ ys) x found =
    elim (p y) as (λ b. p y ≡ b → cond b (Some y) (find p ys) ≡ Some x → p x ≡ true) [
      | true ↦ λ is some. let same : y ≡ x = cc in subst (λ z. p z ≡ true) same is
      | false ↦ λ is rest. found-passes p ys x rest
    ] refl found

-- one leaves, and the others stay
pub one-leaves : (p test : Waiter → Bool) (ws : List Waiter) (w : Waiter) → find test ws ≡ Some w
    → times p ws ≡ cond (p w) 1 0 + times p (without_first test ws)
one-leaves p test [] w none = absurd (let h : None ≡ Some w = none in cc)
one-leaves p test (v ∷ ws) w found =
    elim (test v) as (λ b. cond b (Some v) (find test ws) ≡ Some w
    → times p (v ∷ ws) ≡ cond (p w) 1 0 + times p (cond b ws (v ∷ without_first test ws))) [
      | true ↦ λ some. let same : v ≡ w = cc in subst (λ (x : Waiter). times p (v ∷ ws) ≡ cond (p x) 1 0 + times p ws) same (times-cons p v ws)
      | false ↦ λ rest. omega (
        arith,
        one-leaves p test ws w rest,
        times-cons p v ws,
        times-cons p v (without_first test ws),
      )
    ] found
