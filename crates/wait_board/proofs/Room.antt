-- There are fewer waiters than sessions while a session doesn't wait.
use Rattle.std.proofs.Common.{◌≡◌, ◌≢◌, ℕ, ◌+◌, ◌<◌, ◌==◌, ◌||◌, true, false, eqb, None, List, [], ◌∷◌, length, map}
use Rattle.std.proofs.Common.{refl, sym, ◌∙◌, subst, ⊎_elim, All, get_or, arith}
use Rattle.std.specs.List.{AllPairs, list_any}
use Rattle.std.proofs.lemmas.Bool.{eqb-false}
use Rattle.std.proofs.lemmas.Bool.Decides.{Decides-eqb, eqb_tells}
use Rattle.std.proofs.lemmas.List.{length-map}
use Rattle.std.proofs.lemmas.List.Elements.{All-head, All-tail, All-cons, All-map}
use Rattle.std.proofs.lemmas.List.Kept.{AllPairs-cons}
use Rattle.std.proofs.lemmas.Map.Made.{IsDistinct-from_AllPairs}
use Rattle.std.proofs.lemmas.Map.Steps.{length-le_from_distinct_below}
use Rattle.cell_base.specs.Fits.{IsWithin}
use Rattle.wait_queue.specs.declared.waiter.Waiter.{Waiter}
use Rattle.wait_queue.specs.Waiting.{waiter_of}
use Rattle.wait_board.specs.BoardState.{IsOther, AreApart}
use Rattle.lists.proofs.Elements.{All-find_none}
use Rattle.wait_board.proofs.Pairs.{pairs-map}

same : (a b : ℕ) → eqb a b ≡ true → a ≡ b
same a b is = ⊎_elim (λ (yes : (eqb a b ≡ true) × (a ≡ b)). yes.1)
    (λ (no : (eqb a b ≡ false) × (a ≢ b)). absurd (let h : true ≡ false = sym is ∙ no.0 in cc)) (eqb_tells a b)

-- what is found is one of those that are below n
below : (n : ℕ) (xs : List ℕ) → All (λ x. x < n) xs → (q : ℕ) → list_any (eqb q) xs ≡ true → q < n
below n [] all q = λ any. absurd (let h : false ≡ true = any in cc)
below n (x ∷ xs) all q =
    elim (eqb q x) as (λ b. eqb q x ≡ b → (b || list_any (eqb q) xs) ≡ true → q < n) [
      | true ↦ λ is any. subst (λ y. y < n) (sym (same q x is)) (All-head (λ x. x < n) x xs all)
      | false ↦ λ is any. below n xs (All-tail (λ x. x < n) x xs all) q any
    ] refl

-- a session that doesn't wait is no waiter's
pub others_wait : (ws : List Waiter) (session : ℕ) → waiter_of ws session ≡ None → All (λ (w : Waiter). w.session ≢ session) ws
others_wait ws session none k d within =
    eqb-false (get_or ws k d).session session (All-find_none (λ (w : Waiter). w.session == session) ws none k d within)

-- 0, the session and those of the waiters are different numbers, at most the number of sessions
pub fewer : (ws : List Waiter) (sessions session : ℕ) → All (λ (w : Waiter). IsWithin 1 sessions w.session) ws → AreApart ws
    → IsWithin 1 sessions session → waiter_of ws session ≡ None → length ws < sessions
fewer ws sessions session all apart within none =
    let number : Waiter → ℕ = λ w. w.session in
    let numbers = map number ws in
    let apart_all : AllPairs (λ (a b : ℕ). a ≢ b) (0 ∷ session ∷ numbers) =
    AllPairs-cons (λ (a b : ℕ). a ≢ b) 0 (session ∷ numbers)
    (All-cons (λ (b : ℕ). 0 ≢ b) session numbers (λ e. absurd (omega (arith, e, within.0)))
    (All-map (λ (b : ℕ). 0 ≢ b) number ws (λ k d inside e. absurd (let h = (all k d inside).0 in omega (arith, e, h)))))
    (AllPairs-cons (λ (a b : ℕ). a ≢ b) session numbers
    (All-map (λ (b : ℕ). session ≢ b) number ws (λ k d inside e. others_wait ws session none k d inside (sym e)))
    (pairs-map IsOther (λ (a b : ℕ). a ≢ b) number (λ a b other. other) ws apart)) in
    let below_all : All (λ (x : ℕ). x < sessions + 1) (0 ∷ session ∷ numbers) =
    All-cons (λ (x : ℕ). x < sessions + 1) 0 (session ∷ numbers) (omega arith)
    (All-cons (λ (x : ℕ). x < sessions + 1) session numbers (let h = within.1 in omega (arith, h))
    (All-map (λ (x : ℕ). x < sessions + 1) number ws (λ k d inside. let h = (all k d inside).1 in omega (arith, h)))) in
    let many = length-le_from_distinct_below (0 ∷ session ∷ numbers) (sessions + 1)
    (IsDistinct-from_AllPairs Decides-eqb (0 ∷ session ∷ numbers) apart_all) (below (sessions + 1) (0 ∷ session ∷ numbers) below_all) in
    omega (arith, many, length-map ws number)
