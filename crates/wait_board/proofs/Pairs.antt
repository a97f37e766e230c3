-- Waiters of whom each two are apart.
use Rattle.std.proofs.Common.{suc, Bool, true, false, cond, List, [], ◌∷◌, map, All, get_or, arith}
use Rattle.std.specs.List.{AllPairs}
use Rattle.std.proofs.lemmas.List.Elements.{All-map}
use Rattle.std.proofs.lemmas.List.Kept.{AllPairs-cons}
use Rattle.wait_queue.specs.declared.waiter.Waiter.{Waiter}
use Rattle.wait_queue.specs.Waiting.{without_first}
use Rattle.wait_queue.proofs.Looks.{without-all}

module _ (p : Waiter → Bool) where
  pub pairs-head : (R : Waiter → Waiter → Type 0) (v : Waiter) (ws : List Waiter) → AllPairs R (v ∷ ws) → All (R v) ws
  pairs-head R v ws pairs = λ k d within. pairs 0 (suc k) d (omega arith) (omega arith)

  pub pairs-tail : (R : Waiter → Waiter → Type 0) (v : Waiter) (ws : List Waiter) → AllPairs R (v ∷ ws) → AllPairs R ws
  pairs-tail R v ws pairs = λ i j d before within. pairs (suc i) (suc j) d (omega arith) (omega arith)

  pub pairs-without : (R : Waiter → Waiter → Type 0) (ws : List Waiter) → AllPairs R ws → AllPairs R (without_first p ws)
  pairs-without R [] pairs = pairs
  pairs-without R (v ∷ ws) pairs =
      elim (p v) as (λ b. AllPairs R (cond b ws (v ∷ without_first p ws))) [
        | true ↦ pairs-tail R v ws pairs
        | false ↦ AllPairs-cons R v (without_first p ws) (without-all p (R v) ws (pairs-head R v ws pairs))
            (pairs-without R ws (pairs-tail R v ws pairs))
      ]

-- a map that keeps a relation of each two keeps it of all pairs
pub pairs-map : {X : Type 0} (R : Waiter → Waiter → Type 0) (S : X → X → Type 0) (f : Waiter → X) → ((a b : Waiter) → R a b → S (f a) (f b))
    → (ws : List Waiter) → AllPairs R ws → AllPairs S (map f ws)
pairs-map R S f keep [] pairs = λ i j d before within. absurd (omega arith)
pairs-map R S f keep (v ∷ ws) pairs =
    AllPairs-cons S (f v) (map f ws)
    (All-map (S (f v)) f ws (λ k d within. keep v (get_or ws k d) (pairs-head (λ _. true) R v ws pairs k d within)))
    (pairs-map R S f keep ws (pairs-tail (λ _. true) R v ws pairs))
