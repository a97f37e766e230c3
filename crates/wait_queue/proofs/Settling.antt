-- A scan leaves nobody who is ready.
use Rattle.std.proofs.Common.{◌≡◌, ℕ, zero, suc, ◌≤◌, false, Some, None, length, refl, arith, All, find}
use Rattle.std.specs.Option.{option_map_or}
use Rattle.std.proofs.lemmas.Bool.{not-false}
use Rattle.lists.proofs.Elements.{All-find_none}
use Rattle.cell_base.specs.declared.cells.Cell.{Cell}
use Rattle.wait_queue.specs.declared.waiter.Waiter.{Waiter}
use Rattle.wait_queue.specs.Laws.{ServedLaw}
use Rattle.wait_queue.specs.Waiting.{Waiting, after_wait, is_ready, served_within}
use Rattle.wait_queue.proofs.Scanning.{length-without}

module _ (cell : Cell) where
  -- nobody is ready
  abbrev IsQuiet : Waiting → Type 0
  IsQuiet on = All (λ (w : Waiter). is_ready cell on.parts w ≡ false) on.waiters

  nobody : (on : Waiting) → length on.waiters ≤ 0 → IsQuiet on
  nobody on few k d within = absurd (omega (arith, few, within))

  -- each step takes a waiter out, so in as many steps as there are waiters a scan comes to its end
  within-quiet : (n : ℕ) (on : Waiting) → length on.waiters ≤ n → IsQuiet (served_within n cell on)
  within-quiet zero on few = nobody on few
  within-quiet (suc n) on few =
      let test = is_ready cell on.parts in
      elim (find test on.waiters) as (λ o. find test on.waiters ≡ o
      → IsQuiet (option_map_or (λ waiter. served_within n cell (after_wait cell on waiter)) o on)) [
        | None ↦ λ none. All-find_none test on.waiters none
        | Some w ↦ λ some. within-quiet n (after_wait cell on w)
            (let one = length-without test on.waiters w some in omega (arith, one, few))
      ] refl

  pub after-scan : ServedLaw cell
  after-scan on k d within = not-false _ (within-quiet (length on.waiters) on (omega arith) k d within)
