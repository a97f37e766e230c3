-- A board's scan takes the steps of the queue's.
use Rattle.std.proofs.Common.{◌≡◌, ℕ, zero, suc, Some, None, List, [], ◌∷◌, ◌++◌, length, refl, sym, ap, ◌∙◌, append_assoc, append-nil, find}
use Rattle.std.specs.Option.{option_map_or}
use Rattle.cell_base.specs.declared.cells.Cell.{Cell}
use Rattle.cell_base.specs.declared.shifts.Entry.{Entry}
use Rattle.wait_queue.specs.declared.waiter.Waiter.{Waiter}
use Rattle.wait_queue.specs.Waiting.{Waiting, end_of, is_ready, served_within, waiting}
use Rattle.wait_queue.specs.Waiting as queue
use Rattle.wait_board.specs.declared.entries.BoardEntry.{BoardEntry}
use Rattle.wait_board.specs.Boards.{after_wait, all_renewed, scan, scan_within}
use Rattle.wait_board.specs.Laws.{ScanLaw, end_in, ends_of, with_ends}

ends-append : (ends more : List Entry) → ends_of (ends ++ more) ≡ ends_of ends ++ ends_of more
ends-append [] more = refl
ends-append (end ∷ ends) more =
    ap (λ (l : List BoardEntry). end_in end end.told ++ l) (ends-append ends more)
    ∙ sym (append_assoc (end_in end end.told) (ends_of ends) (ends_of more))

module _ (cell : Cell) where
  one-step : (history : List BoardEntry) (on : Waiting) (w : Waiter)
      → after_wait cell (with_ends history on) w ≡ with_ends history (queue.after_wait cell on w)
  one-step history on w =
      let after = after_wait cell (with_ends history on) w in
      ap (λ (h : List BoardEntry). record after { history = h })
      (append_assoc history (ends_of on.told) (ends_of (end_of cell on.parts w ∷ []))
      ∙ ap (λ (l : List BoardEntry). history ++ l) (sym (ends-append on.told (end_of cell on.parts w ∷ []))))

  within-same : (n : ℕ) (history : List BoardEntry) (on : Waiting)
      → scan_within n cell (with_ends history on) ≡ all_renewed cell (with_ends history (served_within n cell on))
  within-same zero history on = refl
  within-same (suc n) history on =
      elim (find (is_ready cell on.parts) on.waiters) as (λ o.
      option_map_or (λ w. scan_within n cell (after_wait cell (with_ends history on) w)) o (all_renewed cell (with_ends history on))
      ≡ all_renewed cell (with_ends history (option_map_or (λ w. served_within n cell (queue.after_wait cell on w)) o on))) [
        | None ↦ refl
        | Some w ↦ ap (scan_within n cell) (one-step history on w) ∙ within-same n history (queue.after_wait cell on w)
      ]

  pub same-scan : ScanLaw cell
  same-scan on =
      ap (λ (h : List BoardEntry). scan cell (record on { history = h })) (sym (append-nil on.history))
      ∙ within-same (length on.waiters) on.history (waiting on.parts on.waiters [])
