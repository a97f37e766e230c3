-- The parts on a board are those after its history.
use Rattle.std.proofs.Common.{◌≡◌, ℕ, zero, suc, true, false, cond, Some, None, List, [], ◌∷◌, ◌++◌, length, refl}
use Rattle.std.proofs.Common.{sym, ◌∙◌, ap, find}
use Rattle.std.specs.Option.{option_map_or}
use Rattle.cell_base.specs.declared.cells.Cell.{Cell}
use Rattle.cell_base.specs.declared.requests.Part.{Part}
use Rattle.cell_base.specs.declared.requests.Request.{Request}
use Rattle.cell_base.specs.declared.requests.Reply.{Reply}
use Rattle.cell_base.specs.declared.requests.Reply.TheVariants.{Granted, Refused}
use Rattle.cell_base.specs.Outcomes.{reply_to, state_after}
use Rattle.policy_laws.specs.Laws.{RefusalLaw}
use Rattle.wait_queue.specs.declared.waiter.Waiter.{Waiter}
use Rattle.wait_board.specs.declared.entries.BoardTold.TheVariants as told
use Rattle.wait_board.specs.declared.entries.BoardEntry.{BoardEntry}
use Rattle.policy_laws.specs.Decisions.{is_saturation}
use Rattle.wait_board.specs.Boards.{OnBoard, entry, end_of_wait, after_wait, all_renewed}
use Rattle.wait_queue.specs.Waiting.{is_ready}
use Rattle.wait_board.specs.Boards.{scan_within, noted, with_waiter, told_on, board, takes_effect, parts_after}

module _ (cell : Cell) (law : RefusalLaw cell) (first : List Part) where
  -- the last entry of several
  last : (parts : List Part) (history : List BoardEntry) (e : BoardEntry)
      → parts_after cell parts (history ++ e ∷ [])
      ≡ cond (takes_effect e.told) (state_after cell (parts_after cell parts history) e.request) (parts_after cell parts history)
  last parts [] e = refl
  last parts (one ∷ history) e = last (cond (takes_effect one.told) (state_after cell parts one.request) parts) history e

  -- the board's parts are those after its history
  abbrev pub StandsAfter : OnBoard → Type 0
  StandsAfter on = parts_after cell first on.history ≡ on.parts

  more : (on : OnBoard) (e : BoardEntry) → StandsAfter on
      → parts_after cell first (on.history ++ e ∷ []) ≡ cond (takes_effect e.told) (state_after cell on.parts e.request) on.parts
  more on e is =
      last first on.history e
      ∙ ap (λ (ps : List Part). cond (takes_effect e.told) (state_after cell ps e.request) ps) is

  decided_after : (on : OnBoard) (w : Waiter) → StandsAfter on → StandsAfter (after_wait cell on w)
  decided_after on w is =
      more on (entry w.session w.request (end_of_wait (reply_to cell on.parts w.request))) is
      ∙ by_reply (reply_to cell on.parts w.request) refl
    where
      by_reply : (r : Reply) → reply_to cell on.parts w.request ≡ r
          → cond (takes_effect (end_of_wait r)) (state_after cell on.parts w.request) on.parts ≡ state_after cell on.parts w.request
      by_reply Granted e = refl
      by_reply (Refused why) e = sym (law on.parts w.request why e)

  scan_after : (n : ℕ) (on : OnBoard) → StandsAfter on → StandsAfter (scan_within n cell on)
  scan_after zero on is = is
  scan_after (suc n) on is =
      elim (find (is_ready cell on.parts) on.waiters) as (λ o.
      StandsAfter (option_map_or (λ waiter. scan_within n cell (after_wait cell on waiter)) o (all_renewed cell on))) [
        | None ↦ is
        | Some w ↦ scan_after n (after_wait cell on w) (decided_after on w is)
      ]

  -- an ask keeps it
  pub board_after : (on : OnBoard) (session : ℕ) (request : Request) → StandsAfter on → StandsAfter (board cell on session request)
  board_after on session request is = by_reply (reply_to cell on.parts request)
    where
      by_reply : (r : Reply) → StandsAfter (told_on cell on session request r)
      by_reply Granted =
          scan_after (length on.waiters) (record (noted on session request told.Granted) { parts = state_after cell on.parts request })
          (more on (entry session request told.Granted) is)
      by_reply (Refused why) =
          let refused = noted on session request (told.Refused why) in
          elim (is_saturation why) as (λ b. StandsAfter (cond b (with_waiter on session request why) refused)) [
            | true ↦ more on (entry session request (told.Waits why)) is
            | false ↦ more on (entry session request (told.Refused why)) is
          ]
