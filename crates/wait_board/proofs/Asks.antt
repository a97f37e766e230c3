-- The asks of a history: a scan adds none, and an ask adds itself.
use Rattle.std.proofs.Common.{◌≡◌, ℕ, zero, suc, true, false, cond, Some, None, List, [], ◌∷◌, ◌++◌, length, refl, ◌∙◌, ap, find}
use Rattle.std.specs.Option.{option_map_or}
use Rattle.std.proofs.lemmas.List.{append-nil}
use Rattle.std.proofs.lemmas.List.Elements.{filter-append}
use Rattle.cell_base.specs.declared.cells.Cell.{Cell}
use Rattle.cell_base.specs.declared.requests.Request.{Request}
use Rattle.cell_base.specs.declared.requests.Reply.{Reply}
use Rattle.cell_base.specs.declared.requests.Reply.TheVariants.{Granted, Refused}
use Rattle.cell_base.specs.Outcomes.{reply_to, state_after}
use Rattle.wait_board.specs.declared.entries.BoardTold.{BoardTold}
use Rattle.wait_board.specs.declared.entries.BoardTold.TheVariants as told
use Rattle.wait_board.specs.declared.entries.BoardEntry.{BoardEntry}
use Rattle.policy_laws.specs.Decisions.{is_saturation}
use Rattle.wait_board.specs.Boards.{OnBoard, entry, is_answer, end_of_wait, after_wait, all_renewed}
use Rattle.wait_queue.specs.Waiting.{is_ready}
use Rattle.wait_board.specs.Boards.{scan_within, noted, with_waiter, told_on, board, asks_of, asked_in_turn}

-- the end of a wait is no ask
not_asked : (history : List BoardEntry) (session : ℕ) (request : Request) (r : Reply)
    → asks_of (history ++ entry session request (end_of_wait r) ∷ []) ≡ asks_of history
not_asked history session request r =
    filter-append (λ (e : BoardEntry). is_answer e.told) history (entry session request (end_of_wait r) ∷ []) ∙ by_reply r
  where
    by_reply : (s : Reply) → asks_of history ++ asks_of (entry session request (end_of_wait s) ∷ []) ≡ asks_of history
    by_reply Granted = append-nil (asks_of history)
    by_reply (Refused why) = append-nil (asks_of history)

module _ (cell : Cell) where
  within-asks : (n : ℕ) (on : OnBoard) → asks_of (scan_within n cell on).history ≡ asks_of on.history
  within-asks zero on = refl
  within-asks (suc n) on =
      elim (find (is_ready cell on.parts) on.waiters) as (λ o.
      asks_of (option_map_or (λ waiter. scan_within n cell (after_wait cell on waiter)) o (all_renewed cell on)).history
      ≡ asks_of on.history) [
        | None ↦ refl
        | Some w ↦ within-asks n (after_wait cell on w) ∙ not_asked on.history w.session w.request (reply_to cell on.parts w.request)
      ]

  -- an ask is one more of the asks
  pub board-asks : (on : OnBoard) (session : ℕ) (request : Request)
      → (t : BoardTold) × (asks_of (board cell on session request).history ≡ asks_of on.history ++ entry session request t ∷ [])
  board-asks on session request = by_reply (reply_to cell on.parts request)
    where
      by_reply : (r : Reply) → (t : BoardTold) × (asks_of (told_on cell on session request r).history
          ≡ asks_of on.history ++ entry session request t ∷ [])
      by_reply Granted =
          let noted_on : OnBoard = record (noted on session request told.Granted) { parts = state_after cell on.parts request } in (
            told.Granted,
            within-asks (length on.waiters) noted_on
                ∙ filter-append (λ (e : BoardEntry). is_answer e.told) on.history (entry session request told.Granted ∷ []),
          )
      by_reply (Refused why) =
          elim (is_saturation why) as (λ b. (t : BoardTold)
          × (asks_of (cond b (with_waiter on session request why) (noted on session request (told.Refused why))).history
          ≡ asks_of on.history ++ entry session request t ∷ [])) [
            | true ↦ (
              told.Waits why,
              filter-append (λ (e : BoardEntry). is_answer e.told) on.history (entry session request (told.Waits why) ∷ []),
            )
            | false ↦ (
              told.Refused why,
              filter-append (λ (e : BoardEntry). is_answer e.told) on.history (entry session request (told.Refused why) ∷ []),
            )
          ]

  -- the last ask of several
  asked-more : (on : OnBoard) (asks : List BoardEntry) (ask : BoardEntry)
      → asked_in_turn cell on (asks ++ ask ∷ []) ≡ board cell (asked_in_turn cell on asks) ask.session ask.request
  asked-more on [] ask = refl
  asked-more on (first ∷ asks) ask = asked-more (board cell on first.session first.request) asks ask

  -- a board that is what its asks make of a first one stays so
  pub asked_on : (first on : OnBoard) (session : ℕ) (request : Request) → asked_in_turn cell first (asks_of on.history) ≡ on
      → asked_in_turn cell first (asks_of (board cell on session request).history) ≡ board cell on session request
  asked_on first on session request is =
      let one = board-asks on session request in
      ap (asked_in_turn cell first) one.1 ∙ asked-more first (asks_of on.history) (entry session request one.0)
      ∙ ap (λ (o : OnBoard). board cell o session request) is
