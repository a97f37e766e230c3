-- An ask keeps what the type of a board keeps.
use Rattle.std.proofs.Common.{◌≡◌, ℕ, Bool, true, false, cond, None, List, [], ◌∷◌, refl, All}
use Rattle.std.proofs.lemmas.List.Elements.{All-append, All-cons, All-nil}
use Rattle.std.proofs.lemmas.List.Quantifiers.{all_pairs_push}
use Rattle.cell_base.specs.declared.cells.Cell.{Cell}
use Rattle.cell_base.specs.declared.requests.Part.{Part}
use Rattle.cell_base.specs.declared.requests.Request.{Request}
use Rattle.cell_base.specs.declared.requests.Refusal.{Refusal}
use Rattle.cell_base.specs.declared.requests.Reply.{Reply}
use Rattle.cell_base.specs.declared.requests.Reply.TheVariants.{Granted, Refused}
use Rattle.cell_base.specs.Fits.{CellFits, RequestFits, IsWithin}
use Rattle.cell_base.specs.Outcomes.{reply_to, state_after}
use Rattle.cell_base.specs.Policy.{IsAdmitted}
use Rattle.policy_laws.specs.Laws.{RefusalLaw}
use Rattle.policy_laws.proofs.Admission.{admission_law}
use Rattle.wait_queue.specs.declared.waiter.Waiter.{Waiter}
use Rattle.wait_board.specs.declared.entries.BoardTold.TheVariants as told
use Rattle.policy_laws.specs.Decisions.{is_saturation}
use Rattle.wait_board.specs.Boards.{OnBoard, noted, with_waiter, told_on, board}
use Rattle.wait_queue.specs.Waiting.{waiter_of}
use Rattle.wait_board.specs.BoardState.{IsWaiting, IsOther, AreApart, KeepsBoard}
use Rattle.wait_board.proofs.Scans.{full, Stands, scan-settled}
use Rattle.wait_board.proofs.Asks.{asked_on}
use Rattle.wait_board.proofs.Effects.{board_after}
use Rattle.wait_board.proofs.Room.{others_wait}

module _ (cell : Cell) (fits : CellFits cell) (sessions : ℕ) (on : OnBoard) (session : ℕ) (request : Request)
    (admitted : IsAdmitted cell on.parts) (waiting : All (IsWaiting cell on.parts sessions) on.waiters) (apart : AreApart on.waiters)
    (fit : RequestFits cell request) (within : IsWithin 1 sessions session) (free : waiter_of on.waiters session ≡ None) where
  granted_stands : Stands cell fits sessions (record (noted on session request told.Granted) { parts = state_after cell on.parts request })
  granted_stands = record {
    admitted = (admission_law cell fits on.parts admitted).request request fit;
    stay = λ k d inside. let w = waiting k d inside in record { session = w.session; request = w.request };
    apart = apart;
  }

  -- each waits for a full neighborhood, and none twice
  abbrev pub Waits : OnBoard → Type 0
  Waits now = All (IsWaiting cell now.parts sessions) now.waiters × AreApart now.waiters

  -- who waits after an ask
  pub waiting_on : Waits (board cell on session request)
  waiting_on = by_reply (reply_to cell on.parts request) refl
    where
      by_saturation : (why : Refusal) → reply_to cell on.parts request ≡ Refused why → (b : Bool) → is_saturation why ≡ b
          → Waits (cond b (with_waiter on session request why) (noted on session request (told.Refused why)))
      by_saturation why is true sat =
          let new : Waiter = record { session = session; request = request; refusal = why } in (
            All-append (IsWaiting cell on.parts sessions) on.waiters (new ∷ []) waiting
                (All-cons (IsWaiting cell on.parts sessions) new [] (record {
                  session = within;
                  request = fit;
                  outcome = is;
                  full = full cell fits on.parts request why admitted fit is sat;
                }) (All-nil (IsWaiting cell on.parts sessions))),
            all_pairs_push IsOther on.waiters new apart (λ k d inside. others_wait on.waiters session free k d inside),
          )
      by_saturation why is false sat = (waiting, apart)

      by_reply : (r : Reply) → reply_to cell on.parts request ≡ r → Waits (told_on cell on session request r)
      by_reply Granted is =
          let settled = scan-settled cell fits sessions _ granted_stands in (settled.waiting, settled.apart)
      by_reply (Refused why) is = by_saturation why is (is_saturation why) refl

-- an ask keeps all of it
pub keeps : (cell : Cell) (opening : List Part) (on : OnBoard) (spare left sessions session : ℕ) (request : Request) → CellFits cell
    → RefusalLaw cell → IsAdmitted cell on.parts
    → KeepsBoard (record { cell = cell; opening = opening; on = on; spare = spare; sessions = sessions })
    → RequestFits cell request → IsWithin 1 sessions session → waiter_of on.waiters session ≡ None
    → KeepsBoard (record { cell = cell; opening = opening; on = board cell on session request; spare = left; sessions = sessions })
keeps cell opening on spare left sessions session request fits law admitted kept fit within free =
    let wait = waiting_on cell fits sessions on session request admitted kept.waiting kept.apart fit within free in
    record {
      asked = asked_on cell _ on session request kept.asked;
      after_history = board_after cell law opening on session request kept.after_history;
      waiting = wait.0;
      apart = wait.1;
    }
