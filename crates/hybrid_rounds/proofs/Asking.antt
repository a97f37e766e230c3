-- A session that goes on asks its present step of the hybrid, and the rounds are under way after its ask.
use Rattle.std.proofs.Common.{◌≡◌, ℕ, ◌+◌, Some, List, [], ◌∷◌, ◌++◌, slice_get, slice_set, ap, ◌∙◌, sym, subst}
use Rattle.std.proofs.lemmas.List.Elements.{All-push}
use Rattle.cell_base.specs.declared.cells.Cell.{Cell}
use Rattle.cell_base.specs.declared.requests.Part.{Part}
use Rattle.cell_base.specs.declared.requests.Request.{Request}
use Rattle.cell_base.specs.declared.requests.Told.TheVariants.{Answered}
use Rattle.cell_base.specs.declared.shifts.Entry.{Entry}
use Rattle.cell_base.specs.declared.shifts.Shift.{Shift}
use Rattle.cell_base.specs.Fits.{RequestFits}
use Rattle.cell_base.specs.Scripts.{Progress, progress_after}
use Rattle.solo_rounds.specs.Underway.{AreUnderway}
use Rattle.solo_rounds.proofs.Asking.{asked_once}
use Rattle.solo_rounds.proofs.Going.{GoesOn}
use Rattle.banker_check.specs.Hybrid.{reply_h, state_after_h}
use Rattle.hybrid_rounds.specs.declared.entries.HybridEntry.{HybridEntry}
use Rattle.hybrid_rounds.specs.Histories.{all_taken, taken_reply}
use Rattle.hybrid_rounds.specs.Underway.{IsUnderway}
use Rattle.hybrid_rounds.proofs.Taking.{IsLegalHybrid-push, after_h-push, all_taken-push}

-- one entry more, with the reply of the hybrid
pub asks : (shift : Shift) (cell : Cell) (start now : List Part) (history : List HybridEntry) (progress : List Progress) (turn done : ℕ)
    (script : List Request) (spare : ℕ) (at : Progress) → GoesOn shift progress spare done script at
    → IsUnderway shift cell start now history progress turn done → (request : Request) (next : Progress)
    → RequestFits cell request → slice_get script at.step ≡ Some request
    → next ≡ progress_after at (Answered (taken_reply (reply_h cell now request)))
    → IsUnderway shift cell start (state_after_h cell now request)
    (history ++ record { session = done + 1; request = request; told = reply_h cell now request } ∷ [])
    (slice_set progress done next) turn (done + 1)
asks shift cell start now history progress turn done script spare at goes underway request next fit step told =
    let entry : HybridEntry = record { session = done + 1; request = request; told = reply_h cell now request } in
    record {
      legal = IsLegalHybrid-push cell start history entry underway.legal
          (ap (λ (parts : List Part). reply_h cell parts request) (sym underway.state));
      state = ap (λ (parts : List Part). state_after_h cell parts request) underway.state ∙ sym (after_h-push cell start history entry);
      requests = All-push (λ (e : HybridEntry). RequestFits cell e.request) history _ underway.requests fit;
      rounds = subst (λ (entries : List Entry). AreUnderway shift entries (slice_set progress done next) turn (done + 1))
          (sym (all_taken-push history entry))
          (asked_once shift (all_taken history) progress turn done script spare at goes underway.rounds request
          (taken_reply (reply_h cell now request)) next step told);
    }
