-- Rounds over a hybrid that are under way.
use Rattle.std.specs.Prelude.{◌≡◌, ℕ, Some, List, [], ◌∷◌, ◌++◌, slice_get}
use Rattle.std.specs.List.{All}
use Rattle.cell_base.specs.declared.cells.Cell.{Cell}
use Rattle.cell_base.specs.declared.requests.Part.{Part}
use Rattle.cell_base.specs.declared.requests.Request.{Request}
use Rattle.cell_base.specs.declared.requests.Told.TheVariants.{Answered}
use Rattle.cell_base.specs.declared.shifts.Shift.{Shift}
use Rattle.cell_base.specs.Fits.{RequestFits}
use Rattle.cell_base.specs.Scripts.{Progress, progress_after}
use Rattle.solo_rounds.specs.Underway.{AreUnderway}
use Rattle.banker_check.specs.Hybrid.{reply_h, state_after_h}
use Rattle.banker_check.specs.HybridState.{HybridState}
use Rattle.hybrid_rounds.specs.declared.entries.HybridEntry.{HybridEntry}
use Rattle.hybrid_rounds.specs.Histories.{IsLegalHybrid, after_h, all_taken, taken_reply}

-- a session asks its present step: the reply is told, and the session goes on by it
pub record AsksHybrid (old new : HybridState) (session : ℕ) (script : List Request) (at next : Progress)
    (before later : List HybridEntry) : Type 0 where
  pub request : Request
  pub step : slice_get script at.step ≡ Some request
  pub entry : later ≡ before ++ record { session = session; request = request; told = reply_h old.cell old.parts request } ∷ []
  pub state : new ≡ record old { parts = state_after_h old.cell old.parts request }
  pub goes_on : next ≡ progress_after at (Answered (taken_reply (reply_h old.cell old.parts request)))

-- a history of rounds from the parts `start` to the parts `now`
pub record IsUnderway (shift : Shift) (cell : Cell) (start now : List Part) (history : List HybridEntry)
    (progress : List Progress) (turn done : ℕ) : Type 0 where
  pub legal : IsLegalHybrid cell start history
  pub state : now ≡ after_h cell start history
  pub requests : All (λ (entry : HybridEntry). RequestFits cell entry.request) history
  pub rounds : AreUnderway shift (all_taken history) progress turn done
