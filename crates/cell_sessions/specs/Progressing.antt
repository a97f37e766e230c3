-- How far a session has come, as a program keeps it.
use Rattle.std.specs.Prelude.{◌≡◌, ℕ, ◌+◌, ◌<◌, ◌≤◌, ◌↔◌, ◌==◌, IsTrue, List, [], length, slice_index_or}
use Rattle.cell_base.specs.declared.requests.Request.{Request}
use Rattle.cell_base.specs.declared.shifts.Shift.{Shift}
use Rattle.cell_base.specs.Scripts.{HasEnded, script_of}
use Rattle.cell_base.specs.Scripts.{Progress as Place}
use Rattle.cell_sessions.specs.declared.progress.Progress.{Progress}

-- the step at which a session stands, and how often it was refused
abbrev pub place_of : Progress → Place
place_of at = record { step = at.next; refusals = at.refused }

-- it tells whether the session has ended
abbrev pub TellsEnd : List Request → ℕ → Progress → Type 0
TellsEnd script patience at = IsTrue at.ended ↔ HasEnded script patience (place_of at)

-- at a step of a script, with nothing asked yet; it has ended where that is the script's end
abbrev pub start_at : List Request → ℕ → Progress
start_at script step = record { next = step; refused = 0; asked = 0; ended = step == length script }

-- a session starts within its script
pub record Starts (script : List Request) (at : Progress) : Type 0 where
  pub within : at.next ≤ length script
  pub is_start : at ≡ start_at script at.next

-- where session k + 1 stands
abbrev pub progress_at : List Progress → ℕ → Progress
progress_at progress k = slice_index_or progress k (start_at [] 0)

-- each session starts within its script
abbrev pub StartEach : Shift → List Progress → Type 0
StartEach shift progress = (k : ℕ) → k < length shift.scripts → Starts (script_of shift (k + 1)) (progress_at progress k)
