-- What a command comes to: its status, what it puts, and what it adds to its journal.
use Rattle.std.specs.Prelude.{◌≡◌, ℕ, List, [], ◌∷◌, Result, Ok, Err}
use Rattle.outside_io.specs.Causes.{Rose}
use Rattle.outside_io.specs.Puts.{SinkTold, TookAll, TookSome}
use Rattle.cell_base.specs.declared.shifts.Grant.{Grant}
use Rattle.cell_walks.specs.Statuses.{IsTaken, early_status, early_line}
use Rattle.cell_walks.specs.declared.early_end.EarlyEnd.{EarlyEnd}
use Rattle.cell_walks.specs.declared.status.Status.{Status}
use Rattle.cell_walks.specs.declared.status.Status.TheVariants.{Done, SinkFault}

-- Its status; what is put, piece by piece; the grants that are added to the journal, in turn; and those after them whose writing failed.
pub record Outcome : Type 0 where
  pub status : Status
  pub pieces : List (List ℕ)
  pub added : List Grant
  pub unsure : List Grant

-- a command that prints these lines and adds nothing
abbrev pub printed : Status → List (List ℕ) → Outcome
printed status lines = record { status = status; pieces = lines; added = []; unsure = [] }

abbrev pub done : List (List ℕ) → Outcome
done lines = printed Done lines

-- an early end
abbrev pub early : EarlyEnd → Outcome
early end = printed (early_status end) (early_line end ∷ [])

-- what an answer comes to, or the early end in its place
abbrev pub or_early : {A : Type 0} → (A → Outcome) → Result A EarlyEnd → Outcome
or_early outcome (Ok answer) = outcome answer
or_early outcome (Err end) = early end

-- The sink took each piece whole, by one put; or it failed at one of them, after the earlier ones.
pub data IsDelivered (sink : SinkTold) (outcome : Outcome) (status : Status) : Type 0 where
  Whole : status ≡ outcome.status → IsTaken outcome.status → TookAll sink outcome.pieces → sink.faults_after ≡ sink.faults
      → IsDelivered sink outcome status
  Cut : status ≡ SinkFault → TookSome sink outcome.pieces → Rose sink.faults sink.faults_after → IsDelivered sink outcome status
