-- Steps that session 0 of shift 0 asked for: each was granted, or the writing of one halted.
use Rattle.std.specs.Prelude.{◌≡◌, ◌⊎◌, Some, None, List, [], ◌∷◌, ◌++◌, map}
use Rattle.cell_base.specs.declared.cells.Cell.{Cell}
use Rattle.cell_base.specs.declared.requests.Reply.TheVariants.{Granted}
use Rattle.cell_base.specs.declared.requests.Request.{Request}
use Rattle.cell_base.specs.declared.requests.Told.{Told}
use Rattle.cell_base.specs.declared.requests.Told.TheVariants.{Answered, Halted}
use Rattle.cell_base.specs.declared.shifts.Entry.{Entry}
use Rattle.cell_base.specs.declared.shifts.Grant.{Grant}
use Rattle.durable_cell.specs.DurableState.{DurableState}
use Rattle.cell_walks.specs.Outcomes.{Outcome}
use Rattle.journal_texts.specs.Records.{IsRecordedOrHalted}

-- a step that session 0 asked for, and what it was told
abbrev pub step_entry : Told → Request → Entry
step_entry told step = record { session = 0; request = step; told = told }

-- steps that were granted in turn
abbrev pub drained : List Request → List Entry
drained steps = map (step_entry (Answered Granted)) steps

-- the same, and a step whose writing halted
abbrev pub drained_to : List Request → Request → List Entry
drained_to steps last = drained steps ++ step_entry Halted last ∷ []

-- each step was granted
abbrev pub AllGranted : List Request → List Entry → Type 0
AllGranted steps history = history ≡ drained steps

-- a prefix of them was, and the writing of the next one failed
abbrev pub HaltsAt : List Request → List Entry → Type 0
HaltsAt steps history =
    (first : List Request) × (last : Request) × (rest : List Request) × (steps ≡ first ++ last ∷ rest) × (history ≡ drained_to first last)

-- these steps were asked after the grants, and each was granted, or the writing of one halted
abbrev pub AreAsked : Cell → List Grant → List Request → Outcome → Type 0
AreAsked cell opening steps outcome = IsRecordedOrHalted cell 0 opening (AllGranted steps) (HaltsAt steps) outcome

-- ---- in a durable cell

-- a step as a grant of shift 0 and session 0
abbrev pub step_grant : Request → Grant
step_grant step = record { shift = 0; session = 0; request = step }

-- these steps were granted, which left this disk
abbrev pub after_plan_steps : {D : Type 0} → DurableState D → D → List Request → DurableState D
after_plan_steps durable disk steps =
    record durable { disk = disk; history = drained steps; added = map step_grant steps; unsure = None }

-- the step after a prefix of them halted
pub record HaltsIn {D : Type 0} (steps : List Request) (old new : DurableState D) : Type 0 where
  pub first : List Request
  pub last : Request
  pub rest : List Request
  pub parted : steps ≡ first ++ last ∷ rest
  pub is : new ≡ record old {
    disk = new.disk;
    history = drained_to first last;
    added = map step_grant first;
    unsure = Some (step_grant last);
  }

-- each step was granted, or one halted
abbrev pub IsAskedIn : {D : Type 0} → List Request → DurableState D → DurableState D → Type 0
IsAskedIn steps old new = (new ≡ after_plan_steps old new.disk steps) ⊎ HaltsIn steps old new
