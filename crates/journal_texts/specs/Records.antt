-- A history that is asked after the grants of a journal: its record, and what it adds.
use Rattle.std.specs.Prelude.{◌≡◌, ◌⊎◌, ℕ, List, [], ◌∷◌, ◌++◌, length}
use Rattle.std.specs.List.{concat}
use Rattle.cell_base.specs.declared.cells.Cell.{Cell}
use Rattle.cell_base.specs.declared.requests.Told.TheVariants.{Halted}
use Rattle.cell_base.specs.declared.shifts.Entry.{Entry}
use Rattle.cell_base.specs.declared.shifts.Grant.{Grant}
use Rattle.cell_base.specs.Fits.{CellFits}
use Rattle.cell_base.specs.Histories.{IsLegal, after, grants, replay}
use Rattle.cell_base.specs.Plans.{Drains, plan_of}
use Rattle.cell_base.specs.Policy.{IsAdmitted}
use Rattle.admission_core.specs.DecidedHistories.{AreDecided}
use Rattle.durable_cell.specs.Asked.{grant_of}
use Rattle.record_text.specs.Records.{text_of_record}
use Rattle.cell_walks.specs.Outcomes.{Outcome}
use Rattle.cell_walks.specs.declared.status.Status.TheVariants.{Done, DeviceFault}
use Rattle.record_printer.specs.Blocks.{history_lines, planned_block}

-- The history that was asked under this number: it is legal after the grants, as if a single thread had asked; the policy decided each
-- request by the state before it, which it admits; no neighborhood of the state after it holds more parts than its resource has units;
-- and it goes as the command has it. The cell fits.
pub record IsAsked (cell : Cell) (opening : List Grant) (Goes : List Entry → Type 0) (history : List Entry) : Type 0 where
  pub fits : CellFits cell
  pub legal : IsLegal cell (replay cell opening) history
  pub decided : AreDecided cell (replay cell opening) history
  pub admitted : IsAdmitted cell (after cell (replay cell opening) history)
  pub goes : Goes history

-- Its record is printed, with the plan that drains the state after it; what it was granted is added.
pub record IsRecorded (cell : Cell) (number : ℕ) (opening : List Grant) (Goes : List Entry → Type 0) (outcome : Outcome) : Type 0 where
  pub history : List Entry
  pub asked : IsAsked cell opening Goes history
  pub drains : let left = after cell (replay cell opening) history in Drains cell left (plan_of cell left)
  pub is : let left = after cell (replay cell opening) history in
      outcome ≡ record {
        status = Done;
        pieces = planned_block cell number (length opening) history (length left) (plan_of cell left);
        added = grants number history;
        unsure = [];
      }
  pub text : let state = replay cell opening in concat outcome.pieces
      ≡ text_of_record cell state number (length opening) history (plan_of cell (after cell state history))

-- The writing of its last grant failed: the block that ends there is printed, and that grant may have been added or not.
pub record IsHalted (cell : Cell) (number : ℕ) (opening : List Grant) (Goes : List Entry → Type 0) (outcome : Outcome) : Type 0 where
  pub history : List Entry
  pub first : List Entry
  pub last : Entry
  pub parted : history ≡ first ++ last ∷ []
  pub halted : last.told ≡ Halted
  pub asked : IsAsked cell opening Goes history
  pub is : outcome ≡ record {
    status = DeviceFault;
    pieces = history_lines cell number (length opening) history;
    added = grants number history;
    unsure = grant_of number last ∷ [];
  }
  pub text : concat outcome.pieces ≡ text_of_record cell (replay cell opening) number (length opening) history []

-- one of the two
abbrev pub IsRecordedOrHalted : Cell → ℕ → List Grant → (Whole : List Entry → Type 0) → (Part : List Entry → Type 0) → Outcome → Type 0
IsRecordedOrHalted cell number opening Whole Part outcome =
    IsRecorded cell number opening Whole outcome ⊎ IsHalted cell number opening Part outcome
