-- What was asked of a durable cell since it was opened: what is printed of it, and what is added.
use Rattle.std.specs.Prelude.{◌≡◌, ℕ, true, false, List, [], None}
use Rattle.std.specs.List.{All}
use Rattle.std.specs.Option.{option_to_list}
use Rattle.cell_base.specs.declared.shifts.Entry.{Entry}
use Rattle.cell_base.specs.Fits.{RequestFits}
use Rattle.cell_base.specs.Histories.{grants}
use Rattle.cell_base.specs.Scripts.{holds_halt}
use Rattle.durable_cell.specs.Asked.{unsure_grant}
use Rattle.durable_cell.specs.DurableState.{DurableState}
use Rattle.record_text.specs.Fitting.{EntryFits}
use Rattle.cell_walks.specs.Outcomes.{Outcome}
use Rattle.cell_walks.specs.declared.status.Status.TheVariants.{Done, DeviceFault}
use Rattle.record_printer.specs.Blocks.{block_of, history_lines}
use Rattle.journal_texts.specs.declared.recorded.Recorded.{Recorded}
use Rattle.journal_texts.specs.declared.recorded.Recorded.TheVariants.{Whole, Halted}

-- ---- the durable cell

-- nothing was decided yet
pub record IsFresh {D : Type 0} (durable : DurableState D) : Type 0 where
  pub history : durable.history ≡ []
  pub added : durable.added ≡ []
  pub unsure : durable.unsure ≡ None

-- Everything was asked under this number: the grants of the history were added, without the one whose writing failed; and each request
-- fits the cell.
pub record IsAskedUnder {D : Type 0} (number : ℕ) (durable : DurableState D) : Type 0 where
  pub added : durable.added ≡ grants number durable.history
  pub unsure : durable.unsure ≡ unsure_grant number durable.history
  pub requests : All (λ entry. RequestFits durable.cell entry.request) durable.history

-- it is the history of a durable cell, and no entry of it halted
abbrev pub IsUnhaltedIn : {D : Type 0} → DurableState D → List Entry → Type 0
IsUnhaltedIn durable history = (history ≡ durable.history) × (holds_halt history ≡ false)

-- it is, and one halted
abbrev pub IsHaltedIn : {D : Type 0} → DurableState D → List Entry → Type 0
IsHaltedIn durable history = (history ≡ durable.history) × (holds_halt history ≡ true)

-- ---- the record

-- its entries fit the cell
abbrev pub EntriesFit : Recorded → Type 0
EntriesFit (Whole asked) = All (EntryFits asked.core.cell) asked.history
EntriesFit (Halted asked) = All (EntryFits asked.core.cell) asked.history

-- the record with the plan after it, and the grants of its history; or the block that ends in the halt, and the grant whose writing failed
abbrev pub recorded_outcome : Recorded → Outcome
recorded_outcome (Whole asked) = record {
  status = Done;
  pieces = block_of asked.core asked.number asked.after asked.history;
  added = grants asked.number asked.history;
  unsure = [];
}
recorded_outcome (Halted asked) = record {
  status = DeviceFault;
  pieces = history_lines asked.core.cell asked.number asked.after asked.history;
  added = grants asked.number asked.history;
  unsure = option_to_list (unsure_grant asked.number asked.history);
}
