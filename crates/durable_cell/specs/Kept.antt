-- What a durable cell keeps.
use Rattle.std.specs.Prelude.{◌≡◌, ◌⊎◌, ℕ, ◌+◌, ◌*◌, ◌≤◌, false, Option, None, IfSome}
use Rattle.std.specs.Prelude.{MatchOption, List, [], ◌∷◌, ◌++◌, length, map, ⊤}
use Rattle.std.specs.Option.{option_map, option_to_list}
use Rattle.atomic_table.specs.declared.badge.Badge.{Badge}
use Rattle.cell_base.specs.declared.requests.Request.{Request}
use Rattle.cell_base.specs.declared.shifts.Entry.{Entry}
use Rattle.cell_base.specs.declared.shifts.Grant.{Grant}
use Rattle.cell_base.specs.Fits.{CellFits}
use Rattle.cell_base.specs.Histories.{IsLegal, granted_entries}
use Rattle.admission_core.specs.CoreState.{CoreState}
use Rattle.outside_io.specs.Causes.{Rose}
use Rattle.outside_io.specs.Disk.{Turns, LeavesOnly}
use Rattle.move_journal.specs.Disks.{Shows}
use Rattle.journal_format.specs.Journals.{StandsFor, StandsForPrefix}
use Rattle.move_journal.specs.Kept.{JournalState}
use Rattle.journal_format.specs.Reads.{OnlyReads}
use Rattle.durable_cell.specs.declared.replays.TheConstants.{MAX_ROOM}
use Rattle.durable_cell.specs.Asked.{halted_in}
use Rattle.durable_cell.specs.DurableState.{DurableState, first_parts, parts}
use Rattle.journal_format.specs.Replayed.{AreDue}

-- who asked for what
abbrev pub asked_by : Grant → ℕ × Request
asked_by grant = (grant.session, grant.request)

-- the same of an entry
abbrev pub asked_in : Entry → ℕ × Request
asked_in entry = (entry.session, entry.request)

-- The history is one that a single thread can make, and the grants are those of its granted entries, in order; the shift numbers are
-- those of the calls.
pub record KeepsHistory {D : Type 0} (durable : DurableState D) : Type 0 where
  pub fits : CellFits durable.cell
  pub due : AreDue durable.cell durable.opening
  pub legal : IsLegal durable.cell (first_parts durable) durable.history
  pub added : map asked_by durable.added ≡ map asked_in (granted_entries durable.history)
  pub unsure : option_map asked_by durable.unsure ≡ option_map asked_in (halted_in durable.history)
  pub within : length durable.history ≤ durable.limit

-- the grants since the opening, and after them the one whose writing failed
abbrev pub grants_since : {D : Type 0} → DurableState D → List Grant
grants_since durable = durable.added ++ option_to_list durable.unsure

-- the file stands for the grants of the opening and all that were added, with the one whose writing failed or without it
abbrev pub StandsNow : {D : Type 0} → DurableState D → List ℕ → Type 0
StandsNow durable file = StandsFor file durable.text (durable.opening ++ durable.added)
    ⊎ StandsFor file durable.text (durable.opening ++ grants_since durable)

-- the file stands for what stood before a call, or for what stands after it
abbrev pub StandsThen : {D : Type 0} → DurableState D → DurableState D → List ℕ → Type 0
StandsThen old new file = StandsNow old file ⊎ StandsNow new file

-- the file stands for the grants of the opening and a prefix of those since
abbrev pub StandsBetween : {D : Type 0} → DurableState D → List ℕ → Type 0
StandsBetween durable file = StandsForPrefix durable.text durable.opening (grants_since durable) file

-- The disk tells where it told. Its count rose exactly where a writing failed. What it reads as and what a crash now may leave stand for
-- all that was granted. It was only read until it was found; and each image at each moment since then stands for a prefix of what was
-- granted.
pub record KeepsDisk {D : Type 0} (reads_as : D → Option (List ℕ)) (may_leave : D → List ℕ → Type 0) (moment : D → ℕ)
    (left_since : D → ℕ → List ℕ → Type 0) (faults : D → ℕ) (durable : DurableState D) : Type 0 where
  pub tells : Turns (reads_as durable.entry) (reads_as durable.disk) (λ _ _. ⊤)
  pub count : MatchOption durable.unsure (faults durable.disk ≡ faults durable.entry)
      (λ _. Rose (faults durable.entry) (faults durable.disk))
  pub stands : Shows reads_as may_leave durable.disk (StandsNow durable)
  pub read : OnlyReads reads_as may_leave moment left_since durable.entry durable.found
  pub any_moment : IfSome (reads_as durable.disk) (λ _. LeavesOnly moment left_since durable.found durable.disk (StandsBetween durable))

-- The badges have the two earlier disks, the core stands after the history, the journal runs until a writing fails and has the grants of
-- the opening and those since, and no shelf gets full.
pub record KeepsParts {D : Type 0} (durable : DurableState D) (entry found : Badge D) (core : CoreState) (journal : JournalState D)
    (history_spare added_spare : ℕ) : Type 0 where
  pub first : entry.views ≡ durable.entry ∷ []
  pub second : found.views ≡ durable.found ∷ []
  pub state : core ≡ record { cell = durable.cell; parts = parts durable }
  pub runs : durable.unsure ≡ None → journal.is_halted ≡ false
  pub count : journal.len ≡ length durable.opening + length durable.added
  pub few : journal.len + durable.limit ≤ 2 * MAX_ROOM + length durable.history
  pub history_room : durable.limit ≤ length durable.history + history_spare
  pub added_room : durable.limit ≤ length durable.history + added_spare

-- all of it
abbrev pub Keeps : {D : Type 0} → (D → Option (List ℕ)) → (D → List ℕ → Type 0) → (D → ℕ) → (D → ℕ → List ℕ → Type 0) → (D → ℕ)
    → DurableState D → Badge D → Badge D → CoreState → JournalState D → ℕ → ℕ → Type 0
Keeps reads_as may_leave moment left_since faults durable entry found core journal history_spare added_spare =
    KeepsHistory durable × KeepsDisk reads_as may_leave moment left_since faults durable
    × KeepsParts durable entry found core journal history_spare added_spare
