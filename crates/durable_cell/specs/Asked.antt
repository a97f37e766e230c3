-- What an ask answers, and what it makes of a durable cell.
use Rattle.std.specs.Prelude.{◌≡◌, ℕ, ◌<◌, Bool, Option, Some, None, Result, Ok, Err, List, [], ◌∷◌, ◌++◌, length, ⊤}
use Rattle.std.specs.List.{find, position}
use Rattle.std.specs.Option.{option_map}
use Rattle.cell_base.specs.declared.requests.Reply.{Reply}
use Rattle.cell_base.specs.declared.requests.Reply.TheVariants.{Granted, Refused}
use Rattle.cell_base.specs.declared.requests.Request.{Request}
use Rattle.cell_base.specs.declared.requests.Told.{Told}
use Rattle.cell_base.specs.declared.requests.Told.TheVariants.{Answered}
use Rattle.cell_base.specs.declared.requests.Told.TheVariants as told
use Rattle.cell_base.specs.declared.shifts.Entry.{Entry}
use Rattle.cell_base.specs.declared.shifts.Grant.{Grant}
use Rattle.cell_base.specs.Histories.{was_halted, grants}
use Rattle.cell_base.specs.Outcomes.{reply_to}
use Rattle.outside_io.specs.Causes.{Rose}
use Rattle.durable_cell.specs.DurableState.{DurableState, parts}
use Rattle.durable_cell.specs.declared.fault.AskFault.{AskFault}
use Rattle.durable_cell.specs.declared.fault.AskFault.TheVariants.{Halted, Full, Device}

-- the entry was halted
abbrev pub is_halt : Entry → Bool
is_halt entry = was_halted entry.told

-- at which index a history holds a halt
abbrev pub halted_at : List Entry → Option ℕ
halted_at entries = position is_halt entries

-- the entry of the halt
abbrev pub halted_in : List Entry → Option Entry
halted_in entries = find is_halt entries

-- the request of an entry as a grant in a shift
abbrev pub grant_of : ℕ → Entry → Grant
grant_of shift entry = record { shift = shift; session = entry.session; request = entry.request }

-- the halted request of a history as a grant in a shift
abbrev pub unsure_grant : ℕ → List Entry → Option Grant
unsure_grant shift entries = option_map (grant_of shift) (halted_in entries)

-- a decided request
abbrev pub entry : ℕ → Request → Told → Entry
entry session request told = record { session = session; request = request; told = told }

-- one entry more, decided in this shift, after a history without a halt, and the disk after it
abbrev pub with_entry : {D : Type 0} → DurableState D → D → ℕ → Entry → DurableState D
with_entry durable disk shift e = record durable {
  disk = disk;
  history = durable.history ++ e ∷ [];
  added = durable.added ++ grants shift (e ∷ []);
  unsure = unsure_grant shift (e ∷ []);
}

-- there is no halt, and room for one entry more
pub record GoesOn {D : Type 0} (durable : DurableState D) : Type 0 where
  pub no_halt : halted_at durable.history ≡ None
  pub has_room : length durable.history < durable.limit

-- The outcome's reply and one entry more; nothing, where a halt or the limit forbids it; or the request as the halt.
abbrev pub Answers : {D : Type 0} → DurableState D → ℕ → ℕ → Request → Result Reply AskFault → DurableState D → Type 0
Answers old shift session request (Ok reply) new =
    (new ≡ with_entry old new.disk shift (entry session request (Answered reply))) × (reply ≡ reply_to old.cell (parts old) request)
    × GoesOn old
Answers old shift session request (Err (Halted at)) new = (new ≡ old) × (halted_at old.history ≡ Some at)
Answers old shift session request (Err (Full len)) new =
    (new ≡ old) × (halted_at old.history ≡ None) × (len ≡ length old.history) × (length old.history ≡ old.limit)
Answers old shift session request (Err (Device at)) new =
    (new ≡ with_entry old new.disk shift (entry session request told.Halted)) × (reply_to old.cell (parts old) request ≡ Granted)
    × (at ≡ length old.history) × GoesOn old

-- no call of the device is made but for a request that is granted
abbrev pub WritesGrants : {D : Type 0} → D → D → Result Reply AskFault → Type 0
WritesGrants old new (Ok Granted) = ⊤
WritesGrants old new (Ok (Refused why)) = new ≡ old
WritesGrants old new (Err (Halted at)) = new ≡ old
WritesGrants old new (Err (Full len)) = new ≡ old
WritesGrants old new (Err (Device at)) = ⊤

-- the count rises where the answer is that the device failed, and stays with every other answer
abbrev pub HasAskCause : {D : Type 0} → (D → ℕ) → D → D → Result Reply AskFault → Type 0
HasAskCause faults old new (Ok reply) = faults new ≡ faults old
HasAskCause faults old new (Err (Halted at)) = faults new ≡ faults old
HasAskCause faults old new (Err (Full len)) = faults new ≡ faults old
HasAskCause faults old new (Err (Device at)) = Rose (faults old) (faults new)
