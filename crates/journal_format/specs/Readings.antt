-- What the bytes of a disk are read as.
use Rattle.std.specs.Prelude.{◌≡◌, ◌⊎◌, ℕ, zero, suc, ◌+◌, ◌≤◌, ◌==◌, Bool, not, ◌&&◌, ◌||◌, if◌then◌else◌, nat_eq, nat_lt, nat_le, Option}
use Rattle.std.specs.Prelude.{Some, None, Result, Ok, Err, List, [], ◌∷◌, ◌++◌, length, take, drop, slice_index, slice_range}
use Rattle.std.specs.Option.{option_map_or}
use lib.Pointwise.{pointwise}
use Rattle.cell_base.specs.declared.shifts.Grant.{Grant}
use Rattle.entry_codec.specs.declared.encoder.TheConstants.{ENTRY_SIZE}
use Rattle.entry_codec.specs.Decoding.{grant_of, number_4}
use Rattle.journal_format.specs.Blanks.{name}
use Rattle.journal_format.specs.declared.blank.BlankForm.TheVariants.{Short, Shut, Named}
use Rattle.journal_format.specs.declared.head.TheConstants.{TEXT_AT}
use Rattle.journal_format.specs.declared.fault.JournalFault.{JournalFault}
use Rattle.journal_format.specs.declared.fault.JournalFault.TheVariants.{NotAJournal, OtherCell, Damaged, Long}
use Rattle.journal_format.specs.declared.head.Head.{Head}
use Rattle.journal_format.specs.declared.head.Head.TheVariants.{Blank, Faulty, Open}

-- the name stands after the file's gate
abbrev pub has_name : ℕ → List ℕ → Bool
has_name len bytes = nat_le 9 len && pointwise nat_eq (slice_range bytes 1 9) name

-- The head of a file of so many bytes: it is blank, or it has a fault, or the file's gate is open and the text has so many bytes.
unfoldable pub head_of : ℕ → List ℕ → Head
head_of len bytes =
    if nat_lt len 2 then Blank Short
    else if slice_index bytes 0 == 0 then Blank Shut
    else if not (has_name len bytes) then Faulty NotAJournal
    else if not (slice_index bytes 0 == 1) then Blank Named
    else if nat_lt len TEXT_AT || nat_lt len (TEXT_AT + number_4 bytes 9) then Faulty (Damaged 9)
    else Open (number_4 bytes 9)

-- the first offset at which two texts differ, or at which one of them ends, where they begin at an offset
abbrev pub first_difference : ℕ → List ℕ → List ℕ → Option ℕ
first_difference at [] [] = None
first_difference at [] (y ∷ ys) = Some at
first_difference at (x ∷ xs) [] = Some at
first_difference at (x ∷ xs) (y ∷ ys) = if x == y then first_difference (at + 1) xs ys else Some at

-- What begins with the gate at an offset: nothing after a closed gate, or a grant.
unfoldable pub gate_at : ℕ → List ℕ → Result (Option Grant) JournalFault
gate_at at [] = Err (Damaged at)
gate_at at (gate ∷ rest) =
    if not (gate == 1) then Ok None
    else if nat_lt (length rest) ENTRY_SIZE then Err (Damaged at)
    else option_map_or (λ grant. Ok (Some grant)) (grant_of (take 16 rest)) (Err (Damaged at))

-- a grant and those after it
abbrev pub with_grant : Grant → Result (List Grant) JournalFault → Result (List Grant) JournalFault
with_grant grant (Ok grants) = Ok (grant ∷ grants)
with_grant grant (Err why) = Err why

-- grants, and those after them
abbrev pub with_grants : List Grant → Result (List Grant) JournalFault → Result (List Grant) JournalFault
with_grants front (Ok grants) = Ok (front ++ grants)
with_grants front (Err why) = Err why

-- what is found at a gate, and after it
abbrev pub after_gate : Result (Option Grant) JournalFault → Result (List Grant) JournalFault → Result (List Grant) JournalFault
after_gate (Err why) rest = Err why
after_gate (Ok None) rest = Ok []
after_gate (Ok (Some grant)) rest = with_grant grant rest

-- The grants from the gate at an offset on, up to the first closed gate, where there is room for so many of `total`.
unfoldable pub grants_from : ℕ → ℕ → ℕ → List ℕ → Result (List Grant) JournalFault
grants_from total zero at bytes = after_gate (gate_at at bytes) (Err (Long (total + 1)))
grants_from total (suc room) at bytes = after_gate (gate_at at bytes) (grants_from total room (at + ENTRY_SIZE) (drop ENTRY_SIZE bytes))

-- a blank file has no list of grants
abbrev pub found : Result (List Grant) JournalFault → Result (Option (List Grant)) JournalFault
found (Ok grants) = Ok (Some grants)
found (Err why) = Err why

-- the text of so many bytes is this one, and then come grants
abbrev pub after_head : List ℕ → List ℕ → ℕ → ℕ → Result (Option (List Grant)) JournalFault
after_head bytes text room size =
    option_map_or (λ at. Err (OtherCell at)) (first_difference 0 (take size (drop TEXT_AT bytes)) text)
    (found (grants_from room room (TEXT_AT + size) (drop (TEXT_AT + size) bytes)))

abbrev pub from_head : List ℕ → List ℕ → ℕ → Head → Result (Option (List Grant)) JournalFault
from_head bytes text room (Blank form) = Ok None
from_head bytes text room (Faulty why) = Err why
from_head bytes text room (Open size) = after_head bytes text room size

-- The bytes of a disk, read with this cell text and with room for so many grants: blank, a list of grants, or a fault.
unfoldable pub read_as : List ℕ → List ℕ → ℕ → Result (Option (List Grant)) JournalFault
read_as bytes text room = from_head bytes text room (head_of (length bytes) bytes)

-- the bytes are read as these grants, where there is room
abbrev pub IsFoundBy : Result (Option (List Grant)) JournalFault → ℕ → List Grant → Type 0
IsFoundBy read room grants = length grants ≤ room → ((read ≡ Ok None) × (grants ≡ [])) ⊎ (read ≡ Ok (Some grants))
