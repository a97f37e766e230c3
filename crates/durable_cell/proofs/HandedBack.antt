-- What is known of a disk that is handed back, whatever the cause.
use Rattle.std.specs.Prelude.{Option, Some, Result, Ok, Err}
use Rattle.std.proofs.Common.{◌≡◌, ℕ, List, inl, sym, ◌∙◌}
use Rattle.cell_base.specs.declared.shifts.Grant.{Grant}
use Rattle.outside_io.specs.Telling.{told}
use Rattle.journal_format.specs.declared.fault.JournalFault.{JournalFault}
use Rattle.shift_recovery.specs.declared.open_error.OpenFault.{OpenFault}
use Rattle.shift_recovery.specs.declared.open_error.OpenFault.TheVariants.{Refused, Device, Memory}
use Rattle.shift_recovery.specs.Opening.{IsOutside, IsRefusalOf}
use Rattle.journal_format.specs.Reads.{OnlyReads}
use Rattle.durable_cell.specs.Openings.{IsHandedBack}

-- a disk that was only read is handed back as it may be
pub handed_back : {D : Type 0} (reads_as : D → Option (List ℕ)) (may_leave : D → List ℕ → Type 0) (moment : D → ℕ)
    (left_since : D → ℕ → List ℕ → Type 0) (old : D) (text : List ℕ) (disk : D) (why : OpenFault)
    → OnlyReads reads_as may_leave moment left_since old disk → IsHandedBack reads_as may_leave moment left_since old text disk why
handed_back reads_as may_leave moment left_since old text disk (Refused why) reads = reads
handed_back reads_as may_leave moment left_since old text disk Device reads = inl reads
handed_back reads_as may_leave moment left_since old text disk Memory reads = reads

-- bytes that open as grants are not refused
pub is_outside : (reads : Option (List ℕ)) (opens : List ℕ → Result (List Grant) JournalFault) (file : List ℕ) (grants : List Grant)
    → reads ≡ Some file → opens file ≡ Ok grants → (why : OpenFault) → IsRefusalOf reads opens why → IsOutside why
is_outside reads opens file grants is opened (Refused why) refused =
    let no : Err why ≡ Ok grants = sym (told _ _ file is refused) ∙ opened in absurd cc
is_outside reads opens file grants is opened Device refused = tt
is_outside reads opens file grants is opened Memory refused = tt
