-- `feed CELL JOURNAL FROM`: the grants of the journal from an index on, as frames.
use Rattle.std.specs.Prelude.{◌≡◌, ℕ, nat_le, if◌then◌else◌, Some, List, length, Result, Ok, Err, ⊤}
use Rattle.cell_base.specs.declared.shifts.Grant.{Grant}
use Rattle.cell_walks.specs.Allowed.{IsNotOpened, IsOpenedAs}
use Rattle.cell_walks.specs.DiskTold.{DiskTold}
use Rattle.cell_walks.specs.Observed.{Known}
use Rattle.cell_walks.specs.Outcomes.{done}
use Rattle.cell_walks.specs.Walks.{Answers, Journal, Opens, Test, Tests, Walk, refusal_of}
use Rattle.cell_walks.specs.declared.early_end.EarlyEnd.{EarlyEnd}
use Rattle.cell_walks.specs.declared.early_end.EarlyEnd.TheVariants.{Refused}
use Rattle.cell_walks.specs.declared.early_end.Subject.TheVariants.{Command}
use Rattle.cell_texts.specs.Numbers.{number}
use Rattle.cell_texts.specs.OneWay.{once, reads_by}
use Rattle.cell_texts.specs.Tests.{KnownCell, cell_file}
use Rattle.journal_texts.specs.Tests.{to_read}
use Rattle.standby_link.specs.Fed.{fed}
use Rattle.standby_link.specs.Frames.{Feeding}
use Rattle.standby_commands.specs.Lines.{feed_refused}

-- the index is no more than the number of the grants
abbrev pub within : ℕ → List Grant → Result ⊤ ℕ
within first grants = if nat_le first (length grants) then Ok tt else Err (length grants)

-- there are as many grants, status 10
abbrev pub reaches : ℕ → List Grant → Test
reaches first grants = record {
  Value = ⊤;
  Fault = ℕ;
  source = Known;
  subject = Command;
  reads = reads_by (λ bytes. within first grants);
  one_way = once (λ bytes. within first grants);
  line = λ len. Some (feed_refused len);
}

-- what is answered for the grants of a journal: each frame is put by itself
abbrev pub fed_from : ℕ → List Grant → Walk
fed_from first grants =
    Tests (reaches first grants) λ enough.
    Answers λ input outcome. outcome ≡ done (fed first grants)

-- its walk from the cell on, for an index
abbrev pub feed_journal : ℕ → KnownCell → Walk
feed_journal first held = Opens (to_read held) (fed_from first)

-- the index is a word, and for a word that is none the commands are printed
abbrev pub feed : List ℕ → List ℕ → List ℕ → Walk
feed usage cell from =
    Tests (number usage from) λ first.
    Tests (cell_file cell) (feed_journal first)

-- ---- how a `feed` comes about

-- a feeder of these grants, of which there are enough
pub record HasFed (first : ℕ) (grants : List Grant) (feeder : Feeding) : Type 0 where
  pub same : feeder.grants ≡ grants
  pub enough : within first grants ≡ Ok tt

-- an end at an index after these grants
pub record HasTooFew (first : ℕ) (grants : List Grant) (end : EarlyEnd) : Type 0 where
  pub few : within first grants ≡ Err (length grants)
  pub is : end ≡ Refused (refusal_of (reaches first grants) (feed_refused (length grants)))

-- the grants of a journal that was opened, of which there are enough
pub record IsFeeding (disk : DiskTold) (journal : Journal) (first : ℕ) (feeder : Feeding) : Type 0 where
  pub opened : IsOpenedAs disk journal feeder.grants
  pub enough : within first feeder.grants ≡ Ok tt

-- the journal was not opened, or it has too few grants
pub data EndsFeeding (disk : DiskTold) (journal : Journal) (first : ℕ) (end : EarlyEnd) : Type 0 where
  Unopened : IsNotOpened disk journal end → EndsFeeding disk journal first end
  TooFew : (grants : List Grant) → IsOpenedAs disk journal grants → within first grants ≡ Err (length grants)
      → end ≡ Refused (refusal_of (reaches first grants) (feed_refused (length grants))) → EndsFeeding disk journal first end
