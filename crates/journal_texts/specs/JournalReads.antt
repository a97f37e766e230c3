-- A journal that was read: its grants, and the state after them.
use Rattle.std.specs.Prelude.{◌≡◌, ℕ, List, length, IfSome}
use Rattle.std.specs.List.{All}
use Rattle.cell_base.specs.declared.shifts.Grant.{Grant}
use Rattle.cell_base.specs.Fits.{RequestFits}
use Rattle.cell_base.specs.Histories.{replay}
use Rattle.outside_io.specs.Disk.{Only}
use Rattle.cell_walks.specs.Allowed.{IsOpenedAs}
use Rattle.cell_walks.specs.DiskTold.{DiskTold}
use Rattle.cell_walks.specs.Walks.{Journal}
use Rattle.journal_texts.specs.declared.readers.AfterGrants.{AfterGrants}
use Rattle.journal_texts.specs.declared.readers.Found.{Found}
use Rattle.journal_texts.specs.declared.readers.Replayed.{Replayed}

-- what was read is stable: no call failed, and a crash now leaves no other file than the one that the disk reads as
pub record IsStable (disk : DiskTold) : Type 0 where
  pub counts : disk.faults_after ≡ disk.faults
  pub leaves : IfSome disk.reads (λ file. Only file disk.leaves_after)

-- the state after the grants of a journal that was opened, and how many they are
pub record IsAfterGrants (disk : DiskTold) (journal : Journal) (after : AfterGrants) : Type 0 where
  pub grants : List Grant
  pub opened : IsOpenedAs disk journal grants
  pub core : after.core ≡ record { cell = journal.cell; parts = replay journal.cell grants }
  pub count : after.grants ≡ length grants

-- the grants of a journal that was opened, and the state after them
pub record IsFound (disk : DiskTold) (journal : Journal) (found : Found) : Type 0 where
  pub opened : IsOpenedAs disk journal found.grants
  pub core : found.core ≡ record { cell = journal.cell; parts = replay journal.cell found.grants }

-- each of the grants fits the cell
abbrev pub GrantsFit : Found → Type 0
GrantsFit found = All (λ (grant : Grant). RequestFits found.core.cell grant.request) found.grants

-- the grants of a journal that was opened, which a visitor has seen, and the state after them
pub record IsReplayed {K : Type 0} (disk : DiskTold) (journal : Journal) (visited : K → ℕ → List Grant → K → Type 0) (old : K)
    (replayed : Replayed K) : Type 0 where
  pub first : ℕ
  pub grants : List Grant
  pub taken : visited old first grants replayed.kept
  pub opened : IsOpenedAs disk journal grants
  pub core : replayed.core ≡ record { cell = journal.cell; parts = replay journal.cell grants }
  pub count : replayed.count ≡ length grants
