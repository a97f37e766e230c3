-- What a crash may leave since the disk was handed to `open`.
use Rattle.std.specs.Prelude.{◌⊎◌, ℕ, Option, IfSome, List}
use Rattle.std.proofs.Common.{inl, inr, ⊎_elim, sym, subst}
use Rattle.std.proofs.lemmas.List.{append-nil}
use Rattle.cell_base.specs.declared.shifts.Grant.{Grant}
use Rattle.outside_io.specs.Disk.{LeavesOnly}
use Rattle.outside_io.specs.Moments.{widened, followed}
use Rattle.outside_io.specs.Telling.{where_told, told}
use Rattle.journal_format.specs.Journals.{StandsFor}
use Rattle.durable_cell.specs.DurableState.{DurableState}
use Rattle.durable_cell.specs.Kept.{KeepsDisk, StandsBetween}

module _ {D : Type 0} (reads_as : D → Option (List ℕ)) (may_leave : D → List ℕ → Type 0) (moment : D → ℕ)
    (left_since : D → ℕ → List ℕ → Type 0) (faults : D → ℕ) where
  -- each image was one of then, or stands for a prefix of what was granted
  pub since_entry : (durable : DurableState D) → KeepsDisk reads_as may_leave moment left_since faults durable
      → IfSome (reads_as durable.disk) (λ _. LeavesOnly moment left_since durable.entry durable.disk
      (λ file. may_leave durable.entry file ⊎ StandsBetween durable file))
  since_entry durable keeps = where_told (reads_as durable.disk)
      (λ _. LeavesOnly moment left_since durable.entry durable.disk P) (λ now is_now.
      followed moment left_since durable.entry durable.found durable.disk P
      (widened moment left_since durable.entry durable.found _ P keeps.read.any_moment (λ c was. inl was))
      (widened moment left_since durable.found durable.disk _ P (told _ _ now is_now keeps.any_moment) (λ c stands. inr stands)))
    where
      P : List ℕ → Type 0
      P file = may_leave durable.entry file ⊎ StandsBetween durable file

  -- so where each image of then stood for the grants of the opening, each image since stands for a prefix of what was granted
  pub since_entry_stood : (durable : DurableState D) → KeepsDisk reads_as may_leave moment left_since faults durable
      → ((c : List ℕ) → may_leave durable.entry c → StandsFor c durable.text durable.opening)
      → IfSome (reads_as durable.disk) (λ _. LeavesOnly moment left_since durable.entry durable.disk (StandsBetween durable))
  since_entry_stood durable keeps stood = where_told (reads_as durable.disk)
      (λ _. LeavesOnly moment left_since durable.entry durable.disk (StandsBetween durable)) (λ now is_now.
      widened moment left_since durable.entry durable.disk _ (StandsBetween durable) (told _ _ now is_now (since_entry durable keeps))
      (λ c. ⊎_elim (λ was. (0, subst (λ (gs : List Grant). StandsFor c durable.text gs) (sym (append-nil durable.opening)) (stood c was)))
      (λ stands. stands)))
