-- What the disk of a durable cell tells, by what the durable cell keeps.
use Rattle.std.specs.Prelude.{IfSome, MatchOption, ⊤}
use Rattle.std.specs.Option.{option_to_list}
use Rattle.std.proofs.Common.{◌≡◌, ◌⊎◌, inl, inr, ℕ, List, [], ◌++◌, All, Option, Some, None, sym, subst, append_assoc}
use Rattle.std.proofs.lemmas.List.Elements.{All-cons, All-nil}
use Rattle.cell_base.specs.declared.shifts.Grant.{Grant}
use Rattle.outside_io.specs.Causes.{Rose}
use Rattle.outside_io.specs.Disk.{LeavesOnly, Turns}
use Rattle.outside_io.specs.Telling.{told, turned, where_told}
use Rattle.durable_cell.specs.DurableState.{DurableState}
use Rattle.durable_cell.specs.Kept.{KeepsDisk, StandsBetween, StandsNow}
use Rattle.journal_format.specs.Journals.{StandsFor}
use Rattle.cell_walks.specs.Allowed.{StandsForAdded}
use Rattle.cell_walks.specs.DiskTold.{disk_told}
use Rattle.journal_texts.proofs.Disks.{now_told, since_entry}

module _ {D : Type 0} (reads_as : D → Option (List ℕ)) (may_leave : D → List ℕ → Type 0) (moment : D → ℕ)
    (left_since : D → ℕ → List ℕ → Type 0) (faults : D → ℕ) (durable : DurableState D)
    (keeps : KeepsDisk reads_as may_leave moment left_since faults durable) where
  abbrev Stands : List Grant → List ℕ → Type 0
  Stands unsure file = StandsFor file durable.text (durable.opening ++ durable.added)
      ⊎ StandsFor file durable.text (durable.opening ++ durable.added ++ unsure)

  by_unsure : (file : List ℕ) (unsure : List Grant)
      → StandsFor file durable.text (durable.opening ++ durable.added)
      ⊎ StandsFor file durable.text (durable.opening ++ (durable.added ++ unsure)) → Stands unsure file
  by_unsure file unsure (inl stands) = inl stands
  by_unsure file unsure (inr stands) =
      inr (subst (StandsFor file durable.text) (sym (append_assoc durable.opening durable.added unsure)) stands)

  caused : (unsure : Option Grant)
      → MatchOption unsure (faults durable.disk ≡ faults durable.entry) (λ _. Rose (faults durable.entry) (faults durable.disk))
      → All (λ grant. Rose (faults durable.entry) (faults durable.disk)) (option_to_list unsure)
  caused None count = All-nil (λ grant. Rose (faults durable.entry) (faults durable.disk))
  caused (Some last) count =
      let P : Grant → Type 0 = λ grant. Rose (faults durable.entry) (faults durable.disk) in All-cons P last [] count (All-nil P)

  since_found : IfSome (reads_as durable.entry) (λ _. LeavesOnly moment left_since durable.found durable.disk (StandsBetween durable))
  since_found = where_told (reads_as durable.entry) (λ _. LeavesOnly moment left_since durable.found durable.disk (StandsBetween durable))
      (λ file is. let now = turned (reads_as durable.entry) (reads_as durable.disk) (λ _ _. ⊤) file is keeps.tells in
      told (reads_as durable.disk) (λ _. LeavesOnly moment left_since durable.found durable.disk (StandsBetween durable)) now.0 now.1
      keeps.any_moment)

  stands_now : StandsForAdded (disk_told reads_as may_leave moment left_since faults durable.entry durable.disk) durable.text
      durable.opening durable.added (option_to_list durable.unsure)
  stands_now = record {
    now = now_told (reads_as durable.entry) (reads_as durable.disk) (may_leave durable.disk) (StandsNow durable)
        (Stands (option_to_list durable.unsure))
        (λ file. by_unsure file (option_to_list durable.unsure)) keeps.tells keeps.stands;
    any_moment = since_entry reads_as may_leave moment left_since faults durable.entry durable.found durable.disk (StandsBetween durable)
        keeps.read since_found;
    cause = caused durable.unsure keeps.count;
  }

  -- it stands for the grants of the opening and those that were added, also as it is handed back
  pub stands_for_added : (disk : D) → disk ≡ durable.disk
      → StandsForAdded (disk_told reads_as may_leave moment left_since faults durable.entry disk) durable.text durable.opening durable.added
      (option_to_list durable.unsure)
  stands_for_added disk is =
      subst (λ (d : D). StandsForAdded (disk_told reads_as may_leave moment left_since faults durable.entry d) durable.text durable.opening
      durable.added (option_to_list durable.unsure)) (sym is) stands_now
