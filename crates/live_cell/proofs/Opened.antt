-- What was resumed, and a live cell that is made of it.
use Rattle.std.specs.Prelude.{Option, IfSome}
use Rattle.std.proofs.Common.{◌≡◌, ℕ, List, [], subst}
use Rattle.cell_base.specs.declared.cells.Cell.{Cell}
use Rattle.cell_base.specs.declared.shifts.Grant.{Grant}
use Rattle.outside_io.specs.Disk.{Turns, LeavesOnly}
use Rattle.move_journal.specs.Groups.{GroupState}
use Rattle.journal_format.specs.Journals.{StandsFor}
use Rattle.move_journal.specs.Kept.{JournalState}
use Rattle.journal_format.specs.Reads.{OnlyReads}
use Rattle.durable_cell.specs.Made.{IsJournalOf}
use Rattle.durable_cell.specs.Resumed.{IsOpenedAfter, disk_resumed}
use Rattle.durable_cell.specs.declared.resumed.Resumed.{Resumed}
use Rattle.live_cell.specs.LiveState.{seen}
use Rattle.live_cell.specs.Openings.{IsLiveAfter, IsOpened}

module _ {D : Type 0} (reads_as : D → Option (List ℕ)) (may_leave : D → List ℕ → Type 0) (moment : D → ℕ)
    (left_since : D → ℕ → List ℕ → Type 0) (faults : D → ℕ) where
  -- a disk that was read, and holds a journal of the grants for which it stood
  opened : (old found : D) (text : List ℕ) (grants : List Grant) (journal : JournalState D)
      → OnlyReads reads_as may_leave moment left_since old found
      → IsJournalOf reads_as may_leave moment left_since faults found text grants journal
      → IsOpened reads_as may_leave moment left_since old text grants journal.disk
  opened old found text grants journal read made = record {
    found = found;
    read = read;
    tells = subst (λ (o : Option (List ℕ)). Turns o (reads_as journal.disk) (λ _ _. Unit {0})) read.same made.tells;
    stands = made.stands;
    any_moment = subst (λ (o : Option (List ℕ)). IfSome o (λ _. LeavesOnly moment left_since found journal.disk
        (λ file. StandsFor file text grants))) read.same made.any_moment;
  }

  -- with an empty group it is a live cell after these grants
  pub live_after : {K : Type 0} (cell : Cell) (text : List ℕ) (room most : ℕ) (visited : K → ℕ → List Grant → K → Type 0) (disk : D) (old : K)
      (from : Resumed D K) (journal : JournalState D) (group : GroupState)
      (resumed : IsOpenedAfter reads_as may_leave disk cell text room visited old from)
      → OnlyReads reads_as may_leave moment left_since disk (disk_resumed from)
      → IsJournalOf reads_as may_leave moment left_since faults (disk_resumed from) text resumed.grants journal
      → group ≡ record { grants = []; spare = most }
      → IsLiveAfter reads_as may_leave moment left_since cell text room most visited disk old resumed.grants
      (seen from.core journal group room) from.kept
  live_after cell text room most visited disk old from journal group resumed read made none = record {
    state = λ i. record {
      cell = (resumed.core.state i).cell;
      parts = (resumed.core.state i).parts;
      disk = journal.disk;
      len = made.len i;
      pending = (none i).grants;
      spare = (none i).spare;
      room = room;
      is_halted = made.runs i;
    };
    due = resumed.core.due;
    few = resumed.core.few;
    taken = (resumed.first, resumed.taken);
    exact = resumed.opened;
    stands = opened disk (disk_resumed from) text resumed.grants journal read made;
  }
