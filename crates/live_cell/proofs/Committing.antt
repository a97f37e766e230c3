-- What an append says of its disk, whether the disk tells or not.
use Rattle.std.specs.Prelude.{Option, Some}
use Rattle.std.proofs.Common.{◌≡◌, ℕ, List}
use Rattle.cell_base.specs.declared.shifts.Grant.{Grant}
use Rattle.outside_io.specs.Disk.{Turns}
use Rattle.outside_io.specs.Telling.{where_told, told, turned_back}
use Rattle.move_journal.specs.Disks.{Shows}
use Rattle.journal_format.specs.Journals.{StandsFor}

module _ {D : Type 0} (reads_as : D → Option (List ℕ)) (may_leave : D → List ℕ → Type 0) where
  -- what it says of a file that the disk told
  pub shows_after : (old new : D) (text : List ℕ) (grants : List Grant) (P : List ℕ → Type 0)
      → Turns (reads_as old) (reads_as new) (λ _ _. Unit {0})
      → ((file : List ℕ) → reads_as old ≡ Some file → StandsFor file text grants → Shows reads_as may_leave new P)
      → Shows reads_as may_leave old (λ file. StandsFor file text grants) → Shows reads_as may_leave new P
  shows_after old new text grants P tells appended shows = where_told (reads_as new)
      (λ file. P file × ((c : List ℕ) → may_leave new c → P c)) (λ now is_now.
      let before = turned_back _ _ _ now is_now tells in
      told _ _ now is_now (appended before.0 before.1 (told _ _ before.0 before.1 shows).0))
