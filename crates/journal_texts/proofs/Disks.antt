-- What was done to a disk, by what its calls say.
use Rattle.std.specs.Prelude.{IfSome, IsSomeAnd, ⊤}
use Rattle.std.proofs.Common.{◌≡◌, ◌⊎◌, inl, inr, ℕ, List, [], Option, Some, None, refl}
use Rattle.outside_io.specs.Disk.{LeavesOnly, Turns}
use Rattle.outside_io.specs.Moments.{followed, widened}
use Rattle.outside_io.specs.Telling.{told, where_told}
use Rattle.durable_cell.specs.Made.{IsUnmade}
use Rattle.journal_format.specs.Journals.{StandsFor}
use Rattle.journal_format.specs.Reads.{OnlyReads}
use Rattle.cell_walks.specs.DiskTold.{AddsNothing, IsOnlyRead, IsReadUntil, SinceEntry, disk_told}

module _ (before now : Option (List ℕ)) where
  -- what a disk that tells shows
  pub now_told : (leaves : List ℕ → Type 0) (P Q : List ℕ → Type 0) → ((file : List ℕ) → P file → Q file) → Turns before now (λ _ _. ⊤)
      → IfSome now (λ file. P file × ((left : List ℕ) → leaves left → P left))
      → IfSome before (λ _. IsSomeAnd now (λ file. Q file × ((left : List ℕ) → leaves left → Q left)))
  now_told leaves P Q weaker tells shows = by_told before now tells shows
    where
      by_told : (before now : Option (List ℕ)) → Turns before now (λ _ _. ⊤)
          → IfSome now (λ file. P file × ((left : List ℕ) → leaves left → P left))
          → IfSome before (λ _. IsSomeAnd now (λ file. Q file × ((left : List ℕ) → leaves left → Q left)))
      by_told None now tells shows = tt
      by_told (Some old) None tells shows = absurd tells
      by_told (Some old) (Some file) tells shows = (weaker file shows.0, λ left is. weaker left (shows.1 left is))

module _ {D : Type 0} (reads_as : D → Option (List ℕ)) (may_leave : D → List ℕ → Type 0) (moment : D → ℕ)
    (left_since : D → ℕ → List ℕ → Type 0) (faults : D → ℕ) where
  -- reads
  pub only_read : (old new : D) → OnlyReads reads_as may_leave moment left_since old new
      → IsOnlyRead (disk_told reads_as may_leave moment left_since faults old new)
  only_read old new reads = record { reads = reads.same; leaves = reads.outcomes; any_moment = reads.any_moment.each }

  -- reads until it was found, and then calls after which a crash leaves what has P
  pub since_entry : (entry found last : D) (P : List ℕ → Type 0) → OnlyReads reads_as may_leave moment left_since entry found
      → IfSome (reads_as entry) (λ _. LeavesOnly moment left_since found last P)
      → SinceEntry (disk_told reads_as may_leave moment left_since faults entry last) P
  since_entry entry found last P read since = record {
    always = where_told (reads_as entry) (λ _. (left : List ℕ) → left_since last (moment entry) left → Then left)
        (λ file is. (followed moment left_since entry found last Then
        (widened moment left_since entry found (may_leave entry) Then read.any_moment (λ c was. inl was))
        (widened moment left_since found last P Then (only file is) (λ c has. inr has))).each);
    found = where_told (reads_as entry)
        (λ _. (time : ℕ) × IsReadUntil reads_as may_leave moment left_since entry last time
        × ((left : List ℕ) → left_since last time left → P left))
        (λ file is. (moment found, (found, read, refl, (only file is).later), (only file is).each));
  }
    where
      Then : List ℕ → Type 0
      Then file = may_leave entry file ⊎ P file

      only : (file : List ℕ) → reads_as entry ≡ Some file → LeavesOnly moment left_since found last P
      only file is = told (reads_as entry) (λ _. LeavesOnly moment left_since found last P) file is since

  -- reads, or a journal that could not be made on a blank disk
  pub adds_nothing : (old new : D) (text : List ℕ)
      → OnlyReads reads_as may_leave moment left_since old new ⊎ IsUnmade reads_as may_leave moment left_since old text new
      → AddsNothing text (disk_told reads_as may_leave moment left_since faults old new)
  adds_nothing old new text (inl reads) = inl (only_read old new reads)
  adds_nothing old new text (inr unmade) = inr (record {
    blank = unmade.blank;
    now = now_told (reads_as old) (reads_as new) (may_leave new) (λ file. StandsFor file text []) (λ file. StandsFor file text [])
        (λ file is. is) unmade.tells unmade.stands;
    any_moment = by_told (reads_as old) unmade.any_moment;
  })
    where
      by_told : (told : Option (List ℕ))
          → IfSome told (λ _. LeavesOnly moment left_since old new (λ file. may_leave old file ⊎ StandsFor file text []))
          → IfSome told (λ _. (left : List ℕ) → left_since new (moment old) left → may_leave old left ⊎ StandsFor left text [])
      by_told None only = tt
      by_told (Some file) only = only.each
