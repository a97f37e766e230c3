-- How the outcomes of `follow` come about.
use Rattle.std.specs.Prelude.{IfSome, Option}
use Rattle.std.proofs.Common.{◌≡◌, ℕ, List, [], Result, Ok, Err, refl, ap, subst}
use Rattle.cell_base.specs.declared.shifts.Grant.{Grant}
use Rattle.durable_cell.specs.DurableState.{DurableState}
use Rattle.durable_cell.specs.Openings.{fresh}
use Rattle.journal_format.specs.Replayed.{AreDue, opened_as}
use Rattle.durable_cell.specs.declared.replays.TheConstants.{MAX_ROOM}
use Rattle.cell_walks.specs.Allowed.{AllowsFrom, ByMemory, IsEndedAt, JournalOpened, NotOpened}
use Rattle.cell_walks.specs.Allowed.{OpeningStarved, Opened, Passed, Stopped, Unasked}
use Rattle.cell_walks.specs.DiskTold.{DiskTold, IsOnlyRead, IsUntouched, disk_told}
use Rattle.cell_walks.specs.Observed.{FilesTold, Observed, ShowsFile, observed}
use Rattle.cell_walks.specs.Outcomes.{Outcome, or_early}
use Rattle.cell_walks.specs.Walks.{Opens}
use Rattle.cell_walks.specs.declared.early_end.EarlyEnd.{EarlyEnd}
use Rattle.cell_walks.specs.declared.early_end.EarlyEnd.TheVariants.{WantOfMemory}
use Rattle.cell_walks.proofs.Steps.{ended_at}
use Rattle.cell_texts.specs.Tests.{KnownCell}
use Rattle.cell_driver.specs.Driving.{Adding, Allowed, IsMade, adding}
use Rattle.journal_texts.specs.Tests.{to_add}
use Rattle.standby_commands.specs.Follow.{follow_frames, stands_by}
use Rattle.standby_commands.specs.Following.{HasFollowedOn, IsFollowedOnJournal, follow_outcome}
use Rattle.standby_commands.specs.FrameFiles.{frames_file, frames_reads}
use Rattle.standby_commands.specs.declared.follow.Followed.{Followed}

-- what came of frames in a durable cell that was opened
pub followed_opened : {D : Type 0} (reads_as : D → Option (List ℕ)) (may_leave : D → List ℕ → Type 0) (moment : D → ℕ)
    (left_since : D → ℕ → List ℕ → Type 0) (faults : D → ℕ) (held : KnownCell) (frames : List (List ℕ)) (disk new : D)
    (durable : DurableState D) (limit : ℕ) (made : Result Followed EarlyEnd)
    → durable ≡ fresh held.cell held.text disk durable.found durable.disk durable.opening limit
    → IfSome (reads_as disk) (λ file. opened_as held.cell file held.text MAX_ROOM ≡ Ok durable.opening)
    → AreDue durable.cell durable.opening
    → HasFollowedOn (disk_told reads_as may_leave moment left_since faults durable.entry new) durable.cell durable.text
    durable.opening frames
    made
    → IsFollowedOnJournal (disk_told reads_as may_leave moment left_since faults disk new) held frames made
followed_opened {D} reads_as may_leave moment left_since faults held frames disk new durable limit made is exact due has =
    JournalOpened durable.opening (subst (λ (d : DurableState D). AreDue d.cell durable.opening) is due, exact)
    (subst (λ (d : DurableState D). HasFollowedOn (disk_told reads_as may_leave moment left_since faults d.entry new) d.cell d.text
    durable.opening frames made) is has)

-- there is no memory for the answers
pub starved : (disk : DiskTold) (held : KnownCell) (frames : List (List ℕ)) → IsOnlyRead disk
    → IsFollowedOnJournal disk held frames (Err WantOfMemory)
starved disk held frames only = NotOpened WantOfMemory (OpeningStarved refl only) refl

-- ---- the walk

-- what is made of the frames, with what was added
abbrev followed_adding : Result Followed EarlyEnd → List Grant → List Grant → Outcome
followed_adding made added unsure = adding (or_early (λ followed. follow_outcome followed [] []) made) added unsure

module _ (seen : Observed) (held : KnownCell) (frames : List (List ℕ)) where
  from_grants : (opening : List Grant) (made : Result Followed EarlyEnd) → HasFollowedOn seen.disk held.cell held.text opening frames made
      → (added : List Grant) × (unsure : List Grant)
      × AllowsFrom seen (followed_adding made added unsure) (Opened held.text opening) (stands_by held frames opening)
  from_grants opening (Ok followed) (added, unsure, follows, stands) = (added, unsure, Passed tt tt (follows, stands))
  from_grants opening (Err end) (is, stands) = ([], [], Stopped end (ByMemory is) (refl, stands))

  from_journal : (made : Result Followed EarlyEnd) → IsFollowedOnJournal seen.disk held frames made
      → (added : List Grant) × (unsure : List Grant)
      × AllowsFrom seen (followed_adding made added unsure) Unasked (Opens (to_add held MAX_ROOM) (stands_by held frames))
  from_journal made (NotOpened end ended is) =
      ([], [], NotOpened end ended (ap (λ (m : Result Followed EarlyEnd). followed_adding m [] []) is))
  from_journal made (JournalOpened opening opened has) =
      let after = from_grants opening made has in
      (after.0, after.1, JournalOpened opening opened after.2)

module _ (files : FilesTold) (disk : DiskTold) (held : KnownCell) (name : List ℕ) where
  -- the frames were not read
  pub follow_without_frames : (end : EarlyEnd) → IsUntouched disk → IsEndedAt files (frames_file name) end
      → IsMade files disk (follow_frames name held) (λ followed. follow_outcome followed [] []) (Err end)
  follow_without_frames end still ended =
      Allowed
      (ended_at (observed files disk) Unasked (frames_file name) (λ list. Opens (to_add held MAX_ROOM) (stands_by held list)) end ended still)

  -- they were, and were taken; or the command ended before them
  pub follow_on_disk : (list : List (List ℕ)) → ShowsFile files name (λ bytes. frames_reads bytes (Ok list))
      → (made : Result Followed EarlyEnd) → IsFollowedOnJournal disk held list made
      → IsMade files disk (follow_frames name held) (λ followed. follow_outcome followed [] []) made
  follow_on_disk list read made has =
      let after = from_journal (observed files disk) held list made has in Adding after.0 after.1 (Passed list read after.2)
