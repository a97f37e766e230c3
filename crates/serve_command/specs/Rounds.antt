-- One round of a conversation.
use Rattle.std.specs.Prelude.{◌≡◌, ℕ, ◌+◌, ◌<◌, ◌≤◌, Bool, true, false, IfSome, List, [], ◌∷◌, ◌++◌, length, map, Option, Result, Ok, Err, ⊤}
use Rattle.std.specs.List.{All}
use Rattle.outside_io.specs.Disk.{LeavesOnly, Turns}
use Rattle.outside_io.specs.Causes.{Rose}
use Rattle.outside_io.specs.Puts.{SinkTold, TookAll}
use Rattle.cell_base.specs.declared.cells.Cell.{Cell}
use Rattle.cell_base.specs.declared.shifts.Grant.{Grant}
use Rattle.input_lines.specs.Reading.{AreLinesSoFar, LinesState}
use Rattle.move_journal.specs.Disks.{Shows}
use Rattle.journal_format.specs.Journals.{IsBeforeOrAfterAll, StandsFor}
use Rattle.cell_walks.specs.Outcomes.{IsDelivered, Outcome}
use Rattle.cell_walks.specs.declared.status.Status.{Status}
use Rattle.serve_command.specs.Answers.{answers, line_number}
use Rattle.serve_command.specs.Asks.{ask_of}
use Rattle.serve_command.specs.Talks.{Talk, since, talk_after}
pub use Rattle.serve_command.specs.Serve.{Stops, full_line}
pub use Rattle.serve_command.specs.Serving.{IsJournalFull, IsAnsweredGroup, HasNoGroup, KeepsWaiters, StandsAt, Stays}
use Rattle.serve_command.specs.declared.asks.Ask.{Ask}
pub use Rattle.serve_command.specs.declared.command.TheConstants.{MAX_SERVED}
pub use Rattle.serve_command.specs.declared.replies.TheConstants.{GROUP_LINES, MAX_REPLIES}
use Rattle.serve_command.specs.declared.server.Server.{Server}

-- which lines were taken: those of the group, and the one that found the journal full
abbrev pub AreGroupLines : Cell → Talk → List ℕ → List (List ℕ) → List (List ℕ) → LinesState → Bool → Type 0
AreGroupLines cell talk text given group lines false = AreLinesSoFar text (given ++ group) lines
AreGroupLines cell talk text given group lines true =
    (line : List ℕ) × AreLinesSoFar text (given ++ group ++ line ∷ []) lines
    × IsJournalFull cell (talk_after cell talk (map (ask_of cell) group)) (ask_of cell line)

-- While bytes that were read are ahead, some of them are taken.
abbrev pub TakesSome : LinesState → LinesState → Type 0
TakesSome old new = 0 < length old.ahead → length new.ahead < length old.ahead

-- at most so many lines were answered as a group
abbrev pub IsGroupOfLines : {D : Type 0} → Cell → Talk → ℕ → List ℕ → List (List ℕ) → Server D → LinesState → Bool → Type 0
IsGroupOfLines cell talk number text given server lines full =
    (group : List (List ℕ)) × IsAnsweredGroup cell talk number (map (ask_of cell) group) server
    × AreGroupLines cell talk text given group lines full × (length group ≤ GROUP_LINES)

-- The server stands after this talk, and so does its disk, with this cell text.
pub record StandsAfter {D : Type 0} (reads_as : D → Option (List ℕ)) (may_leave : D → List ℕ → Type 0) (cell_text : List ℕ) (talk : Talk)
    (server : Server D) : Type 0 where
  pub at : StandsAt talk server
  pub disk : Shows reads_as may_leave server.live.disk (λ file. StandsFor file cell_text talk.granted)

-- The disk tells where it told, and at each moment each image stood for the grants, or for these and all of the others.
pub record Moves {D : Type 0} (reads_as : D → Option (List ℕ)) (moment : D → ℕ) (left_since : D → ℕ → List ℕ → Type 0)
    (cell_text : List ℕ) (grants more : List Grant) (old new : D) : Type 0 where
  pub tells : Turns (reads_as old) (reads_as new) (λ _ _. ⊤)
  pub any_moment : IfSome (reads_as old) (λ _. LeavesOnly moment left_since old new (IsBeforeOrAfterAll cell_text grants more))

module _ {D : Type 0} (reads_as : D → Option (List ℕ)) (may_leave : D → List ℕ → Type 0) (moment : D → ℕ)
    (left_since : D → ℕ → List ℕ → Type 0) (faults : D → ℕ) (cell : Cell) (sink : SinkTold) (cell_text : List ℕ) (talk : Talk)
    (text : List ℕ) (given : List (List ℕ)) (old new : Server D) (lines : LinesState) where
  -- These lines were answered, and their grants are on the disk.
  pub record IsRound (group : List (List ℕ)) : Type 0 where
    pub cell_is : new.live.cell ≡ cell
    pub stands_after : StandsAfter reads_as may_leave cell_text (talk_after cell talk (map (ask_of cell) group)) new
    pub moves : Moves reads_as moment left_since cell_text talk.granted (since cell talk (map (ask_of cell) group)) old.live.disk
        new.live.disk
    pub asked : line_number new.asked ≡ line_number (old.asked + length group)
    pub reads : AreLinesSoFar text (given ++ group) lines
    pub took : TookAll sink (answers cell talk (old.asked + 1) (map (ask_of cell) group))
    pub room : length talk.granted + length (since cell talk (map (ask_of cell) group)) ≤ MAX_SERVED

  -- The conversation stops: of what these lines ask, the first asks were answered, and the others were not.
  pub record IsLastRound (status : Status) : Type 0 where
    pub taken : List (List ℕ)
    pub group : List Ask
    pub others : List Ask
    pub parted : map (ask_of cell) taken ≡ group ++ others
    pub reads : AreLinesSoFar text (given ++ taken) lines
    pub outcome : Outcome
    pub stops : Stops cell (talk_after cell talk group) (answers cell talk (old.asked + 1) group) (since cell talk group) others outcome
    pub delivered : IsDelivered sink outcome status
    pub disk : Shows reads_as may_leave new.live.disk (λ file. IsBeforeOrAfterAll cell_text (talk.granted ++ outcome.added) outcome.unsure file)
    pub moves : Moves reads_as moment left_since cell_text talk.granted (outcome.added ++ outcome.unsure) old.live.disk new.live.disk
    pub cause : All (λ grant. Rose (faults old.live.disk) (faults new.live.disk)) outcome.unsure
    pub room : length talk.granted + length outcome.added + length outcome.unsure ≤ MAX_SERVED

  -- one of the two
  abbrev pub Rounds : Result ⊤ Status → Type 0
  Rounds (Ok _) = (group : List (List ℕ)) × IsRound group
  Rounds (Err status) = IsLastRound status
