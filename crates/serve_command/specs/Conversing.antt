-- A conversation as it goes on, and how it ends.
use Rattle.std.specs.Prelude.{◌≡◌, ℕ, ◌+◌, ◌≤◌, IfSome, List, [], ◌++◌, length, map, Option, Result, Ok, Err, ⊤}
use Rattle.std.specs.Io.KnownBytes.{Appends}
use Rattle.std.specs.List.{All}
use Rattle.outside_io.specs.Causes.{Rose}
use Rattle.outside_io.specs.Disk.{LeavesOnly, Turns}
use Rattle.outside_io.specs.Puts.{SinkTold, TookAll}
use Rattle.outside_io.specs.Source.{SourceTold}
use Rattle.cell_base.specs.declared.cells.Cell.{Cell}
use Rattle.cell_base.specs.declared.shifts.Grant.{Grant}
use Rattle.journal_format.specs.Journals.{StandsForPrefix, IsBeforeOrAfterAll}
use Rattle.input_lines.specs.Reading.{AreLinesSoFar, LinesState}
use Rattle.move_journal.specs.Disks.{Shows}
use Rattle.cell_walks.specs.Allowed.{AtOpening, StandsForAdded}
use Rattle.cell_walks.specs.DiskTold.{DiskTold}
use Rattle.cell_walks.specs.Outcomes.{IsDelivered, Outcome, early}
use Rattle.cell_walks.specs.declared.status.Status.{Status}
use Rattle.record_printer.specs.Blocks.{left_in_core}
use Rattle.cell_texts.specs.Tests.{KnownCell}
use Rattle.journal_texts.specs.Tests.{to_add}
use Rattle.serve_command.specs.Answers.{line_number, still_lines}
use Rattle.serve_command.specs.Asks.{ask_of}
use Rattle.serve_command.specs.Talks.{opened, since, talk_after}
use Rattle.serve_command.specs.Rounds.{StandsAfter}
use Rattle.serve_command.specs.Serve.{IsServed, answered_lines}
use Rattle.serve_command.specs.Serving.{HasCounts}
use Rattle.serve_command.specs.declared.command.Buffers.{Buffers}
use Rattle.serve_command.specs.declared.command.TheConstants.{MAX_SERVED}
use Rattle.serve_command.specs.declared.replies.TheConstants.{MAX_WAITERS}
use Rattle.serve_command.specs.declared.server.Server.{Server}
use Rattle.wait_queue.specs.Queues.{QueueState}

-- nothing was read
abbrev pub fresh_lines : LinesState
fresh_lines = record { begun = []; ahead = []; line = [] }

-- nobody waits
abbrev pub no_waiters : QueueState
no_waiters = record { waiters = []; watches = []; room = MAX_WAITERS }

-- what a server puts last: who waits still, and the plan of what is left
abbrev pub end_lines : {D : Type 0} → Server D → List (List ℕ)
end_lines server = still_lines server.live.cell server.live.parts server.queue.waiters
    ++ left_in_core (record { cell = server.live.cell; parts = server.live.parts })

-- nothing is in them yet
pub record AreFresh (buffers : Buffers) : Type 0 where
  pub counts : HasCounts [] buffers.counts
  pub queue : buffers.queue ≡ no_waiters
  pub replies : buffers.replies ≡ []
  pub lines : buffers.lines ≡ fresh_lines

module _ {D : Type 0} (reads_as : D → Option (List ℕ)) (may_leave : D → List ℕ → Type 0) (moment : D → ℕ)
    (left_since : D → ℕ → List ℕ → Type 0) (faults : D → ℕ) where
  -- The disk tells where it told, and stands for the grants of the opening and those that were added, with none or with all of those whose
  -- writing failed, which it did only where the count of faults rose. At each moment each image stood for the opening and a prefix of
  -- these.
  pub record IsLeftWith (cell_text : List ℕ) (opening added unsure : List Grant) (old new : D) : Type 0 where
    pub tells : Turns (reads_as old) (reads_as new) (λ _ _. ⊤)
    pub stands : Shows reads_as may_leave new (λ file. IsBeforeOrAfterAll cell_text (opening ++ added) unsure file)
    pub any_moment : IfSome (reads_as old)
        (λ _. LeavesOnly moment left_since old new (StandsForPrefix cell_text opening (added ++ unsure)))
    pub cause : All (λ grant. Rose (faults old) (faults new)) unsure

  module _ (input : SourceTold) (sink : SinkTold) (cell : Cell) (cell_text : List ℕ) (opening : List Grant) (first : D) where
    -- It goes on: these lines were given and answered, and no call of the outside has failed.
    pub record IsConversing (server : Server D) (lines : LinesState) (given : List (List ℕ)) : Type 0 where
      pub text : List ℕ
      pub came : Appends input.given input.given_after text
      pub reads : AreLinesSoFar text given lines
      pub cell_is : server.live.cell ≡ cell
      pub asked : line_number server.asked ≡ line_number (length given)
      pub stands_after : StandsAfter reads_as may_leave cell_text (talk_after cell (opened opening) (map (ask_of cell) given)) server
      pub left : IsLeftWith cell_text opening (since cell (opened opening) (map (ask_of cell) given)) [] first server.live.disk
      pub took : TookAll sink (answered_lines cell opening (map (ask_of cell) given))
      pub sink_still : sink.faults_after ≡ sink.faults
      pub input_still : input.faults_after ≡ input.faults
      pub disk_still : faults server.live.disk ≡ faults first
      pub room : length opening + length (since cell (opened opening) (map (ask_of cell) given)) ≤ MAX_SERVED

    -- It has ended.
    pub record IsServedAfter (last : D) (status : Status) : Type 0 where
      pub outcome : Outcome
      pub served : IsServed cell opening input outcome
      pub delivered : IsDelivered sink outcome status
      pub left : IsLeftWith cell_text opening outcome.added outcome.unsure first last

    -- The input has ended after whole lines that were all answered; or the conversation stopped before, with a status.
    abbrev pub Converses : Server D → Result ⊤ Status → Type 0
    Converses server (Ok _) =
        (lines : LinesState) × (given : List (List ℕ)) × IsConversing server lines given × (lines.ahead ≡ []) × input.ended
    Converses server (Err status) = IsServedAfter server.live.disk status

-- The journal is not opened, and the line of this end is put; or it stands for grants, after which the conversation goes on to its end.
abbrev pub IsServedOnJournal : DiskTold → SourceTold → SinkTold → KnownCell → Status → Type 0
IsServedOnJournal disk input sink held status =
    AtOpening disk (to_add held MAX_SERVED) (λ end. IsDelivered sink (early end) status)
    (λ opening. (outcome : Outcome) × IsServed held.cell opening input outcome × IsDelivered sink outcome status
    × StandsForAdded disk held.text opening outcome.added outcome.unsure)
