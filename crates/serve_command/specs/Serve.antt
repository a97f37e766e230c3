-- `serve CELL JOURNAL`: the lines of the input, each answered after the grants of the journal and of the lines before it.
use Rattle.std.specs.Prelude.{◌≡◌, ◌<◌, ◌≤◌, ℕ, ◌+◌, List, [], ◌∷◌, ◌++◌, length}
use Rattle.std.specs.Io.KnownBytes.{Appends}
use Rattle.outside_io.specs.Causes.{Rose}
use Rattle.cell_base.specs.declared.cells.Cell.{Cell}
use Rattle.cell_base.specs.declared.shifts.Grant.{Grant}
use Rattle.cell_base.specs.Histories.{replay}
use Rattle.cell_base.specs.Plans.{Drains, plan_of}
use Rattle.record_text.specs.Lines.{head_words, line_of}
use Rattle.journal_format.specs.declared.fault.JournalFault.TheVariants.{Long}
use Rattle.outside_io.specs.Source.{SourceTold}
use Rattle.cell_walks.specs.Outcomes.{Outcome}
use Rattle.cell_walks.specs.Statuses.{early_line}
use Rattle.cell_walks.specs.Walks.{Walk, Tests, Opens, Answers}
use Rattle.cell_walks.specs.declared.early_end.EarlyEnd.TheVariants.{NotRead}
use Rattle.cell_walks.specs.declared.status.Status.TheVariants.{Done, DeviceFault, JournalRefused, ReadFault, SinkFault}
use Rattle.record_printer.specs.Blocks.{Lines, left_lines}
use Rattle.cell_texts.specs.Tests.{cell_file}
use Rattle.journal_texts.specs.Tests.{journal_line, to_add}
use Rattle.serve_command.specs.Answers.{answers, halted_line, still_lines}
use Rattle.serve_command.specs.Serving.{IsJournalFull}
use Rattle.serve_command.specs.Asks.{asks_in}
use Rattle.serve_command.specs.Talks.{Talk, added_by, opened, since, talk_after}
use Rattle.serve_command.specs.declared.asks.Ask.{Ask}
use Rattle.serve_command.specs.declared.command.TheConstants.{MAX_SERVED}
use Rattle.serve_command.specs.declared.replies.TheConstants.{GROUP_LINES}

-- the head, and the answers to these asks
abbrev pub answered_lines : Cell → List Grant → List Ask → Lines
answered_lines cell opening asked = line_of (head_words 0 (length opening)) ∷ answers cell (opened opening) 1 asked

-- the line of a journal that has no room for one grant more
abbrev pub full_line : List ℕ
full_line = journal_line (Long (MAX_SERVED + 1))

-- what is put last: that those wait still that do, how many parts are left, and the plan that drains them
abbrev pub last_lines : Cell → Talk → Lines
last_lines cell talk =
    let left = replay cell talk.granted in still_lines cell left talk.waiters ++ left_lines cell (length left) (plan_of cell left)

-- How a conversation stops after this talk, with the next asks not answered: these lines were put, and these grants were added.
pub data Stops (cell : Cell) (talk : Talk) (put : Lines) (added : List Grant) (others : List Ask) (outcome : Outcome) : Type 0 where
  -- The next ask would be granted, and the journal has no room for its grant and one of each session that waits.
  FullJournal : (next : Ask) (rest : List Ask) → others ≡ next ∷ rest → IsJournalFull cell talk next
      → outcome ≡ record { status = JournalRefused; pieces = put ++ full_line ∷ []; added = added; unsure = [] }
      → Stops cell talk put added others outcome
  -- The device failed at the grant of the next ask, which is told to have halted, and at those of the asks after it in its group.
  FailedDevice : (next : Ask) (group rest : List Ask) → others ≡ next ∷ group ++ rest → length (next ∷ group) ≤ GROUP_LINES
      → 0 < length (added_by cell talk next)
      → outcome ≡ record {
        status = DeviceFault;
        pieces = put ++ halted_line cell next ∷ [];
        added = added;
        unsure = since cell talk (next ∷ group);
      }
      → Stops cell talk put added others outcome
  -- The sink failed at an answer.
  FailedSink : outcome ≡ record { status = SinkFault; pieces = put; added = added; unsure = [] }
      → Stops cell talk put added others outcome

-- how it ends
pub data EndsServing (cell : Cell) (talk : Talk) (input : SourceTold) (put : Lines) (added : List Grant) (others : List Ask)
    (outcome : Outcome) : Type 0 where
  -- The input has ended: each session that waits is told so, then the parts that are left are told, and the plan that drains them.
  InputEnded : others ≡ [] → input.ended → (let left = replay cell talk.granted in Drains cell left (plan_of cell left))
      → outcome ≡ record {
        status = Done;
        pieces = put ++ last_lines cell talk;
        added = added;
        unsure = [];
      }
      → EndsServing cell talk input put added others outcome
  -- It could not be read.
  InputLost : others ≡ [] → Rose input.faults input.faults_after
      → outcome ≡ record { status = ReadFault; pieces = put ++ early_line NotRead ∷ []; added = added; unsure = [] }
      → EndsServing cell talk input put added others outcome
  -- It stops before.
  Stopped : Stops cell talk put added others outcome → EndsServing cell talk input put added others outcome

-- The source gave this text. What its whole lines ask was answered in turn, up to the end of the conversation. The journal has room for
-- all grants.
pub record IsServed (cell : Cell) (opening : List Grant) (input : SourceTold) (outcome : Outcome) : Type 0 where
  pub text : List ℕ
  pub came : Appends input.given input.given_after text
  pub asked : List Ask
  pub others : List Ask
  pub split : asks_in cell text ≡ asked ++ others
  pub ends : EndsServing cell (talk_after cell (opened opening) asked) input (answered_lines cell opening asked)
      (since cell (opened opening) asked) others outcome
  pub room : length opening + length outcome.added + length outcome.unsure ≤ MAX_SERVED

-- the walk of `serve`
abbrev pub serve : List ℕ → Walk
serve cell =
    Tests (cell_file cell) λ held.
    Opens (to_add held MAX_SERVED) λ opening.
    Answers λ input outcome. IsServed held.cell opening input outcome
