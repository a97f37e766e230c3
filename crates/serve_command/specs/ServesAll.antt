-- What `serve` answers where nothing is refused and nothing outside fails.
use Rattle.std.specs.Prelude.{◌≡◌, ◌⊎◌, ◌≤◌, ℕ, List, [], ◌∷◌, ◌++◌, length, Ok}
use Rattle.std.specs.Io.KnownBytes.{Appends}
use Rattle.outside_io.specs.Causes.{Rose}
use Rattle.outside_io.specs.Puts.{SinkTold, TookAll}
use Rattle.outside_io.specs.Source.{SourceTold}
use Rattle.cell_base.specs.declared.cells.Cell.{Cell}
use Rattle.cell_base.specs.declared.shifts.Grant.{Grant}
use Rattle.cell_walks.specs.Allowed.{IsOpenedAs}
use Rattle.cell_walks.specs.Observed.{Observed, ShowsFile}
use Rattle.cell_walks.specs.Promises.{Accepts, DiskServes, ReadsAll, TakesAll}
use Rattle.cell_texts.specs.Tests.{KnownCell, cell_reads}
use Rattle.journal_texts.specs.Tests.{to_add}
use Rattle.serve_command.specs.Asks.{asks_in}
use Rattle.serve_command.specs.Serve.{answered_lines, full_line, last_lines, serve}
use Rattle.serve_command.specs.Serving.{IsJournalFull}
use Rattle.serve_command.specs.Talks.{opened, talk_after}
use Rattle.serve_command.specs.declared.asks.Ask.{Ask}
use Rattle.serve_command.specs.declared.command.TheConstants.{MAX_SERVED}

-- the number of the status comes so, after these grants, for an input that gave this text
pub data IsWhole (cell : Cell) (opening : List Grant) (input : SourceTold) (sink : SinkTold) (text : List ℕ) (number : ℕ) : Type 0 where
  -- 0: the input has ended, the journal has room for the grants of all its lines, each line is answered, and the last lines are put
  AllAnswered : number ≡ 0 → input.ended → (let talk = talk_after cell (opened opening) (asks_in cell text) in
      (length talk.granted ≤ MAX_SERVED)
      × TookAll sink (answered_lines cell opening (asks_in cell text) ++ last_lines cell talk))
      → IsWhole cell opening input sink text number
  -- 6: the lines are answered up to the first step that is granted and for which the journal has no room
  UpToFull : number ≡ 6 → (asked : List Ask) (next : Ask) (rest : List Ask) → asks_in cell text ≡ asked ++ next ∷ rest
      → IsJournalFull cell (talk_after cell (opened opening) asked) next
      → TookAll sink (answered_lines cell opening asked ++ full_line ∷ []) → IsWhole cell opening input sink text number

-- the cell of this name was read, and its journal stands for grants, after which the number comes so
pub record IsServedWhole (seen : Observed) (sink : SinkTold) (cell : List ℕ) (number : ℕ) : Type 0 where
  pub held : KnownCell
  pub read : ShowsFile seen.files cell (λ bytes. cell_reads bytes (Ok held))
  pub opening : List Grant
  pub opened : IsOpenedAs seen.disk (to_add held MAX_SERVED) opening
  pub text : List ℕ
  pub came : Appends seen.input.given seen.input.given_after text
  pub whole : IsWhole held.cell opening seen.input sink text number

-- Where the cell is read and not refused, the journal is one that stands and for which there is room, the disk serves, the sink takes all,
-- and no read of the input fails: 0 or 6, as above, or 9 for want of memory.
abbrev pub ServesAll : Observed → SinkTold → List ℕ → ℕ → Type 0
ServesAll seen sink cell number =
    Accepts seen (serve cell) → ReadsAll seen (serve cell) → DiskServes seen (serve cell) → TakesAll sink
    → (Rose seen.input.faults seen.input.faults_after → ⊥) → IsServedWhole seen sink cell number ⊎ (number ≡ 9)
