-- What a run tells, each fact by itself: every session went through its script, or the writing of a grant halted.
use Rattle.std.specs.Prelude.{◌≡◌, ◌⊎◌, ℕ, List, [], ◌∷◌, ◌++◌, length, Ok}
use Rattle.std.specs.List.{All, concat}
use Rattle.outside_io.specs.Causes.{Rose}
use Rattle.cell_base.specs.declared.cells.Cell.{Cell}
use Rattle.cell_base.specs.declared.requests.Told.TheVariants.{Halted}
use Rattle.cell_base.specs.declared.shifts.Entry.{Entry}
use Rattle.cell_base.specs.declared.shifts.Grant.{Grant}
use Rattle.cell_base.specs.declared.shifts.Shift.{Shift}
use Rattle.cell_base.specs.Histories.{IsLegal, after, grants, replay}
use Rattle.cell_base.specs.Plans.{Drains, plan_of}
use Rattle.cell_base.specs.Policy.{IsAdmitted}
use Rattle.cell_base.specs.Rounds.{IsSession}
use Rattle.cell_base.specs.Scripts.{IsTrace, IsWholeTrace}
use Rattle.cell_base.specs.Starts.{AreFirstSteps}
use Rattle.admission_core.specs.DecidedHistories.{AreDecided}
use Rattle.durable_cell.specs.Asked.{grant_of}
use Rattle.journal_format.specs.Journals.{StandsForPrefix, StandsFor}
use Rattle.record_text.specs.Records.{text_of_record}
use Rattle.shift_file.specs.Walk.{shift_of}
use Rattle.cell_walks.specs.Allowed.{IsOpenedAs}
use Rattle.cell_walks.specs.DiskTold.{DiskTold, IsNow, SinceEntry, StoodFor}
use Rattle.cell_walks.specs.Observed.{Observed, ShowsFile}
use Rattle.cell_walks.specs.Outcomes.{Outcome}
use Rattle.cell_walks.specs.declared.status.Status.TheVariants.{Done, DeviceFault}
use Rattle.cell_texts.specs.Tests.{KnownCell, cell_reads}
use Rattle.journal_texts.specs.Tests.{to_add}
use Rattle.run_command.specs.Run.{EachSession, run_room}

-- The one history that was under the lock, in whatever order the sessions asked: it is legal after the grants, as if a single thread
-- had asked; the policy admits the state before each entry, and decided its request by it; no neighborhood of the state after it holds
-- more parts than its resource has units; and each entry is a session's.
pub record IsOneHistory (cell : Cell) (shift : Shift) (opening : List Grant) (history : List Entry) : Type 0 where
  pub legal : IsLegal cell (replay cell opening) history
  pub decided : AreDecided cell (replay cell opening) history
  pub admitted : IsAdmitted cell (after cell (replay cell opening) history)
  pub sessions : All (λ entry. IsSession shift entry.session) history

-- Each session went through its script: the record of the history is printed, with the plan that drains the state after it, and the
-- disk stands for the grants and those of the history. A crash at any moment left the grants and a prefix of these.
pub record IsWholeRun (disk : DiskTold) (cell : Cell) (text : List ℕ) (shift : Shift) (opening : List Grant)
    (outcome : Outcome) : Type 0 where
  pub history : List Entry
  pub one : IsOneHistory cell shift opening history
  pub whole : EachSession IsWholeTrace shift opening history
  pub drains : let left = after cell (replay cell opening) history in Drains cell left (plan_of cell left)
  pub status : outcome.status ≡ Done
  pub written : let state = replay cell opening in concat outcome.pieces
      ≡ text_of_record cell state shift.number (length opening) history (plan_of cell (after cell state history))
  pub added : outcome.added ≡ grants shift.number history
  pub sure : outcome.unsure ≡ []
  pub stands : IsNow disk (λ file. StandsFor file text (opening ++ grants shift.number history))
  pub any_moment : SinceEntry disk (StandsForPrefix text opening (grants shift.number history))

-- The writing of a grant halted, and no session was granted anything after it: the block that ends there is printed, and the disk
-- stands for the grants and those of the history, without the halted request or with it.
pub record IsHaltedRun (disk : DiskTold) (cell : Cell) (text : List ℕ) (shift : Shift) (opening : List Grant)
    (outcome : Outcome) : Type 0 where
  pub history : List Entry
  pub first : List Entry
  pub last : Entry
  pub parted : history ≡ first ++ last ∷ []
  pub halted : last.told ≡ Halted
  pub one : IsOneHistory cell shift opening history
  pub traces : EachSession IsTrace shift opening history
  pub status : outcome.status ≡ DeviceFault
  pub written : concat outcome.pieces ≡ text_of_record cell (replay cell opening) shift.number (length opening) history []
  pub added : outcome.added ≡ grants shift.number history
  pub unsure : outcome.unsure ≡ grant_of shift.number last ∷ []
  pub stands : let granted = grants shift.number history in IsNow disk (λ file.
      StandsFor file text (opening ++ granted) ⊎ StandsFor file text (opening ++ granted ++ grant_of shift.number last ∷ []))
  pub any_moment : SinceEntry disk
      (StandsForPrefix text opening (grants shift.number history ++ grant_of shift.number last ∷ []))
  pub cause : Rose disk.faults disk.faults_after

-- The files stand for a cell and a shift, and the journal for grants after which the sessions of the shift start: where the disk stood for
-- one list of grants, for these; and this is so of the disk, of these, and of the outcome.
pub record IsRunOf (Told : DiskTold → Cell → List ℕ → Shift → List Grant → Outcome → Type 0) (seen : Observed)
    (cell_name shift_name : List ℕ) (outcome : Outcome) : Type 0 where
  pub held : KnownCell
  pub cell_read : ShowsFile seen.files cell_name (λ bytes. cell_reads bytes (Ok held))
  pub shift : Shift
  pub shift_read : ShowsFile seen.files shift_name (λ bytes. shift_of held.cell bytes ≡ Ok shift)
  pub opening : List Grant
  pub opened : IsOpenedAs seen.disk (to_add held (run_room shift)) opening
  pub stood : (grants : List Grant) → StoodFor seen.disk held.text grants → grants ≡ opening
  pub started : AreFirstSteps shift opening
  pub told : Told seen.disk held.cell held.text shift opening outcome
