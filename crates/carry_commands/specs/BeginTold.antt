-- What a `begin` tells, each fact by itself: the start was taken whole, or the writing of a request halted.
use Rattle.std.specs.Prelude.{◌≡◌, ◌⊎◌, ℕ, List, [], ◌∷◌, ◌++◌, length, take, Ok}
use Rattle.std.specs.List.{concat}
use Rattle.outside_io.specs.Causes.{Rose}
use Rattle.cell_base.specs.declared.cells.Cell.{Cell}
use Rattle.cell_base.specs.declared.requests.Request.{Request}
use Rattle.cell_base.specs.declared.shifts.Grant.{Grant}
use Rattle.cell_base.specs.Histories.{after, replay}
use Rattle.cell_base.specs.Plans.{Drains, plan_of}
use Rattle.journal_format.specs.Journals.{StandsFor}
use Rattle.record_text.specs.Records.{text_of_record}
use Rattle.durable_cell.specs.declared.replays.TheConstants.{MAX_ROOM}
use Rattle.cell_walks.specs.Allowed.{IsOpenedAs}
use Rattle.cell_walks.specs.DiskTold.{DiskTold, IsNow, SinceEntry, StoodFor}
use Rattle.cell_walks.specs.Observed.{Observed, ShowsFile}
use Rattle.cell_walks.specs.Outcomes.{Outcome}
use Rattle.cell_walks.specs.declared.status.Status.TheVariants.{Done, DeviceFault}
use Rattle.cell_texts.specs.Tests.{KnownCell, cell_reads}
use Rattle.journal_texts.specs.Tests.{to_add}
use Rattle.journal_texts.specs.AskedSteps.{drained, drained_to, step_grant}
use Rattle.carry_commands.specs.Begin.{requests_left}
use Rattle.record_text.specs.StartFiles.{start_reads}
use Rattle.carry_commands.specs.Starts.{ArePrefix, granted_start, start_grants}

-- the file stands for a prefix of the start
abbrev pub StandsForFirstOf : List ℕ → List Request → List ℕ → Type 0
StandsForFirstOf text requests file = (count : ℕ) × StandsFor file text (take count (start_grants requests))

-- Each request that the journal didn't hold yet was granted: the record of these is printed, with the plan that drains the state
-- after them, and the disk stands for all requests of the start.
pub record IsBegunWhole (disk : DiskTold) (cell : Cell) (text : List ℕ) (requests : List Request) (opening : List Grant)
    (outcome : Outcome) : Type 0 where
  pub status : outcome.status ≡ Done
  pub drains : let left = after cell (replay cell opening) (drained (requests_left requests opening)) in
      Drains cell left (plan_of cell left)
  pub written : let history = drained (requests_left requests opening) in let state = replay cell opening in concat outcome.pieces
      ≡ text_of_record cell state 0 (length opening) history (plan_of cell (after cell state history))
  pub added : outcome.added ≡ start_grants (requests_left requests opening)
  pub sure : outcome.unsure ≡ []
  pub stands : IsNow disk (λ file. StandsFor file text (start_grants requests))
  pub any_moment : SinceEntry disk (StandsForFirstOf text requests)

-- The writing of a request halted after those that were granted: the block that ends there is printed, and the disk stands for the grants
-- before it, or for these and it.
pub record IsHaltedBegin (disk : DiskTold) (cell : Cell) (text : List ℕ) (requests : List Request) (opening : List Grant)
    (outcome : Outcome) : Type 0 where
  pub first : List Request
  pub last : Request
  pub rest : List Request
  pub parted : requests_left requests opening ≡ first ++ last ∷ rest
  pub status : outcome.status ≡ DeviceFault
  pub written : concat outcome.pieces ≡ text_of_record cell (replay cell opening) 0 (length opening) (drained_to first last) []
  pub added : outcome.added ≡ start_grants first
  pub unsure : outcome.unsure ≡ step_grant last ∷ []
  pub stands : IsNow disk (λ file. StandsFor file text (opening ++ start_grants first)
      ⊎ StandsFor file text (opening ++ start_grants (first ++ last ∷ [])))
  pub any_moment : SinceEntry disk (StandsForFirstOf text requests)
  pub cause : Rose disk.faults disk.faults_after

-- The files stand for a cell and a start of it, each request of which is granted in its turn, and the journal for grants, which are a prefix
-- of the start: where the disk stood for one list of grants, for these; and this is so of the disk, of these, and of the outcome.
pub record IsBeginFrom (Told : DiskTold → Cell → List ℕ → List Request → List Grant → Outcome → Type 0) (seen : Observed)
    (cell_name start_name : List ℕ) (outcome : Outcome) : Type 0 where
  pub held : KnownCell
  pub cell_read : ShowsFile seen.files cell_name (λ bytes. cell_reads bytes (Ok held))
  pub requests : List Request
  pub start_read : ShowsFile seen.files start_name (λ bytes. start_reads held.cell bytes (Ok requests))
  pub granted : granted_start held.cell requests ≡ Ok tt
  pub opening : List Grant
  pub opened : IsOpenedAs seen.disk (to_add held MAX_ROOM) opening
  pub stood : (grants : List Grant) → StoodFor seen.disk held.text grants → grants ≡ opening
  pub first : ArePrefix requests opening
  pub told : Told seen.disk held.cell held.text requests opening outcome
