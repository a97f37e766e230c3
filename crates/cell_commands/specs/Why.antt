-- `why CELL JOURNAL STEP`: what a step would be told after the grants of the journal, and which jobs stand in its way.
use Rattle.std.specs.Prelude.{◌≡◌, ℕ, List, [], ◌∷◌, map}
use Rattle.admission_core.specs.CoreState.{CoreState}
use Rattle.cell_base.specs.declared.cells.Cell.{Cell}
use Rattle.cell_base.specs.declared.requests.JobId.{JobId}
use Rattle.cell_base.specs.declared.requests.Part.{Part}
use Rattle.cell_base.specs.declared.requests.Reply.{Reply}
use Rattle.cell_base.specs.declared.requests.Reply.TheVariants.{Granted, Refused}
use Rattle.cell_base.specs.declared.requests.Request.{Request}
use Rattle.cell_base.specs.declared.requests.Told.TheVariants.{Answered}
use Rattle.cell_base.specs.declared.shifts.Grant.{Grant}
use Rattle.cell_base.specs.Histories.{replay}
use Rattle.cell_base.specs.Outcomes.{reply_to}
use Rattle.record_text.specs.Lines.{line_of, told_words}
use Rattle.refusal_reason.specs.Reasons.{reason}
use Rattle.cell_walks.specs.Allowed.{IsOpenedAs}
use Rattle.cell_walks.specs.DiskTold.{DiskTold}
use Rattle.cell_walks.specs.Outcomes.{done}
use Rattle.cell_walks.specs.Walks.{Journal, Walk, Tests, Opens, Answers}
use Rattle.record_printer.specs.Blocks.{Lines}
use Rattle.cell_texts.specs.Tests.{KnownCell, cell_file, step}
use Rattle.journal_texts.specs.Tests.{to_read}
use Rattle.cell_texts.specs.Texts.{job_line}
use Rattle.cell_commands.specs.declared.why.Answer.{Answer}

-- what a request would be told
abbrev pub reply_line : Cell → Reply → List ℕ
reply_line cell reply = line_of (told_words cell (Answered reply))

-- a reply, and the jobs in the way of the request
abbrev pub answer_lines : Cell → Reply → List JobId → Lines
answer_lines cell reply jobs = reply_line cell reply ∷ map job_line jobs

-- the jobs that are counted in the neighborhood that a reply names
abbrev pub jobs_counted : Cell → List Part → Reply → List JobId
jobs_counted cell parts Granted = []
jobs_counted cell parts (Refused why) = reason cell parts why

-- the reply that a request would get in this state, and the jobs that are counted in the neighborhood that it names
abbrev pub why_lines : Cell → List Part → Request → Lines
why_lines cell parts request =
    let reply = reply_to cell parts request in answer_lines cell reply (jobs_counted cell parts reply)

-- what is answered after the grants of a journal
abbrev pub explained : KnownCell → Request → List Grant → Walk
explained held request grants = Answers λ input outcome. outcome ≡ done (why_lines held.cell (replay held.cell grants) request)

-- its walk from the cell on
abbrev pub why_step : List ℕ → KnownCell → Walk
why_step word held =
    Tests (step held.cell word) λ request.
    Opens (to_read held) (explained held request)

abbrev pub why : List ℕ → List ℕ → Walk
why cell word = Tests (cell_file cell) (why_step word)

-- the answer of a core to a request
pub record IsAnswerOf (core : CoreState) (request : Request) (answer : Answer) : Type 0 where
  pub state : answer.core ≡ core
  pub reply : answer.reply ≡ reply_to core.cell core.parts request
  pub jobs : answer.jobs ≡ jobs_counted core.cell core.parts answer.reply

-- the same in the state after the grants of a journal that was opened
pub record IsAnswerAfter (disk : DiskTold) (journal : Journal) (request : Request) (answer : Answer) : Type 0 where
  pub grants : List Grant
  pub opened : IsOpenedAs disk journal grants
  pub is : IsAnswerOf (record { cell = journal.cell; parts = replay journal.cell grants }) request answer
