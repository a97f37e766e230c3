-- How the outcomes of `why` come about.
use Rattle.std.specs.Prelude.{IfErr, IfOk}
use Rattle.std.proofs.Common.{◌≡◌, ◌∙◌, ℕ, List, Result, Ok, Err, ap, refl, sym}
use Rattle.admission_core.specs.CoreState.{CoreState}
use Rattle.cell_base.specs.declared.requests.JobId.{JobId}
use Rattle.cell_base.specs.declared.requests.Reply.{Reply}
use Rattle.cell_base.specs.declared.requests.Request.{Request}
use Rattle.cell_base.specs.Histories.{replay}
use Rattle.step_text.specs.Steps.{step_of}
use Rattle.step_text.specs.declared.faults.StepFault.{StepFault}
use Rattle.cell_walks.specs.Allowed.{IsNotOpened, JournalOpened, NotOpened, Passed, Unasked}
use Rattle.cell_walks.specs.DiskTold.{DiskTold, IsOnlyRead, IsUntouched}
use Rattle.cell_walks.specs.Observed.{FilesTold, observed}
use Rattle.cell_walks.specs.Outcomes.{Outcome, done}
use Rattle.cell_walks.specs.Walks.{Opens, end_with}
use Rattle.cell_walks.specs.declared.early_end.EarlyEnd.{EarlyEnd}
use Rattle.cell_walks.specs.declared.early_end.Subject.TheVariants.{Input}
use Rattle.cell_walks.proofs.Steps.{ended_at, ended_by_fault}
use Rattle.cell_texts.specs.Tests.{KnownCell, step, step_fault_line}
use Rattle.cell_driver.specs.Driving.{Allowed, IsMade}
use Rattle.journal_texts.specs.Tests.{to_read}
use Rattle.cell_commands.specs.Why.{IsAnswerAfter, IsAnswerOf, answer_lines, explained, jobs_counted, why_lines, why_step}
use Rattle.cell_commands.specs.declared.why.Answer.{Answer}

abbrev why_outcome : Answer → Outcome
why_outcome answer = done (answer_lines answer.core.cell answer.reply answer.jobs)

-- the lines of the answer are those that are asked for
lines_of : (core : CoreState) (request : Request) (answer : Answer) → IsAnswerOf core request answer
    → answer_lines answer.core.cell answer.reply answer.jobs ≡ why_lines core.cell core.parts request
lines_of core request answer is =
    ap (λ (c : CoreState). answer_lines c.cell answer.reply answer.jobs) is.state
    ∙ ap (λ (jobs : List JobId). answer_lines core.cell answer.reply jobs) is.jobs
    ∙ ap (λ (reply : Reply). answer_lines core.cell reply (jobs_counted core.cell core.parts reply)) is.reply

module _ (files : FilesTold) (disk : DiskTold) (held : KnownCell) (word : List ℕ) where
  -- the word is no step
  pub why_no_step : (fault : StepFault) → Err fault ≡ step_of held.cell word → IsUntouched disk
      → IsMade files disk (why_step word held) why_outcome (Err (end_with Input (step_fault_line fault)))
  why_no_step fault is still =
      Allowed
      (ended_at (observed files disk) Unasked (step held.cell word) (λ request. Opens (to_read held) (explained held request))
      (end_with Input (step_fault_line fault)) (ended_by_fault files (step held.cell word) fault (sym is)) still)

  -- it is a step; and the journal was read, or the command ends there
  pub why_made : (request : Request) → Ok request ≡ step_of held.cell word → IsOnlyRead disk → (made : Result Answer EarlyEnd)
      → IfOk made (IsAnswerAfter disk (to_read held) request) → IfErr made (IsNotOpened disk (to_read held))
      → IsMade files disk (why_step word held) why_outcome made
  why_made request is only (Ok answer) answered ended =
      Allowed
      (Passed request (sym is)
      (JournalOpened answered.grants answered.opened
      (ap done (lines_of (record { cell = held.cell; parts = replay held.cell answered.grants }) request answer answered.is), only)))
  why_made request is only (Err end) answered ended = Allowed (Passed request (sym is) (NotOpened end ended refl))
