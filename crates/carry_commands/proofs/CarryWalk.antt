-- How the outcomes of `carry` come about.
use Rattle.std.specs.Prelude.{IfErr, IfOk}
use Rattle.std.specs.List.{concat}
use Rattle.std.proofs.Common.{◌≡◌, ℕ, List, [], ◌∷◌, ◌++◌, map, Some, Result, Ok, Err, refl, sym, ap, ◌∙◌, subst}
use Rattle.admission_core.specs.CoreState.{CoreState}
use Rattle.cell_base.specs.declared.cells.Cell.{Cell}
use Rattle.cell_base.specs.declared.requests.Request.{Request}
use Rattle.cell_base.specs.declared.shifts.Grant.{Grant}
use Rattle.cell_base.specs.Fits.{CellFits}
use Rattle.cell_base.specs.Histories.{replay}
use Rattle.cell_base.specs.Policy.{HaveDistinctJobs}
use Rattle.record_text.specs.StartFiles.{IsStartOf, place_line, start_text}
use Rattle.record_text.proofs.StartLengths.{is_start}
use Rattle.cell_walks.specs.Allowed.{AllowsFrom, ByMemory, ByRefusal, IsEndedAt}
use Rattle.cell_walks.specs.Allowed.{JournalOpened, NotOpened, Passed, Stopped, Unasked}
use Rattle.cell_walks.specs.DiskTold.{DiskTold, IsOnlyRead, IsUntouched}
use Rattle.cell_walks.specs.Observed.{FilesTold, Observed, ShowsFile, observed}
use Rattle.cell_walks.specs.Outcomes.{Outcome, done, or_early}
use Rattle.cell_walks.specs.Walks.{Journal, Opens, end_with}
use Rattle.cell_walks.specs.declared.early_end.Subject.TheVariants.{Command}
use Rattle.cell_base.specs.declared.requests.Part.{Part}
use Rattle.carry_commands.specs.Carried.{carried}
use Rattle.carry_commands.specs.declared.refusals.CarryFault.{CarryFault}
use Rattle.cell_walks.specs.declared.early_end.EarlyEnd.{EarlyEnd}
use Rattle.cell_walks.proofs.Steps.{ended_at}
use Rattle.journal_texts.specs.JournalReads.{IsAfterGrants}
use Rattle.cell_texts.specs.Tests.{KnownCell, cell_file, cell_reads}
use Rattle.journal_texts.specs.Tests.{to_read}
use Rattle.journal_texts.specs.declared.readers.AfterGrants.{AfterGrants}
use Rattle.cell_driver.specs.Driving.{Allowed, IsMade}
use Rattle.carry_commands.specs.Carry.{IsCarried, carried_over, carries, carry_to}
use Rattle.carry_commands.specs.Carrying.{CarryRefused, CarryStarved, EndsAfter, EndsAtCarry, HasCarried}
use Rattle.carry_commands.specs.Carrying.{HasCarriedAfter, NotCarried, Unopened, carry_outcome}
use Rattle.carry_commands.specs.Refusals.{carry_refused}
use Rattle.carry_commands.specs.declared.carrying.Carried.{Carried}
use Rattle.carry_commands.proofs.CarriedParts.{granted_carried}
use Rattle.carry_commands.proofs.CarriedState.{held_back, same_parts}

-- where the parts after the grants of a journal are not carried, the command ends there
pub ends_after : (disk : DiskTold) (journal : Journal) (new : Cell) (after : AfterGrants) → IsAfterGrants disk journal after
    → (made : Result Carried EarlyEnd) → IfErr made (EndsAtCarry after.core.cell new after.core.parts)
    → IfErr made (EndsAfter disk journal new)
ends_after disk journal new after is (Ok made) ended = tt
ends_after disk journal new after is (Err end) ended =
    NotCarried is.grants is.opened (subst (λ (core : CoreState). EndsAtCarry core.cell new core.parts end) is.core ended)

-- a part can't be carried, as its line says
pub refused_at : (old shown new : Cell) (parts : List Part) → HaveDistinctJobs parts → (fault : CarryFault) (end : EarlyEnd)
    → carried old new parts ≡ Err fault → end ≡ end_with Command (Some (carry_refused shown fault)) → shown ≡ new
    → EndsAtCarry old new parts end
refused_at old shown new parts distinct fault end is ends same =
    CarryRefused fault is (held_back old new parts distinct fault is)
    (ends ∙ ap (λ (cell : Cell). end_with Command (Some (carry_refused cell fault))) same)

-- ---- the text

lines_text : (cell : Cell) (requests : List Request) → concat (map (place_line cell) requests) ≡ start_text cell requests
lines_text cell [] = refl
lines_text cell (request ∷ requests) = ap (λ (text : List ℕ). place_line cell request ++ text) (lines_text cell requests)

is_carried : (old : CoreState) (new : Cell) → CellFits new → (made : Carried) → HasCarried old new made
    → IsCarried old.cell new old.parts made.requests (carry_outcome made)
is_carried old new fits made has =
    let lines : carry_outcome made ≡ done (map (place_line new) made.requests) =
    ap (λ (cell : Cell). done (map (place_line cell) made.requests)) has.cell in
    record {
      is = lines;
      taken = record {
        read = (
          fits,
          subst (λ (text : List ℕ). IsStartOf new text made.requests)
              (sym (ap (λ (outcome : Outcome). concat outcome.pieces) lines ∙ lines_text new made.requests))
              (is_start new fits made.requests has.carried.placing has.carried.few),
        );
        granted = granted_carried old.cell new [] 1 old.parts made.requests has.carried.is;
      };
      reached = same_parts old.cell new old.parts made.requests has.carried.is;
    }

-- ---- the walk

module _ (seen : Observed) (held new : KnownCell) where
  at_carry : (grants : List Grant) (end : EarlyEnd) → EndsAtCarry held.cell new.cell (replay held.cell grants) end
      → IsEndedAt seen.files (carries held.cell new.cell (replay held.cell grants)) end
  at_carry grants end (CarryRefused fault is hindered ends) = ByRefusal fault (is, hindered) (carry_refused new.cell fault) refl ends
  at_carry grants end (CarryStarved is) = ByMemory is

  from_journal : CellFits new.cell → IsOnlyRead seen.disk → (made : Result Carried EarlyEnd)
      → IfOk made (HasCarriedAfter seen.disk (to_read held) new.cell) → IfErr made (EndsAfter seen.disk (to_read held) new.cell)
      → AllowsFrom seen (or_early carry_outcome made) Unasked (Opens (to_read held) (carried_over held new))
  from_journal fits only (Ok made) has ended =
      let old : CoreState = record { cell = held.cell; parts = replay held.cell has.grants } in
      JournalOpened has.grants has.opened (Passed made.requests (has.has.carried.is, tt) (is_carried old new.cell fits made has.has, only))
  from_journal fits only (Err end) has (Unopened unopened) = NotOpened end unopened refl
  from_journal fits only (Err end) has (NotCarried grants opened ends) =
      JournalOpened grants opened (Stopped end (at_carry grants end ends) (refl, only))

module _ (files : FilesTold) (disk : DiskTold) (held : KnownCell) (other : List ℕ) where
  -- the second cell was not read
  pub carry_without_other : (end : EarlyEnd) → IsUntouched disk → IsEndedAt files (cell_file other) end
      → IsMade files disk (carry_to other held) carry_outcome (Err end)
  carry_without_other end still ended =
      Allowed
      (ended_at (observed files disk) Unasked (cell_file other) (λ new. Opens (to_read held) (carried_over held new)) end ended still)

  -- it was; and the parts were carried, or the command ended there
  pub carry_made : (second : KnownCell) → ShowsFile files other (λ bytes. cell_reads bytes (Ok second)) → CellFits second.cell
      → IsOnlyRead disk → (made : Result Carried EarlyEnd) → IfOk made (HasCarriedAfter disk (to_read held) second.cell)
      → IfErr made (EndsAfter disk (to_read held) second.cell) → IsMade files disk (carry_to other held) carry_outcome made
  carry_made second read fits only made has ended =
      Allowed (Passed second read (from_journal (observed files disk) held second fits only made has ended))
