-- What the walk of `run` answers, told fact by fact.
use Rattle.std.specs.Prelude.{IfSome}
use Rattle.std.proofs.Common.{◌≡◌, ◌⊎◌, inl, inr, ℕ, List, [], ◌++◌, ap, subst, sym, append-nil}
use Rattle.std.proofs.lemmas.List.Elements.{All-head}
use Rattle.outside_io.specs.Causes.{Rose}
use Rattle.outside_io.specs.Puts.{SinkTold}
use Rattle.cell_base.specs.declared.cells.Cell.{Cell}
use Rattle.cell_base.specs.declared.shifts.Grant.{Grant}
use Rattle.cell_base.specs.declared.shifts.Shift.{Shift}
use Rattle.cell_base.specs.Histories.{grants}
use Rattle.durable_cell.specs.Asked.{grant_of}
use Rattle.journal_format.specs.Journals.{StandsForPrefix, StandsFor}
use Rattle.cell_walks.specs.Allowed.{StandsForAdded}
use Rattle.cell_walks.specs.DiskTold.{DiskTold, SinceEntry}
use Rattle.cell_walks.specs.Observed.{Observed}
use Rattle.cell_walks.specs.Outcomes.{Outcome}
use Rattle.cell_walks.specs.Promises.{IsAnswered, Promises}
use Rattle.cell_walks.specs.StatusTells.{StatusTells}
use Rattle.cell_walks.specs.Statuses.{status_number}
use Rattle.cell_walks.specs.declared.status.Status.{Status}
use Rattle.cell_walks.proofs.Standing.{found_same}
use Rattle.cell_walks.proofs.Telling.{status_tells}
use Rattle.cell_walks.proofs.Walked.{now_weaker}
use Rattle.journal_texts.specs.Records.{IsHalted, IsRecorded}
use Rattle.run_command.specs.Run.{RanPart, RanWhole, run, run_room}
use Rattle.run_command.specs.RunTold.{IsHaltedRun, IsRunOf, IsWholeRun}

module _ (disk : DiskTold) (cell : Cell) (text : List ℕ) (shift : Shift) (opening : List Grant) (outcome : Outcome)
    (stands : StandsForAdded disk text opening outcome.added outcome.unsure) where
  pub is_whole : IsRecorded cell shift.number opening (RanWhole shift opening) outcome → IsWholeRun disk cell text shift opening outcome
  is_whole is =
      let since : List Grant = grants shift.number is.history in
      let left = subst (λ (o : Outcome). StandsForAdded disk text opening o.added o.unsure) is.is stands in
      record {
        history = is.history;
        one = record {
          legal = is.asked.legal;
          decided = is.asked.decided;
          admitted = is.asked.admitted;
          sessions = is.asked.goes.0;
        };
        whole = is.asked.goes.1;
        drains = is.drains;
        status = ap (λ (o : Outcome). o.status) is.is;
        written = is.text;
        added = ap (λ (o : Outcome). o.added) is.is;
        sure = ap (λ (o : Outcome). o.unsure) is.is;
        stands = now_weaker disk
            (λ file. StandsFor file text (opening ++ since) ⊎ StandsFor file text (opening ++ since ++ []))
            (λ file. StandsFor file text (opening ++ since))
            (λ file. elim [
              | inl so ↦ so
              | inr so ↦ subst (StandsFor file text) (append-nil (opening ++ since)) so
            ]) left.now;
        any_moment = subst (λ (gs : List Grant). SinceEntry disk (StandsForPrefix text opening gs)) (append-nil since) left.any_moment;
      }

  pub is_halted : IsHalted cell shift.number opening (RanPart shift opening) outcome → IsHaltedRun disk cell text shift opening outcome
  is_halted is =
      let left = subst (λ (o : Outcome). StandsForAdded disk text opening o.added o.unsure) is.is stands in
      record {
        history = is.history;
        first = is.first;
        last = is.last;
        parted = is.parted;
        halted = is.halted;
        one = record {
          legal = is.asked.legal;
          decided = is.asked.decided;
          admitted = is.asked.admitted;
          sessions = is.asked.goes.0;
        };
        traces = is.asked.goes.1;
        status = ap (λ (o : Outcome). o.status) is.is;
        written = is.text;
        added = ap (λ (o : Outcome). o.added) is.is;
        unsure = ap (λ (o : Outcome). o.unsure) is.is;
        stands = left.now;
        any_moment = left.any_moment;
        cause = All-head (λ grant. Rose disk.faults disk.faults_after) (grant_of shift.number is.last) [] left.cause;
      }

-- what is answered is a run, whole or halted
module _ (seen : Observed) (cell shift_name : List ℕ) (outcome : Outcome) (now : IfSome seen.disk.reads seen.disk.leaves) where
  pub run_told : IsAnswered seen (run cell shift_name) outcome
      → IsRunOf IsWholeRun seen cell shift_name outcome ⊎ IsRunOf IsHaltedRun seen cell shift_name outcome
  run_told (held, cell_read, (shift, shift_read, (opening, opened, (at, started, (answer, left))))) = elim answer [
    | inl is ↦ inl (told_of IsWholeRun (is_whole seen.disk held.cell held.text shift opening outcome left is))
    | inr is ↦ inr (told_of IsHaltedRun (is_halted seen.disk held.cell held.text shift opening outcome left is))
  ]
    where
      told_of : (Told : DiskTold → Cell → List ℕ → Shift → List Grant → Outcome → Type 0)
          → Told seen.disk held.cell held.text shift opening outcome → IsRunOf Told seen cell shift_name outcome
      told_of Told told = record {
        held = held;
        cell_read = cell_read;
        shift = shift;
        shift_read = shift_read;
        opening = opening;
        opened = opened;
        stood = λ grants was. sym (found_same seen.disk now held.text grants was held.cell (run_room shift) opening opened.1);
        started = started;
        told = told;
      }

-- what the status of a run tells
pub run_tells : (seen : Observed) (sink : SinkTold) (cell shift_name : List ℕ) (status : Status)
    → IfSome seen.disk.reads seen.disk.leaves → Promises seen sink (run cell shift_name) status
    → (number : ℕ) → number ≡ status_number status
    → StatusTells seen sink (run cell shift_name) (IsRunOf IsWholeRun seen cell shift_name) (IsRunOf IsHaltedRun seen cell shift_name) number
run_tells seen sink cell shift_name status now promised =
    status_tells seen sink (run cell shift_name) status promised (IsRunOf IsWholeRun seen cell shift_name)
    (IsRunOf IsHaltedRun seen cell shift_name) (λ whole. whole.told.status) (λ stopped. stopped.told.status)
    (run_told seen cell shift_name promised.outcome now) (λ held shift opening started. tt)
