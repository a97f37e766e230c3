-- How the outcomes of `solo` come about.
use Rattle.std.proofs.Common.{◌≡◌, ℕ, false, List, [], length, refl, subst, sym}
use Rattle.outside_io.specs.Meanings.{SinkMeaning, sink_seen}
use Rattle.cell_base.specs.declared.cells.Cell.{Cell}
use Rattle.cell_base.specs.declared.shifts.Entry.{Entry}
use Rattle.cell_base.specs.declared.shifts.Shift.{Shift}
use Rattle.cell_base.specs.Fits.{CellFits, ShiftFits}
use Rattle.cell_base.specs.Histories.{after}
use Rattle.cell_base.specs.Plans.{plan_of}
use Rattle.cell_base.specs.Rounds.{IsRoundRobin}
use Rattle.record_printer.specs.Blocks.{planned_block}
use Rattle.record_printer.proofs.BlockTexts.{planned_text}
use Rattle.cell_walks.specs.Outcomes.{IsDelivered, done}
use Rattle.cell_walks.specs.Walks.{Answers, Walk}
use Rattle.cell_walks.specs.declared.status.Status.{Status}
use Rattle.cell_walks.specs.declared.status.Status.TheVariants.{Done}
use Rattle.printer.specs.Printing.{Prints, status_of}
use Rattle.printer.specs.declared.printer.Printer.{Printer}
use Rattle.cell_texts.specs.Tests.{KnownCell}
use Rattle.solo_command.specs.Solo.{IsSoloRecord, IsSoloShift}
use Rattle.solo_command.specs.SoloRuns.{IsSoloDelivered}
use Rattle.solo_command.proofs.Printing.{delivered}
use Rattle.solo_command.proofs.Rounds.{rounds_decided, rounds_drain, rounds_unhalted}

-- the lines of the history and of the plan after it are those of the record of the shift
module _ (cell : Cell) (shift : Shift) (fits : CellFits cell) (shift_fits : ShiftFits cell shift) (history : List Entry)
    (rounds : IsRoundRobin cell [] shift history) where
  abbrev pub record_lines : List (List ℕ)
  record_lines = let left = after cell [] history in planned_block cell shift.number 0 history (length left) (plan_of cell left)

  pub solo_record : IsSoloRecord cell shift record_lines
  solo_record = record {
    history = history;
    rounds = rounds;
    decided = rounds_decided cell fits shift history shift_fits rounds;
    drains = rounds_drain cell fits shift history shift_fits rounds;
    printed = refl;
    text = planned_text cell [] shift.number 0 history (plan_of cell (after cell [] history))
        (rounds_unhalted cell fits shift history shift_fits rounds);
  }

-- what a new printer printed of the record is delivered to its sink
pub solo_delivered : {K : Type 0} (sink : SinkMeaning K) (cell : Cell) (shift : Shift) (lines : List (List ℕ)) (first end : Printer K)
    (old : K) (status : Status) → IsSoloRecord cell shift lines → Prints sink first end lines → first.failed ≡ false
    → first.out.now ≡ old → status ≡ status_of end Done → (new : K) → end.out.now ≡ new
    → IsSoloDelivered cell shift (sink_seen sink old new) status
solo_delivered {K} sink cell shift lines first end old status recorded prints none had told new given = record {
  lines = lines;
  recorded = recorded;
  delivered = subst (IsDelivered (sink_seen sink old new) (done lines)) (sym told)
      (subst (λ (k : K). IsDelivered (sink_seen sink old k) (done lines) (status_of end Done)) given
      (subst (λ (k : K). IsDelivered (sink_seen sink k end.out.now) (done lines) (status_of end Done)) had
      (delivered sink first end (done lines) tt none prints.printed)));
}

-- what is answered after the cell and the shift
abbrev pub ran : KnownCell → Shift → Walk
ran held shift = Answers λ input outcome. IsSoloShift held.cell shift outcome
