-- How the outcomes of `hybrid` come about.
use Rattle.std.proofs.Common.{◌≡◌, ℕ, List, [], length, ap, refl, ◌∙◌}
use Rattle.cell_base.specs.declared.cells.Cell.{Cell}
use Rattle.cell_base.specs.declared.requests.Part.{Part}
use Rattle.cell_base.specs.declared.shifts.Shift.{Shift}
use Rattle.cell_base.specs.Fits.{CellFits}
use Rattle.cell_walks.specs.Outcomes.{done}
use Rattle.cell_walks.specs.Walks.{Answers, Walk}
use Rattle.cell_texts.specs.Tests.{KnownCell}
use Rattle.banker_check.specs.HybridPlans.{plan_h_of}
use Rattle.banker_check.proofs.HybridPlans.{hybrid_plan_law}
use Rattle.hybrid_rounds.specs.declared.entries.HybridEntry.{HybridEntry}
use Rattle.hybrid_rounds.specs.Histories.{after_h}
use Rattle.hybrid_command.specs.Hybrid.{IsHybridRecord, IsHybridShift, hybrid}
use Rattle.hybrid_command.specs.HybridRuns.{IsHybridRun, lines_of_run}
use Rattle.hybrid_command.specs.Lines.{hybrid_block}
use Rattle.hybrid_command.specs.declared.command.HybridRun.{HybridRun}

module _ (cell : Cell) (shift : Shift) (run : HybridRun) (is : IsHybridRun cell shift run) where
  -- the lines of a run are those of its history and of the plan after it
  lines_are : let behind = after_h cell [] run.history.items in
      lines_of_run run ≡ hybrid_block cell shift.number run.history.items (length behind) (plan_h_of cell behind)
  lines_are =
      let history : List HybridEntry = run.history.items in
      ap (λ (c : Cell). hybrid_block c run.number history (length run.hybrid.parts) (plan_h_of c run.hybrid.parts)) is.on
      ∙ ap (λ (n : ℕ). hybrid_block cell n history (length run.hybrid.parts) (plan_h_of cell run.hybrid.parts)) is.numbered
      ∙ ap (λ (parts : List Part). hybrid_block cell shift.number history (length parts) (plan_h_of cell parts)) is.left

  -- and so are those of the record of its shift
  hybrid_record : CellFits cell → IsHybridRecord cell shift (lines_of_run run)
  hybrid_record fits =
      let behind : List Part = after_h cell [] run.history.items in
      record {
        history = run.history.items;
        rounds = is.rounds;
        kept = is.kept;
        drains = (hybrid_plan_law cell fits behind is.kept).drains;
        printed = lines_are;
      }

  -- and they are an answer
  pub hybrid_shift : CellFits cell → IsHybridShift cell shift (done (lines_of_run run))
  hybrid_shift fits = (lines_of_run run, hybrid_record fits, refl)

-- what is answered after the cell and the shift
abbrev pub ran : KnownCell → Shift → Walk
ran held shift = Answers λ input outcome. IsHybridShift held.cell shift outcome
