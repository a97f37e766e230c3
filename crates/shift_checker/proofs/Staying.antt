-- A verdict that a line failed stays.
use Rattle.std.proofs.Common.{◌≡◌, ℕ, ◌-◌, Bool, true, false, cond, ◌==◌, List, [], ◌∷◌, ◌++◌}
use Rattle.std.proofs.Common.{Option, None, sym, ap, ◌∙◌}
use Rattle.cell_base.specs.declared.cells.Cell.{Cell}
use Rattle.cell_base.specs.declared.requests.Part.{Part}
use Rattle.cell_base.specs.Histories.{was_halted}
use Rattle.record_text.specs.declared.blocks.Block.{Block}
use Rattle.record_text.specs.declared.blocks.Tail.TheVariants as tails
use Rattle.record_text.specs.declared.record_lines.RecordLine.{RecordLine}
use Rattle.record_text.specs.declared.record_lines.RecordLine.TheVariants as lines
use Rattle.record_text.specs.declared.stages.Stage.{Stage}
use Rattle.record_text.specs.declared.stages.Stage.TheVariants.{Between, Entries, Left, Steps}
use Rattle.record_text.specs.Progress.{closed}
use Rattle.record_text.specs.Turns.{Suits, turn_of, with_line}
use Rattle.shift_checker.specs.declared.verdict.Why.{Why}
use Rattle.shift_checker.specs.declared.verdict.Why.TheVariants as whys
use Rattle.shift_checker.specs.declared.verdict.Verdict.TheVariants.{No}
use Rattle.shift_checker.specs.Carrying.{settled}
use Rattle.shift_checker.specs.Judging.{fails_unless, judge_left, judge_plan, verdict_from}
use Rattle.shift_checker.specs.Lines.{carried_in, judged}
use Rattle.shift_checker.proofs.Adding.{at, entry_line, judged_entry, judged_halt, judged_head, judged_left, judged_planned}
use Rattle.shift_checker.proofs.Adding.{judged_steps, step_line, step_lines}
use Rattle.shift_checker.proofs.Going.{step_more, last_stays}
use Rattle.shift_checker.proofs.Verdicts.{wrong_after}

module _ (cell : Cell) (n : ℕ) (given : List Block) (line : ℕ) (why : Why) where
  -- where a line failed, the verdict is that on all lines after it too
  pub stays : (stage : Stage) (said : RecordLine) → Suits (turn_of stage) said → verdict_from 1 (judged cell (given, stage)) ≡ No line why
      → verdict_from 1 (judged cell (with_line n given stage said)) ≡ No line why
  stays Between (lines.Head shift names) suits wrong =
      ap (verdict_from 1) (judged_head cell given n shift names)
      ∙ wrong_after 1 (judged cell (given, Between)) (fails_unless (names == (settled cell (at cell given) names).count) whys.After ∷ [])
      line why wrong
  stays (Entries head entries) (lines.Entry entry) suits wrong = by (was_halted entry.told) where
    this : Option Why
    this = entry_line cell (settled cell (at cell given) head.after).parts entries entry

    after_it : verdict_from 1 (judged cell (given, Entries head entries) ++ this ∷ []) ≡ No line why
    after_it = wrong_after 1 (judged cell (given, Entries head entries)) (this ∷ []) line why wrong

    by : (b : Bool) → verdict_from 1 (judged cell
        (cond b (closed given head (entries ++ entry ∷ []) tails.Halted) (given, Entries head (entries ++ entry ∷ [])))) ≡ No line why
    by true = ap (verdict_from 1) (judged_halt cell given head entries entry) ∙ after_it
    by false = ap (verdict_from 1) (judged_entry cell given head entries entry) ∙ after_it
  stays (Entries head entries) (lines.Left left) suits wrong =
      ap (verdict_from 1) (judged_left cell given head entries left)
      ∙ wrong_after 1 (judged cell (given, Entries head entries))
      (judge_left (carried_in cell (at cell given) head entries).parts left ∷ []) line why wrong
  stays (Left head entries left) (lines.Plan steps) suits wrong = by (steps == 0) where
    by : (b : Bool) → verdict_from 1 (judged cell
        (cond b (closed given head entries (tails.Planned left [])) (given, Steps head entries left steps []))) ≡ No line why
    by true =
        ap (verdict_from 1) (judged_planned cell given head entries left [])
        ∙ wrong_after 1 (judged cell (given, Left head entries left))
        (judge_plan cell (carried_in cell (at cell given) head entries).parts [] ∷ []) line why wrong
    by false =
        ap (verdict_from 1) (judged_steps cell given head entries left steps [])
        ∙ wrong_after 1 (judged cell (given, Left head entries left)) (None ∷ []) line why wrong
  stays (Steps head entries left missing steps) (lines.Step step) suits wrong = by (missing == 1) where
    parts : List Part
    parts = (carried_in cell (at cell given) head entries).parts

    up : List (Option Why)
    up = judged cell (given, Left head entries left)

    before_it : verdict_from 1 (up ++ None ∷ step_lines cell parts steps) ≡ No line why
    before_it = ap (verdict_from 1) (sym (judged_steps cell given head entries left missing steps)) ∙ wrong

    by : (b : Bool) → verdict_from 1 (judged cell
        (cond b (closed given head entries (tails.Planned left (steps ++ step ∷ [])))
        (given, Steps head entries left (missing - 1) (steps ++ step ∷ [])))) ≡ No line why
    by true =
        ap (verdict_from 1) (judged_planned cell given head entries left (steps ++ step ∷ []))
        ∙ last_stays cell parts steps step up line why before_it
    by false =
        ap (verdict_from 1)
        (judged_steps cell given head entries left (missing - 1) (steps ++ step ∷ []) ∙ step_more cell parts steps step up)
        ∙ wrong_after 1 (up ++ None ∷ step_lines cell parts steps) (step_line cell parts steps step ∷ []) line why before_it
  stays Between (lines.Entry entry) suits wrong = absurd suits
  stays Between (lines.Left left) suits wrong = absurd suits
  stays Between (lines.Plan steps) suits wrong = absurd suits
  stays Between (lines.Step step) suits wrong = absurd suits
  stays (Entries head entries) (lines.Head shift names) suits wrong = absurd suits
  stays (Entries head entries) (lines.Plan steps) suits wrong = absurd suits
  stays (Entries head entries) (lines.Step step) suits wrong = absurd suits
  stays (Left head entries left) (lines.Head shift names) suits wrong = absurd suits
  stays (Left head entries left) (lines.Entry entry) suits wrong = absurd suits
  stays (Left head entries left) (lines.Left other) suits wrong = absurd suits
  stays (Left head entries left) (lines.Step step) suits wrong = absurd suits
  stays (Steps head entries left missing steps) (lines.Head shift names) suits wrong = absurd suits
  stays (Steps head entries left missing steps) (lines.Entry entry) suits wrong = absurd suits
  stays (Steps head entries left missing steps) (lines.Left other) suits wrong = absurd suits
  stays (Steps head entries left missing steps) (lines.Plan more) suits wrong = absurd suits
