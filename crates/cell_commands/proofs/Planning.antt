-- How the outcomes of `plan` come about.
use Rattle.std.specs.Prelude.{IfErr, IfOk}
use Rattle.std.specs.List.{concat}
use Rattle.std.proofs.Common.{◌≡◌, ◌∙◌, ℕ, List, [], length, Result, Ok, Err, ap, refl}
use Rattle.admission_core.specs.CoreState.{CoreState}
use Rattle.cell_base.specs.declared.requests.Part.{Part}
use Rattle.cell_base.specs.Fits.{CellFits}
use Rattle.cell_base.specs.Histories.{replay}
use Rattle.cell_base.specs.Plans.{plan_of}
use Rattle.policy_laws.proofs.Plans.{plan_law}
use Rattle.cell_walks.specs.Allowed.{IsNotOpened, JournalOpened, NotOpened}
use Rattle.cell_walks.specs.DiskTold.{DiskTold, IsOnlyRead}
use Rattle.cell_walks.specs.Observed.{FilesTold}
use Rattle.cell_walks.specs.Outcomes.{Outcome, done}
use Rattle.cell_walks.specs.declared.early_end.EarlyEnd.{EarlyEnd}
use Rattle.record_printer.specs.Blocks.{block_of, planned_block}
use Rattle.journal_texts.specs.JournalReads.{IsAfterGrants}
use Rattle.cell_texts.specs.Tests.{KnownCell}
use Rattle.journal_texts.specs.Tests.{to_read}
use Rattle.journal_texts.specs.declared.readers.AfterGrants.{AfterGrants}
use Rattle.record_printer.proofs.BlockTexts.{planned_text}
use Rattle.cell_driver.specs.Driving.{Allowed, IsMade}
use Rattle.journal_texts.proofs.Replays.{replay_admitted}
use Rattle.cell_commands.specs.Plan.{IsPlanned, plan_journal}

abbrev plan_outcome : AfterGrants → Outcome
plan_outcome after = done (block_of after.core 0 after.grants [])

-- the block of the plan is that of the record of no entries
is_planned : (disk : DiskTold) (held : KnownCell) (after : AfterGrants) → CellFits held.cell
    → (is : IsAfterGrants disk (to_read held) after) → IsPlanned held.cell is.grants (plan_outcome after)
is_planned disk held after fits is =
    let left : List Part = replay held.cell is.grants in
    let lines : block_of after.core 0 after.grants [] ≡ planned_block held.cell 0 (length is.grants) [] (length left) (plan_of
    held.cell left) =
    ap (λ (core : CoreState). block_of core 0 after.grants []) is.core
    ∙ ap (λ (n : ℕ). planned_block held.cell 0 n [] (length left) (plan_of held.cell left)) is.count in
    record {
      drains = (plan_law held.cell fits left (replay_admitted held.cell fits is.grants is.opened.0)).drains;
      is = ap (λ (pieces : List (List ℕ)). done pieces) lines;
      text = ap concat lines ∙ planned_text held.cell left 0 (length is.grants) [] (plan_of held.cell left) refl;
    }

-- the journal was read, or the command ends there
pub plan_made : (files : FilesTold) (disk : DiskTold) (held : KnownCell) → CellFits held.cell → IsOnlyRead disk
    → (made : Result AfterGrants EarlyEnd) → IfOk made (IsAfterGrants disk (to_read held)) → IfErr made (IsNotOpened disk (to_read held))
    → IsMade files disk (plan_journal held) plan_outcome made
plan_made files disk held fits only (Ok after) is ended =
    Allowed (JournalOpened is.grants is.opened (is_planned disk held after fits is, only))
plan_made files disk held fits only (Err end) is ended = Allowed (NotOpened end ended refl)
