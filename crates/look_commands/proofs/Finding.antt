-- How the outcomes of `grants` come about.
use Rattle.std.specs.Prelude.{IfErr, IfOk}
use Rattle.std.specs.List.{concat}
use Rattle.std.proofs.Common.{◌≡◌, ◌∙◌, ℕ, List, [], length, Result, Ok, Err, ap, refl, sym}
use Rattle.admission_core.specs.CoreState.{CoreState}
use Rattle.cell_base.specs.declared.requests.Part.{Part}
use Rattle.cell_base.specs.declared.requests.Request.{Request}
use Rattle.cell_base.specs.Fits.{CellFits}
use Rattle.cell_base.specs.Histories.{replay}
use Rattle.cell_base.specs.Plans.{plan_of}
use Rattle.policy_laws.proofs.Plans.{plan_law}
use Rattle.cell_walks.specs.Allowed.{IsNotOpened, JournalOpened, NotOpened}
use Rattle.cell_walks.specs.DiskTold.{DiskTold, IsOnlyRead}
use Rattle.cell_walks.specs.Observed.{FilesTold}
use Rattle.cell_walks.specs.Outcomes.{Outcome, done}
use Rattle.cell_walks.specs.declared.early_end.EarlyEnd.{EarlyEnd}
use Rattle.record_printer.specs.Blocks.{block_of as lines_of_block, planned_block}
use Rattle.journal_texts.specs.JournalReads.{IsFound}
use Rattle.journal_texts.specs.declared.readers.Found.{Found}
use Rattle.cell_texts.specs.Tests.{KnownCell}
use Rattle.journal_texts.specs.Tests.{to_read}
use Rattle.record_printer.proofs.BlockTexts.{planned_text}
use Rattle.cell_driver.specs.Driving.{Allowed, IsMade}
use Rattle.journal_texts.proofs.Replays.{replay_admitted}
use Rattle.look_commands.specs.Grants.{IsListed, found_lines, history_of, list_grants}
use Rattle.look_commands.proofs.Right.{after_is, grants_right, none_halts}

abbrev grants_outcome : Found → Outcome
grants_outcome found = done (found_lines found)

-- the block of the grants is that of their record
is_listed : (disk : DiskTold) (held : KnownCell) (found : Found) → CellFits held.cell
    → (is : IsFound disk (to_read held) found) → IsListed held.cell found.grants (grants_outcome found)
is_listed disk held found fits is =
    let left : List Part = replay held.cell found.grants in
    let plan : List Request = plan_of held.cell left in
    let lines : lines_of_block found.core 0 0 (history_of found.grants)
    ≡ planned_block held.cell 0 0 (history_of found.grants) (length left) plan =
    ap (λ (core : CoreState). lines_of_block core 0 0 (history_of found.grants)) is.core in
    record {
      drains = (plan_law held.cell fits left (replay_admitted held.cell fits found.grants is.opened.0)).drains;
      is = ap (λ (pieces : List (List ℕ)). done pieces) lines;
      text = ap concat lines
          ∙ ap (λ (parts : List Part). concat (planned_block held.cell 0 0 (history_of found.grants) (length parts) plan))
          (sym (after_is held.cell found.grants))
          ∙ planned_text held.cell [] 0 0 (history_of found.grants) plan (none_halts found.grants);
      right = grants_right held.cell fits found.grants is.opened.0;
    }

-- the journal was read, or the command ends there
pub grants_made : (files : FilesTold) (disk : DiskTold) (held : KnownCell) → CellFits held.cell → IsOnlyRead disk
    → (made : Result Found EarlyEnd) → IfOk made (IsFound disk (to_read held)) → IfErr made (IsNotOpened disk (to_read held))
    → IsMade files disk (list_grants held) grants_outcome made
grants_made files disk held fits only (Ok found) is ended =
    Allowed (JournalOpened found.grants is.opened (is_listed disk held found fits is, only))
grants_made files disk held fits only (Err end) is ended = Allowed (NotOpened end ended refl)
