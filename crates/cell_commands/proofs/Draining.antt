-- A drain that came to its end, on a cell whose journal was opened.
use Rattle.std.specs.Prelude.{IfSome}
use Rattle.std.proofs.Common.{◌≡◌, ℕ, Ok, subst}
use Rattle.outside_io.specs.Meanings.{DiskMeaning}
use Rattle.durable_cell.specs.DurableState.{DurableState}
use Rattle.durable_cell.specs.Openings.{fresh}
use Rattle.journal_format.specs.Replayed.{AreDue, opened_as}
use Rattle.durable_cell.specs.declared.replays.TheConstants.{MAX_ROOM}
use Rattle.cell_walks.specs.Allowed.{IsAllowed, JournalOpened, StandsForAdded}
use Rattle.cell_walks.specs.DiskTold.{disk_seen}
use Rattle.cell_walks.specs.Observed.{FilesTold, observed}
use Rattle.cell_walks.specs.Outcomes.{Outcome}
use Rattle.cell_texts.specs.Tests.{KnownCell}
use Rattle.cell_commands.specs.Drain.{IsDrained, drain_journal}

-- what was drained of a cell whose journal was opened
pub drain_opened : {D : Type 0} (d : DiskMeaning D) (held : KnownCell) (disk new : D) (durable : DurableState D) (limit : ℕ)
    (outcome : Outcome) → durable ≡ fresh held.cell held.text disk durable.found durable.disk durable.opening limit
    → IfSome (d.reads_as disk) (λ file. opened_as held.cell file held.text MAX_ROOM ≡ Ok durable.opening)
    → AreDue durable.cell durable.opening → IsDrained durable.cell durable.opening outcome
    → StandsForAdded (disk_seen d durable.entry new) durable.text durable.opening outcome.added outcome.unsure
    → (files : FilesTold) → IsAllowed (observed files (disk_seen d disk new)) (drain_journal held) outcome
drain_opened d held disk new durable limit outcome is exact due drained stands files =
    JournalOpened durable.opening (subst (λ (s : DurableState _). AreDue s.cell durable.opening) is due, exact) (
      subst (λ (s : DurableState _). IsDrained s.cell durable.opening outcome) is drained,
      subst (λ (s : DurableState _). StandsForAdded (disk_seen d s.entry new) s.text durable.opening outcome.added outcome.unsure) is stands,
    )
