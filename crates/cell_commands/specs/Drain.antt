-- `drain CELL JOURNAL`: the steps of the plan after the grants of the journal, asked by session 0 of shift 0.
use Rattle.std.specs.Prelude.{ℕ, List}
use Rattle.cell_base.specs.declared.cells.Cell.{Cell}
use Rattle.cell_base.specs.declared.shifts.Grant.{Grant}
use Rattle.cell_base.specs.Histories.{replay}
use Rattle.cell_base.specs.Plans.{plan_of}
use Rattle.durable_cell.specs.declared.replays.TheConstants.{MAX_ROOM}
use Rattle.cell_walks.specs.Outcomes.{Outcome}
use Rattle.cell_walks.specs.Walks.{Walk, Tests, Opens, Answers}
use Rattle.journal_texts.specs.AskedSteps.{AreAsked}
use Rattle.cell_texts.specs.Tests.{KnownCell, cell_file}
use Rattle.journal_texts.specs.Tests.{to_add}

-- the steps of the plan after these grants were asked
abbrev pub IsDrained : Cell → List Grant → Outcome → Type 0
IsDrained cell grants outcome = AreAsked cell grants (plan_of cell (replay cell grants)) outcome

-- its walk from the cell on
abbrev pub drain_journal : KnownCell → Walk
drain_journal held =
    Opens (to_add held MAX_ROOM) λ grants.
    Answers λ input outcome. IsDrained held.cell grants outcome

abbrev pub drain : List ℕ → Walk
drain cell = Tests (cell_file cell) drain_journal
