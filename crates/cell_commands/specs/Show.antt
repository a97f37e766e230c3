-- `show CELL`: the resources of a cell, each with the stages of its neighborhood.
use Rattle.std.specs.Prelude.{◌≡◌, ℕ, List}
use Rattle.std.specs.List.{concat}
use Rattle.refusal_reason.specs.Shown.{show_lines}
use Rattle.cell_walks.specs.Outcomes.{done}
use Rattle.cell_walks.specs.Walks.{Walk, Tests, Answers}
use Rattle.cell_texts.specs.Tests.{KnownCell, cell_file}
use Rattle.cell_commands.specs.declared.show.Shown.{Shown}

-- what is answered for a cell
abbrev pub shown : KnownCell → Walk
shown held = Answers λ input outcome. outcome ≡ done (show_lines held.cell)

abbrev pub show : List ℕ → Walk
show cell = Tests (cell_file cell) shown

-- its text is that of the lines of its cell
abbrev pub IsShown : Shown → Type 0
IsShown shown = shown.text ≡ concat (show_lines shown.core.cell)
