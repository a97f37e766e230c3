-- What each line of a record says in its turn, and what it adds to what was read before it.
use Rattle.std.specs.Prelude.{ℕ, ◌-◌, ◌<◌, ◌==◌, if◌then◌else◌, List, [], ◌∷◌, ◌++◌, Option, Some, ⊤}
use Rattle.std.specs.Option.{option_map, option_map_or}
use Rattle.cell_base.specs.declared.cells.Cell.{Cell}
use Rattle.cell_base.specs.Fits.{RequestFits}
use Rattle.cell_base.specs.Histories.{was_halted}
use Rattle.record_text.specs.declared.blocks.Block.{Block}
use Rattle.record_text.specs.declared.blocks.Tail.TheVariants as tails
use Rattle.record_text.specs.declared.record_lines.RecordLine.{RecordLine}
use Rattle.record_text.specs.declared.record_lines.RecordLine.TheVariants as lines
use Rattle.record_text.specs.declared.record_lines.Turn.{Turn}
use Rattle.record_text.specs.declared.record_lines.Turn.TheVariants as turns
use Rattle.record_text.specs.declared.stages.Stage.{Stage}
use Rattle.record_text.specs.declared.stages.Stage.TheVariants.{Between, Entries, Left, Steps}
use Rattle.record_text.specs.Progress.{Reading, closed}
use Rattle.record_text.specs.Reading.{Words, entry_at, head_at, left_at, plan_at, step_at}

-- nothing has been read
abbrev pub unread : Reading
unread = ([], Between)

-- what may come next, without what was read
abbrev pub turn_of : Stage → Turn
turn_of Between = turns.Between
turn_of (Entries head entries) = turns.Entries
turn_of (Left head entries left) = turns.Left
turn_of (Steps head entries left missing steps) = turns.Steps missing

-- what the words of a line say in this turn
abbrev pub line_at : Cell → Turn → Words → Option RecordLine
line_at cell turns.Between ws = option_map (λ head. lines.Head head.0 head.1) (head_at ws)
line_at cell turns.Entries ws = option_map_or (λ entry. Some (lines.Entry entry)) (entry_at cell ws) (option_map lines.Left (left_at ws))
line_at cell turns.Left ws = option_map lines.Plan (plan_at ws)
line_at cell (turns.Steps missing) ws = option_map lines.Step (step_at cell ws)

-- a step is missing where steps are read
abbrev pub IsTurn : Turn → Type 0
IsTurn turns.Between = ⊤
IsTurn turns.Entries = ⊤
IsTurn turns.Left = ⊤
IsTurn (turns.Steps missing) = 0 < missing

-- such a line may come in this turn
abbrev pub Suits : Turn → RecordLine → Type 0
Suits turns.Between (lines.Head shift after) = ⊤
Suits turns.Entries (lines.Entry entry) = ⊤
Suits turns.Entries (lines.Left left) = ⊤
Suits turns.Left (lines.Plan steps) = ⊤
Suits (turns.Steps missing) (lines.Step step) = ⊤
Suits turn line = ⊥

-- its request fits the cell
abbrev pub LineFits : Cell → RecordLine → Type 0
LineFits cell (lines.Head shift after) = ⊤
LineFits cell (lines.Entry entry) = RequestFits cell entry.request
LineFits cell (lines.Left left) = ⊤
LineFits cell (lines.Plan steps) = ⊤
LineFits cell (lines.Step step) = RequestFits cell step

-- so many steps are missing, or the block is whole
abbrev pub before_steps : ℕ → Turn
before_steps missing = if missing == 0 then turns.Between else turns.Steps missing

-- what may come after a line
abbrev pub turn_after : Turn → RecordLine → Turn
turn_after turn (lines.Head shift after) = turns.Entries
turn_after turn (lines.Entry entry) = if was_halted entry.told then turns.Between else turns.Entries
turn_after turn (lines.Left left) = turns.Left
turn_after turn (lines.Plan steps) = before_steps steps
turn_after (turns.Steps missing) (lines.Step step) = before_steps (missing - 1)
turn_after turn (lines.Step step) = turn

-- the n-th line, where it may come, and what was read before it
abbrev pub with_line : ℕ → List Block → Stage → RecordLine → Reading
with_line n blocks Between (lines.Head shift after) =
    (blocks, Entries (record { first_line = n; shift = shift; after = after }) [])
with_line n blocks (Entries head entries) (lines.Entry entry) =
    if was_halted entry.told then closed blocks head (entries ++ entry ∷ []) tails.Halted
    else (blocks, Entries head (entries ++ entry ∷ []))
with_line n blocks (Entries head entries) (lines.Left left) = (blocks, Left head entries left)
with_line n blocks (Left head entries left) (lines.Plan steps) =
    if steps == 0 then closed blocks head entries (tails.Planned left []) else (blocks, Steps head entries left steps [])
with_line n blocks (Steps head entries left missing steps) (lines.Step step) =
    if missing == 1 then closed blocks head entries (tails.Planned left (steps ++ step ∷ []))
    else (blocks, Steps head entries left (missing - 1) (steps ++ step ∷ []))
with_line n blocks stage line = (blocks, stage)
