-- The lines of a block of a record.
use Rattle.std.specs.Prelude.{ℕ, List, ◌∷◌, ◌++◌, length, map}
use Rattle.cell_base.specs.declared.cells.Cell.{Cell}
use Rattle.cell_base.specs.declared.requests.Request.{Request}
use Rattle.cell_base.specs.declared.shifts.Entry.{Entry}
use Rattle.cell_base.specs.Plans.{plan_of}
use Rattle.admission_core.specs.CoreState.{CoreState}
use Rattle.record_text.specs.Lines.{line_of, head_words, entry_words, left_words, plan_words}
use Rattle.step_text.specs.Steps.{request_words}

-- lines, each with its newline
abbrev pub Lines : Type 0
Lines = List (List ℕ)

-- the line of an entry
abbrev pub entry_line : Cell → Entry → List ℕ
entry_line cell entry = line_of (entry_words cell entry)

-- the line of a step of the plan
abbrev pub step_line : Cell → Request → List ℕ
step_line cell step = line_of (request_words cell step)

-- the head of a shift after this many grants, and a line for each entry
abbrev pub history_lines : Cell → ℕ → ℕ → List Entry → Lines
history_lines cell shift grants history = line_of (head_words shift grants) ∷ map (entry_line cell) history

-- how many steps a plan has, and a line for each
abbrev pub plan_lines : Cell → List Request → Lines
plan_lines cell plan = line_of (plan_words (length plan)) ∷ map (step_line cell) plan

-- the number of parts that are left, and the plan for these
abbrev pub left_lines : Cell → ℕ → List Request → Lines
left_lines cell left plan = line_of (left_words left) ∷ plan_lines cell plan

-- a block with a plan: the history, the number of parts that it leaves, and the plan for these
unfoldable pub planned_block : Cell → ℕ → ℕ → List Entry → ℕ → List Request → Lines
planned_block cell shift grants history left plan = history_lines cell shift grants history ++ left_lines cell left plan

-- the number of the parts that a core holds, and their plan
abbrev pub left_in_core : CoreState → Lines
left_in_core core = left_lines core.cell (length core.parts) (plan_of core.cell core.parts)

-- a block of the parts that a core holds, and of their plan
abbrev pub block_of : CoreState → ℕ → ℕ → List Entry → Lines
block_of core shift grants history = planned_block core.cell shift grants history (length core.parts) (plan_of core.cell core.parts)
