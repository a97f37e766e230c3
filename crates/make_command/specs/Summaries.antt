-- What is told of a shift that was drawn from a number and ran: four lines.
use Rattle.std.specs.Prelude.{ℕ, Bool, false, not, List, [], ◌∷◌, length, codes, count_by}
use Rattle.std.specs.Fmt.{decimal}
use Rattle.cell_base.specs.declared.cells.Cell.{Cell}
use Rattle.cell_base.specs.declared.requests.Part.{Part}
use Rattle.cell_base.specs.declared.requests.Told.{Told}
use Rattle.cell_base.specs.declared.requests.Told.TheVariants.{Answered, Halted}
use Rattle.cell_base.specs.declared.shifts.Entry.{Entry}
use Rattle.cell_base.specs.declared.shifts.Shift.{Shift}
use Rattle.cell_base.specs.Fits.{steps_of}
use Rattle.cell_base.specs.Histories.{is_granted, was_granted}
use Rattle.cell_base.specs.Plans.{plan_of}
use Rattle.record_text.specs.Lines.{line_of}
use Rattle.record_printer.specs.Blocks.{Lines}
use Rattle.make_command.specs.declared.summary.Summary.{Summary}

-- the request was refused; a halted one was not
abbrev pub was_refused : Told → Bool
was_refused (Answered reply) = not (is_granted reply)
was_refused Halted = false

-- how many entries were granted
abbrev pub granted_in : List Entry → ℕ
granted_in history = count_by (λ entry. was_granted entry.told) history

-- and how many were refused
abbrev pub refused_in : List Entry → ℕ
refused_in history = count_by (λ entry. was_refused entry.told) history

-- what is told of a shift that was drawn from a number, of its history on this cell, and of the parts that this left
abbrev pub summary_of : ℕ → Cell → Shift → List Entry → List Part → Summary
summary_of number cell shift history left = record {
  number = number;
  resources = length cell.resources;
  types = length cell.types;
  sessions = length shift.scripts;
  steps = steps_of shift;
  granted = granted_in history;
  refused = refused_in history;
  left = length left;
  plan = length (plan_of cell left);
}

-- ---- the lines

-- what it was drawn from
abbrev pub number_words : Summary → List (List ℕ)
number_words summary = codes "make" ∷ decimal summary.number ∷ []

-- how much was drawn
abbrev pub size_words : Summary → List (List ℕ)
size_words summary =
    codes "resources" ∷ decimal summary.resources ∷ codes "types" ∷ decimal summary.types
    ∷ codes "sessions" ∷ decimal summary.sessions ∷ codes "steps" ∷ decimal summary.steps ∷ []

-- what the sessions were told
abbrev pub told_words : Summary → List (List ℕ)
told_words summary = codes "granted" ∷ decimal summary.granted ∷ codes "refused" ∷ decimal summary.refused ∷ []

-- what was left, and how many steps bring it out
abbrev pub left_words : Summary → List (List ℕ)
left_words summary = codes "left" ∷ decimal summary.left ∷ codes "plan" ∷ decimal summary.plan ∷ []

abbrev pub summary_lines : Summary → Lines
summary_lines summary =
    line_of (number_words summary) ∷ line_of (size_words summary) ∷ line_of (told_words summary) ∷ line_of (left_words summary) ∷ []
