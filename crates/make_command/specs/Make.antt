-- `make NUMBER`: a shift that is drawn from a number, its sessions in rounds on the empty cell that is drawn with it.
use Rattle.std.specs.Prelude.{◌≡◌, ℕ, List, []}
use Rattle.cell_base.specs.declared.shifts.Entry.{Entry}
use Rattle.cell_base.specs.Histories.{after}
use Rattle.cell_base.specs.Plans.{Drains, plan_of}
use Rattle.cell_base.specs.Rounds.{IsRoundRobin}
use Rattle.cell_make.specs.Cells.{drawn_cell}
use Rattle.cell_make.specs.Shifts.{drawn_shift}
use Rattle.cell_walks.specs.Outcomes.{Outcome, done}
use Rattle.cell_walks.specs.Walks.{Answers, Tests, Walk}
use Rattle.cell_texts.specs.Numbers.{number}
use Rattle.make_command.specs.Summaries.{summary_lines, summary_of}
use Rattle.make_command.specs.declared.summary.Summary.{Summary}

-- The summary of a number: of the history of the drawn sessions in rounds, and of the plan of the state after it, which drains that state.
pub record IsSummaryOf (number : ℕ) (summary : Summary) : Type 0 where
  pub history : List Entry
  pub rounds : IsRoundRobin (drawn_cell number) [] (drawn_shift number) history
  pub drains : let left = after (drawn_cell number) [] history in Drains (drawn_cell number) left (plan_of (drawn_cell number) left)
  pub is : let left = after (drawn_cell number) [] history in
      summary ≡ summary_of number (drawn_cell number) (drawn_shift number) history left

-- that summary is printed
abbrev pub IsSummaryPrinted : ℕ → Outcome → Type 0
IsSummaryPrinted number outcome = (summary : Summary) × IsSummaryOf number summary × (outcome ≡ done (summary_lines summary))

-- what is answered for a number
abbrev pub made : ℕ → Walk
made number = Answers λ input outcome. IsSummaryPrinted number outcome

-- the commands with their words, for any other word, and the word
abbrev pub make : List ℕ → List ℕ → Walk
make usage word = Tests (number usage word) made
