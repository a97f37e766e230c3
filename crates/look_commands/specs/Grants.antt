-- `grants CELL JOURNAL`: the grants of the journal as one record of shift 0, with the plan that empties the cell after them.
use Rattle.std.specs.Prelude.{◌≡◌, ℕ, ◌<◌, ◌^◌, List, [], ◌∷◌, length, map}
use Rattle.std.specs.List.{concat}
use Rattle.cell_base.specs.declared.cells.Cell.{Cell}
use Rattle.cell_base.specs.declared.requests.Reply.TheVariants.{Granted}
use Rattle.cell_base.specs.declared.requests.Told.TheVariants.{Answered}
use Rattle.cell_base.specs.declared.shifts.Entry.{Entry}
use Rattle.cell_base.specs.declared.shifts.Grant.{Grant}
use Rattle.cell_base.specs.Histories.{replay}
use Rattle.cell_base.specs.Plans.{Drains, plan_of}
use Rattle.record_text.specs.Records.{block_of, text_of_block}
use Rattle.record_text.specs.declared.blocks.Block.{Block}
use Rattle.step_text.specs.Steps.{job_number}
use Rattle.shift_checker.specs.Judging.{judge}
use Rattle.shift_checker.specs.declared.verdict.Verdict.TheVariants.{Yes}
use Rattle.cell_walks.specs.Outcomes.{Outcome, done}
use Rattle.cell_walks.specs.Walks.{Walk, Tests, Opens, Answers}
use Rattle.record_printer.specs.Blocks.{Lines, block_of as lines_of_block, entry_line, planned_block}
use Rattle.cell_texts.specs.Tests.{KnownCell, cell_file}
use Rattle.journal_texts.specs.Tests.{to_read}
use Rattle.journal_texts.specs.declared.readers.Found.{Found}

-- ---- grants as a record

-- what a grant is in a record: its session asked, and it was granted
abbrev pub entry_of : Grant → Entry
entry_of grant = record { session = grant.session; request = grant.request; told = Answered Granted }

-- grants as one history, in their order, whatever shifts they are of
abbrev pub history_of : List Grant → List Entry
history_of grants = map entry_of grants

-- the only block of the record of these grants: shift 0 before any grant, and the plan for the parts that they leave
abbrev pub block_of_grants : Cell → List Grant → Block
block_of_grants cell grants = block_of cell [] 0 0 (history_of grants) (plan_of cell (replay cell grants))

-- the numbers of its session and its job are those of their types
pub record GrantInRange (grant : Grant) : Type 0 where
  pub session : grant.session < 2 ^ 16
  pub job : job_number grant.request < 2 ^ 32

-- ---- the command

-- The record of the grants is printed, with the plan that drains the state after them; and the check of records finds it right.
pub record IsListed (cell : Cell) (grants : List Grant) (outcome : Outcome) : Type 0 where
  pub drains : let left = replay cell grants in Drains cell left (plan_of cell left)
  pub is : let left = replay cell grants in
      outcome ≡ done (planned_block cell 0 0 (history_of grants) (length left) (plan_of cell left))
  pub text : concat outcome.pieces ≡ text_of_block cell (block_of_grants cell grants)
  pub right : judge cell (block_of_grants cell grants ∷ []) ≡ Yes

-- what is answered for the grants of a journal
abbrev pub listed : KnownCell → List Grant → Walk
listed held opening = Answers λ input outcome. IsListed held.cell opening outcome

-- its walk from the cell on
abbrev pub list_grants : KnownCell → Walk
list_grants held = Opens (to_read held) (listed held)

abbrev pub grants : List ℕ → Walk
grants cell = Tests (cell_file cell) list_grants

-- ---- what is found in a journal

-- the line of a grant
abbrev pub grant_line : Cell → Grant → List ℕ
grant_line cell grant = entry_line cell (entry_of grant)

-- the lines of the record of what was found
abbrev pub found_lines : Found → Lines
found_lines found = lines_of_block found.core 0 0 (history_of found.grants)
