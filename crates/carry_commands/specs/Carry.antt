-- `carry CELL1 JOURNAL CELL2`: the start file of the parts after the grants of the journal, carried to the second cell.
use Rattle.std.specs.Prelude.{◌≡◌, ℕ, List, [], Some, map, Result, IfErr}
use Rattle.std.proofs.Common.{sym, ◌∙◌}
use Rattle.std.specs.List.{concat}
use Rattle.cell_base.specs.declared.cells.Cell.{Cell}
use Rattle.cell_base.specs.declared.requests.Part.{Part}
use Rattle.cell_base.specs.declared.requests.Request.{Request}
use Rattle.cell_base.specs.declared.shifts.Grant.{Grant}
use Rattle.cell_base.specs.Histories.{after_requests, replay}
use Rattle.record_text.specs.StartFiles.{place_line}
use Rattle.cell_walks.specs.Observed.{Known}
use Rattle.cell_walks.specs.Outcomes.{Outcome, done}
use Rattle.cell_walks.specs.Walks.{Test, Walk, Tests, Opens, Answers}
use Rattle.cell_walks.specs.declared.early_end.Subject.TheVariants.{Command}
use Rattle.cell_texts.specs.Tests.{KnownCell, cell_file}
use Rattle.journal_texts.specs.Tests.{to_read}
use Rattle.carry_commands.specs.Carried.{carried}
use Rattle.carry_commands.specs.CarriedState.{AreSameParts, IsHindrance}
use Rattle.carry_commands.specs.Refusals.{carry_refused}
use Rattle.carry_commands.specs.Starts.{IsTakenOnBlank}
use Rattle.carry_commands.specs.declared.refusals.CarryFault.{CarryFault}

-- the requests that place each part in the other cell; or the first part that can't be placed, for want of its type, its place, or room
abbrev pub carry_reads : Cell → Cell → List Part → List ℕ → Result (List Request) CarryFault → Type 0
carry_reads old new parts bytes result = (carried old new parts ≡ result) × IfErr result (λ fault. IsHindrance fault.why)

pub carry_once : (old new : Cell) (parts : List Part) (bytes : List ℕ) (first second : Result (List Request) CarryFault)
    → carry_reads old new parts bytes first → carry_reads old new parts bytes second → first ≡ second
carry_once old new parts bytes first second one other = sym one.0 ∙ other.0

-- each part can be carried to the other cell, status 10
abbrev pub carries : Cell → Cell → List Part → Test
carries old new parts = record {
  Value = List Request;
  Fault = CarryFault;
  source = Known;
  subject = Command;
  reads = carry_reads old new parts;
  one_way = carry_once old new parts;
  line = λ fault. Some (carry_refused new fault);
}

-- The line of each request is printed, and the text is a start that `begin` of the second cell takes whole. The state that it leads to has
-- the same parts in the same order.
pub record IsCarried (old new : Cell) (parts : List Part) (requests : List Request) (outcome : Outcome) : Type 0 where
  pub is : outcome ≡ done (map (place_line new) requests)
  pub taken : IsTakenOnBlank new (concat outcome.pieces) requests
  pub reached : AreSameParts old new parts (after_requests new [] requests)

-- what is answered after the grants of a journal
abbrev pub carried_over : KnownCell → KnownCell → List Grant → Walk
carried_over held new grants =
    Tests (carries held.cell new.cell (replay held.cell grants)) λ requests.
    Answers λ input outcome. IsCarried held.cell new.cell (replay held.cell grants) requests outcome

-- its walk from the first cell on
abbrev pub carry_to : List ℕ → KnownCell → Walk
carry_to other held =
    Tests (cell_file other) λ new.
    Opens (to_read held) (carried_over held new)

abbrev pub carry : List ℕ → List ℕ → Walk
carry cell other = Tests (cell_file cell) (carry_to other)
