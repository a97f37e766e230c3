-- `advise CELL` and `arrange CELL`: the orders of a cell's resources whose neighborhoods weigh least.
use Rattle.std.specs.Prelude.{◌≡◌, ℕ, List, length, nat_lt, if◌then◌else◌, Option, Some, None, Result, Ok, Err, ⊤}
use Rattle.cell_base.specs.declared.cells.Cell.{Cell}
use Rattle.order_advisor.specs.Advices.{IsBest}
use Rattle.order_advisor.specs.declared.advice.Advice.{Advice}
use Rattle.order_advisor.specs.declared.advice.AdviceFault.{AdviceFault}
use Rattle.order_advisor.specs.declared.advice.AdviceFault.TheVariants.{TooManyResources, Memory}
use Rattle.order_advisor.specs.declared.advice.TheConstants.{ADVISED, ARRANGED}
use Rattle.order_advisor.specs.declared.weighing.Weighing.{Weighing}
use Rattle.order_advisor.specs.declared.weighing.Weighing.TheVariants.{Alike, ByCapacity}
use Rattle.cell_walks.specs.Observed.{Known}
use Rattle.cell_walks.specs.Outcomes.{Outcome, done}
use Rattle.cell_walks.specs.Walks.{Test, Walk, Tests, Answers}
use Rattle.cell_walks.specs.declared.early_end.Subject.TheVariants.{Cell as OfCell}
use Rattle.cell_texts.specs.OneWay.{reads_by, once}
use Rattle.cell_texts.specs.Tests.{KnownCell, cell_file}
use Rattle.order_commands.specs.Lines.{advice_lines, too_many_line}

-- whether a cell has no more resources than the limit; else how many it has
abbrev pub few_enough : ℕ → Cell → List ℕ → Result ⊤ ℕ
few_enough limit cell bytes = if nat_lt limit (length cell.resources) then Err (length cell.resources) else Ok tt

-- a cell with no more resources than the limit, status 4
abbrev pub few_resources : ℕ → Cell → Test
few_resources limit cell = record {
  Value = ⊤;
  Fault = ℕ;
  source = Known;
  subject = OfCell;
  reads = reads_by (few_enough limit cell);
  one_way = once (few_enough limit cell);
  line = λ count. Some (too_many_line count);
}

-- The best orders of the cell are printed: they weigh least, and of those that do so they come first.
pub record IsAdvised (weighing : Weighing) (cell : Cell) (outcome : Outcome) : Type 0 where
  pub advice : Advice
  pub best : IsBest weighing cell advice
  pub is : outcome ≡ done (advice_lines cell advice)

-- what is answered for a cell
abbrev pub advised : Weighing → KnownCell → Walk
advised weighing held = Answers λ input outcome. IsAdvised weighing held.cell outcome

-- the most resources of a cell whose memberships are weighed so
abbrev pub limit_of : Weighing → ℕ
limit_of Alike = ADVISED
limit_of ByCapacity = ARRANGED

-- the walk from the cell on
abbrev pub best_orders : Weighing → KnownCell → Walk
best_orders weighing held = Tests (few_resources (limit_of weighing) held.cell) λ few. advised weighing held

-- `advise CELL`: each membership weighs 1
abbrev pub advise : List ℕ → Walk
advise cell = Tests (cell_file cell) (best_orders Alike)

-- `arrange CELL`: each weighs 1,000 divided by the capacity of the resource, rounded down
abbrev pub arrange : List ℕ → Walk
arrange cell = Tests (cell_file cell) (best_orders ByCapacity)

-- the line where there is no advice; want of memory has none
abbrev pub fault_line : AdviceFault → Option (List ℕ)
fault_line (TooManyResources count) = Some (too_many_line count)
fault_line Memory = None
