-- A cell with its best orders, and the end where there are none.
use Rattle.std.specs.Prelude.{◌≡◌, ◌≤◌, length}
use Rattle.cell_base.specs.declared.cells.Cell.{Cell}
use Rattle.cell_base.specs.Fits.{CellFits}
use Rattle.order_advisor.specs.Advices.{IsBest, IsFault}
use Rattle.order_advisor.specs.declared.advice.AdviceFault.{AdviceFault}
use Rattle.order_advisor.specs.declared.weighing.Weighing.{Weighing}
use Rattle.cell_walks.specs.Walks.{end_with}
use Rattle.cell_walks.specs.declared.early_end.EarlyEnd.{EarlyEnd}
use Rattle.cell_walks.specs.declared.early_end.Subject.TheVariants.{Cell as OfCell}
use Rattle.order_commands.specs.Orders.{fault_line, limit_of}
use Rattle.order_commands.specs.declared.orders.Advised.{Advised}

-- the best orders of this cell, which has few resources
pub record IsAdviceOn (cell : Cell) (weighing : Weighing) (advised : Advised) : Type 0 where
  pub on : advised.cell ≡ cell
  pub few : length cell.resources ≤ limit_of weighing
  pub best : IsBest weighing cell advised.advice

-- the cell fits, and has an order for each resource
pub record IsComplete (advised : Advised) : Type 0 where
  pub fits : CellFits advised.cell
  pub each : length advised.advice.orders ≡ length advised.cell.resources

-- there is none for this reason, with which the command ends
pub record HasNoAdvice (cell : Cell) (weighing : Weighing) (end : EarlyEnd) : Type 0 where
  pub fault : AdviceFault
  pub is : IsFault cell (limit_of weighing) fault
  pub told : end ≡ end_with OfCell (fault_line fault)
