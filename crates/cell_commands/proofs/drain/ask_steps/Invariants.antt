-- Each step so far was granted.
use Rattle.cell_base.specs.Plans.{work}
use Rattle.durable_cell.specs.DurableState.{parts}
use Rattle.cell_commands.proofs.Asking.{Asking}
use Rattle.cell_commands.proofs.drain.ask_steps.Given as goal

abbrev pub invariant-loop-step : goal.invariant-loop-step
invariant-loop-step g l = record { so_far : Asking l.initial.durable l.durable }

abbrev pub decreases-loop-step : goal.decreases-loop-step
decreases-loop-step g l = work l.durable.cell (parts l.durable)
