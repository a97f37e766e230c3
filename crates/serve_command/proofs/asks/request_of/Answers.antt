-- The step is read first.
use Rattle.std.specs.Prelude.{Ok, Err}
use Rattle.std.proofs.Common.{◌∙◌}
use Rattle.serve_command.proofs.Asking.{step_first}
use Rattle.serve_command.proofs.asks.request_of.Goals as goal

pub returns-in-Ok-clause-request : goal.returns-in-Ok-clause-request
returns-in-Ok-clause-request c = step_first c.args.cell.now c.args.text.now (Ok c.in-Ok.request) c.in-Ok.ensures.step

pub returns-in-Err-clause-request : goal.returns-in-Err-clause-request
returns-in-Err-clause-request c =
    c.read_place.ensures.request ∙ step_first c.args.cell.now c.args.text.now (Err c.in-Err.field-0) c.in-Err.ensures.step
