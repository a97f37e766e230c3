-- A step stands after the left line and the plan line.
use Rattle.std.proofs.Common.{arith}
use Rattle.shift_checker.proofs.Following.{step_there}
use Rattle.shift_checker.proofs.block_lines.line_of_tail.Goals as goal

pub returns-in_default : goal.returns-in_default
returns-in_default c =
    rw c.in-Planned.is (step_there c.in-Planned.left c.in-Planned.steps c.args.at c.get.result.now (omega arith) c.get.ensures)
