-- Wrapped at each of the two steps, it is the number wrapped once.
use Rattle.std.proofs.Common.{◌/◌, ◌%◌, ◌^◌, ap}
use Rattle.outside_io.proofs.Drawing.{wrapped}
use Rattle.outside_io.proofs.generator.draw.Goals as goal

pub returns-clause-value : goal.returns-clause-value
returns-clause-value c = ap (λ x. x / 2 ^ 33 % c.args.below) (wrapped c.args.state.now)

pub returns-clause-after : goal.returns-clause-after
returns-clause-after c = wrapped c.args.state.now
