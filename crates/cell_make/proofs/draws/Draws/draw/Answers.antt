-- Wrapped at each of the two steps, it is the number wrapped once.
use Rattle.std.proofs.Common.{◌/◌, ◌%◌, ◌^◌, ap}
use Rattle.cell_make.proofs.Sequences.{wrapped}
use Rattle.cell_make.proofs.draws.Draws.draw.Goals as goal

pub returns-clause-value : goal.returns-clause-value
returns-clause-value c = ap (λ x. x / 2 ^ 33 % c.args.k) (wrapped c.args.self.now.number)

pub returns-clause-after : goal.returns-clause-after
returns-clause-after c = wrapped c.args.self.now.number
