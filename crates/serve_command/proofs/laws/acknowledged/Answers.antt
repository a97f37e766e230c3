-- By what each moment says of its file.
use Rattle.serve_command.proofs.Crashing.{acknowledged}
use Rattle.serve_command.proofs.laws.acknowledged.Goals as goal

pub returns : goal.returns
returns c = acknowledged
