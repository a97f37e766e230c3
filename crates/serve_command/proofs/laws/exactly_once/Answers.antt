-- By what each moment says of its file.
use Rattle.serve_command.proofs.Crashing.{exactly_once}
use Rattle.serve_command.proofs.laws.exactly_once.Goals as goal

pub returns : goal.returns
returns c = exactly_once
