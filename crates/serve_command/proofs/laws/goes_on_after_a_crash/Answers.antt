-- By what each moment says of its file.
use Rattle.serve_command.proofs.Crashing.{goes_on_after}
use Rattle.serve_command.proofs.laws.goes_on_after_a_crash.Goals as goal

pub returns : goal.returns
returns c = goes_on_after
