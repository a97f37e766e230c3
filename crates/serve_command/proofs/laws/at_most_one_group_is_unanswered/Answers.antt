-- By what each moment says of its file.
use Rattle.serve_command.proofs.Crashing.{one_group}
use Rattle.serve_command.proofs.laws.at_most_one_group_is_unanswered.Goals as goal

pub returns : goal.returns
returns c = one_group
