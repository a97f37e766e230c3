-- By the asks in turn.
use Rattle.serve_command.proofs.Answered.{answers-each}
use Rattle.serve_command.proofs.laws.each_line_is_answered_once.Goals as goal

pub returns : goal.returns
returns c = answers-each c.args.cell.now
