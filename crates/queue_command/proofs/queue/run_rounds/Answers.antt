-- The rounds begin on an empty board over the empty cell.
use Rattle.queue_command.proofs.Queueing.{queue_fits, queue_run_of}
use Rattle.queue_command.proofs.queue.run_rounds.Goals as goal

pub returns-in-Ok-clause-run : goal.returns-in-Ok-clause-run
returns-in-Ok-clause-run c =
    queue_run_of c.args.cell c.requires.cell c.args.shift.now c.requires.shift c.in_ok-core.core _ _ c.in-Ok.board
    c.ask_in_rounds.new.board c.in_ok-core.ensures c.in-Ok.ensures.ok c.ask_in_rounds.ensures.run c.len.ensures
    c.board_law.ensures c.ask_in_rounds.ensures.over

pub returns-in-Ok-clause-fits : goal.returns-in-Ok-clause-fits
returns-in-Ok-clause-fits c =
    queue_fits c.args.cell c.requires.cell c.args.shift.now c.requires.shift c.in_ok-core.core _ _ c.in-Ok.board
    c.ask_in_rounds.new.board c.in_ok-core.ensures c.in-Ok.ensures.ok c.ask_in_rounds.ensures.run c.len.ensures
    c.board_law.ensures
