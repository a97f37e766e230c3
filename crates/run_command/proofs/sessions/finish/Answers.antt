-- What the sessions asked makes the record of their run.
use Rattle.journal_texts.specs.Recorded.{recorded_outcome}
use Rattle.run_command.proofs.Ran.{asked_under, shift_run}
use Rattle.run_command.proofs.sessions.finish.Goals as goal

pub record_of-requires : goal.record_of-requires
record_of-requires g c = asked_under c.args.shift.now c.args.durable c.requires.started c.requires.after c.requires.shift

pub returns-clause-run : goal.returns-clause-run
returns-clause-run g c =
    shift_run c.args.shift.now c.args.durable c.requires.started c.requires.after (recorded_outcome c.record_of.result.made)
    c.record_of.ensures.recorded
