-- The session of the entry goes on by what it was told.
use Rattle.board_rounds.proofs.Standing.{room_for_refusal, room_for_step, stands_next}
use Rattle.board_rounds.proofs.progress.go_on.Goals as goal

pub told-requires-clause-step : goal.told-requires-clause-step
told-requires-clause-step c =
    room_for_step c.loop-i.progress c.args.history.now c.loop-i.i _ c.index-progress-k.result c.loop-i.invariant c.loop-i-test.true
    (c.requires.sessions c.loop-i.i _ c.loop-i-test.true) c.requires.short

pub told-requires-clause-refusals : goal.told-requires-clause-refusals
told-requires-clause-refusals c =
    room_for_refusal c.loop-i.progress c.args.history.now c.loop-i.i _ c.index-progress-k.result c.loop-i.invariant c.loop-i-test.true
    (c.requires.sessions c.loop-i.i _ c.loop-i-test.true) c.requires.short

pub loop-i-preserved : goal.loop-i-preserved
loop-i-preserved c =
    stands_next c.loop-i.progress c.args.history.now c.loop-i.i _ c.index-progress-k.result c.loop-i.invariant c.loop-i-test.true
    (c.requires.sessions c.loop-i.i _ c.loop-i-test.true) c.told.result c.told.ensures
