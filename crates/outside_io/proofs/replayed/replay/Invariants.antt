-- The steps still to come lead from here to the same state.
use Rattle.std.proofs.Common.{◌≡◌, drop}
use Rattle.outside_io.specs.Images.{at_rest}
use Rattle.outside_io.specs.DiskSteps.{after_steps}
use Rattle.outside_io.specs.Replayed.{state_of}
use Rattle.outside_io.proofs.replayed.replay.Given as goal

abbrev pub invariant-loop-step : goal.invariant-loop-step
invariant-loop-step l = after_steps (state_of l.state) (drop l.step-index l.steps) ≡ after_steps (at_rest l.first) l.steps
