-- What is said of all frames is said of those of the rest.
use Rattle.std.proofs.Common.{◌≡◌, length}
use Rattle.standby_commands.specs.FrameFiles.{frames_in, have_room}
use Rattle.standby_commands.proofs.frames.have_room.Given as goal

abbrev pub invariant-loop-rest : goal.invariant-loop-rest
invariant-loop-rest l = have_room (frames_in l.bytes) ≡ have_room (frames_in l.rest)

abbrev pub decreases-loop-rest : goal.decreases-loop-rest
decreases-loop-rest l = length l.rest
