-- The frames so far were taken, and the others are those of the rest.
use Rattle.std.proofs.Common.{◌≡◌, ℕ, ◌≤◌, List, ◌++◌, length}
use Rattle.standby_commands.specs.FrameFiles.{frames_in}
use Rattle.standby_commands.proofs.TakenFrames.{Underway}
use Rattle.standby_commands.proofs.following.take_frames.Given as goal

abbrev pub invariant-loop-rest : goal.invariant-loop-rest
invariant-loop-rest g l = record {
  frames : List (List ℕ);
  parted : frames_in l.bytes ≡ frames ++ frames_in l.rest;
  so_far : Underway l.initial.follower frames l.follower l.acks.items;
  spare : length (frames_in l.rest) ≤ l.acks.spare;
}

abbrev pub decreases-loop-rest : goal.decreases-loop-rest
decreases-loop-rest g l = length l.rest
