-- The frames of the grants from this one on are still to be printed.
use Rattle.std.proofs.Common.{drop, map}
use Rattle.printer.proofs.Sequences.{PrintsTo}
use Rattle.standby_link.specs.Fed.{fed, frames_at}
use Rattle.standby_link.specs.Frames.{frame_of}
use Rattle.standby_commands.proofs.printing.print_frames.Given as goal

abbrev pub invariant-loop-at : goal.invariant-loop-at
invariant-loop-at g l =
    PrintsTo g.K.Sink l.initial.out l.out (fed l.fn.first l.feeder.grants) (map frame_of (frames_at l.at (drop l.at l.feeder.grants)))
