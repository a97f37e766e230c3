-- One more frame is printed; after the last one all are.
use Rattle.std.proofs.Common.{arith, ap, map}
use Rattle.std.proofs.lemmas.List.{drop_all}
use Rattle.printer.proofs.Sequences.{prints_to_all, prints_to_end, prints_to_next}
use Rattle.standby_link.specs.Fed.{fed, frames_at}
use Rattle.standby_link.specs.Frames.{frame_of}
use Rattle.standby_commands.proofs.FedFrames.{frame_there}
use Rattle.standby_commands.proofs.printing.print_frames.Goals as goal

pub loop-at-init : goal.loop-at-init
loop-at-init g c = prints_to_all g.K.Sink c.args.out.now (fed c.args.first c.args.feeder.now.grants)

pub loop-at-preserved : goal.loop-at-preserved
loop-at-preserved g c =
    let there = frame_there c.args.feeder.now.grants c.loop-at.at c.frame.result c.frame.ensures.bytes in
    prints_to_next (ap (map frame_of) there.2) there.1 c.loop-at.invariant c.piece.ensures

pub returns : goal.returns
returns g c =
    prints_to_end
    (ap (λ (rest : _). map frame_of (frames_at c.loop-at.at rest))
    (drop_all c.loop-at.at c.args.feeder.now.grants (omega (arith, c.loop-at-test.false, c.len-at-end.ensures))))
    c.loop-at.invariant
