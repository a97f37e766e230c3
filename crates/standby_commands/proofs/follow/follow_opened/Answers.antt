-- The follower takes the frames, or there is no memory for its grants.
use Rattle.std.proofs.Common.{◌≤◌, length, refl, sym, ap, subst, arith}
use Rattle.journal_texts.specs.Recorded.{IsFresh}
use Rattle.standby_link.specs.Followers.{FollowerState}
use Rattle.standby_commands.specs.FrameFiles.{frames_in}
use Rattle.standby_commands.proofs.FollowedFrames.{followed_on, stop_fits_on}
use Rattle.standby_commands.proofs.FrameCuts.{count}
use Rattle.standby_commands.proofs.follow.follow_opened.Goals as goal

pub open-requires-clause-room : goal.open-requires-clause-room
open-requires-clause-room g c =
    omega (arith, c.requires.limit, count c.args.bytes.now)

pub take_frames-stop-requires-clause-ready : goal.take_frames-stop-requires-clause-ready
take_frames-stop-requires-clause-ready g c = record {
  fresh = subst (λ (f : FollowerState _). IsFresh f.durable) (sym c.in-Ok.ensures.open) c.requires.fresh;
  room = subst (λ (f : FollowerState _). length (frames_in c.args.bytes.now) ≤ f.room) (sym c.in-Ok.ensures.open)
      (omega (arith, count c.args.bytes.now));
}

pub returns-in-Ok-clause-followed : goal.returns-in-Ok-clause-followed
returns-in-Ok-clause-followed g c =
    followed_on g.D.Disk.reads_as g.D.Disk.may_leave g.D.Disk.moment g.D.Disk.left_since g.D.Disk.faults c.args.durable
    c.into_durable.result c.in-Ok.follower c.take_frames-stop.new.follower (frames_in c.args.bytes.now)
    (record { core = c.finish-disk.result.core; acks = c.take_frames-stop.new.acks; stop = c.take_frames-stop.result })
    (ap (λ (f : FollowerState _). f.durable) c.in-Ok.ensures.open) c.in-Ok.ensures.none_added c.take_frames-stop.ensures
    c.into_durable.ensures.durable c.finish-disk.ensures.core c.into_durable.ensures.state c.finish-disk.result.disk
    c.finish-disk.ensures.disk c.finish-disk.ensures.keeps_disk

pub returns-in-Ok-clause-fits : goal.returns-in-Ok-clause-fits
returns-in-Ok-clause-fits g c =
    stop_fits_on g.D.Disk.reads_as g.D.Disk.may_leave g.D.Disk.moment g.D.Disk.left_since g.D.Disk.faults c.args.durable
    c.into_durable.result c.in-Ok.follower c.take_frames-stop.new.follower
    (frames_in c.args.bytes.now)
    (record { core = c.finish-disk.result.core; acks = c.take_frames-stop.new.acks; stop = c.take_frames-stop.result })
    (ap (λ (f : FollowerState _). f.durable) c.in-Ok.ensures.open) c.in-Ok.ensures.none_added c.take_frames-stop.ensures
    c.into_durable.ensures.durable c.finish-disk.ensures.core c.into_durable.ensures.state c.core_law.ensures.fits
    c.core_law.ensures.admitted

pub returns-in-Err-clause-followed : goal.returns-in-Err-clause-followed
returns-in-Err-clause-followed g c = rw c.give_back.ensures.made (refl, rw c.in-Err.ensures.back at c.give_back.ensures.stands)
