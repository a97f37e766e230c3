-- One more frame is taken, or the follower stops at it; after the last one all were taken.
use Rattle.std.proofs.Common.{◌≡◌, ℕ, ◌≤◌, ◌<◌, List, [], ◌∷◌, ◌++◌, length, refl}
use Rattle.std.proofs.Common.{◌∙◌, sym, ap, subst, arith, append_assoc, append-nil, length-drop}
use Rattle.durable_cell.specs.Asked.{halted_at}
use Rattle.standby_commands.specs.Following.{HasFollowed}
use Rattle.standby_commands.specs.FrameFiles.{frames_in}
use Rattle.standby_commands.proofs.FrameCuts.{cut_none, next_frames}
use Rattle.standby_commands.proofs.TakenFrames.{Underway, begins, goes_on, stopped}
use Rattle.standby_commands.proofs.following.take_frames.Goals as goal

pub loop-rest-init : goal.loop-rest-init
loop-rest-init g c = record {
  frames = [];
  parted = refl;
  so_far = subst (Underway c.args.follower.now [] c.args.follower.now) (sym c.requires.acks)
      (begins c.args.follower.now (length (frames_in c.args.bytes.now)) (ap halted_at c.requires.ready.fresh.history) c.requires.ready);
  spare = c.requires.room;
}

pub push-requires : goal.push-requires
push-requires g c =
    let loop = c.loop-rest in
    let enough : 24 ≤ length loop.rest.now = omega (arith, c.loop-rest-test.true) in
    let next = next_frames loop.rest.now c.first_frame.result.0 c.first_frame.result.1.now enough c.first_frame.ensures.frame
    c.first_frame.ensures.rest in
    omega (arith, loop.invariant.spare, ap (λ (fs : List (List ℕ)). length fs) next)

pub loop-rest-preserved : goal.loop-rest-preserved
loop-rest-preserved g c =
    let loop = c.loop-rest in let inv = loop.invariant in
    let enough : 24 ≤ length loop.rest.now = omega (arith, c.loop-rest-test.true) in
    let frame = c.first_frame.result.0 in let more = c.first_frame.result.1.now in
    let next = next_frames loop.rest.now frame more enough c.first_frame.ensures.frame c.first_frame.ensures.rest in
    record {
      frames = inv.frames ++ frame ∷ [];
      parted = inv.parted ∙ ap (λ (fs : List (List ℕ)). inv.frames ++ fs) next
          ∙ sym (append_assoc inv.frames (frame ∷ []) (frames_in more));
      so_far = subst (Underway c.args.follower.now (inv.frames ++ frame ∷ []) c.take.new.self) (sym c.push.ensures.items)
          (goes_on c.args.follower.now loop.follower c.take.new.self inv.frames loop.acks.items frame inv.so_far c.in-Ok.ack
          c.in-Ok.ensures.answer c.in-Ok.ensures.delivery);
      spare = omega (arith, inv.spare, ap (λ (fs : List (List ℕ)). length fs) next, c.push.ensures.spare);
    }

pub loop-rest-smaller : goal.loop-rest-smaller
loop-rest-smaller g c =
    let loop = c.loop-rest in
    let enough : 24 ≤ length loop.rest.now = omega (arith, c.loop-rest-test.true) in
    omega (arith, enough, ap (λ (bs : List ℕ). length bs) c.first_frame.ensures.rest, length-drop 24 loop.rest.now)

pub returns-in-Err : goal.returns-in-Err
returns-in-Err g c =
    let loop = c.loop-rest in let inv = loop.invariant in
    let enough : 24 ≤ length loop.rest.now = omega (arith, c.loop-rest-test.true) in
    let frame = c.first_frame.result.0 in let more = c.first_frame.result.1.now in
    let next = next_frames loop.rest.now frame more enough c.first_frame.ensures.frame c.first_frame.ensures.rest in
    stopped c.args.follower.now loop.follower c.take.new.self inv.frames loop.acks.items frame inv.so_far
    (frames_in c.args.bytes.now) (frames_in more) (inv.parted ∙ ap (λ (fs : List (List ℕ)). inv.frames ++ fs) next)
    c.requires.ready.room c.in-Err.why c.index_in-index.result c.index_in-index.ensures c.in-Err.ensures.answer c.in-Err.ensures.delivery

pub returns : goal.returns
returns g c =
    let loop = c.loop-rest in let inv = loop.invariant in
    let few : length loop.rest.now < 24 = omega (arith, c.loop-rest-test.false) in
    let all : frames_in c.args.bytes.now ≡ inv.frames =
    inv.parted ∙ ap (λ (fs : List (List ℕ)). inv.frames ++ fs) (cut_none loop.rest.now few) ∙ append-nil inv.frames in (
      subst (λ (fs : List (List ℕ)). HasFollowed c.args.follower.now fs loop.follower loop.acks.items) (sym all) inv.so_far.followed,
      inv.so_far.sure,
    )
