-- Where the first frame of the rest has room, what is said goes on to those after it; one without room ends it, and so does the last.
use Rattle.std.specs.Prelude.{Bool, not, ◌&&◌, ◌==◌}
use Rattle.std.proofs.Common.{ℕ, List, length, ap, sym, ◌∙◌, arith, length-drop}
use Rattle.std.proofs.lemmas.Bool.{eq-eqb, ne_eqb}
use Rattle.durable_cell.specs.declared.replays.TheConstants.{MAX_ROOM}
use Rattle.standby_commands.specs.FrameFiles.{frames_in, have_room}
use Rattle.standby_commands.proofs.FrameCuts.{cut_none, next_frames}
use Rattle.standby_commands.proofs.frames.have_room.Goals as goal

pub loop-rest-preserved : goal.loop-rest-preserved
loop-rest-preserved c =
    let rest = c.loop-rest.rest.now in let frame = c.first_frame.result.0 in let more = c.first_frame.result.1.now in
    c.loop-rest.invariant
    ∙ ap have_room (next_frames rest frame more (omega (arith, c.loop-rest-test.true)) c.first_frame.ensures.frame
    c.first_frame.ensures.rest)
    ∙ ap (λ (here : Bool). here && have_room (frames_in more))
    (ap (λ (n : ℕ). not (n == MAX_ROOM)) (sym c.index_in.ensures)
    ∙ ap not (ne_eqb c.index_in.result MAX_ROOM c.if-index_in-eq-MAX_ROOM.false))

pub loop-rest-smaller : goal.loop-rest-smaller
loop-rest-smaller c =
    omega (
      arith,
      c.loop-rest-test.true,
      ap (λ (bytes : List ℕ). length bytes) c.first_frame.ensures.rest,
      length-drop 24 c.loop-rest.rest.now,
    )

pub returns-then-index_in-eq-MAX_ROOM : goal.returns-then-index_in-eq-MAX_ROOM
returns-then-index_in-eq-MAX_ROOM c =
    let rest = c.loop-rest.rest.now in let frame = c.first_frame.result.0 in let more = c.first_frame.result.1.now in
    sym (c.loop-rest.invariant
    ∙ ap have_room (next_frames rest frame more (omega (arith, c.loop-rest-test.true)) c.first_frame.ensures.frame
    c.first_frame.ensures.rest)
    ∙ ap (λ (here : Bool). here && have_room (frames_in more))
    (ap (λ (n : ℕ). not (n == MAX_ROOM)) (sym c.index_in.ensures)
    ∙ ap not (eq-eqb c.index_in.result MAX_ROOM c.if-index_in-eq-MAX_ROOM.true)))

pub returns : goal.returns
returns c =
    sym (c.loop-rest.invariant ∙ ap have_room (cut_none c.loop-rest.rest.now (omega (arith, c.loop-rest-test.false))))
