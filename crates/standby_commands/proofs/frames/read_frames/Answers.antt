-- The frames that were read are those of the file, up to the cut of the file.
use Rattle.std.proofs.Common.{ℕ, List, ap, sym, ◌∙◌, arith}
use Rattle.cell_walks.specs.Observed.{FilesTold, files_told}
use Rattle.standby_commands.specs.FrameFiles.{frames_in, have_room}
use Rattle.standby_commands.proofs.FrameCuts.{frames_read, no_room_read, not_whole_read, too_long_read}
use Rattle.standby_commands.proofs.frames.read_frames.Goals.{then-len-gt-MAX_FRAMES_BYTES-via-then-len-gt-MAX_FRAMES_BYTES}
use Rattle.standby_commands.proofs.frames.read_frames.Goals.{then-len-gt-MAX_FRAMES_BYTES-via-else-len-gt-MAX_FRAMES_BYTES+then-len-ne0}
use Rattle.standby_commands.proofs.frames.read_frames.Goals as goal

pub returns-then-len-gt-MAX_FRAMES_BYTES-clause-ended : goal.returns-then-len-gt-MAX_FRAMES_BYTES-clause-ended
returns-then-len-gt-MAX_FRAMES_BYTES-clause-ended g c =
    let files : FilesTold = files_told g.F.Files.holds g.F.Files.is_sound g.F.Files.faults c.args.files.now c.read_named.new.files in
    let name = c.args.name.now in let read = c.in-Ok.bytes.items in
    rw c.frames_refused.ensures (elim c.then-len-gt-MAX_FRAMES_BYTES.branch [
      | then-len-gt-MAX_FRAMES_BYTES-via-then-len-gt-MAX_FRAMES_BYTES w ↦
          too_long_read files name read c.in-Ok.ensures.read (omega (arith, w.if-len-gt-MAX_FRAMES_BYTES.true, c.len-len.ensures))
      | then-len-gt-MAX_FRAMES_BYTES-via-else-len-gt-MAX_FRAMES_BYTES+then-len-ne0 w ↦
          not_whole_read files name read c.in-Ok.ensures.read (λ whole. w.if-len-ne0.true (omega (arith, whole, c.len-len.ensures)))
    ])

pub returns-then-not-have_room-clause-ended : goal.returns-then-not-have_room-clause-ended
returns-then-not-have_room-clause-ended g c =
    let files : FilesTold = files_told g.F.Files.holds g.F.Files.is_sound g.F.Files.faults c.args.files.now c.read_named.new.files in
    rw c.frames_refused-then-not-have_room.ensures (no_room_read files c.args.name.now c.in-Ok.bytes.items c.in-Ok.ensures.read
    (ap (λ (bytes : List ℕ). have_room (frames_in bytes)) (sym c.deref.ensures.value) ∙ sym c.have_room.ensures ∙ c.if-not-have_room.true))

pub returns-clause-read : goal.returns-clause-read
returns-clause-read g c =
    let files : FilesTold = files_told g.F.Files.holds g.F.Files.is_sound g.F.Files.faults c.args.files.now c.read_named.new.files in
    let read = c.in-Ok.bytes.items in
    frames_read files c.args.name.now read c.in-Ok.ensures.read (omega (arith, c.if-len-gt-MAX_FRAMES_BYTES.false, c.len-len.ensures))
    (omega (arith, c.if-len-ne0.false, c.len-len.ensures)) (ap (λ (bytes : List ℕ). have_room (frames_in bytes)) (sym c.deref.ensures.value) ∙ sym c.have_room.ensures ∙ c.if-not-have_room.false)
