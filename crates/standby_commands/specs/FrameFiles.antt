-- A file of frames, one after the other.
use Rattle.std.specs.Prelude.{ℕ, zero, suc, ◌/◌, ◌%◌, Bool, true, ◌==◌, ◌&&◌, nat_le, not, if◌then◌else◌}
use Rattle.std.specs.Prelude.{Some, List, [], ◌∷◌, length, take, drop, Result, Ok, Err, ⊤}
use Rattle.durable_cell.specs.declared.replays.TheConstants.{MAX_ROOM}
use Rattle.cell_walks.specs.Observed.{File}
use Rattle.cell_walks.specs.Walks.{Test}
use Rattle.cell_walks.specs.declared.early_end.Subject.TheVariants.{Input}
use Rattle.cell_texts.specs.OneWay.{once, reads_by}
use Rattle.standby_link.specs.Frames.{index_in}
use Rattle.standby_commands.specs.Lines.{frames_refused}
use Rattle.standby_commands.specs.declared.frames.TheConstants.{FRAME_BYTES, MAX_FRAMES_BYTES}

-- so many frames, of the bytes in their order
abbrev pub cut : ℕ → List ℕ → List (List ℕ)
cut zero bytes = []
cut (suc count) bytes = take FRAME_BYTES bytes ∷ cut count (drop FRAME_BYTES bytes)

-- all frames of the bytes
abbrev pub frames_in : List ℕ → List (List ℕ)
frames_in bytes = cut (length bytes / FRAME_BYTES) bytes

-- none of the frames is of the first grant for which a journal has no room
abbrev pub have_room : List (List ℕ) → Bool
have_room [] = true
have_room (bytes ∷ frames) = not (index_in bytes == MAX_ROOM) && have_room frames

-- no more bytes than the most, and whole frames
abbrev pub are_whole : List ℕ → Bool
are_whole bytes = nat_le (length bytes) MAX_FRAMES_BYTES && (length bytes % FRAME_BYTES == 0)

-- what the bytes of a file stand for
abbrev pub frames_of : List ℕ → Result (List (List ℕ)) ⊤
frames_of bytes = if are_whole bytes && have_room (frames_in bytes) then Ok (frames_in bytes) else Err tt

abbrev pub frames_reads : List ℕ → Result (List (List ℕ)) ⊤ → Type 0
frames_reads = reads_by frames_of

-- a file of frames, status 5
abbrev pub frames_file : List ℕ → Test
frames_file name = record {
  Value = List (List ℕ);
  Fault = ⊤;
  source = File name;
  subject = Input;
  reads = frames_reads;
  one_way = once frames_of;
  line = λ fault. Some frames_refused;
}
