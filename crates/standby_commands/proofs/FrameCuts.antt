-- The frames of a file: cut one by one, and read of the bytes up to the cut of the file.
use Rattle.std.specs.Prelude.{Bool, true, false, ◌&&◌, cond, nat_le, ◌==◌, ⊤}
use Rattle.std.proofs.Common.{◌≡◌, inl, inr, ℕ, zero, suc, ◌+◌, ◌/◌, ◌%◌, ◌<◌, ◌≤◌, List, [], ◌∷◌, length, take, drop}
use Rattle.std.proofs.Common.{Some, Result, Ok, Err, refl, ◌∙◌, sym, ap, arith, add-one, length-take, length-drop}
use Rattle.std.proofs.Math.Nat.{div-add-mod, div-eq-sub-div, div-eq_of_lt}
use Rattle.std.proofs.lemmas.Bool.{and_from, and_left, and_right, cases_lt, eq-eqb, le-leb, leb-true, ne_eqb}
use Rattle.std.proofs.lemmas.List.{take_all}
use Rattle.outside_io.specs.Files.{IsReadOf}
use Rattle.cell_walks.specs.Allowed.{IsEndedAt}
use Rattle.cell_walks.specs.Observed.{FilesTold, ShowsFile}
use Rattle.cell_walks.specs.Walks.{end_with}
use Rattle.cell_walks.specs.declared.early_end.Subject.TheVariants.{Input}
use Rattle.cell_walks.proofs.Steps.{ended_by_fault}
use Rattle.durable_cell.specs.declared.replays.TheConstants.{MAX_ROOM}
use Rattle.cell_texts.proofs.Cuts.{held_of_read}
use Rattle.standby_commands.specs.FrameFiles.{are_whole, cut, frames_file, frames_in, frames_of, frames_reads, have_room}
use Rattle.standby_commands.specs.Lines.{frames_refused}
use Rattle.standby_commands.specs.declared.frames.TheConstants.{FRAME_BYTES, MAX_FRAMES_BYTES}

-- one frame, and those after it
pub cut_more : (bytes : List ℕ) → 24 ≤ length bytes → frames_in bytes ≡ take 24 bytes ∷ frames_in (drop 24 bytes)
cut_more bytes enough =
    ap (λ (n : ℕ). cut n bytes)
    (div-eq-sub-div (let some : 0 < 24 = omega arith in some) enough
    ∙ ap (λ (n : ℕ). n / 24 + 1) (sym (length-drop 24 bytes)) ∙ add-one (length (drop 24 bytes) / 24))

-- fewer bytes have no frame
pub cut_none : (bytes : List ℕ) → length bytes < 24 → frames_in bytes ≡ []
cut_none bytes few = ap (λ (n : ℕ). cut n bytes) (div-eq_of_lt few)

cut_length : (n : ℕ) (bytes : List ℕ) → length (cut n bytes) ≡ n
cut_length zero bytes = refl
cut_length (suc n) bytes = ap (λ (k : ℕ). suc k) (cut_length n (drop 24 bytes))

-- how many there are
pub count : (bytes : List ℕ) → length (frames_in bytes) ≡ length bytes / 24
count bytes = cut_length (length bytes / 24) bytes

-- no more than a journal may have grants
pub few_frames : (bytes : List ℕ) → length bytes ≤ MAX_FRAMES_BYTES → length (frames_in bytes) ≤ MAX_ROOM
few_frames bytes few =
    let whole = div-add-mod (length bytes) 24 in omega (arith, few, count bytes, whole)

-- the frames of the bytes are the first one, and those after it
pub next_frames : (rest frame more : List ℕ) → 24 ≤ length rest → frame ≡ take 24 rest → more ≡ drop 24 rest
    → frames_in rest ≡ frame ∷ frames_in more
next_frames rest frame more enough frame_is more_is = cut_more rest enough ∙ (λ i. sym frame_is i ∷ frames_in (sym more_is i))

-- ---- a file

abbrev fault : Result (List (List ℕ)) ⊤
fault = Err tt

-- bytes that are no whole frames, or too many, are refused
unfit : (bytes : List ℕ) → are_whole bytes ≡ false → frames_of bytes ≡ Err tt
unfit bytes is = ap (λ (test : Bool). cond (test && have_room (frames_in bytes)) (Ok (frames_in bytes)) (Err tt)) is

too_long : (bytes : List ℕ) → MAX_FRAMES_BYTES < length bytes → frames_of bytes ≡ Err tt
too_long bytes long =
    unfit bytes (and_left (nat_le (length bytes) MAX_FRAMES_BYTES) (length bytes % FRAME_BYTES == 0) (not_le (length bytes) long))
  where
    not_le : (n : ℕ) → MAX_FRAMES_BYTES < n → nat_le n MAX_FRAMES_BYTES ≡ false
    not_le n more = by_test (nat_le n MAX_FRAMES_BYTES) refl
      where
        by_test : (test : Bool) → nat_le n MAX_FRAMES_BYTES ≡ test → nat_le n MAX_FRAMES_BYTES ≡ false
        by_test false is = is
        by_test true is = absurd (let le = leb-true n MAX_FRAMES_BYTES is in omega (arith, le, more))

not_whole : (bytes : List ℕ) → (length bytes % FRAME_BYTES ≡ 0 → ⊥) → frames_of bytes ≡ Err tt
not_whole bytes some =
    unfit bytes (and_right (nat_le (length bytes) MAX_FRAMES_BYTES) (length bytes % FRAME_BYTES == 0)
    (ne_eqb (length bytes % FRAME_BYTES) 0 some))

-- and so is a grant for which a journal has no room
no_room : (bytes : List ℕ) → have_room (frames_in bytes) ≡ false → frames_of bytes ≡ Err tt
no_room bytes is =
    ap (λ (test : Bool). cond test (Ok (frames_in bytes)) fault) (and_right (are_whole bytes) (have_room (frames_in bytes)) is)

-- all others are frames
whole : (bytes : List ℕ) → length bytes ≤ MAX_FRAMES_BYTES → length bytes % FRAME_BYTES ≡ 0 → have_room (frames_in bytes) ≡ true
    → frames_of bytes ≡ Ok (frames_in bytes)
whole bytes few all places =
    ap (λ (test : Bool). cond test (Ok (frames_in bytes)) fault)
    (and_from (are_whole bytes) (have_room (frames_in bytes))
    (and_from (nat_le (length bytes) MAX_FRAMES_BYTES) (length bytes % FRAME_BYTES == 0) (le-leb (length bytes) MAX_FRAMES_BYTES few)
    (eq-eqb (length bytes % FRAME_BYTES) 0 all)) places)

frames_of-take : (bytes : List ℕ) → frames_of (take (MAX_FRAMES_BYTES + 1) bytes) ≡ frames_of bytes
frames_of-take bytes = elim (cases_lt MAX_FRAMES_BYTES (length bytes)) [
  | inl long ↦
      too_long (take (MAX_FRAMES_BYTES + 1) bytes) (omega (arith, long, length-take (MAX_FRAMES_BYTES + 1) bytes))
      ∙ sym (too_long bytes long)
  | inr fits ↦ ap frames_of (take_all (MAX_FRAMES_BYTES + 1) bytes (omega (arith, fits)))
]

module _ (files : FilesTold) (name read : List ℕ) (is : IsReadOf files.names name MAX_FRAMES_BYTES read) where
  -- the frames that were read are those of the file
  pub frames_read : length read ≤ MAX_FRAMES_BYTES → length read % FRAME_BYTES ≡ 0 → have_room (frames_in read) ≡ true
      → ShowsFile files name (λ held. frames_reads held (Ok (frames_in read)))
  frames_read few all places =
      held_of_read (λ held. frames_reads held (Ok (frames_in read))) MAX_FRAMES_BYTES (λ bytes got. sym (frames_of-take bytes) ∙ got)
      files.names name read is (whole read few all places)

  refused : frames_of read ≡ Err tt → IsEndedAt files (frames_file name) (end_with Input (Some frames_refused))
  refused fault =
      ended_by_fault files (frames_file name) tt
      (held_of_read (λ held. frames_reads held (Err tt)) MAX_FRAMES_BYTES (λ bytes got. sym (frames_of-take bytes) ∙ got) files.names name
      read is fault)

  -- a file that is refused is so by what was read
  pub too_long_read : MAX_FRAMES_BYTES < length read → IsEndedAt files (frames_file name) (end_with Input (Some frames_refused))
  too_long_read long = refused (too_long read long)

  pub not_whole_read : (length read % FRAME_BYTES ≡ 0 → ⊥) → IsEndedAt files (frames_file name) (end_with Input (Some frames_refused))
  not_whole_read some = refused (not_whole read some)

  pub no_room_read : have_room (frames_in read) ≡ false → IsEndedAt files (frames_file name) (end_with Input (Some frames_refused))
  no_room_read is = refused (no_room read is)
