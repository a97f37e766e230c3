-- What was read of a file, cut after one byte more than its limit, tells as much as the whole file.
use Rattle.std.specs.Prelude.{IfSome}
use Rattle.std.proofs.Common.{◌≡◌, inl, inr, ℕ, ◌+◌, ◌<◌, ◌≤◌, subst, List, length, take, Option, Some}
use Rattle.std.proofs.Common.{None, IsSomeAnd, Result, Ok, Err, refl, sym, ◌∙◌, ap, arith, length-take}
use Rattle.std.proofs.lemmas.Bool.{cases_lt, cond-true, lt-ltb}
use Rattle.std.proofs.lemmas.List.{take_all}
use Rattle.outside_io.specs.Files.{Names, IsReadOf}
use Rattle.cell_base.specs.declared.cells.Cell.{Cell}
use Rattle.cell_base.specs.declared.places.Field.TheVariants.{Whole}
use Rattle.toml_walk.specs.Documents.{top, short}
use Rattle.toml_walk.specs.declared.faults.DocumentFault.TheVariants.{TooMany}
use Rattle.cell_base.specs.Faults.{◌>>=◌}
use Rattle.cell_file.specs.Faults.{looked}
use Rattle.cell_file.specs.Walk.{cell_of, cell_of_text}
use Rattle.shift_file.specs.Walk.{shift_of}
use Rattle.cell_base.specs.declared.shifts.Shift.{Shift}
use Rattle.toml_walk.specs.Outcomes.{GivesOr}
use Rattle.cell_file.specs.declared.reading.TheConstants.{MAX_CELL_BYTES}
use Rattle.cell_file.specs.declared.faults.CellFault.{CellFault}
use Rattle.cell_file.specs.declared.faults.CellFault.TheVariants.{Memory as CellMemory}
use Rattle.shift_file.specs.declared.reading.TheConstants.{MAX_SHIFT_BYTES}
use Rattle.shift_file.specs.declared.faults.ShiftFault.{ShiftFault}
use Rattle.shift_file.specs.declared.faults.ShiftFault.TheVariants.{Memory as ShiftMemory}
use Rattle.cell_walks.specs.Allowed.{ByMemory, IsEndedAt}
use Rattle.cell_walks.specs.Observed.{FilesTold, ShowsFile}
use Rattle.cell_walks.specs.Walks.{end_with}
use Rattle.cell_walks.specs.declared.early_end.Subject.TheVariants.{Cell as OfCell, Input}
use Rattle.cell_walks.proofs.Steps.{ended_by_fault}
use Rattle.cell_texts.specs.Tests.{cell_fault_line, cell_file, cell_reads, shift_fault_line, shift_file, with_text}

too_many : (most : ℕ) (bytes : List ℕ) → most < length bytes → short most bytes ≡ Err (TooMany (top Whole) (most + 1))
unfolding short
too_many most bytes long = cond-true _ _ _ (lt-ltb _ _ long)

pub short-take : (most : ℕ) (bytes : List ℕ) → short most (take (most + 1) bytes) ≡ short most bytes
short-take most bytes = elim (cases_lt most (length bytes)) [
  | inl long ↦
      too_many most (take (most + 1) bytes) (omega (arith, long, length-take (most + 1) bytes)) ∙ sym (too_many most bytes long)
  | inr fits ↦ ap (short most) (take_all (most + 1) bytes (omega (arith, fits)))
]

-- what holds of the bytes that were read holds of the file, where the cut makes no difference
pub held_of_read : (P : List ℕ → Type 0) (limit : ℕ) → ((bytes : List ℕ) → P (take (limit + 1) bytes) → P bytes)
    → (names : Option Names) (name read : List ℕ) → IsReadOf names name limit read → P read
    → IfSome names (λ held. IsSomeAnd (held name) P)
held_of_read P limit cut None name read is holds = tt
held_of_read P limit cut (Some names) name read is holds = in_held (names name) is
  where
    in_held : (held : Option (List ℕ)) → IsSomeAnd held (λ bytes. read ≡ take (limit + 1) bytes) → IsSomeAnd held P
    in_held None is = absurd is
    in_held (Some bytes) is = cut bytes (subst P is holds)

-- ---- cells and shifts

cell_of-take : (bytes : List ℕ) → cell_of (take (MAX_CELL_BYTES + 1) bytes) ≡ cell_of bytes
unfolding cell_of
cell_of-take bytes = rw short-take refl

shift_of-take : (cell : Cell) (bytes : List ℕ) → shift_of cell (take (MAX_SHIFT_BYTES + 1) bytes) ≡ shift_of cell bytes
unfolding shift_of
shift_of-take cell bytes = rw short-take refl

-- a text that is longer than the limit is no cell
cell_short : (cell : Cell) (bytes : List ℕ) → Ok cell ≡ cell_of bytes → length bytes ≤ MAX_CELL_BYTES
unfolding cell_of
cell_short cell bytes is = elim (cases_lt MAX_CELL_BYTES (length bytes)) [
  | inl long ↦ let fault = is ∙ ap (λ first. looked first >>= cell_of_text) (too_many MAX_CELL_BYTES bytes long) in absurd (cc)
  | inr fits ↦ fits
]

-- a file that is cut off is too long
pub uncut : (most : ℕ) (bytes : List ℕ) → length (take (most + 1) bytes) ≤ most → take (most + 1) bytes ≡ bytes
uncut most bytes short = elim (cases_lt most (length bytes)) [
  | inl long ↦ absurd (omega (arith, long, short, length-take (most + 1) bytes))
  | inr fits ↦ take_all (most + 1) bytes (omega (arith, fits))
]

-- a cell that was read of the bytes up to the cut was read of the whole file
cell_uncut : (cell : Cell) (bytes : List ℕ) → Ok cell ≡ cell_of (take (MAX_CELL_BYTES + 1) bytes)
    → cell_reads bytes (Ok (record { cell = cell; text = take (MAX_CELL_BYTES + 1) bytes }))
cell_uncut cell bytes is =
    let whole = uncut MAX_CELL_BYTES bytes (cell_short cell (take (MAX_CELL_BYTES + 1) bytes) is) in
    ap (with_text bytes) (ap cell_of (sym whole) ∙ sym is) ∙ ap (λ (text : List ℕ). Ok (record { cell = cell; text = text })) (sym whole)

-- a value that was given is that of the walk
given : {X F : Type 0} (memory : F) (x : X) (walk : Result X F) → GivesOr memory (Ok x) walk → Ok x ≡ walk
given memory x walk (inl is) = absurd (cc)
given memory x walk (inr is) = is

module _ (files : FilesTold) (name read : List ℕ) where
  -- the bytes that were read stand for this cell, and so does the file
  pub cell_read : (cell : Cell) (text : List ℕ) → IsReadOf files.names name MAX_CELL_BYTES read
      → GivesOr CellMemory (Ok cell) (cell_of read)
      → text ≡ read
      → ShowsFile files name (λ bytes. cell_reads bytes (Ok (record { cell = cell; text = text }))) × (length text ≤ MAX_CELL_BYTES)
  cell_read cell text is gives same =
      let made = given CellMemory cell (cell_of read) gives in
      subst (λ (t : List ℕ). ShowsFile files name (λ bytes. cell_reads bytes (Ok (record { cell = cell; text = t })))
      × (length t ≤ MAX_CELL_BYTES)) (sym same) (
        read_of files.names is made,
        cell_short cell read made,
      )
    where
      read_of : (names : Option Names) → IsReadOf names name MAX_CELL_BYTES read → Ok cell ≡ cell_of read
          → IfSome names (λ held. IsSomeAnd (held name) (λ bytes. cell_reads bytes (Ok (record { cell = cell; text = read }))))
      read_of None is made = tt
      read_of (Some names) is made = in_held (names name) is
        where
          in_held : (held : Option (List ℕ)) → IsSomeAnd held (λ bytes. read ≡ take (MAX_CELL_BYTES + 1) bytes)
              → IsSomeAnd held (λ bytes. cell_reads bytes (Ok (record { cell = cell; text = read })))
          in_held None is = absurd is
          in_held (Some bytes) is =
              subst (λ (t : List ℕ). cell_reads bytes (Ok (record { cell = cell; text = t }))) (sym is)
              (cell_uncut cell bytes (made ∙ ap cell_of is))

  -- or they have a fault
  pub cell_refused : (fault : CellFault) → IsReadOf files.names name MAX_CELL_BYTES read → GivesOr CellMemory (Err fault) (cell_of read)
      → IsEndedAt files (cell_file name) (end_with OfCell (cell_fault_line fault))
  cell_refused fault is (inl starved) =
      let same : fault ≡ CellMemory = cc in ByMemory (ap (λ (f : CellFault). end_with OfCell (cell_fault_line f)) same)
  cell_refused fault is (inr walk) =
      ended_by_fault files (cell_file name) fault
      (held_of_read (λ bytes. cell_reads bytes (Err fault)) MAX_CELL_BYTES
      (λ bytes so. ap (with_text bytes) (sym (refused_of (take (MAX_CELL_BYTES + 1) bytes) so ∙ cell_of-take bytes)))
      files.names name read is (ap (with_text read) (sym walk)))
    where
      refused_of : (bytes : List ℕ) → cell_reads bytes (Err fault) → Err fault ≡ cell_of bytes
      refused_of bytes so = by_result (cell_of bytes) so
        where
          by_result : (result : Result Cell CellFault) → with_text bytes result ≡ Err fault → Err fault ≡ result
          by_result (Ok cell) so = absurd (cc)
          by_result (Err other) so = cc

  -- they stand for this shift
  pub shift_read : (cell : Cell) (shift : Shift) → IsReadOf files.names name MAX_SHIFT_BYTES read
      → GivesOr ShiftMemory (Ok shift) (shift_of cell read) → ShowsFile files name (λ bytes. shift_of cell bytes ≡ Ok shift)
  shift_read cell shift is gives =
      held_of_read (λ bytes. shift_of cell bytes ≡ Ok shift) MAX_SHIFT_BYTES (λ bytes so. sym (shift_of-take cell bytes) ∙ so)
      files.names name read is (sym (given ShiftMemory shift (shift_of cell read) gives))

  -- or they have a fault
  pub shift_refused : (cell : Cell) (fault : ShiftFault) → IsReadOf files.names name MAX_SHIFT_BYTES read
      → GivesOr ShiftMemory (Err fault) (shift_of cell read)
      → IsEndedAt files (shift_file cell name) (end_with Input (shift_fault_line fault))
  shift_refused cell fault is (inl starved) =
      let same : fault ≡ ShiftMemory = cc in ByMemory (ap (λ (f : ShiftFault). end_with Input (shift_fault_line f)) same)
  shift_refused cell fault is (inr walk) =
      ended_by_fault files (shift_file cell name) fault
      (held_of_read (λ bytes. shift_of cell bytes ≡ Err fault) MAX_SHIFT_BYTES (λ bytes so. sym (shift_of-take cell bytes) ∙ so)
      files.names name read is (sym walk))
