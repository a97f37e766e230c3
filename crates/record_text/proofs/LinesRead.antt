-- One line more of a record, and what the bytes are where there is none.
use Rattle.std.proofs.Common.{◌≡◌, ℕ, ◌+◌, ◌<◌, ◌≤◌, ◌⊎◌, Bool, true, false, not, ◌&&◌, ◌==◌, List, [], ◌∷◌, ◌++◌, length}
use Rattle.std.proofs.Common.{append_assoc, append-nil, length-append, Some, None, Ok, Err, refl}
use Rattle.std.proofs.Common.{sym, ap, ◌∙◌, subst, inl, inr, arith, ne_eqb}
use Rattle.std.specs.List.{join_with_byte}
use Rattle.std.specs.Option.{option_map}
use Rattle.std.proofs.lemmas.Option.{same_Some}
use Rattle.cell_base.specs.declared.cells.Cell.{Cell}
use Rattle.cell_base.specs.Fits.{CellFits}
use Rattle.step_text.specs.Words.{words}
use Rattle.record_text.specs.declared.blocks.Block.{Block}
use Rattle.record_text.specs.declared.record.RecordFault.TheVariants.{Bad}
use Rattle.record_text.specs.declared.record_lines.RecordLine.{RecordLine}
use Rattle.record_text.specs.declared.record_lines.Turn.TheVariants as turns
use Rattle.record_text.specs.declared.stages.Stage.{Stage}
use Rattle.record_text.specs.declared.stages.Stage.TheVariants.{Between}
use Rattle.record_text.specs.BadLines.{pieces, text_of_lines, IsRecordOf, RefusedAt}
use Rattle.record_text.specs.Blocks.{AreWellFormed}
use Rattle.record_text.specs.Progress.{Reading, is_whole, on_line, read_from, lines_read}
use Rattle.record_text.specs.Reading.{◌>>=◌}
use Rattle.record_text.specs.Remains.{LinesLeft, AreRead}
use Rattle.record_text.specs.Turns.{IsTurn, Suits, line_at, turn_after, turn_of, with_line}
use Rattle.record_text.proofs.Exact.{answers_formed, read_bad_line, read_past}
use Rattle.record_text.proofs.LineTexts.{lines_of, text_is}
use Rattle.record_text.proofs.Pieces.{pieces_some, read_bad, read_last}
use Rattle.record_text.proofs.Portions.{run_reached, text_before}
use Rattle.record_text.proofs.Reached.{IsReached, none_reached, open_lines}
use Rattle.record_text.proofs.Running.{run_one, run_nothing, run-append}
use Rattle.record_text.proofs.Splitting.{joined-pieces}
use Rattle.record_text.proofs.Turning.{on_line-said, stage_between, turn_next}

no_lines : {A : Type 0} (xs : List A) → length xs ≤ 0 → xs ≡ []
no_lines [] none = refl
no_lines (x ∷ xs) none = absurd (omega (arith, none))

no_bytes : (xs : List ℕ) → length xs ≡ 0 → xs ≡ []
no_bytes xs none = no_lines xs (omega (arith, none))

-- nothing has been read
pub none_read : (cell : Cell) (bytes : List ℕ) → length bytes ≤ 160000000
    → AreRead (record { cell = cell; number = 1; bytes = bytes; turn = turns.Between }) bytes ([], Between)
none_read cell bytes short =
    record { short = short; lines = []; split = refl; number = refl; said = run_nothing cell 1 [] Between; turn = refl }

module _ (left : LinesLeft) (bytes : List ℕ) (so_far : Reading) (is : AreRead left bytes so_far) where
  abbrev cell : Cell
  cell = left.cell

  abbrev given : List Block
  given = so_far.0

  -- a line was read
  pub line_read : (line more : List ℕ) (said : RecordLine) → IsTurn left.turn → Suits left.turn said
      → pieces left.bytes ≡ line ∷ pieces more → Some said ≡ line_at cell left.turn (words line)
      → AreRead (record { cell = cell; number = left.number + 1; bytes = more; turn = turn_after left.turn said }) bytes
      (with_line left.number given so_far.1 said)
  line_read line more said runs suits cut says =
      let n : ℕ = left.number in
      let next : Reading = with_line n given so_far.1 said in
      let on : on_line cell n given so_far.1 (words line) ≡ Some next =
      on_line-said cell n given so_far.1 (words line)
      ∙ ap (λ turn. option_map (with_line n given so_far.1) (line_at cell turn (words line))) (sym is.turn)
      ∙ ap (option_map (with_line n given so_far.1)) (sym says) in
      record {
        short = is.short;
        lines = is.lines ++ line ∷ [];
        split = is.split ∙ ap (λ ps. is.lines ++ ps) cut ∙ sym (append_assoc is.lines (line ∷ []) (pieces more));
        number = omega (arith, is.number, length-append is.lines (line ∷ []));
        said =
            run-append cell 1 [] Between is.lines (line ∷ [])
            ∙ ap (λ o. o >>= λ (r : Reading). lines_read cell (1 + length is.lines) r.0 r.1 (line ∷ [])) is.said
            ∙ ap (λ k. lines_read cell k given so_far.1 (line ∷ [])) (sym is.number)
            ∙ run_one cell n given so_far.1 line
            ∙ ap (λ o. o >>= λ (r : Reading). lines_read cell (n + 1) r.0 r.1 []) on
            ∙ run_nothing cell (n + 1) next.0 next.1;
        turn =
            ap (λ turn. turn_after turn said) is.turn
            ∙ turn_next n given so_far.1 said (subst IsTurn is.turn runs) (subst (λ turn. Suits turn said) is.turn suits);
      }

  reached : IsReached cell given so_far.1 is.lines
  reached = run_reached cell 1 [] Between [] is.lines so_far refl (none_reached cell) is.said

  -- the whole file is read as the rest is
  read_on : read_from cell 1 [] Between (pieces bytes) ≡ read_from cell left.number given so_far.1 (pieces left.bytes)
  read_on =
      let there = pieces_some left.bytes in
      ap (read_from cell 1 [] Between) (is.split ∙ ap (λ ps. is.lines ++ ps) there.2)
      ∙ read_past cell 1 [] Between is.lines there.0 there.1 so_far is.said
      ∙ ap (λ k. read_from cell k given so_far.1 (there.0 ∷ there.1)) (sym is.number)
      ∙ ap (read_from cell left.number given so_far.1) (sym there.2)

  refused : CellFits cell → read_from cell left.number given so_far.1 (pieces left.bytes) ≡ Err left.number
      → RefusedAt cell bytes (Bad left.number)
  refused fits bad = inr (is.short, read_bad_line cell fits bytes left.number (read_on ∙ bad))

  -- a line is bad
  pub refused_line : CellFits cell → (line more : List ℕ) → pieces left.bytes ≡ line ∷ pieces more
      → None ≡ line_at cell left.turn (words line) → RefusedAt cell bytes (Bad left.number)
  refused_line fits line more cut says =
      refused fits
      (read_bad cell left.number given so_far.1 left.bytes line more cut
      (ap (option_map (with_line left.number given so_far.1)) says
      ∙ ap (λ turn. option_map (with_line left.number given so_far.1) (line_at cell turn (words line))) is.turn
      ∙ sym (on_line-said cell left.number given so_far.1 (words line))))

  none_given : left.number ≤ 1 → given ≡ []
  none_given few =
      let none : is.lines ≡ [] = no_lines is.lines (omega (arith, few, is.number)) in
      ap (λ (r : Reading). r.0)
      (sym
      (same_Some ([], Between) so_far
      (sym (run_nothing cell 1 [] Between) ∙ ap (lines_read cell 1 [] Between) (sym none) ∙ is.said)))

  both_false : (b : Bool) → (b && false) ≡ false
  both_false true = refl
  both_false false = refl

  -- or it has no newline, and no record ends before it
  pub refused_end : CellFits cell → (line : List ℕ) → pieces left.bytes ≡ line ∷ []
      → (left.turn ≡ turns.Between → (0 < length left.bytes) ⊎ (left.number ≤ 1)) → RefusedAt cell bytes (Bad left.number)
  refused_end fits line cut more =
      refused fits (read_last cell left.number given so_far.1 left.bytes line false cut (sym (unended so_far.1 is.turn)))
    where
      last : line ≡ left.bytes
      last = sym (ap (join_with_byte 10) cut) ∙ joined-pieces left.bytes

      at_end : (0 < length left.bytes) ⊎ (left.number ≤ 1) → is_whole given Between line ≡ false
      at_end (inl some) =
          rw (ne_eqb (length line) 0 (λ none. omega (arith, none, some, ap length last))) (both_false (not (length given == 0)))
      at_end (inr few) = rw (none_given few) refl

      unended : (stage : Stage) → left.turn ≡ turn_of stage → is_whole given stage line ≡ false
      unended Between turn = at_end (more turn)
      unended stage turn = refl

  -- nothing more stands there, where a record may end
  module _ (turn : left.turn ≡ turns.Between) where
    pub is_between_blocks : so_far.1 ≡ Between
    is_between_blocks = stage_between so_far.1 (sym turn ∙ is.turn)

    pub whole : length left.bytes ≡ 0 → 1 < left.number → IsRecordOf cell bytes given
    whole none some =
        let lines : is.lines ≡ lines_of cell given =
        reached.are ∙ ap (λ stage. lines_of cell given ++ open_lines cell stage) is_between_blocks ∙ append-nil (lines_of cell given) in
        record {
          short = is.short;
          written = record { some = blocks_there given lines; fit = reached.fit; numbered = reached.numbered };
          text =
              sym (joined-pieces bytes) ∙ ap (join_with_byte 10) is.split ∙ text_before is.lines left.bytes
              ∙ ap (λ xs. text_of_lines is.lines ++ xs) (joined-pieces left.bytes ∙ no_bytes left.bytes none)
              ∙ append-nil (text_of_lines is.lines) ∙ ap text_of_lines lines ∙ text_is cell given;
        }
      where
        blocks_there : (blocks : List Block) → is.lines ≡ lines_of cell blocks → 1 ≤ length blocks
        blocks_there [] lines = absurd (omega (arith, ap length lines, some, is.number))
        blocks_there (block ∷ blocks) lines = omega arith

    pub formed : length left.bytes ≡ 0 → 1 < left.number → AreWellFormed cell given
    formed none some = answers_formed cell bytes (Ok given) (whole none some)
