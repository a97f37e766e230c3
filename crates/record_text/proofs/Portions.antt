-- One block more of a record, and what the bytes are where there is none.
use Rattle.std.proofs.Common.{◌≡◌, ℕ, zero, suc, ◌+◌, ◌≤◌, ◌⊎◌, Bool, true, false, not, ◌&&◌, ◌==◌, List, [], ◌∷◌, ◌++◌, length}
use Rattle.std.proofs.Common.{append_assoc, append-nil, length-append, add-zero, Some, None, Err, refl, sym, ap, ◌∙◌, subst}
use Rattle.std.proofs.Common.{inl, inr, arith, ne_eqb}
use Rattle.std.specs.List.{join_with_byte, sum_by}
use Rattle.std.specs.Option.{option_map}
use Rattle.std.proofs.lemmas.List.Sums.{sum_by-cons}
use Rattle.std.proofs.lemmas.Option.{same_Some}
use Rattle.cell_base.specs.declared.cells.Cell.{Cell}
use Rattle.cell_base.specs.Fits.{CellFits}
use Rattle.step_text.specs.Words.{words}
use Rattle.record_text.specs.declared.blocks.Block.{Block}
use Rattle.record_text.specs.declared.record.RecordFault.TheVariants.{Bad}
use Rattle.record_text.specs.declared.stages.Stage.{Stage}
use Rattle.record_text.specs.declared.stages.Stage.TheVariants.{Between}
use Rattle.record_text.specs.BadLines.{pieces, text_of_lines, RefusedAt}
use Rattle.record_text.specs.Blocks.{AreWellFormed, line_count}
use Rattle.record_text.specs.Progress.{Reading, is_between, is_whole, on_line, read_from}
use Rattle.record_text.specs.Reading.{◌>>=◌}
use Rattle.record_text.specs.Records.{text_of_blocks}
use Rattle.record_text.specs.Remains.{Remains, IsReadTo}
use Rattle.record_text.proofs.Advancing.{on_line-sound}
use Rattle.record_text.proofs.Chains.{bind_some}
use Rattle.record_text.proofs.Exact.{formed_blocks, lines_of_blocks, read_bad_line, read_past}
use Rattle.record_text.proofs.LineTexts.{lines_of, text_is, text-append, few_lines, length-lines}
use Rattle.record_text.proofs.Onto.{onto, on_line_onto, run_onto}
use Rattle.record_text.proofs.Pieces.{pieces_some, read_bad, read_last}
use Rattle.record_text.proofs.Reached.{IsReached}
use Rattle.record_text.proofs.Running.{lines_read, run_cons, run_one, run_nothing, run-append, run_blocks}
use Rattle.record_text.proofs.Splitting.{joined-pieces, pieces-behind}

-- lines that are read lead on
pub run_reached : (cell : Cell) (n : ℕ) (blocks : List Block) (at : Stage) (before lines : List (List ℕ)) (r : Reading)
    → n ≡ length before + 1 → IsReached cell blocks at before → lines_read cell n blocks at lines ≡ Some r
    → IsReached cell r.0 r.1 (before ++ lines)
run_reached cell n blocks at before [] r count reached ran =
    let same : (blocks, at) ≡ r = same_Some (blocks, at) r (sym (run_nothing cell n blocks at) ∙ ran) in
    subst (λ (r : Reading). IsReached cell r.0 r.1 (before ++ [])) same
    (subst (IsReached cell blocks at) (sym (append-nil before)) reached)
run_reached cell n blocks at before (line ∷ lines) r count reached ran =
    let on = bind_some (λ (r : Reading). lines_read cell (n + 1) r.0 r.1 lines) (on_line cell n blocks at (words line)) r
    (sym (run_cons cell n blocks at line lines) ∙ ran) in
    subst (IsReached cell r.0 r.1) (append_assoc before (line ∷ []) lines)
    (run_reached cell (n + 1) on.0.0 on.0.1 (before ++ line ∷ []) lines r (omega (arith, count, length-append before (line ∷ [])))
    (on_line-sound cell blocks before line on.0 n at count reached on.1) on.2)

-- ---- the lines of one block

module _ (cell : Cell) (n : ℕ) (bytes : List ℕ) where
  -- the lines of bytes, from the n-th of a file on, were read up to the m-th one, and this is what they say
  pub record IsReadOn (m : ℕ) (r : Reading) (rest : List ℕ) : Type 0 where
    pub lines : List (List ℕ)
    pub split : pieces bytes ≡ lines ++ pieces rest
    pub number : m ≡ n + length lines
    pub ran : lines_read cell n [] Between lines ≡ Some r

  pub none_read : IsReadOn n ([], Between) bytes
  none_read = record { lines = []; split = refl; number = sym (add-zero n); ran = run_nothing cell n [] Between }

  pub one_read : (m : ℕ) (stage : Stage) (rest line more : List ℕ) (r : Reading) → pieces rest ≡ line ∷ pieces more
      → Some r ≡ on_line cell m [] stage (words line) → IsReadOn m ([], stage) rest → IsReadOn (m + 1) r more
  one_read m stage rest line more r cut on is = record {
    lines = is.lines ++ line ∷ [];
    split = is.split ∙ ap (λ ps. is.lines ++ ps) cut ∙ sym (append_assoc is.lines (line ∷ []) (pieces more));
    number = omega (arith, is.number, length-append is.lines (line ∷ []));
    ran =
        run-append cell n [] Between is.lines (line ∷ [])
        ∙ ap (λ o. o >>= λ (r : Reading). lines_read cell (n + length is.lines) r.0 r.1 (line ∷ [])) is.ran
        ∙ ap (λ k. lines_read cell k [] stage (line ∷ [])) (sym is.number)
        ∙ run_one cell m [] stage line
        ∙ ap (λ o. o >>= λ (r : Reading). lines_read cell (m + 1) r.0 r.1 []) (sym on)
        ∙ run_nothing cell (m + 1) r.0 r.1;
  }

-- the text before the rest of bytes are the lines that were cut from it
pub text_before : (lines : List (List ℕ)) (rest : List ℕ)
    → join_with_byte 10 (lines ++ pieces rest) ≡ text_of_lines lines ++ join_with_byte 10 (pieces rest)
text_before lines rest = by lines (pieces_some rest).0 (pieces_some rest).1 (pieces_some rest).2 where
  by : (lines : List (List ℕ)) (p : List ℕ) (ps : List (List ℕ)) → pieces rest ≡ p ∷ ps
      → join_with_byte 10 (lines ++ pieces rest) ≡ text_of_lines lines ++ join_with_byte 10 (pieces rest)
  by [] p ps some = refl
  by (line ∷ []) p ps some =
      ap (λ qs. join_with_byte 10 (line ∷ qs)) some ∙ ap (λ qs. line ++ 10 ∷ join_with_byte 10 qs) (sym some)
      ∙ sym (append_assoc line (10 ∷ []) (join_with_byte 10 (pieces rest)))
      ∙ ap (λ xs. xs ++ join_with_byte 10 (pieces rest)) (sym (append-nil (line ++ 10 ∷ [])))
  by (line ∷ next ∷ lines) p ps some =
      ap (λ xs. line ++ 10 ∷ xs) (by (next ∷ lines) p ps some)
      ∙ sym (append_assoc line (10 ∷ []) (text_of_lines (next ∷ lines) ++ join_with_byte 10 (pieces rest)))
      ∙ sym (append_assoc (line ++ 10 ∷ []) (text_of_lines (next ∷ lines)) (join_with_byte 10 (pieces rest)))

pub some_bytes : (n : ℕ) → (n == 0) ≡ false → 1 ≤ n
some_bytes zero none = absurd cc
some_bytes (suc n) some = omega arith

pub true_false : true ≡ false → ⊥
true_false is = absurd cc

no_blocks : (blocks : List Block) → 1 + sum_by line_count blocks ≤ 1 → blocks ≡ []
no_blocks [] none = refl
no_blocks (block ∷ blocks) none = absurd (omega (arith, none, sum_by-cons line_count block blocks))

-- ---- what was read so far

module _ (left : Remains) (bytes : List ℕ) (given : List Block) (is : IsReadTo left bytes given) where
  abbrev cell : Cell
  cell = left.cell

  abbrev before : List (List ℕ)
  before = lines_of cell given

  count : left.number ≡ length before + 1
  count = omega (arith, is.number, length-lines cell given)

  -- blocks that may be judged
  pub formed_so_far : AreWellFormed cell given
  formed_so_far = record {
    each = formed_blocks cell given is.fit;
    numbered = is.numbered;
    lines =
        omega (
          arith,
          few_lines cell given,
          is.short,
          ap length is.text,
          length-append (text_of_blocks cell given) left.bytes,
        );
  }

  -- a block was read
  pub block_read : (m : ℕ) (block : Block) (more : List ℕ) → IsReadOn cell left.number left.bytes m (block ∷ [], Between) more
      → IsReadTo (record { cell = cell; number = m; bytes = more }) bytes (given ++ block ∷ [])
  block_read m block more read =
      let all : List Block = given ++ block ∷ [] in
      let ran : lines_read cell left.number given Between read.lines ≡ Some (all, Between) =
      ap (λ bs. lines_read cell left.number bs Between read.lines) (sym (append-nil given))
      ∙ run_onto given cell left.number [] Between read.lines ∙ ap (option_map (onto given)) read.ran in
      let reached : IsReached cell given Between before =
      record { are = sym (append-nil before); fit = is.fit; numbered = is.numbered; stage = tt } in
      let end : IsReached cell all Between (before ++ read.lines) =
      run_reached cell left.number given Between before read.lines (all, Between) count reached ran in
      let lines : before ++ read.lines ≡ lines_of cell all = end.are ∙ append-nil (lines_of cell all) in
      let rest : left.bytes ≡ text_of_lines read.lines ++ more =
      sym (joined-pieces left.bytes) ∙ ap (join_with_byte 10) read.split ∙ text_before read.lines more
      ∙ ap (λ xs. text_of_lines read.lines ++ xs) (joined-pieces more) in
      record {
        short = is.short;
        fit = end.fit;
        numbered = end.numbered;
        number =
            omega (arith, read.number, count, length-append before read.lines, ap length lines, length-lines cell all);
        text =
            is.text ∙ ap (λ xs. xs ++ left.bytes) (sym (text_is cell given))
            ∙ ap (λ xs. text_of_lines before ++ xs) rest
            ∙ sym (append_assoc (text_of_lines before) (text_of_lines read.lines) more)
            ∙ ap (λ xs. xs ++ more) (sym (text-append before read.lines) ∙ ap text_of_lines lines ∙ text_is cell all);
      }

  both_false : (b : Bool) → (b && false) ≡ false
  both_false true = refl
  both_false false = refl

  module _ (fits : CellFits cell) (m : ℕ) (stage : Stage) (rest : List ℕ)
      (read : IsReadOn cell left.number left.bytes m ([], stage) rest) where
    -- the whole file is read as the rest is
    read_on : read_from cell 1 [] Between (pieces bytes) ≡ read_from cell m given stage (pieces rest)
    read_on =
        let here = pieces_some left.bytes in
        let there = pieces_some rest in
        let ran : lines_read cell left.number given Between read.lines ≡ Some (given, stage) =
        ap (λ bs. lines_read cell left.number bs Between read.lines) (sym (append-nil given))
        ∙ run_onto given cell left.number [] Between read.lines ∙ ap (option_map (onto given)) read.ran
        ∙ ap (λ (bs : List Block). Some (bs, stage)) (append-nil given) in
        ap (λ (b : List ℕ). read_from cell 1 [] Between (pieces b)) (is.text ∙ ap (λ xs. xs ++ left.bytes) (sym (text_is cell given)))
        ∙ ap (read_from cell 1 [] Between)
        (pieces-behind before left.bytes (lines_of_blocks cell fits given is.fit) ∙ ap (λ ps. before ++ ps) here.2)
        ∙ read_past cell 1 [] Between before here.0 here.1 (given, Between) (run_blocks cell fits 1 [] given is.fit is.numbered)
        ∙ ap (λ ps. read_from cell (1 + length before) given Between ps) (sym here.2 ∙ read.split ∙ ap (λ ps. read.lines ++ ps) there.2)
        ∙ ap (λ k. read_from cell k given Between (read.lines ++ there.0 ∷ there.1)) (omega (arith, count))
        ∙ read_past cell left.number given Between read.lines there.0 there.1 (given, stage) ran
        ∙ ap (λ k. read_from cell k given stage (there.0 ∷ there.1)) (sym read.number)
        ∙ ap (read_from cell m given stage) (sym there.2)

    refused : read_from cell m given stage (pieces rest) ≡ Err m → RefusedAt cell bytes (Bad m)
    refused bad = inr (is.short, read_bad_line cell fits bytes m (read_on ∙ bad))

    -- a line is bad
    pub refused_line : (line more : List ℕ) → pieces rest ≡ line ∷ pieces more → None ≡ on_line cell m [] stage (words line)
        → RefusedAt cell bytes (Bad m)
    refused_line line more cut on =
        let none : None ≡ on_line cell m given stage (words line) =
        ap (option_map (onto given)) on ∙ sym (on_line_onto given cell m [] stage (words line))
        ∙ ap (λ bs. on_line cell m bs stage (words line)) (append-nil given) in
        refused (read_bad cell m given stage rest line more cut none)

    -- or it has no newline, and no record ends before it
    pub refused_end : (line : List ℕ) → pieces rest ≡ line ∷ [] → (is_between stage ≡ true → (1 ≤ length rest) ⊎ (m ≤ 1))
        → RefusedAt cell bytes (Bad m)
    refused_end line cut more = refused (read_last cell m given stage rest line false cut (sym (unended (is_between stage) refl))) where
      last : line ≡ rest
      last = sym (ap (join_with_byte 10) cut) ∙ joined-pieces rest

      unended : (between : Bool) → is_between stage ≡ between → is_whole given stage line ≡ false
      unended false is = rw is refl
      unended true between = elim (more between) [
        | inl some ↦
            rw (between, ne_eqb (length line) 0 (λ none. omega (arith, none, some, ap length last)))
            (both_false (not (length given == 0)))
        | inr few ↦
            let none : given ≡ [] = no_blocks given (omega (arith, few, is.number, read.number)) in
            rw (between, none) refl
      ]
