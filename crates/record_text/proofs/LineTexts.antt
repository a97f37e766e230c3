-- The lines of blocks, and that their text is that of the blocks.
use Rattle.std.proofs.Common.{◌≡◌, ℕ, ◌+◌, ◌≤◌, List, [], ◌∷◌, ◌++◌, map, length, append_assoc}
use Rattle.std.proofs.Common.{append-nil, length-append, refl, sym, ap, ◌∙◌, arith}
use Rattle.std.specs.List.{flat_map, sum_by}
use Rattle.std.proofs.lemmas.List.{length-map}
use Rattle.std.proofs.lemmas.List.Concat.{flat_map-append}
use Rattle.std.proofs.lemmas.List.Sums.{sum_by-cons}
use Rattle.cell_base.specs.declared.cells.Cell.{Cell}
use Rattle.cell_base.specs.declared.requests.Request.{Request}
use Rattle.cell_base.specs.declared.shifts.Entry.{Entry}
use Rattle.step_text.specs.Words.{joined}
use Rattle.step_text.specs.Steps.{request_words}
use Rattle.record_text.specs.declared.blocks.Block.{Block}
use Rattle.record_text.specs.declared.blocks.Tail.{Tail}
use Rattle.record_text.specs.declared.blocks.Tail.TheVariants.{Planned, Halted}
use Rattle.record_text.specs.BadLines.{text_of_lines}
use Rattle.record_text.specs.Blocks.{tail_count, line_count, AreNumbered}
use Rattle.record_text.specs.Lines.{line_of, head_words, entry_words, left_words, plan_words}
use Rattle.record_text.specs.Records.{text_of_entries, text_of_tail, text_of_block, text_of_blocks}

-- ---- lines, without their newlines

abbrev pub entry_line : Cell → Entry → List ℕ
entry_line cell entry = joined (entry_words cell entry)

abbrev pub step_line : Cell → Request → List ℕ
step_line cell step = joined (request_words cell step)

abbrev pub tail_lines : Cell → Tail → List (List ℕ)
tail_lines cell (Planned left steps) = joined (left_words left) ∷ joined (plan_words (length steps)) ∷ map (step_line cell) steps
tail_lines cell Halted = []

abbrev pub block_lines : Cell → Block → List (List ℕ)
block_lines cell block = joined (head_words block.shift block.after) ∷ map (entry_line cell) block.entries ++ tail_lines cell block.tail

abbrev pub lines_of : Cell → List Block → List (List ℕ)
lines_of cell blocks = flat_map (block_lines cell) blocks

-- ---- their text

pub text-append : (xs ys : List (List ℕ)) → text_of_lines (xs ++ ys) ≡ text_of_lines xs ++ text_of_lines ys
text-append xs ys = flat_map-append (λ line. line ++ 10 ∷ []) xs ys

text-map : {A : Type 0} (f : A → List ℕ) (xs : List A) → text_of_lines (map f xs) ≡ flat_map (λ x. f x ++ 10 ∷ []) xs
text-map f [] = refl
text-map f (x ∷ xs) = ap (λ rest. (f x ++ 10 ∷ []) ++ rest) (text-map f xs)

text_of_tail_lines : (cell : Cell) (tail : Tail) → text_of_lines (tail_lines cell tail) ≡ text_of_tail cell tail
text_of_tail_lines cell (Planned left steps) = rw (text-map (step_line cell) steps) refl
text_of_tail_lines cell Halted = refl

text_of_block_lines : (cell : Cell) (block : Block) → text_of_lines (block_lines cell block) ≡ text_of_block cell block
text_of_block_lines cell block =
    let head : List ℕ = line_of (head_words block.shift block.after) in
    ap (λ rest. head ++ rest)
    (text-append (map (entry_line cell) block.entries) (tail_lines cell block.tail)
    ∙ ap (λ xs. xs ++ text_of_lines (tail_lines cell block.tail)) (text-map (entry_line cell) block.entries)
    ∙ ap (λ xs. text_of_entries cell block.entries ++ xs) (text_of_tail_lines cell block.tail))
    ∙ sym (append_assoc head (text_of_entries cell block.entries) (text_of_tail cell block.tail))

pub text_is : (cell : Cell) (blocks : List Block) → text_of_lines (lines_of cell blocks) ≡ text_of_blocks cell blocks
text_is cell [] = refl
text_is cell (block ∷ blocks) =
    text-append (block_lines cell block) (lines_of cell blocks)
    ∙ ap (λ xs. xs ++ text_of_lines (lines_of cell blocks)) (text_of_block_lines cell block)
    ∙ ap (λ xs. text_of_block cell block ++ xs) (text_is cell blocks)

-- ---- their number

length-tail : (cell : Cell) (tail : Tail) → length (tail_lines cell tail) ≡ tail_count tail
length-tail cell (Planned left steps) = omega (arith, length-map steps (step_line cell))
length-tail cell Halted = refl

pub length-block : (cell : Cell) (block : Block) → length (block_lines cell block) ≡ line_count block
length-block cell block =
    omega (
      arith,
      length-append (map (entry_line cell) block.entries) (tail_lines cell block.tail),
      length-map block.entries (entry_line cell),
      length-tail cell block.tail,
    )

pub length-lines : (cell : Cell) (blocks : List Block) → length (lines_of cell blocks) ≡ sum_by line_count blocks
length-lines cell [] = refl
length-lines cell (block ∷ blocks) =
    omega (
      arith,
      length-append (block_lines cell block) (lines_of cell blocks),
      length-block cell block,
      length-lines cell blocks,
      sum_by-cons line_count block blocks,
    )

-- no text has more lines than bytes
length-text : (lines : List (List ℕ)) → length lines ≤ length (text_of_lines lines)
length-text [] = omega arith
length-text (line ∷ lines) =
    omega (arith, length-append (line ++ 10 ∷ []) (text_of_lines lines), length-append line (10 ∷ []), length-text lines)

pub few_lines : (cell : Cell) (blocks : List Block) → sum_by line_count blocks ≤ length (text_of_blocks cell blocks)
few_lines cell blocks = omega (arith, length-lines cell blocks, length-text (lines_of cell blocks), ap length (text_is cell blocks))

-- ---- one block more

pub numbered_more : (cell : Cell) (n : ℕ) (blocks : List Block) (block : Block) → AreNumbered n blocks
    → block.first_line ≡ n + length (lines_of cell blocks) → AreNumbered n (blocks ++ block ∷ [])
numbered_more cell n [] block are is = (omega (arith, is), tt)
numbered_more cell n (first ∷ blocks) block are is = (
  are.0,
  numbered_more cell (n + line_count first) blocks block are.1
      (omega (arith, is, length-append (block_lines cell first) (lines_of cell blocks), length-block cell first)),
)

pub lines_more : (cell : Cell) (blocks : List Block) (block : Block)
    → lines_of cell (blocks ++ block ∷ []) ≡ lines_of cell blocks ++ block_lines cell block
lines_more cell blocks block =
    flat_map-append (block_lines cell) blocks (block ∷ []) ∙ ap (λ xs. lines_of cell blocks ++ xs) (append-nil (block_lines cell block))

pub map_more : {A B : Type 0} (f : A → B) (xs : List A) (x : A) → map f xs ++ f x ∷ [] ≡ map f (xs ++ x ∷ [])
map_more f [] x = refl
map_more f (y ∷ xs) x = ap (λ ys. f y ∷ ys) (map_more f xs x)
