-- Bytes that are read as a record, and that they are read in one way.
use Rattle.std.proofs.Common.{Option, Some, None, ◌≡◌, inl, inr, ℕ, ◌<◌, ◌≤◌, List, [], ◌∷◌, ◌++◌, length}
use Rattle.std.proofs.Common.{Result, Ok, Err, sym, ◌∙◌, ap, subst, refl, arith, append_assoc}
use Rattle.std.proofs.lemmas.List.{length-append}
use Rattle.std.proofs.lemmas.Bool.{cases_lt}
use Rattle.cell_base.specs.declared.cells.Cell.{Cell}
use Rattle.cell_base.specs.Fits.{CellFits}
use Rattle.record_text.specs.BadLines.{IsBadLine, IsFront, IsRecordOf, RefusedAt, text_of_lines}
use Rattle.record_text.specs.declared.blocks.Block.{Block}
use Rattle.record_text.specs.declared.record.RecordFault.{RecordFault}
use Rattle.record_text.specs.declared.record.RecordFault.TheVariants.{Bad, Memory}
use Rattle.record_text.proofs.Exact.{same_text}
use Rattle.cell_texts.specs.Parting.{Longer, longer}
use Rattle.cell_texts.specs.Texts.{bad_line_text}

-- the line of a fault of a record; want of memory has none
abbrev pub record_line : RecordFault → Option (List ℕ)
record_line (Bad line) = Some (bad_line_text line)
record_line Memory = None

-- the bytes are the text of these blocks, of a cell that fits, or this line of them is bad
abbrev pub record_reads : Cell → List ℕ → Result (List Block) RecordFault → Type 0
record_reads cell bytes (Ok blocks) = CellFits cell × IsRecordOf cell bytes blocks
record_reads cell bytes (Err (Bad line)) = RefusedAt cell bytes (Bad line)
record_reads cell bytes (Err Memory) = ⊥

lines-append : (a b : List (List ℕ)) → text_of_lines (a ++ b) ≡ text_of_lines a ++ text_of_lines b
lines-append [] b = refl
lines-append (line ∷ a) b =
    ap (λ (t : List ℕ). line ++ 10 ∷ [] ++ t) (lines-append a b) ∙ sym (append_assoc (line ++ 10 ∷ []) (text_of_lines a) (text_of_lines b))

front_of : (cell : Cell) (a b : List (List ℕ)) → IsFront cell (a ++ b) → IsFront cell a
front_of cell a b front = (
  front.0,
  text_of_lines b ++ front.1,
  front.2,
  front.3 ∙ ap (λ (t : List ℕ). t ++ front.1) (lines-append a b) ∙ append_assoc (text_of_lines a) (text_of_lines b) front.1,
)

-- no later line is the first bad one
not_later : (cell : Cell) (bytes : List ℕ) (n m : ℕ) (a : IsBadLine cell bytes n) (b : IsBadLine cell bytes m)
    → length a.before < length b.before → ⊥
unfolding Longer
not_later cell bytes n m a b less =
    let so = longer a.before b.before a.line b.line a.later b.later (sym a.split ∙ b.split) less in
    let some : 1 ≤ length a.later = omega (arith, ap (λ (l : List (List ℕ)). length l) so.2, length-append so.0 (b.line ∷ b.later)) in
    a.bad some
    (front_of cell (a.before ++ a.line ∷ []) so.0
    (subst (IsFront cell) (so.1 ∙ sym (append_assoc a.before (a.line ∷ []) so.0)) b.front))

one_line : (cell : Cell) (bytes : List ℕ) (n m : ℕ) → IsBadLine cell bytes n → IsBadLine cell bytes m → n ≡ m
one_line cell bytes n m a b = elim (cases_lt (length a.before) (length b.before)) [
  | inl less ↦ absurd (not_later cell bytes n m a b less)
  | inr most ↦ elim (cases_lt (length b.before) (length a.before)) [
    | inl less ↦ absurd (not_later cell bytes m n b a less)
    | inr least ↦ omega (arith, a.number, b.number, most, least)
  ]
]

one_fault : (cell : Cell) (bytes : List ℕ) (n m : ℕ) → RefusedAt cell bytes (Bad n) → RefusedAt cell bytes (Bad m) → n ≡ m
one_fault cell bytes n m (inl a) (inl b) = a.1 ∙ sym b.1
one_fault cell bytes n m (inl a) (inr b) = absurd (omega (arith, a.0, b.0))
one_fault cell bytes n m (inr a) (inl b) = absurd (omega (arith, a.0, b.0))
one_fault cell bytes n m (inr a) (inr b) = one_line cell bytes n m a.1 b.1

no_record : (cell : Cell) (bytes : List ℕ) (blocks : List Block) (n : ℕ) → IsRecordOf cell bytes blocks → RefusedAt cell bytes (Bad n) → ⊥
no_record cell bytes blocks n is (inl long) = omega (arith, long.0, is.short)
no_record cell bytes blocks n is (inr bad) = bad.1.none blocks is.written is.text

pub record_once : (cell : Cell) (bytes : List ℕ) (first second : Result (List Block) RecordFault) → record_reads cell bytes first
    → record_reads cell bytes second → first ≡ second
record_once cell bytes (Ok a) (Ok b) one other =
    ap Ok (same_text cell one.0 a b one.1.written other.1.written (sym one.1.text ∙ other.1.text))
record_once cell bytes (Ok a) (Err (Bad b)) one other = absurd (no_record cell bytes a b one.1 other)
record_once cell bytes (Err (Bad a)) (Ok b) one other = absurd (no_record cell bytes b a other.1 one)
record_once cell bytes (Err (Bad a)) (Err (Bad b)) one other = ap (λ (n : ℕ). Err (Bad n)) (one_fault cell bytes a b one other)
record_once cell bytes (Err Memory) second one other = absurd one
record_once cell bytes first (Err Memory) one other = absurd other
