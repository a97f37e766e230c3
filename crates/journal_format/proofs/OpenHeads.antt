-- The head of a journal.
use Rattle.std.specs.Prelude.{false, not, nat_lt, slice_index, slice_range, ◌==◌, ◌||◌}
use Rattle.std.proofs.Common.{◌≡◌, ℕ, zero, suc, ◌+◌, ◌^◌, ◌<◌, ◌≤◌, List, [], ◌∷◌, ◌++◌, length, get_or, take, drop, refl}
use Rattle.std.proofs.Common.{sym, ◌∙◌, ap, arith, append_assoc, length-take, length-drop, take-append-drop, lit<}
use Rattle.std.specs.Int.{to_be_bytes, w32}
use Rattle.std.proofs.lemmas.Nat.{be_bytes_4}
use Rattle.std.proofs.lemmas.List.{take-append-le}
use Rattle.std.proofs.lemmas.Bool.Decides.{nat_tests}
use Rattle.std.specs.Cmp.Lexicographic.{same_text}
use Rattle.cell_base.specs.declared.shifts.Grant.{Grant}
use Rattle.journal_format.specs.declared.head.TheConstants.{TEXT_AT}
use Rattle.entry_codec.specs.Decoding.{number_4}
use Rattle.journal_format.specs.Blanks.{name}
use Rattle.journal_format.specs.Journals.{entries, IsJournal}
use Rattle.journal_format.specs.declared.head.Head.TheVariants.{Open}
use Rattle.journal_format.specs.Readings.{has_name, head_of}
use Rattle.journal_format.proofs.HeadTests.{open_by, both_true}
use Rattle.journal_format.proofs.Windowed.{drop-drop_at}
use Rattle.journal_format.proofs.Ends.{Ends}

four_below : (file : List ℕ) → ((i : ℕ) → slice_index file i < 256) → (i : ℕ)
    → get_or (slice_index file 9 ∷ slice_index file 10 ∷ slice_index file 11 ∷ slice_index file 12 ∷ []) i 0 < 256
four_below file below zero = below 9
four_below file below (suc zero) = below 10
four_below file below (suc (suc zero)) = below 11
four_below file below (suc (suc (suc zero))) = below 12
four_below file below (suc (suc (suc (suc i)))) = lit< tt

-- the first thirteen bytes: an open gate, the name, and a length
pub head_bytes : (file : List ℕ) (n : ℕ) → TEXT_AT ≤ length file → slice_index file 0 ≡ 1 → slice_range file 1 9 ≡ name
    → ((i : ℕ) → slice_index file i < 256) → number_4 file 9 ≡ n → take TEXT_AT file ≡ (1 ∷ name) ++ to_be_bytes w32 n
head_bytes ([]) n long first named below is = absurd (omega arith)
head_bytes (x0 ∷ []) n long first named below is = absurd (omega arith)
head_bytes (x0 ∷ x1 ∷ []) n long first named below is = absurd (omega arith)
head_bytes (x0 ∷ x1 ∷ x2 ∷ []) n long first named below is = absurd (omega arith)
head_bytes (x0 ∷ x1 ∷ x2 ∷ x3 ∷ []) n long first named below is = absurd (omega arith)
head_bytes (x0 ∷ x1 ∷ x2 ∷ x3 ∷ x4 ∷ []) n long first named below is = absurd (omega arith)
head_bytes (x0 ∷ x1 ∷ x2 ∷ x3 ∷ x4 ∷ x5 ∷ []) n long first named below is = absurd (omega arith)
head_bytes (x0 ∷ x1 ∷ x2 ∷ x3 ∷ x4 ∷ x5 ∷ x6 ∷ []) n long first named below is = absurd (omega arith)
head_bytes (x0 ∷ x1 ∷ x2 ∷ x3 ∷ x4 ∷ x5 ∷ x6 ∷ x7 ∷ []) n long first named below is = absurd (omega arith)
head_bytes (x0 ∷ x1 ∷ x2 ∷ x3 ∷ x4 ∷ x5 ∷ x6 ∷ x7 ∷ x8 ∷ []) n long first named below is = absurd (omega arith)
head_bytes (x0 ∷ x1 ∷ x2 ∷ x3 ∷ x4 ∷ x5 ∷ x6 ∷ x7 ∷ x8 ∷ x9 ∷ []) n long first named below is = absurd (omega arith)
head_bytes (x0 ∷ x1 ∷ x2 ∷ x3 ∷ x4 ∷ x5 ∷ x6 ∷ x7 ∷ x8 ∷ x9 ∷ x10 ∷ []) n long first named below is = absurd (omega arith)
head_bytes (x0 ∷ x1 ∷ x2 ∷ x3 ∷ x4 ∷ x5 ∷ x6 ∷ x7 ∷ x8 ∷ x9 ∷ x10 ∷ x11 ∷ []) n long first named below is = absurd (omega arith)
head_bytes (x0 ∷ x1 ∷ x2 ∷ x3 ∷ x4 ∷ x5 ∷ x6 ∷ x7 ∷ x8 ∷ x9 ∷ x10 ∷ x11 ∷ x12 ∷ file) n long first named below is =
    let size : to_be_bytes w32 n ≡ x9 ∷ x10 ∷ x11 ∷ x12 ∷ [] =
    be_bytes_4 (x9 ∷ x10 ∷ x11 ∷ x12 ∷ []) n refl
    (four_below (x0 ∷ x1 ∷ x2 ∷ x3 ∷ x4 ∷ x5 ∷ x6 ∷ x7 ∷ x8 ∷ x9 ∷ x10 ∷ x11 ∷ x12 ∷ file) below) (sym is) in
    (λ i. first i ∷ (named i ++ sym size i))

is_one : (n : ℕ) → not (n == 1) ≡ false → n ≡ 1
is_one n is = grind (arith, nat_tests)

pub open_head : (len : ℕ) (bytes : List ℕ) (size : ℕ) → head_of len bytes ≡ Open size
    → (slice_range bytes 1 9 ≡ name) × (slice_index bytes 0 ≡ 1) × (number_4 bytes 9 ≡ size)
unfolding head_of
open_head len bytes size is =
    let way = open_by (nat_lt len 2) (slice_index bytes 0 == 0) (not (has_name len bytes)) (not (slice_index bytes 0 == 1))
    (nat_lt len TEXT_AT || nat_lt len (TEXT_AT + number_4 bytes 9)) (number_4 bytes 9) size is in
    (same_text (slice_range bytes 1 9) name (sym (both_true _ _ way.0).1), is_one (slice_index bytes 0) way.1, sym way.3)

pub open_small : (len : ℕ) (bytes : List ℕ) (size : ℕ) → ((i : ℕ) → slice_index bytes i < 256) → head_of len bytes ≡ Open size
    → size < 2 ^ 32
open_small len bytes size below is = omega (arith, (open_head len bytes size is).2, below 9, below 10, below 11, below 12)

-- an open head, the text after it, and grants after the text
pub journal_found : (file kept more text : List ℕ) (len size : ℕ) (grants : List Grant) → file ≡ kept ++ more → TEXT_AT ≤ length kept
    → ((i : ℕ) → slice_index kept i < 256) → head_of len kept ≡ Open size
    → TEXT_AT + size ≤ length file → take size (drop TEXT_AT file) ≡ text → Ends (drop (TEXT_AT + size) file) grants
    → IsJournal file text grants
journal_found file kept more text len size grants split long below is fits text_is ends =
    let tests = open_head len kept size is in
    let size_is : length text ≡ size =
    omega (arith, fits, ap length text_is, length-take size (drop TEXT_AT file), length-drop TEXT_AT file) in
    let small : length text < 2 ^ 32 = omega (arith, size_is, open_small len kept size below is) in
    let first : take TEXT_AT file ≡ (1 ∷ name) ++ to_be_bytes w32 (length text) =
    ap (λ (l : List ℕ). take TEXT_AT l) split ∙ take-append-le TEXT_AT kept more long
    ∙ head_bytes kept (length text) long tests.1 tests.0 below (tests.2 ∙ sym size_is) in
    let rest : drop TEXT_AT file ≡ text ++ (entries grants ++ ends.gate ∷ ends.later) =
    sym (take-append-drop size (drop TEXT_AT file)) ∙ (λ i. text_is i ++ (drop-drop_at TEXT_AT size file ∙ ends.split) i) in
    record {
      size = small;
      each = ends.each;
      gate = ends.gate;
      closed = ends.closed;
      later = ends.later;
      split = sym (take-append-drop TEXT_AT file) ∙ (λ i. first i ++ rest i)
          ∙ ap (λ (l : List ℕ). (1 ∷ name ++ to_be_bytes w32 (length text)) ++ l)
          (sym (append_assoc text (entries grants) (ends.gate ∷ ends.later)));
    }
