-- How a text is printed line by line.
use Rattle.std.proofs.Common.{◌≡◌, ℕ, ◌-◌, List, [], ◌∷◌, ◌++◌, length, take}
use Rattle.std.proofs.Common.{ap, ap₂, arith, refl, sym, ◌∙◌, append_assoc}
use Rattle.std.specs.List.{All, concat, join_with_byte}
use Rattle.std.proofs.Math.Seq.{take-append_seam}
use Rattle.std.proofs.lemmas.List.{length-append}
use Rattle.std.proofs.lemmas.List.Elements.{All-head, All-tail}
use Rattle.std.proofs.lemmas.List.Splits.{slice_split_at, length-slice_split, join_with_byte-slice_split}
use Rattle.outside_io.specs.Meanings.{SinkMeaning}
use Rattle.record_text.specs.BadLines.{is_newline, pieces}
use Rattle.refusal_reason.specs.Shown.{IsLine}
use Rattle.printer.specs.Printing.{Prints}
use Rattle.printer.specs.declared.printer.Printer.{Printer}
use Rattle.printer.proofs.Sequences.{PrintsTo, prints_to_all, prints_to_end, prints_to_next}

-- ---- a text of lines

-- its first piece is the words of the first line, and the others are those of the rest
first_piece : (line : List ℕ) (lines : List (List ℕ)) (is : IsLine line) → pieces (concat (line ∷ lines)) ≡ is.words ∷ pieces (concat lines)
first_piece line lines is =
    ap (λ (l : List ℕ). pieces (l ++ concat lines)) is.ended ∙ ap pieces (append_assoc is.words (10 ∷ []) (concat lines))
    ∙ slice_split_at is_newline is.words 10 (concat lines) is.one refl

-- where it has but one piece, it has no line
no_more : (lines : List (List ℕ)) → All IsLine lines → (words : List ℕ) → pieces (concat lines) ≡ words ∷ [] → lines ≡ []
no_more [] each words cut = refl
no_more (line ∷ lines) each words cut =
    absurd (omega (
      arith,
      ap length (sym cut ∙ first_piece line lines (All-head IsLine line lines each)),
      length-slice_split is_newline (concat lines),
    ))

pieces_behind : List (List ℕ) → List (List ℕ)
pieces_behind [] = []
pieces_behind (piece ∷ pieces) = pieces

-- the first line stands before what the first newline is cut off, and the text of the others behind
record Next (lines : List (List ℕ)) (text later : List ℕ) : Type 0 where
  line : List ℕ
  others : List (List ℕ)
  parted : lines ≡ line ∷ others
  each : All IsLine others
  cut : take (length text - length later) text ≡ line
  left : later ≡ concat others

next : (lines : List (List ℕ)) → All IsLine lines → (text : List ℕ) → text ≡ concat lines → (words later : List ℕ)
    → pieces text ≡ words ∷ pieces later → Next lines text later
unfolding pieces_behind
next [] each text is words later cut =
    let one : length (pieces []) ≡ 1 = refl in
    absurd (omega (arith, one, ap length (sym cut ∙ ap pieces is), length-slice_split is_newline later))
next (line ∷ lines) each text is words later cut =
    let left : later ≡ concat lines =
    sym (join_with_byte-slice_split 10 later)
    ∙ ap (λ (ps : List (List ℕ)). join_with_byte 10 (pieces_behind ps))
    (sym cut ∙ ap pieces is ∙ first_piece line lines (All-head IsLine line lines each))
    ∙ join_with_byte-slice_split 10 (concat lines) in
    let same : length (line ++ concat lines) - length (concat lines) ≡ length line = omega (arith, length-append line (concat lines)) in
    record {
      line = line;
      others = lines;
      parted = refl;
      each = All-tail IsLine line lines each;
      cut = ap₂ (λ (t l : List ℕ). take (length t - length l) t) is left
          ∙ ap (λ (n : ℕ). take n (line ++ concat lines)) same ∙ take-append_seam line (concat lines);
      left = left;
    }

-- some of these lines are printed, and a text is that of the others
pub record Showing {K : Type 0} (sink : SinkMeaning K) (old new : Printer K) (every : List (List ℕ)) (text : List ℕ) : Type 0 where
  pub ahead : List (List ℕ)
  pub each : All IsLine ahead
  pub is : text ≡ concat ahead
  pub printed : PrintsTo sink old new every ahead

-- no line is printed yet
pub showing_begins : {K : Type 0} (sink : SinkMeaning K) (a : Printer K) (every : List (List ℕ)) (text : List ℕ) → All IsLine every
    → text ≡ concat every → Showing sink a a every text
showing_begins sink a every text each is =
    record { ahead = every; each = each; is = is; printed = prints_to_all sink a every }

module _ {K : Type 0} {sink : SinkMeaning K} {a b : Printer K} {every : List (List ℕ)} (text : List ℕ)
    (so_far : Showing sink a b every text) (words : List ℕ) where
  -- every line is
  pub showing_ends : pieces text ≡ words ∷ [] → Prints sink a b every
  showing_ends cut =
      prints_to_end (no_more so_far.ahead so_far.each words (ap pieces (sym so_far.is) ∙ cut)) so_far.printed

  -- one more is
  pub showing_goes_on : {c : Printer K} (later : List ℕ) → pieces text ≡ words ∷ pieces later
      → Prints sink b c (take (length text - length later) text ∷ []) → Showing sink a c every later
  showing_goes_on later cut one =
      let first = next so_far.ahead so_far.each text so_far.is words later cut in
      record {
        ahead = first.others;
        each = first.each;
        is = first.left;
        printed = prints_to_next first.parted first.cut so_far.printed one;
      }
