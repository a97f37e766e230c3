-- How long the lines of a start file are: so short that as many as there may be are few enough bytes.
use Rattle.std.proofs.Common.{codes, ◌≡◌, ℕ, ◌+◌, ◌*◌, ◌≤◌, Bool, true, false, List, [], ◌∷◌, length, refl, arith, lit<, lit≤}
use Rattle.std.specs.Fmt.{decimal}
use Rattle.std.specs.List.{All}
use Rattle.std.proofs.lemmas.Fmt.{length-decimal-le}
use Rattle.std.proofs.lemmas.List.{length-append}
use Rattle.std.proofs.lemmas.List.Elements.{All-head, All-tail}
use Rattle.cell_base.specs.declared.cells.Cell.{Cell}
use Rattle.cell_base.specs.declared.requests.Request.{Request}
use Rattle.cell_base.specs.declared.requests.Request.TheVariants.{Load, Process, Move, Unload, Place}
use Rattle.cell_base.specs.Fits.{CellFits}
use Rattle.cell_base.specs.Named.{type_name}
use Rattle.step_text.specs.Words.{joined}
use Rattle.step_text.specs.Steps.{done_word, request_words}
use Rattle.step_text.proofs.Naming.{type_named}
use Rattle.record_text.proofs.Requesting.{stage_is_small}
use Rattle.record_text.specs.declared.start.TheConstants.{MAX_START_LINES}
use Rattle.record_text.specs.StartFiles.{IsPlacing, IsStartOf, place_line, start_text}

done_short : (done : Bool) → length (done_word done) ≤ 7
done_short true = lit≤ tt
done_short false = lit≤ tt

-- words are as long together as each, with a byte between two
five : (a b c d e : List ℕ)
    → length (joined (a ∷ b ∷ c ∷ d ∷ e ∷ [])) ≡ length a + length b + length c + length d + length e + 4
five a b c d e =
    omega (
      arith,
      length-append a (32 ∷ joined (b ∷ c ∷ d ∷ e ∷ [])),
      length-append b (32 ∷ joined (c ∷ d ∷ e ∷ [])),
      length-append c (32 ∷ joined (d ∷ e ∷ [])),
      length-append d (32 ∷ joined (e ∷ [])),
    )

module _ (cell : Cell) (fits : CellFits cell) where
  line_short : (request : Request) → IsPlacing cell request → length (place_line cell request) ≤ 64
  line_short (Place done kind job place) placing =
      let small = stage_is_small cell fits kind.0 place placing.0.0 in
      omega (
        arith,
        length-append (joined (request_words cell (Place done kind job place))) (10 ∷ []),
        five (codes "place") (decimal job.0) (type_name cell kind.0) (decimal place) (done_word done),
        length-decimal-le 10 job.0 (lit< tt) (omega (arith, placing.1)) (omega (arith, placing.1)),
        (type_named cell fits kind.0 small.kind).short,
        length-decimal-le 5 place (lit< tt) (omega (arith, small.place)) (omega (arith, small.place)),
        done_short done,
      )
  line_short (Load job kind) placing = absurd placing
  line_short (Process machine) placing = absurd placing
  line_short (Move job branch) placing = absurd placing
  line_short (Unload job) placing = absurd placing

  text_short : (requests : List Request) → All (IsPlacing cell) requests → length (start_text cell requests) ≤ 64 * length requests
  text_short [] placing = omega arith
  text_short (request ∷ requests) placing =
      omega (
        arith,
        length-append (place_line cell request) (start_text cell requests),
        line_short request (All-head (IsPlacing cell) request requests placing),
        text_short requests (All-tail (IsPlacing cell) request requests placing),
      )

  -- the lines of requests that are few enough are a start file
  pub is_start : (requests : List Request) → All (IsPlacing cell) requests → length requests ≤ MAX_START_LINES
      → IsStartOf cell (start_text cell requests) requests
  is_start requests placing few = record {
    short = omega (arith, text_short requests placing, few);
    few = few;
    placing = placing;
    text = refl;
  }
