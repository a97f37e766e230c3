-- The lines of a start file, read one after the other.
use Rattle.std.proofs.Common.{◌≡◌, ℕ, ◌+◌, ◌<◌, ◌≤◌, List, [], ◌∷◌, ◌++◌, length, Option, Some}
use Rattle.std.proofs.Common.{Err, sym, ap, ◌∙◌, subst, arith, lt-ltb, append_assoc, append-nil}
use Rattle.std.specs.List.{All}
use Rattle.std.specs.Option.{option_map_or}
use Rattle.std.proofs.lemmas.List.{length-append}
use Rattle.std.proofs.lemmas.List.Elements.{All-nil, All-cons, All-head, All-tail}
use Rattle.cell_base.specs.declared.cells.Cell.{Cell}
use Rattle.cell_base.specs.declared.requests.Request.{Request}
use Rattle.cell_base.specs.Fits.{CellFits}
use Rattle.step_text.specs.Words.{joined}
use Rattle.step_text.specs.Steps.{request_words}
use Rattle.record_text.specs.BadLines.{pieces}
use Rattle.record_text.proofs.Pieces.{pieces_some}
use Rattle.record_text.proofs.Splitting.{IsLine, pieces-behind}
use Rattle.record_text.specs.declared.start.TheConstants.{MAX_START_LINES}
use Rattle.record_text.specs.StartLines.{next_request, read_from}
use Rattle.record_text.specs.StartFiles.{IsPlacing, place_line, start_text}
use Rattle.record_text.proofs.Placing.{is_line, placing-complete, words_again}

module _ (cell : Cell) (found : List Request) where
  -- what a line and others after it are read as
  pub read_cons : (line rest : List ℕ) (others : List (List ℕ)) (o : Option Request) → next_request cell found line ≡ o
      → read_from cell found (line ∷ rest ∷ others)
      ≡ option_map_or (λ (request : Request). read_from cell (found ++ request ∷ []) (rest ∷ others)) o (Err (length found + 1))
  read_cons line rest others o is =
      ap (λ (o : Option Request). option_map_or (λ (request : Request). read_from cell (found ++ request ∷ []) (rest ∷ others)) o
      (Err (length found + 1))) is

  -- the same of the pieces of a text
  pub read_line : (text line rest : List ℕ) (o : Option Request) → pieces text ≡ line ∷ pieces rest → next_request cell found line ≡ o
      → read_from cell found (pieces text)
      ≡ option_map_or (λ (request : Request). read_from cell (found ++ request ∷ []) (pieces rest)) o (Err (length found + 1))
  read_line text line rest o are is =
      let some = pieces_some rest in
      let Rest : List (List ℕ) → Type 0 = λ ps. read_from cell found (line ∷ ps)
      ≡ option_map_or (λ (request : Request). read_from cell (found ++ request ∷ []) ps) o (Err (length found + 1)) in
      ap (read_from cell found) are ∙ subst Rest (sym some.2) (read_cons line some.0 some.1 o is)

module _ (cell : Cell) (fits : CellFits cell) where
  -- the line of a request is the first piece
  pub first_piece : (request : Request) (rest : List ℕ) → IsPlacing cell request
      → pieces (place_line cell request ++ rest) ≡ joined (request_words cell request) ∷ pieces rest
  first_piece request rest placing =
      let line = joined (request_words cell request) in
      ap (λ (text : List ℕ). pieces (text ++ rest)) (sym (append-nil (line ++ 10 ∷ [])))
      ∙ pieces-behind (line ∷ []) rest (All-cons IsLine line [] (is_line cell fits request placing) (All-nil IsLine))

  -- it is read as the request, where there may be one more
  pub next_is : (found : List Request) (request : Request) → IsPlacing cell request → length found < MAX_START_LINES
      → next_request cell found (joined (request_words cell request)) ≡ Some request
  next_is found request placing room =
      rw (lt-ltb (length found) MAX_START_LINES room, words_again cell fits request placing) (placing-complete cell fits request placing)

  read_one : (found : List Request) (request : Request) (rest : List ℕ) → IsPlacing cell request → length found < MAX_START_LINES
      → read_from cell found (pieces (place_line cell request ++ rest)) ≡ read_from cell (found ++ request ∷ []) (pieces rest)
  read_one found request rest placing room =
      read_line cell found (place_line cell request ++ rest) (joined (request_words cell request)) rest (Some request)
      (first_piece request rest placing) (next_is found request placing room)

  -- and so are the lines of requests
  pub read_all : (found before : List Request) (rest : List ℕ) → All (IsPlacing cell) before
      → length found + length before ≤ MAX_START_LINES
      → read_from cell found (pieces (start_text cell before ++ rest)) ≡ read_from cell (found ++ before) (pieces rest)
  read_all found [] rest placing few = ap (λ (rs : List Request). read_from cell rs (pieces rest)) (sym (append-nil found))
  read_all found (request ∷ before) rest placing few =
      ap (λ (text : List ℕ). read_from cell found (pieces text))
      (append_assoc (place_line cell request) (start_text cell before) rest)
      ∙ read_one found request (start_text cell before ++ rest) (All-head (IsPlacing cell) request before placing) (omega (arith, few))
      ∙ read_all (found ++ request ∷ []) before rest (All-tail (IsPlacing cell) request before placing)
      (omega (arith, few, length-append found (request ∷ [])))
      ∙ ap (λ (rs : List Request). read_from cell rs (pieces rest)) (append_assoc found (request ∷ []) before)
