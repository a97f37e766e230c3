-- Words appended to a line.
use Rattle.std.proofs.Common.{◌≡◌, ℕ, List, [], ◌∷◌, ◌++◌, append_assoc, append-nil, sym, ap, ◌∙◌}
use Rattle.std.specs.Fmt.{decimal}
use Rattle.cell_base.specs.declared.cells.Cell.{Cell}
use Rattle.cell_base.specs.declared.requests.Request.{Request}
use Rattle.record_text.specs.Lines.{line_after, line_of}
use Rattle.record_text.specs.Spaced.{spaced}
use Rattle.record_text.proofs.Appending.{joined-append}
use Rattle.step_text.specs.Steps.{request_words}
use Rattle.serve_command.specs.Answers.{asked_words}
use Rattle.serve_command.specs.Asks.{asked_text}

-- two words, one after the other
pub two_words : (first second one two three : List ℕ) → two ≡ one ++ 32 ∷ first → three ≡ two ++ 32 ∷ second
    → three ≡ one ++ spaced (first ∷ second ∷ [])
two_words first second one two three two_is three_is =
    three_is ∙ ap (λ (line : List ℕ). line ++ 32 ∷ second) two_is ∙ append_assoc one (32 ∷ first) (32 ∷ second)
    ∙ ap (λ (words : List ℕ). one ++ ((32 ∷ first) ++ words)) (sym (append-nil (32 ∷ second)))

-- the line that begins with the text of a session's request
pub asked_line_is : (cell : Cell) (session : ℕ) (request : Request) (text : List ℕ) (more : List (List ℕ))
    → text ≡ asked_text cell session request → line_after text more ≡ line_of (asked_words cell session request more)
asked_line_is cell session request text more is =
    ap (λ (begun : List ℕ). line_after begun more) is
    ∙ ap (λ (line : List ℕ). line ++ 10 ∷ []) (sym (joined-append (decimal session) (request_words cell request) more))
