-- The session, and the words of the request after it.
use Rattle.std.specs.Fmt.{decimal}
use Rattle.std.proofs.Common.{List, ℕ, ◌++◌, ap, arith, sym, ◌∙◌}
use Rattle.record_text.specs.Spaced.{spaced}
use Rattle.record_text.proofs.Appending.{joined-cons}
use Rattle.step_text.specs.Steps.{request_words}
use Rattle.serve_command.proofs.said_lines.asked_line.Goals as goal

pub returns : goal.returns
returns c =
    let words : List (List ℕ) = request_words c.args.cell.now c.args.request.now in
    record {
      is = c.add_request.ensures.words ∙ ap (λ (line : List ℕ). line ++ spaced words) c.begin_number.ensures.digits
          ∙ sym (joined-cons (decimal c.args.session) words);
      short = omega (arith, c.add_request.ensures.len, c.begin_number.ensures.len);
    }
