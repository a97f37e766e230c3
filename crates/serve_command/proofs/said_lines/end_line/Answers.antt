-- The line begins with the text of the request.
use Rattle.std.specs.Prelude.{codes}
use Rattle.std.proofs.Common.{ap, sym, ◌∙◌, ◌∷◌}
use Rattle.cell_base.specs.declared.requests.Reply.{Reply}
use Rattle.cell_base.specs.declared.requests.Told.TheVariants.{Answered}
use Rattle.record_text.specs.Lines.{line_of, why_words}
use Rattle.serve_command.specs.Answers.{asked_words, end_words}
use Rattle.serve_command.proofs.Wording.{asked_line_is}
use Rattle.serve_command.proofs.said_lines.end_line.Goals as goal

pub returns-in-Refused : goal.returns-in-Refused
returns-in-Refused c =
    let cell = c.args.cell.now in
    let waiter = c.args.waiter.now in
    c.said_line-in-Refused.ensures
    ∙ asked_line_is cell waiter.session waiter.request c.asked_line-line.result (codes "dropped" ∷ why_words cell c.in-Refused.why)
    c.asked_line-line.ensures.is
    ∙ ap (λ (r : Reply). line_of (asked_words cell waiter.session waiter.request (end_words cell (Answered r)))) (sym c.in-Refused.is)
