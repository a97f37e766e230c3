-- The line begins with the text of the request.
use Rattle.std.specs.Prelude.{codes}
use Rattle.std.proofs.Common.{ap, ◌∙◌, ◌∷◌}
use Rattle.cell_base.specs.declared.requests.Reply.{Reply}
use Rattle.record_text.specs.Lines.{line_after, line_of, why_words}
use Rattle.serve_command.specs.Answers.{asked_words, refusal_words}
use Rattle.serve_command.specs.Asks.{asked_text}
use Rattle.serve_command.proofs.Wording.{asked_line_is}
use Rattle.serve_command.proofs.said_lines.still_line.Goals as goal

pub returns-in-Refused : goal.returns-in-Refused
returns-in-Refused c =
    let cell = c.args.core.now.cell in
    let waiter = c.args.waiter.now in
    let text = c.asked_line-line.result in
    let cell_is = c.cell-cell.ensures.cell in
    c.said_line-in-Refused.ensures
    ∙ (λ i. line_after text (codes "still" ∷ why_words (cell_is i) c.in-Refused.why))
    ∙ asked_line_is cell waiter.session waiter.request text (codes "still" ∷ why_words cell c.in-Refused.why)
    (c.asked_line-line.ensures.is ∙ (λ i. asked_text (cell_is i) waiter.session waiter.request))
    ∙ ap (λ (r : Reply). line_of (asked_words cell waiter.session waiter.request (codes "still" ∷ refusal_words cell r)))
    c.in-Refused.ensures.reply
