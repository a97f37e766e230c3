-- The line begins with the text of the request.
use Rattle.std.proofs.Common.{List, ℕ, ap, ◌∙◌, ◌++◌, ◌∷◌, []}
use Rattle.admission_core.specs.CoreState.{CoreState}
use Rattle.record_text.specs.Lines.{line_after, told_words}
use Rattle.serve_command.proofs.Wording.{asked_line_is}
use Rattle.serve_command.proofs.server.Server.tell.Goals as goal

pub returns-clause-kept : goal.returns-clause-kept
returns-clause-kept g c =
    let old = c.args.self.now in
    let asked = c.args.asked.now in
    let told = c.args.told.now in
    let cell_is = c.cell.ensures.cell ∙ ap (λ (s : CoreState). s.cell) c.core.ensures.core in
    let line_is = (λ i. line_after asked.text.now (told_words (cell_is i) told))
    ∙ asked_line_is old.live.cell asked.session asked.request asked.text.now (told_words old.live.cell told) c.requires.asked.text.is in
    let replies_are = c.push_told.ensures ∙ ap (λ (line : List ℕ). old.replies ++ line ∷ []) line_is in
    (λ i. record old { replies = replies_are i; asked = c.saturating_add-self.ensures i })
