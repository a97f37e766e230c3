-- The line begins with the text of the request.
use Rattle.std.specs.Prelude.{codes}
use Rattle.std.proofs.Common.{List, ℕ, ap, ◌∙◌, ◌++◌, ◌+◌, ◌∷◌, []}
use Rattle.serve_command.specs.Answers.{line_number}
use Rattle.serve_command.proofs.Wording.{asked_line_is}
use Rattle.serve_command.proofs.server.Server.turn_away.Goals as goal

pub returns-clause-kept : goal.returns-clause-kept
returns-clause-kept g c =
    let old = c.args.self.now in
    let asked = c.args.asked.now in
    let more : List (List ℕ) = codes "refused" ∷ c.args.why.now ∷ [] in
    let line_is = c.turned_line-line.ensures
    ∙ asked_line_is old.live.cell asked.session asked.request asked.text.now more c.requires.asked.text.is in
    c.keep.ensures.kept
    ∙ ap (λ (line : List ℕ). record old { replies = old.replies ++ line ∷ []; asked = line_number (old.asked + 1) }) line_is
