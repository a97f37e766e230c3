-- A word, and then others.
use Rattle.std.specs.Prelude.{Option}
use Rattle.std.proofs.Common.{append_assoc, append-nil, ap, sym, ◌∙◌, ◌∷◌, ◌++◌, List, ℕ}
use Rattle.cell_base.specs.declared.requests.Refusal.{Refusal}
use Rattle.record_text.specs.Lines.{why_words}
use Rattle.record_text.specs.Spaced.{spaced}
use Rattle.serve_command.specs.Answers.{reason_words}
use Rattle.serve_command.proofs.said_lines.add_said.Goals as goal

pub returns-in-Some-clause-words : goal.returns-in-Some-clause-words
returns-in-Some-clause-words c =
    let word = c.args.word.now in
    let cell = c.args.cell.now in
    c.add_why.ensures.words
    ∙ ap (λ (line : List ℕ). line ++ spaced (why_words cell c.in-Some.why)) c.word.ensures.bytes
    ∙ append_assoc c.args.line.now (32 ∷ word) (spaced (why_words cell c.in-Some.why))
    ∙ ap (λ (why : Option Refusal). c.args.line.now ++ spaced (word ∷ reason_words cell why)) (sym c.in-Some.is)

pub returns-in-None-clause-words : goal.returns-in-None-clause-words
returns-in-None-clause-words c =
    let word = c.args.word.now in
    c.word.ensures.bytes ∙ ap (λ (line : List ℕ). c.args.line.now ++ line) (sym (append-nil (32 ∷ word)))
    ∙ ap (λ (why : Option Refusal). c.args.line.now ++ spaced (word ∷ reason_words c.args.cell.now why)) (sym c.in-None.is)
