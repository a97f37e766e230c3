-- A part stands at a stage of the cell.
use Rattle.std.specs.Prelude.{Option}
use Rattle.std.proofs.Common.{ap, subst, sym, ◌∙◌}
use Rattle.std.proofs.lemmas.List.Elements.{All-contains}
use Rattle.cell_base.specs.declared.cells.Cell.{Cell}
use Rattle.cell_base.specs.declared.requests.Part.{Part}
use Rattle.cell_base.specs.Stages.{IsStage, stage_of}
use Rattle.policy_laws.proofs.Parts.{part_of-found}
use Rattle.record_text.specs.Lines.{line_of}
use Rattle.serve_command.specs.Answers.{job_words}
use Rattle.serve_command.proofs.questions.job_line.Goals as goal

pub part_line-requires-clause-standing : goal.part_line-requires-clause-standing
part_line-requires-clause-standing c =
    let core = c.args.core.now in
    let part = c.in-Some.part in
    let found = part_of-found core.parts c.args.job part (sym c.in-Some.ensures) in
    subst (λ (cell : Cell). IsStage cell (stage_of part)) (sym c.cell.ensures.cell)
    (All-contains (λ (one : Part). IsStage core.cell (stage_of one)) core.parts part c.cell.ensures.admitted.state.standing found.0)

pub returns-in-None : goal.returns-in-None
returns-in-None c =
    let cell = c.args.core.now.cell in
    c.gone_line.ensures cell ∙ ap (λ (part : Option Part). line_of (job_words cell c.args.job part)) c.in-None.ensures
