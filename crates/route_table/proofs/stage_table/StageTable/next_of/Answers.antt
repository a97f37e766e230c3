-- The successor is a later stage of the same type.
use Rattle.std.proofs.Common.{◌≡◌, Some, ap, ◌∙◌, subst, refl, arith}
use Rattle.cell_base.specs.Stages.{stage, IsStage, successor}
use Rattle.route_table.specs.declared.entries.Entry.{Entry}
use Rattle.cell_base.specs.Numbers.{number_of, stage_numbered}
use Rattle.cell_base.proofs.Numbering.{numbering_law, number_within, later_number}
use Rattle.route_table.proofs.stage_table.StageTable.next_of.Goals as goal

-- the stage that is asked for
here : (c : goal.After-number)
    → stage c.entry-entry.result.kind.0 c.entry-entry.result.place ≡ stage_numbered c.args.self.now c.args.stage.0
here c = ap (λ (entry : Entry). stage entry.kind.0 entry.place) c.entry-entry.ensures.entry

standing : (c : goal.After-number) → IsStage c.args.self.now (stage c.entry-entry.result.kind.0 c.in_ok-place.place)
standing c =
    subst (λ cell. IsStage cell (stage c.entry-entry.result.kind.0 c.in_ok-place.place)) (c.deref.ensures ∙ c.self.view_is)
    c.in_ok-place.ensures.within

pub returns-clause-stage : goal.returns-clause-stage
returns-clause-stage c =
    let cell = c.args.self.now in
    let next = stage c.entry-entry.result.kind.0 c.in_ok-place.place in
    ap (λ n. Some (stage_numbered cell n)) c.number.ensures
    ∙ ap (λ s. Some s) ((numbering_law cell).numbered next (standing c))
    ∙ c.in_ok-place.ensures.stage
    ∙ ap (λ cell. successor cell (stage c.entry-entry.result.kind.0 c.entry-entry.result.place) c.args.branch)
    (c.deref.ensures ∙ c.self.view_is)
    ∙ ap (λ s. successor cell s c.args.branch) (here c)

pub returns-clause-within : goal.returns-clause-within
returns-clause-within c =
    rw c.number.ensures (number_within c.args.self.now (stage c.entry-entry.result.kind.0 c.in_ok-place.place) (standing c))

pub returns-clause-later : goal.returns-clause-later
returns-clause-later c =
    let cell = c.args.self.now in
    omega (
      arith,
      c.number.ensures,
      later_number cell (stage c.entry-entry.result.kind.0 c.entry-entry.result.place)
          (stage c.entry-entry.result.kind.0 c.in_ok-place.place) refl c.in_ok-place.ensures.later,
      ap (number_of cell) (here c),
      (numbering_law cell).counted c.args.stage.0 c.requires,
    )
