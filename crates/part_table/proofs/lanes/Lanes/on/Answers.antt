-- What is read is the resource of the stage.
use Rattle.std.proofs.Common.{◌≡◌, ◌+◌, ◌*◌, List, ℕ, Some, None, slice_get, refl, subst, sym, ap₂, ◌∙◌, arith}
use Rattle.std.proofs.lemmas.Bool.{ltb-false}
use Rattle.std.proofs.lemmas.Option.{slice_get_past, slice_get_read}
use Rattle.cell_base.specs.declared.limits.TheConstants.{MAX_PLACES}
use Rattle.cell_base.specs.Stages.{resource_at, stage}
use Rattle.part_table.proofs.LaneReads.{past_places, told_read, told_small}
use Rattle.part_table.proofs.lanes.Lanes.on.Goals as goal

-- what is read in the list that is kept
read : (c : goal.After-from-in-Some)
    → slice_get c.self.inside.resources (c.from-2.result * MAX_PLACES + c.from-3.result) ≡ Some c.in-Some.on.now
read c =
    let i = c.from-2.result * MAX_PLACES + c.from-3.result in
    let lookup = c.in-Some.ensures.lookup in
    subst (λ (xs : List ℕ). slice_get xs i ≡ Some c.in-Some.on.now) c.as_slice-resources.ensures
    (slice_get_read c.as_slice-resources.result.now _ i c.in-Some.on.now refl lookup.3.0 lookup.1)

pub returns-then-from-ge-MAX_PLACES-clause-told : goal.returns-then-from-ge-MAX_PLACES-clause-told
returns-then-from-ge-MAX_PLACES-clause-told c =
    rw (← c.self.view_is) (λ cell told. sym (past_places cell (c.self.invariant.fits cell told) c.args.kind.0 c.args.place (omega arith)))

pub returns-in-Some-clause-told : goal.returns-in-Some-clause-told
returns-in-Some-clause-told c =
    rw (← c.self.view_is) (λ cell told.
    c.from-in-Some.ensures
    ∙ told_read _ c.self.inside.resources c.self.invariant c.from-2.result c.from-3.result (Some c.in-Some.on.now) (omega arith) (read c)
    cell told
    ∙ ap₂ (λ kind place. resource_at cell (stage kind place)) c.from-2.ensures c.from-3.ensures)

pub returns-in-Some-clause-within : goal.returns-in-Some-clause-within
returns-in-Some-clause-within c =
    omega (
      arith,
      c.from-in-Some.ensures,
      told_small _ c.self.inside.resources c.self.invariant c.from-2.result c.from-3.result c.in-Some.on.now (omega arith) (read c),
    )

pub returns-in-None-clause-told : goal.returns-in-None-clause-told
returns-in-None-clause-told c =
    let i = c.from-2.result * MAX_PLACES + c.from-3.result in
    let past : slice_get c.self.inside.resources (c.from-2.result * MAX_PLACES + c.from-3.result) ≡ None =
    subst (λ (xs : List ℕ). slice_get xs i ≡ None) c.as_slice-resources.ensures
    (slice_get_past c.as_slice-resources.result.now i (ltb-false i _ (sym c.in-None.ensures.lookup.0))) in
    rw (← c.self.view_is) (λ cell told.
    told_read _ c.self.inside.resources c.self.invariant c.from-2.result c.from-3.result None (omega arith) past cell told
    ∙ ap₂ (λ kind place. resource_at cell (stage kind place)) c.from-2.ensures c.from-3.ensures)
