-- A guess that has the name is right.
use Rattle.std.proofs.Common.{◌≡◌, ◌∙◌, List, [], ℕ, Some, true, ap, refl, sym}
use Rattle.std.specs.Prelude.{Option}
use Rattle.std.specs.List.{slice_get}
use Rattle.std.specs.Option.{option_map_or}
use Rattle.std.specs.Str.{bytes_eq}
use Rattle.std.proofs.lemmas.Option.{slice_get_read}
use Rattle.std.proofs.lemmas.Slice.Eq.{bytes_eq-Decides}
use Rattle.cell_base.specs.declared.cells.JobType.{JobType}
use Rattle.step_text.proofs.indexed_cell.IndexedCell.guessed_type.Goals as goal

pub returns-in-Some-clause-name : goal.returns-in-Some-clause-name
returns-in-Some-clause-name c =
    let cell = c.self.inside.cell.now in
    let word = c.args.name.now in
    let found = c.in-Some.job_type.now in
    let lookup = c.in-Some.ensures.lookup in
    let at : slice_get c.as_slice.result.now c.from.result ≡ Some found =
    slice_get_read c.as_slice.result.now _ c.from.result found refl lookup.3.0 lookup.1 in
    let at : slice_get cell.types c.from-in-Some.result ≡ Some found =
    rw (c.from-in-Some.ensures ∙ sym c.from.ensures, sym c.as_slice.ensures) at in
    let same : bytes_eq word found.name ≡ true =
    ap (λ (name : List ℕ). bytes_eq word name) (sym c.bytes.ensures.value) ∙ sym c.if-are_same.ensures in
    rw (← c.self.view_is) (ap (λ (t : Option JobType). option_map_or (λ (t : JobType). t.name) t []) at
    ∙ sym ((bytes_eq-Decides word found.name).0 same))
