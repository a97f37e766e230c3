-- A part is found exactly where one waits.
use Rattle.std.proofs.Common.{◌≡◌, ℕ, List, true, false, refl, find, ap, sym, ◌∙◌}
use Rattle.std.specs.List.{list_any}
use Rattle.std.specs.Option.{option_map}
use Rattle.cell_base.specs.declared.cells.Cell.{Cell}
use Rattle.cell_base.specs.declared.requests.Part.{Part}
use Rattle.cell_base.specs.Outcomes.{is_waiting_on}
use Rattle.admission_core.proofs.Moving.{some_job, no_job, any_found, none_found}
use Rattle.admission_core.proofs.replies.reply_to_process.Goals as goal

pub first_waiting-requires : goal.first_waiting-requires
first_waiting-requires c = rw c.requires.sound.tallied.same_cell (record { told = sym c.stages.ensures })

-- what is found in a cell is found in the same cell
found : {cell same : Cell} (r : ℕ) (parts : List Part) → cell ≡ same
    → option_map (λ (part : Part). part.job) (find (is_waiting_on cell r) parts)
    ≡ option_map (λ (part : Part). part.job) (find (is_waiting_on same r) parts)
found r parts e =
    ap (λ (cell : Cell). option_map (λ (part : Part). part.job) (find (is_waiting_on cell r) parts)) e

pub returns-in-Some : goal.returns-in-Some
returns-in-Some c =
    let test = is_waiting_on c.args.table.now c.args.machine.0 in
    let parts = c.args.tally.now.parts.parts in
    let same = found c.args.machine.0 parts c.stages.ensures in
    let some = some_job (find test parts) c.in-Some.field-0 (sym c.in-Some.is ∙ c.first_waiting.ensures ∙ same) in
    let waits : list_any test parts ≡ true = any_found test parts some.0 some.1 in
    rw waits refl

pub returns-in-None : goal.returns-in-None
returns-in-None c =
    let test = is_waiting_on c.args.table.now c.args.machine.0 in
    let parts = c.args.tally.now.parts.parts in
    let same = found c.args.machine.0 parts c.stages.ensures in
    let idle : list_any test parts ≡ false =
    none_found test parts (no_job (find test parts) (sym c.in-None.is ∙ c.first_waiting.ensures ∙ same)) in
    rw idle refl
