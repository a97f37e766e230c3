-- The first part that waits is done, and needs one step less.
use Rattle.std.specs.Prelude.{is_some}
use Rattle.std.proofs.Common.{◌≡◌, ℕ, ◌+◌, ◌-◌, false, not, ◌==◌, None, find, List, length, ap, subst, sym, ◌∙◌, arith}
use Rattle.std.proofs.lemmas.Bool.{and_parts, not-true}
use Rattle.cell_base.specs.declared.cells.Cell.{Cell}
use Rattle.cell_base.specs.declared.cells.ResId.{ResId}
use Rattle.cell_base.specs.declared.requests.Part.{Part}
use Rattle.cell_base.specs.Stages.{stage_of, resource_at}
use Rattle.cell_base.specs.Outcomes.{is_waiting_on, finish_first}
use Rattle.cell_base.specs.Plans.{work}
use Rattle.policy_laws.proofs.Lists.{find-Contains, find_passes}
use Rattle.policy_laws.proofs.Work.{work_of-positive}
use Rattle.part_table.specs.Parts.{Table}
use Rattle.part_table.proofs.Standings.{length-finish_first}
use Rattle.part_table.proofs.Told.{finish_first-none}
use Rattle.admission_core.specs.CoreState.{AreCounts, IsTallied, IsSound}
use Rattle.admission_core.specs.declared.tally.Tally.{Tally}
use Rattle.admission_core.proofs.Moving.{some_job, no_job, any_found, none_found}
use Rattle.admission_core.proofs.Tallying.{counts_finished, work_finished, work_without}
use Rattle.admission_core.proofs.changes.finish_first_on.Goals as goal

pub finish_first-requires-clause-told : goal.finish_first-requires-clause-told
finish_first-requires-clause-told c = ap is_some c.requires.sound.tallied.same_cell

pub finish_first-requires-clause-resource : goal.finish_first-requires-clause-resource
finish_first-requires-clause-resource c =
    omega (arith, c.requires.machine, c.requires.sound.fits.resource_count.1)

module _ (cell : Cell) (before : Tally) (sound : IsSound cell before) (machine : ResId) where
  module _ (new : Table)
      (change : new ≡ record before.parts { parts = finish_first (is_waiting_on cell machine.0) before.parts.parts }) where
    -- the parts after the work
    now : new.parts ≡ finish_first (is_waiting_on cell machine.0) before.parts.parts
    now = ap (λ (table : Table). table.parts) change

    -- what goes along with them
    tallied : (left : ℕ) → left ≡ work cell new.parts → IsTallied cell (record before { parts = new; work = left })
    tallied left is = record {
      same_cell = ap (λ (table : Table). table.told) change ∙ sound.tallied.same_cell;
      enough = omega (
        arith,
        sound.tallied.enough,
        ap (λ (table : Table). table.spare) change,
        ap length now,
        length-finish_first (is_waiting_on cell machine.0) before.parts.parts,
      );
      counts = subst (λ (parts : List Part). AreCounts cell parts before.counts) (sym now)
          (counts_finished cell sound.fits before.parts.parts before.counts (is_waiting_on cell machine.0) sound.tallied.counts);
      work = is;
    }

pub overflow_sub-tally : goal.overflow_sub-tally
overflow_sub-tally c =
    let cell = c.args.table.now in
    let before = c.args.tally.now in
    let sound = c.requires.sound in
    let test = is_waiting_on cell c.args.machine.0 in
    let first = some_job (find test before.parts.parts) c.in-Some.field-0
    (c.in-Some.ensures.job cell sound.tallied.same_cell) in
    omega (
      arith,
      sound.tallied.work,
      work_without cell sound.fits before.parts.parts first.0 sound.admitted.state.distinct
          (find-Contains test before.parts.parts first.0 first.1),
      work_of-positive cell first.0,
    )

pub returns-in-Some-clause-tallied : goal.returns-in-Some-clause-tallied
returns-in-Some-clause-tallied c =
    let cell = c.args.table.now in
    let before = c.args.tally.now in
    let sound = c.requires.sound in
    let test = is_waiting_on cell c.args.machine.0 in
    let first = some_job (find test before.parts.parts) c.in-Some.field-0
    (c.in-Some.ensures.job cell sound.tallied.same_cell) in
    let table = c.in-Some.ensures.table cell sound.tallied.same_cell in
    let undone : first.0.done ≡ false =
    not-true _ (and_parts (not first.0.done) (resource_at cell (stage_of first.0) == c.args.machine.0)
    (find_passes test before.parts.parts first.0 first.1)).0 in
    let less : work cell c.finish_first.new.self.parts + 1 ≡ before.work =
    ap (λ parts. work cell parts + 1) (now cell before sound c.args.machine c.finish_first.new.self table)
    ∙ work_finished cell sound.fits before.parts.parts test first.0 first.1 undone
    ∙ sym sound.tallied.work in
    tallied cell before sound c.args.machine c.finish_first.new.self table (before.work - 1) (omega (arith, less))

pub returns-in_default-clause-tallied : goal.returns-in_default-clause-tallied
returns-in_default-clause-tallied c =
    let cell = c.args.table.now in
    let before = c.args.tally.now in
    let sound = c.requires.sound in
    let test = is_waiting_on cell c.args.machine.0 in
    let found = c.finish_first.ensures.job cell sound.tallied.same_cell in
    let table = c.finish_first.ensures.table cell sound.tallied.same_cell in
    let nobody : find test before.parts.parts ≡ None = no_job (find test before.parts.parts) (sym c.in_default.is ∙ found) in
    let same : before.parts.parts ≡ c.finish_first.new.self.parts =
    sym (now cell before sound c.args.machine c.finish_first.new.self table
    ∙ finish_first-none test before.parts.parts nobody) in
    tallied cell before sound c.args.machine c.finish_first.new.self table before.work
    (sound.tallied.work ∙ ap (work cell) same)

pub returns-in-Some-clause-waits : goal.returns-in-Some-clause-waits
returns-in-Some-clause-waits c =
    let test = is_waiting_on c.args.table.now c.args.machine.0 in
    let parts = c.args.tally.now.parts.parts in
    let first = some_job (find test parts) c.in-Some.field-0
    (c.in-Some.ensures.job c.args.table.now c.requires.sound.tallied.same_cell) in
    sym (any_found test parts first.0 first.1)

pub returns-in_default-clause-waits : goal.returns-in_default-clause-waits
returns-in_default-clause-waits c =
    let test = is_waiting_on c.args.table.now c.args.machine.0 in
    let parts = c.args.tally.now.parts.parts in
    let found = c.finish_first.ensures.job c.args.table.now c.requires.sound.tallied.same_cell in
    sym (none_found test parts (no_job (find test parts) (sym c.in_default.is ∙ found)))
