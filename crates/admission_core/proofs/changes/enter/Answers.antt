-- A part that is granted to enter has room, and every number goes along with it.
use Rattle.std.proofs.Common.{◌≡◌, List, [], ◌∷◌, ◌++◌, length, ap, subst, sym, ◌∙◌, arith}
use Rattle.std.proofs.lemmas.List.{length_push}
use Rattle.cell_base.specs.declared.requests.Part.{Part}
use Rattle.cell_base.specs.Stages.{stage_of}
use Rattle.cell_base.specs.Plans.{work}
use Rattle.neighborhood_counts.specs.Counts.{IsMaskOf, first_full}
use Rattle.admission_core.specs.CoreState.{AreCounts}
use Rattle.policy_laws.proofs.Granting.{entry-granted, without-absent}
use Rattle.policy_laws.proofs.Room.{room_for, few_parts}
use Rattle.admission_core.proofs.Rowing.{work_by_row}
use Rattle.admission_core.proofs.Saturating.{mask_is_of, entry_over}
use Rattle.admission_core.proofs.Tallying.{counts_entered, work_entered, work_of-le, work-le}
use Rattle.admission_core.proofs.changes.enter.Goals as goal

pub enter-requires-clause-mask : goal.enter-requires-clause-mask
enter-requires-clause-mask c =
    let sound = c.requires.sound in
    subst (IsMaskOf c.args.tally.now.counts) (sym c.requires.there.mask)
    (mask_is_of c.args.table.now sound.fits c.args.tally.now.counts c.args.tally.now.parts.parts sound.tallied.counts
    (stage_of c.args.part))

pub enter-requires-clause-room : goal.enter-requires-clause-room
enter-requires-clause-room c =
    let cell = c.args.table.now in
    let parts = c.args.tally.now.parts.parts in
    let sound = c.requires.sound in
    ap (first_full c.args.tally.now.counts) c.requires.there.mask
    ∙ entry_over cell sound.fits c.args.tally.now.counts parts sound.tallied.counts c.args.part sound.admitted.within
    ∙ (entry-granted cell parts c.args.part c.requires.granted).next

pub arrive-requires-clause-room : goal.arrive-requires-clause-room
arrive-requires-clause-room c =
    let cell = c.args.table.now in
    let parts = c.args.tally.now.parts.parts in
    let sound = c.requires.sound in
    let enters = entry-granted cell parts c.args.part c.requires.granted in
    omega (
      arith,
      sound.tallied.enough,
      ap length (without-absent parts c.args.part.job enters.absent),
      room_for cell sound.fits parts c.args.part sound.admitted c.requires.stage enters.within,
    )

pub overflow_add-tally : goal.overflow_add-tally
overflow_add-tally c =
    let cell = c.args.table.now in
    let parts = c.args.tally.now.parts.parts in
    let sound = c.requires.sound in
    omega (
      arith,
      sound.tallied.work,
      work-le cell sound.fits parts sound.admitted.state.standing (few_parts cell sound.fits parts sound.admitted),
      (work_by_row cell c.args.part c.args.there c.requires.there c.work.result c.work.ensures),
      work_of-le cell sound.fits parts c.args.part c.requires.stage,
    )

pub returns-clause-tallied : goal.returns-clause-tallied
returns-clause-tallied c =
    let cell = c.args.table.now in
    let parts = c.args.tally.now.parts.parts in
    let tallied = c.requires.sound.tallied in
    let now : c.arrive.new.self.parts ≡ parts ++ c.args.part ∷ [] = c.arrive.ensures.parts in
    record {
      same_cell = c.arrive.ensures.told ∙ tallied.same_cell;
      enough = omega (
        arith,
        tallied.enough,
        c.arrive.ensures.spare,
        ap length now,
        length_push parts c.args.part,
      );
      counts = subst (λ (parts : List Part). AreCounts cell parts c.enter.new.self) (sym now)
          (counts_entered cell c.requires.sound.fits parts c.args.tally.now.counts c.enter.new.self tallied.counts c.enter.ensures.length
          c.enter.ensures.capacities c.args.part c.args.there.mask c.requires.there.mask c.enter.ensures.counts);
      work = omega (
        arith,
        tallied.work,
        (work_by_row cell c.args.part c.args.there c.requires.there c.work.result c.work.ensures),
        work_entered cell c.requires.sound.fits parts c.args.part,
        ap (λ (parts : List Part). work cell parts) now,
      );
    }
