-- A part that leaves takes its numbers with it.
use Rattle.std.proofs.Common.{◌≡◌, List, length, ap, subst, sym, ◌∙◌, arith}
use Rattle.cell_base.specs.declared.requests.Part.{Part}
use Rattle.cell_base.specs.Stages.{stage_of}
use Rattle.cell_base.specs.Outcomes.{without}
use Rattle.cell_base.specs.Plans.{work}
use Rattle.neighborhood_counts.specs.Counts.{IsMaskOf, AreHeld}
use Rattle.part_table.proofs.Standings.{length-without}
use Rattle.admission_core.specs.CoreState.{AreCounts}
use Rattle.admission_core.proofs.Moving.{part_known}
use Rattle.admission_core.proofs.Rowing.{work_by_row}
use Rattle.admission_core.proofs.Saturating.{mask_is_of, mask_held}
use Rattle.admission_core.proofs.Tallying.{counts_left, work_without}
use Rattle.admission_core.proofs.changes.take_out.Goals as goal

pub leave-requires-clause-mask : goal.leave-requires-clause-mask
leave-requires-clause-mask c =
    let sound = c.requires.sound in
    subst (IsMaskOf c.args.tally.now.counts) (sym c.requires.here.mask)
    (mask_is_of c.args.table.now sound.fits c.args.tally.now.counts c.args.tally.now.parts.parts sound.tallied.counts
    (stage_of c.args.found.part))

pub leave-requires-clause-held : goal.leave-requires-clause-held
leave-requires-clause-held c =
    let sound = c.requires.sound in
    let parts = c.args.tally.now.parts.parts in
    let stands = (part_known c.args.table.now parts c.args.found.part.job c.args.found.part sound.admitted c.requires.found).stands in
    subst (AreHeld c.args.tally.now.counts) (sym c.requires.here.mask)
    (mask_held c.args.table.now sound.fits c.args.tally.now.counts parts sound.tallied.counts c.args.found.part c.args.found.part
    sound.admitted.state.distinct stands)

pub depart_found-requires : goal.depart_found-requires
depart_found-requires c = c.requires.found

pub overflow_sub-tally : goal.overflow_sub-tally
overflow_sub-tally c =
    let cell = c.args.table.now in
    let parts = c.args.tally.now.parts.parts in
    let sound = c.requires.sound in
    let stands = (part_known cell parts c.args.found.part.job c.args.found.part sound.admitted c.requires.found).stands in
    omega (
      arith,
      sound.tallied.work,
      (work_by_row cell c.args.found.part c.args.here c.requires.here c.work.result c.work.ensures),
      work_without cell sound.fits parts c.args.found.part sound.admitted.state.distinct stands,
    )

pub returns-clause-parts : goal.returns-clause-parts
returns-clause-parts c =
    c.depart_found.ensures.parts

pub returns-clause-tallied : goal.returns-clause-tallied
returns-clause-tallied c =
    let cell = c.args.table.now in
    let parts = c.args.tally.now.parts.parts in
    let sound = c.requires.sound in
    let tallied = sound.tallied in
    let part = c.args.found.part in
    let distinct = sound.admitted.state.distinct in
    let here = part_known cell parts part.job part sound.admitted c.requires.found in
    let now : c.depart_found.new.self.parts ≡ without parts part.job = c.depart_found.ensures.parts in
    record {
      same_cell = c.depart_found.ensures.told ∙ tallied.same_cell;
      enough = omega (
        arith,
        tallied.enough,
        c.depart_found.ensures.spare,
        ap length now,
        length-without parts part.job distinct here.loaded,
      );
      counts = subst (λ (parts : List Part). AreCounts cell parts c.leave.new.self) (sym now)
          (counts_left cell sound.fits parts c.args.tally.now.counts c.leave.new.self tallied.counts c.leave.ensures.length
          c.leave.ensures.capacities part distinct here.stands c.args.here.mask c.requires.here.mask c.leave.ensures.counts);
      work = omega (
        arith,
        tallied.work,
        (work_by_row cell c.args.found.part c.args.here c.requires.here c.work.result c.work.ensures),
        work_without cell sound.fits parts part distinct here.stands,
        ap (λ (parts : List Part). work cell parts) now,
      );
    }
