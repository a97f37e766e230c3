-- A part that goes on is counted at its next stage in the place of its present one.
use Rattle.std.proofs.Common.{◌≡◌, List, [], ◌∷◌, ◌++◌, length, ap, ap₂, subst, sym, ◌∙◌, arith}
use Rattle.std.proofs.lemmas.List.{length_push}
use Rattle.cell_base.specs.declared.requests.Part.{Part}
use Rattle.cell_base.specs.Masks.{bits_only_of}
use Rattle.cell_base.specs.Stages.{stage_of}
use Rattle.cell_base.specs.Neighborhoods.{mask_of}
use Rattle.cell_base.specs.Outcomes.{without}
use Rattle.cell_base.specs.Plans.{work}
use Rattle.neighborhood_counts.specs.Counts.{IsMaskOf, AreHeld, first_full}
use Rattle.part_table.specs.Parts.{gone_on}
use Rattle.part_table.proofs.Standings.{length-without}
use Rattle.admission_core.specs.CoreState.{AreCounts}
use Rattle.admission_core.proofs.Moving.{part_known}
use Rattle.admission_core.proofs.Rowing.{work_by_row}
use Rattle.policy_laws.proofs.Room.{few_parts}
use Rattle.admission_core.proofs.Saturating.{mask_is_of, only_held, move_over}
use Rattle.admission_core.proofs.Tallying.{counts_moved, work_entered, work_without, work_of-le, work-le}
use Rattle.admission_core.proofs.changes.update_tables.Goals as goal

pub shift-requires-clause-from_mask : goal.shift-requires-clause-from_mask
shift-requires-clause-from_mask c =
    let sound = c.requires.sound in
    subst (IsMaskOf c.args.tally.now.counts) (sym c.requires.here.mask)
    (mask_is_of c.args.table.now sound.fits c.args.tally.now.counts c.args.tally.now.parts.parts sound.tallied.counts
    (stage_of c.args.found.part))

pub shift-requires-clause-to_mask : goal.shift-requires-clause-to_mask
shift-requires-clause-to_mask c =
    let sound = c.requires.sound in
    subst (IsMaskOf c.args.tally.now.counts) (sym c.requires.there.mask)
    (mask_is_of c.args.table.now sound.fits c.args.tally.now.counts c.args.tally.now.parts.parts sound.tallied.counts
    (stage_of c.args.next))

pub shift-requires-clause-room : goal.shift-requires-clause-room
shift-requires-clause-room c =
    let cell = c.args.table.now in
    let parts = c.args.tally.now.parts.parts in
    let sound = c.requires.sound in
    let part = c.args.found.part in
    let here = part_known cell parts part.job part sound.admitted c.requires.found in
    ap₂ (λ to from. first_full c.args.tally.now.counts (bits_only_of to from)) c.requires.there.mask c.requires.here.mask
    ∙ move_over cell sound.fits c.args.tally.now.counts parts sound.tallied.counts part c.args.next sound.admitted.state.distinct
    here.stands sound.admitted.within
    ∙ c.requires.room

pub shift-requires-clause-held : goal.shift-requires-clause-held
shift-requires-clause-held c =
    let cell = c.args.table.now in
    let parts = c.args.tally.now.parts.parts in
    let sound = c.requires.sound in
    let part = c.args.found.part in
    let here = part_known cell parts part.job part sound.admitted c.requires.found in
    subst (λ from. AreHeld c.args.tally.now.counts (bits_only_of from c.args.there.mask)) (sym c.requires.here.mask)
    (subst (λ to. AreHeld c.args.tally.now.counts (bits_only_of (mask_of cell (stage_of part)) to)) (sym c.requires.there.mask)
    (only_held cell sound.fits c.args.tally.now.counts parts sound.tallied.counts part c.args.next sound.admitted.state.distinct
    here.stands))

pub advance_found-requires : goal.advance_found-requires
advance_found-requires c = c.requires.found

pub overflow_sub-tally : goal.overflow_sub-tally
overflow_sub-tally c =
    let cell = c.args.table.now in
    let parts = c.args.tally.now.parts.parts in
    let sound = c.requires.sound in
    let here = part_known cell parts c.args.found.part.job c.args.found.part sound.admitted c.requires.found in
    omega (
      arith,
      sound.tallied.work,
      (work_by_row cell c.args.found.part c.args.here c.requires.here c.work.result c.work.ensures),
      work_without cell sound.fits parts c.args.found.part sound.admitted.state.distinct here.stands,
    )

pub overflow_add-tally : goal.overflow_add-tally
overflow_add-tally c =
    let cell = c.args.table.now in
    let parts = c.args.tally.now.parts.parts in
    let sound = c.requires.sound in
    omega (
      arith,
      sound.tallied.work,
      work-le cell sound.fits parts sound.admitted.state.standing (few_parts cell sound.fits parts sound.admitted),
      (work_by_row cell c.args.next c.args.there c.requires.there c.work-2.result c.work-2.ensures),
      work_of-le cell sound.fits parts c.args.next c.requires.stage,
    )

-- the parts after the move
now : (c : goal.After-tally-1)
    → c.advance_found.new.self.parts ≡ without c.args.tally.now.parts.parts c.args.found.part.job ++ c.args.next ∷ []
now c =
    let parts = c.args.tally.now.parts.parts in
    let part = c.args.found.part in
    let gone : gone_on parts part.job c.args.next.place c.args.next.done
    ≡ without parts part.job ++ (record part { place = c.args.next.place; done = c.args.next.done }) ∷ [] = rw c.requires.found in
    c.advance_found.ensures.parts ∙ gone ∙ ap (λ (next : Part). without parts part.job ++ next ∷ []) (sym c.requires.same)

pub returns-clause-parts : goal.returns-clause-parts
returns-clause-parts c = now c

pub returns-clause-tallied : goal.returns-clause-tallied
returns-clause-tallied c =
    let cell = c.args.table.now in
    let parts = c.args.tally.now.parts.parts in
    let sound = c.requires.sound in
    let tallied = sound.tallied in
    let part = c.args.found.part in
    let distinct = sound.admitted.state.distinct in
    let here = part_known cell parts part.job part sound.admitted c.requires.found in
    record {
      same_cell = c.advance_found.ensures.told ∙ tallied.same_cell;
      enough = omega (
        arith,
        tallied.enough,
        c.advance_found.ensures.spare,
        ap length (now c),
        length_push (without parts part.job) c.args.next,
        length-without parts part.job distinct here.loaded,
      );
      counts = subst (λ (parts : List Part). AreCounts cell parts c.shift.new.self) (sym (now c))
          (counts_moved cell sound.fits parts c.args.tally.now.counts c.shift.new.self tallied.counts c.shift.ensures.length
          c.shift.ensures.capacities part distinct here.stands c.args.next c.args.here.mask c.args.there.mask
          c.requires.here.mask c.requires.there.mask c.shift.ensures.counts);
      work = omega (
        arith,
        tallied.work,
        (work_by_row cell c.args.found.part c.args.here c.requires.here c.work.result c.work.ensures),
        (work_by_row cell c.args.next c.args.there c.requires.there c.work-2.result c.work-2.ensures),
        work_without cell sound.fits parts part distinct here.stands,
        work_entered cell sound.fits (without parts part.job) c.args.next,
        ap (λ (parts : List Part). work cell parts) (now c),
      );
    }
