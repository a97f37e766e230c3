-- The first part on the lowest resource that is occupied is the next one.
use Rattle.std.specs.Prelude.{is_some}
use Rattle.std.proofs.Common.{◌≡◌, ◌==◌, ◌<◌, length, find, Some, ap, sym, subst, ◌∙◌, arith, w64}
use Rattle.std.specs.Int.{trailing_zeros}
use Rattle.std.specs.Option.{option_map}
use Rattle.std.proofs.lemmas.Option.{get_or_from_slice_get}
use Rattle.cell_base.specs.declared.cells.ResId.{ResId}
use Rattle.cell_base.specs.Plans.{resource_of_part}
use Rattle.part_table.specs.declared.found.Found.{Found}
use Rattle.cell_base.proofs.Bits.{without_lowest}
use Rattle.admission_core.specs.Occupied.{IsOfRanks}
use Rattle.admission_core.proofs.Moving.{none_left}
use Rattle.admission_core.proofs.Lowest.{left_all, lowest_within, free_below, left_less, left_none}
use Rattle.admission_core.proofs.Ranking.{picked, unoccupied}
use Rattle.admission_core.proofs.planning.next_part.Goals as goal

pub loop-left-init : goal.loop-left-init
loop-left-init c =
    left_all c.args.table.now c.args.tally.now.parts.parts c.args.occupied.now c.mask-left.result c.mask-left.ensures.value
    c.requires.marked

pub at-requires : goal.at-requires
at-requires c =
    lowest_within c.args.table.now c.args.tally.now.parts.parts c.args.occupied.now c.loop-left.left c.loop-left.invariant (omega arith)
    (omega arith) (subst (IsOfRanks c.args.occupied.now.ranks) c.mask-left.ensures.value c.mask-left.ensures.of_ranks)

pub find_on-requires-clause-told : goal.find_on-requires-clause-told
find_on-requires-clause-told c = ap is_some c.requires.sound.tallied.same_cell

pub loop-left-smaller : goal.loop-left-smaller
loop-left-smaller c = (without_lowest c.loop-left.left (omega arith) (omega arith)).less

pub loop-left-preserved : goal.loop-left-preserved
loop-left-preserved c =
    let cell = c.args.table.now in
    let parts = c.args.tally.now.parts.parts in
    let marked = c.args.occupied.now in
    left_less cell parts marked c.loop-left.left c.loop-left.invariant (omega arith) (omega arith)
    (λ d within.
    ap (λ (q : ResId). find (λ part. resource_of_part c.args.table.now part == q.0) c.args.tally.now.parts.parts)
    (get_or_from_slice_get marked.ranks (trailing_zeros w64 c.loop-left.left) c.at.result d c.at.ensures)
    ∙ sym (c.find_on.ensures cell c.requires.sound.tallied.same_cell)
    ∙ ap (option_map (λ (found : Found). found.part)) (none_left c.find_on.result c.in_default.not-Some))

pub returns-in-Some : goal.returns-in-Some
returns-in-Some c =
    let cell = c.args.table.now in
    let parts = c.args.tally.now.parts.parts in
    let marked = c.args.occupied.now in
    let rank = trailing_zeros w64 c.loop-left.left in
    let within : trailing_zeros w64 c.loop-left.left < length c.args.occupied.now.ranks =
    lowest_within cell parts marked c.loop-left.left c.loop-left.invariant (omega arith) (omega arith)
    (subst (IsOfRanks c.args.occupied.now.ranks) c.mask-left.ensures.value c.mask-left.ensures.of_ranks) in
    let first : find (λ part. resource_of_part c.args.table.now part == c.at.result.0) c.args.tally.now.parts.parts
    ≡ Some c.in-Some.found.part =
    sym (c.find_on.ensures cell c.requires.sound.tallied.same_cell)
    ∙ ap (option_map (λ (found : Found). found.part)) c.in-Some.is in
    sym
    (picked cell c.requires.sound.fits marked.ranks c.requires.marked.ranking parts c.requires.sound.admitted.state.standing rank
    c.at.result within (get_or_from_slice_get marked.ranks rank c.at.result c.at.result c.at.ensures)
    (free_below cell parts marked c.loop-left.left c.loop-left.invariant (omega arith) (omega arith))
    c.in-Some.found.part first)

pub returns : goal.returns
returns c =
    let cell = c.args.table.now in
    let parts = c.args.tally.now.parts.parts in
    let marked = c.args.occupied.now in
    sym (unoccupied cell c.requires.sound.fits marked.ranks c.requires.marked.ranking parts c.requires.sound.admitted.state.standing
    (λ k d early within. left_none cell parts marked c.loop-left.left (omega arith) c.loop-left.invariant k d within))
