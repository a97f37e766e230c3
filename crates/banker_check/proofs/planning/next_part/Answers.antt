-- One part more, and the first of all.
use Rattle.std.proofs.Common.{◌+◌, false, take, get_or, subst, sym}
use Rattle.std.proofs.lemmas.List.{take_all, take_more}
use Rattle.std.proofs.lemmas.List.Elements.{All-contains, All-take}
use Rattle.cell_base.specs.declared.requests.Part.{Part}
use Rattle.cell_base.specs.Stages.{IsStage, stage_of}
use Rattle.banker_check.specs.HybridPlans.{earlier}
use Rattle.banker_check.proofs.Finding.{if_found}
use Rattle.banker_check.proofs.NextPart.{AreFirst, IsFirst, first-more, first-next, first-stands}
use Rattle.banker_check.proofs.planning.next_part.Goals as goal

pub earlier-requires-clause-first : goal.earlier-requires-clause-first
earlier-requires-clause-first c =
    let cell = c.args.table.now in
    let so_far = take c.loop-part.part-index c.args.parts.now in
    if_found (λ part. IsStage cell (stage_of part)) c.loop-part.first (λ best e.
    All-contains (λ part. IsStage cell (stage_of part)) so_far best
    (All-take (λ part. IsStage cell (stage_of part)) c.loop-part.part-index c.args.parts.now c.requires)
    (first-stands cell so_far best (subst (AreFirst cell so_far) e c.loop-part.invariant)))

pub loop-part-preserved : goal.loop-part-preserved
loop-part-preserved c =
    let cell = c.args.table.now in
    let parts = c.args.parts.now in
    let i = c.loop-part.part-index in
    let part : Part = get_or parts i (record { job = record { 0 = 0 }; kind = record { 0 = 0 }; place = 0; done = false }) in
    subst (IsFirst cell (take (i + 1) parts)) (sym c.earlier.ensures)
    (subst (λ parts. IsFirst cell parts (earlier cell c.loop-part.first part)) (sym (take_more parts i _ c.loop-part-test.true))
    (first-more cell (take i parts) c.loop-part.first part c.loop-part.invariant))

pub returns : goal.returns
returns c =
    let parts = c.args.parts.now in
    first-next c.args.table.now parts c.loop-part.first
    (subst (λ parts. AreFirst c.args.table.now parts c.loop-part.first) (take_all c.loop-part.part-index parts c.loop-part-test.false)
    c.loop-part.invariant)
