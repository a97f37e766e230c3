-- One more place's successors, which fit it.
use Rattle.std.proofs.Common.{◌≡◌, ◌++◌, ◌∷◌, [], Ok, length, sym, ap, ◌∙◌, arith}
use Rattle.std.proofs.lemmas.List.{length-append}
use Rattle.toml.specs.View.{view}
use Rattle.cell_base.specs.Fits.{NextFits}
use Rattle.cell_base.specs.declared.places.Place.{Place}
use Rattle.toml_walk.proofs.Each.{each_more, given_ok}
use Rattle.cell_file.specs.declared.faults.CellFault.TheVariants.{Memory}
use Rattle.cell_file.specs.Successors.{next_place, successors_of}
use Rattle.cell_file.proofs.Rising.{fit_push}
use Rattle.cell_file.proofs.successors.each_successors.Goals as goal

pub loop-k-preserved : goal.loop-k-preserved
loop-k-preserved c =
    let places = c.args.places in
    let step = next_place c.args.i places in
    let found = c.loop-k.found in
    let next = c.in_ok-successors_of.field-0 in
    let v = c.index-items-k.result in
    let kept = c.loop-k.invariant in
    let pushed : c.try_push.new.self ≡ found ++ next ∷ [] = c.in_ok-try_push.ensures.ok in
    let read : successors_of c.in_job_type-at.result c.loop-k.k places (view v) ≡ Ok next =
    given_ok Memory next _ c.in_ok-successors_of.ensures.successors in
    let here : successors_of c.in_job_type-at.result c.loop-k.k places (view v) ≡ step found (view v) =
    rw kept.count (ap (λ (at : Place). successors_of at c.loop-k.k places (view v)) c.in_job_type-at.ensures) in
    let fits : NextFits places (length found) next = rw kept.count c.in_ok-successors_of.ensures.fit in
    record {
      so_far = rw pushed (each_more step found c.args.items.now c.loop-k.k v next _ c.loop-k-test.true c.index-items-k.is
          (sym here ∙ read) kept.so_far);
      count = rw pushed (omega (arith, length-append found (next ∷ []), kept.count));
      fit = rw pushed (fit_push places found next kept.fit fits);
    }
