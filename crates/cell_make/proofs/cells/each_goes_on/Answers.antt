-- One place more, and the one after it.
use Rattle.std.proofs.Common.{◌++◌, ◌∷◌, [], List, ℕ, ap₂, sym, ◌∙◌, arith}
use Rattle.std.proofs.lemmas.List.FromFn.{map-range_with_len_more}
use Rattle.cell_base.specs.Successors.{place_after}
use Rattle.cell_make.proofs.cells.each_goes_on.Goals as goal

pub loop-place-preserved : goal.loop-place-preserved
loop-place-preserved c =
    let place = c.loop-place.place in
    c.in_ok-try_push.ensures.ok
    ∙ ap₂ (λ (list : List (List ℕ)) (one : List ℕ). list ++ one ∷ []) c.loop-place.invariant c.in_ok-place_after.ensures
    ∙ sym (map-range_with_len_more (place_after c.args.places) 0 place place (omega arith))
