-- What was found so far, and the elements that are left, decide.
use Rattle.std.proofs.Common.{◌≡◌, ◌||◌, not, drop}
use Rattle.toml.specs.Data.{Data}
use Rattle.toml.specs.View.{items_view}
use Rattle.toml_walk.specs.Documents.{any_item}
use Rattle.cell_file.specs.Resources.{has_order}
use Rattle.cell_file.proofs.resources.orders_are_mixed.Given as goal

abbrev pub invariant-loop-value : goal.invariant-loop-value
invariant-loop-value l =
    let left = items_view (drop l.value-index l.items) in
    let all = items_view l.items in
    record {
      ordered : (l.ordered || any_item has_order left) ≡ any_item has_order all;
      unordered : (l.unordered || any_item (λ (d : Data). not (has_order d)) left) ≡ any_item (λ (d : Data). not (has_order d)) all;
    }
