-- An array is as wide at least as it is long.
use Rattle.std.proofs.Common.{◌≡◌, ◌∙◌, Some, ap, sym}
use Rattle.toml.specs.Data.{as_array}
use Rattle.toml.specs.View.{view, items_view}
use Rattle.toml.proofs.Views.{view-Array}
use Rattle.toml_walk.proofs.Narrow.{array_short}
use Rattle.toml_walk.proofs.values.taken_array.Goals as goal

pub returns-in-Array-clause-short : goal.returns-in-Array-clause-short
returns-in-Array-clause-short c =
    let is : Some (items_view c.in-Array.array.items) ≡ as_array (view c.args.value) =
    sym (ap as_array (ap view c.in-Array.is ∙ view-Array c.in-Array.array)) in
    array_short (view c.args.value) c.in-Array.array.items is
