-- What `remove` takes out of a map, seen as data.
use Rattle.std.proofs.Common.{◌≡◌, ◌∙◌, ap, option_map}
use Rattle.toml.specs.Data.{get_member}
use Rattle.toml.specs.View.{view, table_view}
use Rattle.toml.proofs.Views.{view-lookup}
use Rattle.toml_walk.proofs.Narrow.{taken_narrow}
use Rattle.toml_walk.proofs.tables.removed.Goals as goal

pub returns-clause-value : goal.returns-clause-value
returns-clause-value c = ap (option_map view) c.remove.ensures.value ∙ view-lookup c.args.key.now c.args.table.entries

pub returns-clause-narrow : goal.returns-clause-narrow
returns-clause-narrow c =
    let ms = table_view c.args.table in
    let taken : option_map view c.remove.result ≡ get_member c.args.key.now ms =
    ap (option_map view) c.remove.ensures.value ∙ view-lookup c.args.key.now c.args.table.entries in
    taken_narrow c.remove.result c.args.key.now ms taken
