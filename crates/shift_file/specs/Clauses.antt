-- What the clauses of the readers name of the cell, of documents and of sessions.
pub use Rattle.cell_base.specs.Fits.{CellFits, RequestFits, ShiftFits}
pub use Rattle.cell_base.specs.Named.{type_names}
pub use Rattle.toml.specs.View.{view, items_view, table_view}
pub use Rattle.toml_walk.specs.Documents.{each}
pub use Rattle.toml_walk.specs.Outcomes.{GivesSeenOr}
pub use Rattle.toml_walk.specs.Widths.{width, items_width, members_width}
pub use Rattle.shift_file.specs.Faults.{Gives}
pub use Rattle.shift_file.specs.Sessions.{SessionFits}
