-- What the clauses of the commands name.
pub use Rattle.outside_io.specs.Causes.{HasCause}
pub use Rattle.outside_io.specs.Meanings.{sink_seen}
pub use Rattle.outside_io.specs.Puts.{TookAll, TookSome, sink_told}
pub use Rattle.cell_walks.specs.Allowed.{IsAllowed, IsEndedAt, IsNotOpened, IsUnread, StandsForAdded}
pub use Rattle.cell_walks.specs.DiskTold.{IsOnlyRead, disk_seen, disk_told, no_disk}
pub use Rattle.cell_walks.specs.Observed.{File, ShowsFile, files_seen, files_told, observed, observed_with}
pub use Rattle.cell_walks.specs.Outcomes.{IsDelivered, early, or_early, printed}
pub use Rattle.cell_walks.specs.Promises.{Ends, Promises}
pub use Rattle.cell_walks.specs.Statuses.{IsTaken, status_number}
pub use Rattle.cell_walks.specs.Walks.{end_with}
