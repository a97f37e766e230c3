-- The meanings of each trait as one record, which a clause has as `F.Files`, `R.Source`, `K.Sink` or `D.Disk`.
use Rattle.outside_io.specs.Puts.{SinkTold, sink_told}
use Rattle.outside_io.specs.Source.{SourceTold, source_told}
use Rattle.outside_io.specs.declared.disk.Disk.{Ghosts as DiskGhosts}
use Rattle.outside_io.specs.declared.files.Files.{Ghosts as FilesGhosts}
use Rattle.outside_io.specs.declared.sink.Sink.{Ghosts as SinkGhosts}
use Rattle.outside_io.specs.declared.source.Source.{Ghosts as SourceGhosts}

-- those of files
abbrev pub FilesMeaning : Type 0 → Type 1
FilesMeaning F = FilesGhosts F

-- those of a source
abbrev pub SourceMeaning : Type 0 → Type 1
SourceMeaning R = SourceGhosts R

-- those of a sink
abbrev pub SinkMeaning : Type 0 → Type 1
SinkMeaning K = SinkGhosts K

-- those of a disk
abbrev pub DiskMeaning : Type 0 → Type 1
DiskMeaning D = DiskGhosts D

-- what a source tells of a run of calls
abbrev pub source_seen : {R : Type 0} → SourceMeaning R → R → R → SourceTold
source_seen source old new = source_told source.given source.has_ended source.faults old new

-- what a sink tells of a run of puts
abbrev pub sink_seen : {K : Type 0} → SinkMeaning K → K → K → SinkTold
sink_seen sink old new = sink_told sink.taken sink.was_put sink.faults old new
