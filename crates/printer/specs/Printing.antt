-- What a printer does with lines: all were taken, or the sink failed at one of them, or it had failed before and was given none.
use Rattle.std.specs.Prelude.{◌≡◌, ◌≤◌, true, false, ℕ, List}
use Rattle.outside_io.specs.Causes.{Rose}
use Rattle.outside_io.specs.Meanings.{SinkMeaning, sink_seen}
use Rattle.outside_io.specs.Puts.{TookAll, TookSome}
use Rattle.cell_walks.specs.declared.status.Status.{Status}
use Rattle.cell_walks.specs.declared.status.Status.TheVariants.{SinkFault}
use Rattle.printer.specs.declared.printer.Printer.{Printer}

-- each line was taken whole, by one put; or the sink failed at one of them, after the earlier ones, and nothing was put since; or it had
-- failed before, and was given nothing
pub data Printed {K : Type 0} (sink : SinkMeaning K) (old new : Printer K) (lines : List (List ℕ)) : Type 0 where
  Whole : old.failed ≡ false → new.failed ≡ false → TookAll (sink_seen sink old.out.now new.out.now) lines
      → sink.faults new.out.now ≡ sink.faults old.out.now → Printed sink old new lines
  Cut : old.failed ≡ false → new.failed ≡ true → TookSome (sink_seen sink old.out.now new.out.now) lines
      → sink.faults old.out.now ≤ sink.faults new.out.now → Rose (sink.faults old.out.now) (sink.faults new.out.now)
      → Printed sink old new lines
  Silent : old.failed ≡ true → new.failed ≡ true → new.out.now ≡ old.out.now → Printed sink old new lines

-- the printer still has its sink, and these lines were printed
pub record Prints {K : Type 0} (sink : SinkMeaning K) (old new : Printer K) (lines : List (List ℕ)) : Type 0 where
  pub same_sink : new.out.ghost_name ≡ old.out.ghost_name
  pub printed : Printed sink old new lines

-- the status of a printed answer: its own, or the sink's fault
abbrev pub status_of : {K : Type 0} → Printer K → Status → Status
status_of printer status = elim printer.failed [ true ↦ SinkFault | false ↦ status ]
