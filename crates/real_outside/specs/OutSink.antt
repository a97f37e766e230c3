-- What a writer that takes the program's lines shows.
use Rattle.std.specs.Prelude.{ℕ}
use Rattle.real_outside.specs.declared.out_sink.OutSink.{OutSink}

-- how many calls have failed
abbrev pub write_faults : {W : Type 0} → OutSink W → ℕ
write_faults sink = sink.faults
