-- What a reader of the program's input shows.
use Rattle.std.specs.Prelude.{ℕ}
use Rattle.real_outside.specs.declared.in_source.InSource.{InSource}

-- how many calls have failed
abbrev pub read_faults : {R : Type 0} → InSource R → ℕ
read_faults source = source.faults
