-- The numbers of a record.
use Rattle.std.specs.Prelude.{ℕ, List}
use Rattle.std.specs.Int.{to_be_bytes, w32}
use Rattle.entry_codec.specs.Records.{fields}
use Rattle.entry_codec.specs.declared.encoder.Numbers.{Numbers}

-- the record of these numbers, with a session and a shift
abbrev pub record_with : Numbers → ℕ → ℕ → List ℕ
record_with numbers session shift = fields numbers.kind numbers.flag session shift numbers.job (to_be_bytes w32 numbers.argument)
