-- What files in memory show that have every name.
use Rattle.std.specs.Prelude.{List, [], Some, unwrap_or}
use Rattle.outside_io.specs.Files.{Names}
use Rattle.outside_io.specs.Held.{HeldFile, held_bytes}

-- what each name holds, nothing where it was not added
abbrev pub sure_names : List HeldFile → Names
sure_names files name = Some (unwrap_or (held_bytes files name) [])
