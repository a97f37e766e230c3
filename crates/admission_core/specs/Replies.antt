-- The reply where the first full neighborhood, if there is one, is known.
use Rattle.std.specs.Prelude.{ℕ, Option, None, Some, List}
use Rattle.cell_base.specs.declared.cells.Cell.{Cell}
use Rattle.cell_base.specs.declared.requests.Part.{Part}
use Rattle.cell_base.specs.declared.requests.Refusal.TheVariants.{Saturated}
use Rattle.cell_base.specs.declared.requests.Reply.{Reply}
use Rattle.cell_base.specs.declared.requests.Reply.TheVariants.{Granted, Refused}
use Rattle.cell_base.specs.Stages.{capacity_of}
use Rattle.cell_base.specs.Neighborhoods.{count}

-- a saturation tells its count and its capacity
abbrev pub reply_at : Cell → List Part → Option ℕ → Reply
reply_at cell parts None = Granted
reply_at cell parts (Some r) = Refused (Saturated (record { 0 = r }) (count cell parts r) (capacity_of cell r))
