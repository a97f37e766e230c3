-- What is known of the parts of a state that are carried: why one of them can't be, and where they stand in the other cell.
use Rattle.std.specs.Prelude.{◌≡◌, true, not, ◌||◌, Some, List, [], ◌∷◌, ⊤}
use Rattle.cell_base.specs.declared.cells.Cell.{Cell}
use Rattle.cell_base.specs.declared.requests.Part.{Part}
use Rattle.cell_base.specs.declared.requests.Refusal.{Refusal}
use Rattle.cell_base.specs.declared.requests.Refusal.TheVariants.{Saturated}
use Rattle.cell_base.specs.Stages.{stage_of, works_at}
use Rattle.carry_commands.specs.Carried.{is_alike, type_alike}
use Rattle.carry_commands.specs.declared.refusals.Uncarried.{Uncarried}
use Rattle.carry_commands.specs.declared.refusals.Uncarried.TheVariants.{NoType, NoPlace, NotAdmitted}

-- the refusal is that of a full neighborhood
abbrev pub IsSaturation : Refusal → Type 0
IsSaturation (Saturated at count capacity) = ⊤
IsSaturation why = ⊥

-- what may hold a part of a state back: its type is wanting, or its place there, or room
abbrev pub IsHindrance : Uncarried → Type 0
IsHindrance NoType = ⊤
IsHindrance NoPlace = ⊤
IsHindrance (NotAdmitted why) = IsSaturation why

-- the same part in the other cell: of the type of the same name, at the same place, on a resource of the same name; and it is done where it
-- was, or where the stage there does not work
pub record IsSamePart (old new : Cell) (from to : Part) : Type 0 where
  pub job : to.job ≡ from.job
  pub kind : type_alike old new from.kind ≡ Some to.kind.0
  pub place : to.place ≡ from.place
  pub alike : is_alike old new (stage_of from) (stage_of to) ≡ true
  pub done : to.done ≡ (from.done || not (works_at new (stage_of to)))

-- the same parts, in the same order
abbrev pub AreSameParts : Cell → Cell → List Part → List Part → Type 0
AreSameParts old new [] [] = ⊤
AreSameParts old new [] (to ∷ rest) = ⊥
AreSameParts old new (from ∷ parts) [] = ⊥
AreSameParts old new (from ∷ parts) (to ∷ rest) = IsSamePart old new from to × AreSameParts old new parts rest
