-- The faults of files by number, each with its place and its count, as their lines show them. Want of memory has none.
use Rattle.std.specs.Prelude.{ℕ, Option, Some, None}
use Rattle.cell_base.specs.declared.places.Place.{Place}
use Rattle.cell_file.specs.declared.faults.CellFault.{CellFault}
use Rattle.cell_file.specs.declared.faults.CellFault.TheVariants as cell
use Rattle.shift_file.specs.declared.faults.ShiftFault.{ShiftFault}
use Rattle.shift_file.specs.declared.faults.ShiftFault.TheVariants as shift
use Rattle.cell_texts.specs.declared.fault_codes.FaultCode.{FaultCode}

-- | Number | cell file    | shift file  |
-- |      1 | NotToml      | NotToml     |
-- |      2 | WrongKey     | WrongKey    |
-- |      3 | WrongKind    | WrongKind   |
-- |      4 | BadName      | BadStep     |
-- |      5 | BadNumber    | BadNumber   |
-- |      6 | Repeated     | UnknownName |
-- |      7 | UnknownName  | Empty       |
-- |      8 | TooMany      | TooMany     |
-- |      9 | Empty        | TooLong     |
-- |     10 | MixedOrders  | TooManyAsks |
-- |     11 | TooManyUnits |             |

-- a fault without place and count
abbrev pub plain : ℕ → FaultCode
plain number = record { number = number; place = None; count = None }

-- a fault at a place
abbrev pub at : ℕ → Place → FaultCode
at number place = record { number = number; place = Some place; count = None }

-- a fault with a count, or with one offset
abbrev pub with_count : ℕ → ℕ → FaultCode
with_count number count = record { number = number; place = None; count = Some count }

-- a fault at a place, with a count
abbrev pub with_count_at : ℕ → Place → ℕ → FaultCode
with_count_at number place count = record { number = number; place = Some place; count = Some count }

-- the fault of a cell file
abbrev pub cell_fault_code : CellFault → Option FaultCode
cell_fault_code cell.NotToml = Some (plain 1)
cell_fault_code (cell.WrongKey place) = Some (at 2 place)
cell_fault_code (cell.WrongKind place) = Some (at 3 place)
cell_fault_code (cell.BadName place) = Some (at 4 place)
cell_fault_code (cell.BadNumber place) = Some (at 5 place)
cell_fault_code (cell.Repeated place) = Some (at 6 place)
cell_fault_code (cell.UnknownName place) = Some (at 7 place)
cell_fault_code (cell.TooMany place count) = Some (with_count_at 8 place count)
cell_fault_code (cell.Empty place) = Some (at 9 place)
cell_fault_code cell.MixedOrders = Some (plain 10)
cell_fault_code (cell.TooManyUnits count) = Some (with_count 11 count)
cell_fault_code cell.Memory = None

-- the fault of a shift file
abbrev pub shift_fault_code : ShiftFault → Option FaultCode
shift_fault_code shift.NotToml = Some (plain 1)
shift_fault_code (shift.WrongKey place) = Some (at 2 place)
shift_fault_code (shift.WrongKind place) = Some (at 3 place)
shift_fault_code (shift.BadStep place) = Some (at 4 place)
shift_fault_code (shift.BadNumber place) = Some (at 5 place)
shift_fault_code (shift.UnknownName place) = Some (at 6 place)
shift_fault_code (shift.Empty place) = Some (at 7 place)
shift_fault_code (shift.TooMany place count) = Some (with_count_at 8 place count)
shift_fault_code (shift.TooLong count) = Some (with_count 9 count)
shift_fault_code (shift.TooManyAsks count) = Some (with_count 10 count)
shift_fault_code shift.Memory = None
