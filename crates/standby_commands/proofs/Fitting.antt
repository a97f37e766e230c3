-- The reason for which a frame is refused names what the cell has.
use Rattle.std.proofs.Common.{ℕ, List}
use Rattle.cell_base.specs.declared.cells.Cell.{Cell}
use Rattle.cell_base.specs.declared.shifts.Grant.{Grant}
use Rattle.cell_base.specs.Fits.{CellFits}
use Rattle.cell_base.specs.Histories.{replay}
use Rattle.cell_base.specs.Policy.{IsAdmitted}
use Rattle.record_printer.proofs.Fitting.{refusal_fits}
use Rattle.standby_link.specs.declared.take_fault.TakeFault.{TakeFault}
use Rattle.standby_link.specs.declared.take_fault.TakeFault.TheVariants.{Halted, NotAFrame, Conflict, NoFit, NotGranted, Full, Device}
use Rattle.standby_link.specs.Followers.{IsFrameRefused}
use Rattle.standby_commands.specs.Lines.{FaultFits}

module _ (cell : Cell) (fits : CellFits cell) where
  pub fault_fits : (grants : List Grant) (bytes : List ℕ) (why : TakeFault) → IsAdmitted cell (replay cell grants)
      → IsFrameRefused cell grants bytes why → FaultFits cell why
  fault_fits grants bytes (NotGranted why) admitted (grant, next, fit, is) =
      refusal_fits cell fits (replay cell grants) grant.request why admitted fit is
  fault_fits grants bytes NotAFrame admitted refused = tt
  fault_fits grants bytes (Conflict at kept) admitted refused = tt
  fault_fits grants bytes NoFit admitted refused = tt
  fault_fits grants bytes (Halted at) admitted refused = tt
  fault_fits grants bytes (Full len) admitted refused = tt
  fault_fits grants bytes Device admitted refused = tt
