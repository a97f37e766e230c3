-- What the clauses of `carry` name.
pub use Rattle.cell_base.specs.declared.requests.Reply.TheVariants.{Granted}
pub use Rattle.cell_base.specs.Fits.{CellFits}
pub use Rattle.cell_base.specs.Named.{resource_name}
pub use Rattle.cell_base.specs.Outcomes.{reply_to}
pub use Rattle.cell_base.specs.Stages.{IsStage, resource_at, stage, stage_of}
pub use Rattle.record_text.specs.StartFiles.{IsPlacing, place_line}
pub use Rattle.carry_commands.specs.Carried.{carried, carried_part, is_alike, placed, placed_as, type_alike}
pub use Rattle.carry_commands.specs.CarriedState.{IsHindrance}
pub use Rattle.carry_commands.specs.Carrying.{AreCarried, EndsAfter, EndsAtCarry, HasCarried, HasCarriedAfter, carry_outcome}
pub use Rattle.carry_commands.specs.Refusals.{UncarriedFits}
