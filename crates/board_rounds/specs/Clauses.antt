-- What the clauses of the rounds name.
pub use Rattle.cell_base.specs.declared.limits.TheConstants.{MAX_ASKS, MAX_SESSIONS}
pub use Rattle.cell_base.specs.Fits.{ShiftFits}
pub use Rattle.cell_base.specs.Scripts.{script_of}
pub use Rattle.solo_rounds.specs.Underway.{IsWithinScript}
pub use Rattle.wait_board.specs.Boards.{asks_of, opened}
pub use Rattle.board_rounds.specs.Rounds.{NobodyAsks, present_step, progress_in, queue_run, round, turn}
pub use Rattle.board_rounds.specs.Underway.{HasBecome, IsReady}
