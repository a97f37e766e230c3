-- How the outcomes of `queue` come about.
use Rattle.std.proofs.Common.{◌≡◌, ℕ, [], length, All, ap, sym, subst, ◌∙◌}
use Rattle.cell_base.specs.declared.cells.Cell.{Cell}
use Rattle.cell_base.specs.declared.shifts.Shift.{Shift}
use Rattle.cell_base.specs.Fits.{CellFits, ShiftFits}
use Rattle.admission_core.specs.CoreState.{CoreState}
use Rattle.wait_board.specs.Boards.{OnBoard}
use Rattle.wait_board.specs.BoardState.{BoardState, IsNewBoard, IsWaiting, KeepsBoard}
use Rattle.board_rounds.specs.Rounds.{NobodyAsks, queue_run}
use Rattle.board_rounds.specs.Underway.{HasBecome}
use Rattle.cell_walks.specs.Outcomes.{done}
use Rattle.cell_walks.specs.Walks.{Answers, Walk}
use Rattle.cell_texts.specs.Tests.{KnownCell}
use Rattle.queue_command.specs.Lines.{BoardFits, board_lines}
use Rattle.queue_command.specs.Queue.{IsQueued}
use Rattle.queue_command.specs.QueueRuns.{IsQueueRun}
use Rattle.queue_command.proofs.Fitting.{run_drains, run_fits}

-- ---- the run

module _ (cell : Cell) (fits : CellFits cell) (shift : Shift) (shift_fits : ShiftFits cell shift) (core : CoreState) (n room : ℕ)
    (first new : BoardState) (empty : core ≡ record { cell = cell; parts = [] }) (opened : IsNewBoard core n room first)
    (ran : HasBecome first (queue_run first.cell first.on.parts shift) new) (count : n ≡ length shift.scripts) (kept : KeepsBoard new) where
  on_cell : new.cell ≡ cell
  on_cell = ap (λ (b : BoardState). b.cell) ran.is ∙ opened.cell ∙ ap (λ (c : CoreState). c.cell) empty

  is_run : new.on ≡ queue_run cell [] shift
  is_run =
      ap (λ (b : BoardState). b.on) ran.is
      ∙ ap (λ (c : Cell). queue_run c first.on.parts shift) (opened.cell ∙ ap (λ (c : CoreState). c.cell) empty)
      ∙ ap (λ (on : OnBoard). queue_run cell on.parts shift) opened.on
      ∙ ap (λ (c : CoreState). queue_run cell c.parts shift) empty

  sessions : new.sessions ≡ length shift.scripts
  sessions = ap (λ (b : BoardState). b.sessions) ran.is ∙ opened.sessions_are ∙ count

  waits : let on = queue_run cell [] shift in All (IsWaiting cell on.parts (length shift.scripts)) on.waiters
  waits =
      subst (λ (on : OnBoard). All (IsWaiting cell on.parts (length shift.scripts)) on.waiters) is_run
      (subst (λ (k : ℕ). All (IsWaiting cell new.on.parts k) new.on.waiters) sessions
      (subst (λ (c : Cell). All (IsWaiting c new.on.parts new.sessions) new.on.waiters) on_cell kept.waiting))

  pub queue_run_of : NobodyAsks shift new.on → IsQueueRun cell shift new
  queue_run_of over = record {
    on_cell = on_cell;
    run = is_run;
    rest = record {
      over = subst (NobodyAsks shift) is_run over;
      waits = waits;
      drains = run_drains cell fits shift shift_fits;
    };
  }

  pub queue_fits : BoardFits new.cell new.on
  queue_fits =
      subst (λ (c : Cell). BoardFits c new.on) (sym on_cell)
      (subst (BoardFits cell) (sym is_run) (run_fits cell fits shift shift_fits (length shift.scripts) waits))

-- ---- the command

-- what is answered after the cell and the shift
abbrev pub ran : KnownCell → Shift → Walk
ran held shift = Answers λ input outcome. IsQueued held.cell shift outcome

-- the lines of the board are an answer
pub queue_ran : (cell : Cell) (shift : Shift) (board : BoardState) → IsQueueRun cell shift board
    → IsQueued cell shift (done (board_lines board.cell board.on))
queue_ran cell shift board is = record {
  printed =
      ap (λ (c : Cell). done (board_lines c board.on)) is.on_cell ∙ ap (λ (on : OnBoard). done (board_lines cell on)) is.run;
  rest = is.rest;
}
