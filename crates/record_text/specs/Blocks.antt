-- Which blocks a record has, and where their lines stand.
use Rattle.std.specs.Prelude.{◌≡◌, ℕ, ◌+◌, ◌^◌, ◌<◌, ◌≤◌, true, false, List, [], ◌∷◌, ◌++◌, length, ⊤}
use Rattle.std.specs.List.{All, sum_by}
use Rattle.cell_base.specs.declared.cells.Cell.{Cell}
use Rattle.cell_base.specs.declared.requests.Request.{Request}
use Rattle.cell_base.specs.declared.shifts.Entry.{Entry}
use Rattle.cell_base.specs.Fits.{RequestFits}
use Rattle.cell_base.specs.Histories.{was_halted}
use Rattle.cell_base.specs.Scripts.{holds_halt}
use Rattle.record_text.specs.declared.blocks.Block.{Block}
use Rattle.record_text.specs.declared.blocks.Tail.{Tail}
use Rattle.record_text.specs.declared.blocks.Tail.TheVariants.{Planned, Halted}
use Rattle.record_text.specs.Ranges.{EntryIsWritten, StepIsWritten}

-- the last entry was halted, and no other
pub record EndsInHalt (entries : List Entry) : Type 0 where
  pub front : List Entry
  pub last : Entry
  pub are : entries ≡ front ++ last ∷ []
  pub unhalted : holds_halt front ≡ false
  pub halted : was_halted last.told ≡ true

-- before a plan no entry was halted, and where there is none the last one alone
abbrev pub HaltsRightly : List Entry → Tail → Type 0
HaltsRightly entries (Planned left steps) = holds_halt entries ≡ false
HaltsRightly entries Halted = EndsInHalt entries

-- the steps of the plan
abbrev pub plan_steps : Tail → List Request
plan_steps (Planned left steps) = steps
plan_steps Halted = []

-- ---- lines

-- how many lines a tail has
abbrev pub tail_count : Tail → ℕ
tail_count (Planned left steps) = length steps + 2
tail_count Halted = 0

-- how many lines a block has
abbrev pub line_count : Block → ℕ
line_count block = 1 + length block.entries + tail_count block.tail

-- each block has the number of its first line, where the first one has n
abbrev pub AreNumbered : ℕ → List Block → Type 0
AreNumbered n [] = ⊤
AreNumbered n (block ∷ blocks) = (block.first_line ≡ n) × AreNumbered (n + line_count block) blocks

-- ---- blocks that have a text

-- the plan has a text
abbrev pub TailIsWritten : Cell → Tail → Type 0
TailIsWritten cell (Planned left steps) = (left < 2 ^ 32) × (length steps < 2 ^ 64) × All (StepIsWritten cell) steps
TailIsWritten cell Halted = ⊤

-- a block of a record file
pub record BlockFits (cell : Cell) (block : Block) : Type 0 where
  pub shift : block.shift < 2 ^ 32
  pub after : block.after < 2 ^ 64
  pub entries : All (EntryIsWritten cell) block.entries
  pub halts : HaltsRightly block.entries block.tail
  pub tail : TailIsWritten cell block.tail

-- the blocks of a record file, of whatever length
pub record AreBlocks (cell : Cell) (blocks : List Block) : Type 0 where
  pub some : 1 ≤ length blocks
  pub fit : All (BlockFits cell) blocks
  pub numbered : AreNumbered 1 blocks

-- ---- blocks that may be judged

-- requests that fit the cell, and halts where they may stand
pub record BlockIsWellFormed (cell : Cell) (block : Block) : Type 0 where
  pub entries : All (λ (entry : Entry). RequestFits cell entry.request) block.entries
  pub steps : All (RequestFits cell) (plan_steps block.tail)
  pub halts : HaltsRightly block.entries block.tail

-- such blocks with their line numbers, of which each fits a `u32`
pub record AreWellFormed (cell : Cell) (blocks : List Block) : Type 0 where
  pub each : All (BlockIsWellFormed cell) blocks
  pub numbered : AreNumbered 1 blocks
  pub lines : sum_by line_count blocks < 2 ^ 32
