-- What a walk over the blocks carries from each one to the next.
use Rattle.std.specs.Prelude.{ℕ, ◌+◌, ◌-◌, ◌==◌, if◌then◌else◌, Option, None, List, [], ◌∷◌, ◌++◌, length, slice_get}
use Rattle.std.specs.Option.{option_map, option_to_list}
use Rattle.cell_base.specs.declared.cells.Cell.{Cell}
use Rattle.cell_base.specs.declared.requests.Part.{Part}
use Rattle.cell_base.specs.declared.requests.Request.{Request}
use Rattle.cell_base.specs.declared.shifts.Entry.{Entry}
use Rattle.cell_base.specs.Histories.{after, after_requests}
use Rattle.record_text.specs.declared.blocks.Block.{Block}
use Rattle.record_text.specs.declared.blocks.Tail.{Tail}
use Rattle.record_text.specs.declared.blocks.Tail.TheVariants as tails
use Rattle.shift_checker.specs.declared.verdict.Why.{Why}
use Rattle.shift_checker.specs.Judging.{granted_requests, judge_block}

-- the parts, how many requests count, and the halted request that may count too
pub record Carried : Type 0 where
  pub parts : List Part
  pub count : ℕ
  pub halted : Option Request

-- the halted request of a block is that of its last entry
abbrev pub halted_in : List Entry → Tail → Option Request
halted_in entries (tails.Planned left steps) = None
halted_in entries tails.Halted = option_map (λ (entry : Entry). entry.request) (slice_get entries (length entries - 1))

-- before a block whose head names so many: the halted request counts where that is one more
abbrev pub settled : Cell → Carried → ℕ → Carried
settled cell at named =
    let halted = option_to_list at.halted in
    if named == at.count + 1 then record { parts = after_requests cell at.parts halted; count = at.count + length halted; halted = None }
    else record at { halted = None }

-- after a block that begins there
abbrev pub carried_on : Cell → Carried → Block → Carried
carried_on cell at block = record {
  parts = after cell at.parts block.entries;
  count = at.count + length (granted_requests block.entries);
  halted = halted_in block.entries block.tail;
}

-- after blocks, the first of which begins there
abbrev pub after_blocks : Cell → Carried → List Block → Carried
after_blocks cell at [] = at
after_blocks cell at (block ∷ blocks) = after_blocks cell (carried_on cell (settled cell at block.after) block) blocks

-- the lines of the blocks that are left
abbrev pub carried_lines : Cell → Carried → List Block → List (Option Why)
carried_lines cell at [] = []
carried_lines cell at (block ∷ blocks) =
    let begun = settled cell at block.after in
    judge_block cell begun.parts begun.count block ++ carried_lines cell (carried_on cell begun block) blocks

-- before the first block
abbrev pub unbegun : Carried
unbegun = record { parts = []; count = 0; halted = None }
