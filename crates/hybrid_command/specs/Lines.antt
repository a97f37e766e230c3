-- The lines of sessions that asked a hybrid.
use Rattle.std.specs.Prelude.{codes, ℕ, List, [], ◌∷◌, ◌++◌, length, map}
use Rattle.std.specs.Fmt.{decimal}
use Rattle.std.specs.List.{All}
use Rattle.cell_base.specs.declared.cells.Cell.{Cell}
use Rattle.cell_base.specs.declared.cells.ResId.{ResId}
use Rattle.cell_base.specs.declared.requests.Request.{Request}
use Rattle.cell_base.specs.Named.{resource_name}
use Rattle.step_text.specs.Steps.{request_words}
use Rattle.record_text.specs.Fitting.{EntryFits}
use Rattle.record_text.specs.Lines.{head_words, line_of, why_words}
use Rattle.banker_check.specs.declared.replies.HybridReply.{HybridReply}
use Rattle.banker_check.specs.declared.replies.HybridReply.TheVariants.{Granted, Refused, Blocked}
use Rattle.banker_check.specs.HybridPlans.{plan_h_of}
use Rattle.banker_check.specs.HybridState.{HybridState}
use Rattle.hybrid_rounds.specs.declared.entries.HybridEntry.{HybridEntry}
use Rattle.hybrid_rounds.specs.Histories.{taken}
use Rattle.record_printer.specs.Blocks.{Lines, left_lines}

-- the resource that a block names, the count that it would have, its capacity, and how many parts would be stuck
abbrev pub blocked_words : Cell → ResId → ℕ → ℕ → ℕ → List (List ℕ)
blocked_words cell at count capacity stuck =
    codes "blocked" ∷ resource_name cell at.0 ∷ decimal count ∷ codes "of" ∷ decimal capacity ∷ codes "stuck" ∷ decimal stuck ∷ []

-- what a session was told: a block is a refusal with a reason of its own
abbrev pub told_words : Cell → HybridReply → List (List ℕ)
told_words cell Granted = codes "granted" ∷ []
told_words cell (Refused why) = codes "refused" ∷ why_words cell why
told_words cell (Blocked at count capacity stuck) = codes "refused" ∷ blocked_words cell at count capacity stuck

-- the line of an entry
abbrev pub entry_line : Cell → HybridEntry → List ℕ
entry_line cell entry = line_of (decimal entry.session ∷ request_words cell entry.request ++ told_words cell entry.told)

-- the head of a shift from the empty cell, and a line for each entry
abbrev pub history_lines : Cell → ℕ → List HybridEntry → Lines
history_lines cell shift history = line_of (head_words shift 0) ∷ map (entry_line cell) history

-- the history, the number of parts that it leaves, and the plan for these
unfoldable pub hybrid_block : Cell → ℕ → List HybridEntry → ℕ → List Request → Lines
hybrid_block cell shift history left plan = history_lines cell shift history ++ left_lines cell left plan

-- the number of the parts that a hybrid holds, and their plan
abbrev pub left_in_hybrid : HybridState → Lines
left_in_hybrid hybrid = left_lines hybrid.cell (length hybrid.parts) (plan_h_of hybrid.cell hybrid.parts)

-- a block of the parts that a hybrid holds, and of their plan
abbrev pub block_of : HybridState → ℕ → List HybridEntry → Lines
block_of hybrid shift history =
    hybrid_block hybrid.cell shift history (length hybrid.parts) (plan_h_of hybrid.cell hybrid.parts)

-- the ids of each entry are the cell's
abbrev pub HistoryFits : Cell → List HybridEntry → Type 0
HistoryFits cell history = All (λ (entry : HybridEntry). EntryFits cell (taken entry)) history
