-- What is wrong with a record, each line judged by itself.
use Rattle.std.specs.Prelude.{◌≡◌, ℕ, ◌+◌, Bool, false, not, ◌||◌, ◌==◌, if◌then◌else◌, Option}
use Rattle.std.specs.Prelude.{Some, None, List, [], ◌∷◌, ◌++◌, length, map, take, slice_get}
use Rattle.std.specs.List.{filter, range_with_len}
use Rattle.std.specs.Option.{option_map_or}
use Rattle.cell_base.specs.declared.cells.Cell.{Cell}
use Rattle.cell_base.specs.declared.requests.Part.{Part}
use Rattle.cell_base.specs.declared.requests.Request.{Request}
use Rattle.cell_base.specs.declared.requests.Told.{Told}
use Rattle.cell_base.specs.declared.requests.Told.TheVariants.{Answered, Halted}
use Rattle.cell_base.specs.declared.shifts.Entry.{Entry}
use Rattle.cell_base.specs.Histories.{is_granted, was_halted, after, granted_entries, after_requests, all_granted}
use Rattle.cell_base.specs.Outcomes.{reply_to}
use Rattle.record_text.specs.declared.blocks.Block.{Block}
use Rattle.record_text.specs.declared.blocks.Tail.{Tail}
use Rattle.record_text.specs.declared.blocks.Tail.TheVariants as tails
use Rattle.record_text.specs.BadLines.{IsRecordOf}
use Rattle.shift_checker.specs.declared.verdict.Why.{Why}
use Rattle.shift_checker.specs.declared.verdict.Why.TheVariants as whys
use Rattle.shift_checker.specs.declared.verdict.Verdict.{Verdict}
use Rattle.shift_checker.specs.declared.verdict.Verdict.TheVariants.{Yes, No}
use Rattle.shift_checker.specs.Replies.{same_reply}

-- ---- requests that count

-- what entries asked for
abbrev pub requests_of_entries : List Entry → List Request
requests_of_entries entries = map (λ (entry : Entry). entry.request) entries

-- the requests that were granted
abbrev pub granted_requests : List Entry → List Request
granted_requests entries = requests_of_entries (granted_entries entries)

-- the requests that were halted
abbrev pub halted_requests : List Entry → List Request
halted_requests entries = requests_of_entries (filter (λ entry. was_halted entry.told) entries)

-- the head of the next block names one more than n
abbrev pub names_one_more : ℕ → List Block → Bool
names_one_more n [] = false
names_one_more n (next ∷ later) = next.after == n + 1

-- requests that count, and halted ones after them where the head of the next block names one more
abbrev pub with_halted : List Request → List Request → List Block → List Request
with_halted granted halted later = if names_one_more (length granted) later then granted ++ halted else granted

-- the requests that count before the blocks after this one: those before it, its own that were granted, and the halted one where it counts
abbrev pub requests_before_next : List Request → Block → List Block → List Request
requests_before_next before block later = with_halted (before ++ granted_requests block.entries) (halted_requests block.entries) later

-- ---- lines, each by itself: why it fails, if it does

-- the line is right, or it fails
abbrev pub fails_unless : Bool → Why → Option Why
fails_unless right why = if right then None else Some why

-- a head, after n requests that count
abbrev pub judge_head : ℕ → Block → Option Why
judge_head n block = fails_unless (block.after == n) whys.After

-- an answer is the outcome's, and a halted request is one that the outcome grants
abbrev pub is_told_rightly : Cell → List Part → Request → Told → Bool
is_told_rightly cell parts request (Answered reply) = same_reply (reply_to cell parts request) reply
is_told_rightly cell parts request Halted = is_granted (reply_to cell parts request)

-- the entry at an index, at the state after the entries before it
abbrev pub judge_entry : Cell → List Part → List Entry → ℕ → Option Why
judge_entry cell parts entries i =
    option_map_or
    (λ (entry : Entry). fails_unless (is_told_rightly cell (after cell parts (take i entries)) entry.request entry.told) whys.Reply)
    (slice_get entries i) None

-- as many parts as are left
abbrev pub judge_left : List Part → ℕ → Option Why
judge_left parts left = fails_unless (left == length parts) whys.Left

-- steps that are all granted in their turns leave no part
abbrev pub judge_plan : Cell → List Part → List Request → Option Why
judge_plan cell parts steps =
    fails_unless (not (all_granted cell parts steps) || (length (after_requests cell parts steps) == 0)) whys.Parts

-- the step at an index, at the state after the steps before it
abbrev pub judge_step : Cell → List Part → List Request → ℕ → Option Why
judge_step cell parts steps i =
    option_map_or (λ step. fails_unless (is_granted (reply_to cell (after_requests cell parts (take i steps)) step)) whys.Step)
    (slice_get steps i) None

-- the indices of a list
abbrev pub indices : {A : Type 0} → List A → List ℕ
indices xs = range_with_len 0 (length xs)

-- ---- the lines of a file

-- the lines of entries, the first one at these parts
abbrev pub judge_entries : Cell → List Part → List Entry → List (Option Why)
judge_entries cell parts entries = map (judge_entry cell parts entries) (indices entries)

-- the plan line and the lines of its steps
abbrev pub judge_steps : Cell → List Part → List Request → List (Option Why)
judge_steps cell parts steps = judge_plan cell parts steps ∷ map (judge_step cell parts steps) (indices steps)

-- the lines after the entries
abbrev pub judge_tail : Cell → List Part → Tail → List (Option Why)
judge_tail cell parts (tails.Planned left steps) = judge_left parts left ∷ judge_steps cell parts steps
judge_tail cell parts tails.Halted = []

-- the lines of a block that begins at these parts, after n requests that count
abbrev pub judge_block : Cell → List Part → ℕ → Block → List (Option Why)
judge_block cell parts n block =
    judge_head n block ∷ judge_entries cell parts block.entries ++ judge_tail cell (after cell parts block.entries) block.tail

-- the lines of blocks, where these requests count before the first one
abbrev pub judge_lines : Cell → List Request → List Block → List (Option Why)
judge_lines cell before [] = []
judge_lines cell before (block ∷ blocks) =
    judge_block cell (after_requests cell [] before) (length before) block
    ++ judge_lines cell (requests_before_next before block blocks) blocks

-- ---- the verdict

-- the first line that fails, where the first of these lines is the n-th
abbrev pub verdict_from : ℕ → List (Option Why) → Verdict
verdict_from n [] = Yes
verdict_from n (None ∷ lines) = verdict_from (n + 1) lines
verdict_from n (Some why ∷ lines) = No n why

-- the verdict on the blocks of a file
abbrev pub judge : Cell → List Block → Verdict
judge cell blocks = verdict_from 1 (judge_lines cell [] blocks)

-- the bytes are the record of blocks on which this is the verdict
pub record IsVerdictOn (cell : Cell) (bytes : List ℕ) (verdict : Verdict) : Type 0 where
  pub blocks : List Block
  pub written : IsRecordOf cell bytes blocks
  pub judged : verdict ≡ judge cell blocks
