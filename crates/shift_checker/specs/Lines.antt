-- What is wrong with the lines of a record that were read so far, and where a walk over them is.
use Rattle.std.specs.Prelude.{◌≡◌, ℕ, ◌+◌, ◌<◌, ◌==◌, true, if◌then◌else◌, Option, Some, None, List, [], ◌∷◌, ◌++◌, length, map, IfSome}
use Rattle.std.specs.Option.{option_to_list}
use Rattle.cell_base.specs.declared.cells.Cell.{Cell}
use Rattle.cell_base.specs.declared.requests.Part.{Part}
use Rattle.cell_base.specs.declared.requests.Request.{Request}
use Rattle.cell_base.specs.declared.shifts.Entry.{Entry}
use Rattle.cell_base.specs.Fits.{RequestFits}
use Rattle.cell_base.specs.Histories.{was_halted, after, after_requests, all_granted}
use Rattle.record_text.specs.declared.stages.Head.{Head}
use Rattle.record_text.specs.declared.stages.Stage.{Stage}
use Rattle.record_text.specs.declared.stages.Stage.TheVariants.{Between, Entries, Left, Steps}
use Rattle.record_text.specs.Progress.{Reading}
use Rattle.shift_checker.specs.declared.verdict.Why.{Why}
use Rattle.shift_checker.specs.declared.verdict.Why.TheVariants as whys
use Rattle.shift_checker.specs.declared.verdict.Verdict.TheVariants.{Yes}
use Rattle.shift_checker.specs.Carrying.{Carried, unbegun, settled, after_blocks, carried_lines}
use Rattle.shift_checker.specs.Judging.{granted_requests, fails_unless, indices, judge_entries, judge_left, judge_step, verdict_from}

-- ---- lines that were read

-- what is carried after the entries so far of a block to whose head this is carried
abbrev pub carried_in : Cell → Carried → Head → List Entry → Carried
carried_in cell at head entries = let begun = settled cell at head.after in record {
  parts = after cell begun.parts entries;
  count = begun.count + length (granted_requests entries);
  halted = None;
}

-- its head, and its entries so far
abbrev pub judge_front : Cell → Carried → Head → List Entry → List (Option Why)
judge_front cell at head entries =
    let begun = settled cell at head.after in
    fails_unless (head.after == begun.count) whys.After ∷ judge_entries cell begun.parts entries

-- its lines so far. Of a plan line nothing is known before its last step
abbrev pub judge_open : Cell → Carried → Stage → List (Option Why)
judge_open cell at Between = []
judge_open cell at (Entries head entries) = judge_front cell at head entries
judge_open cell at (Left head entries left) =
    judge_front cell at head entries ++ judge_left (carried_in cell at head entries).parts left ∷ []
judge_open cell at (Steps head entries left missing steps) =
    let parts = (carried_in cell at head entries).parts in
    judge_front cell at head entries ++ judge_left parts left ∷ None ∷ map (judge_step cell parts steps) (indices steps)

-- all lines so far
abbrev pub judged : Cell → Reading → List (Option Why)
judged cell so_far =
    carried_lines cell unbegun so_far.0 ++ judge_open cell (after_blocks cell unbegun so_far.0) so_far.1

-- ---- a walk over lines

-- what contracts see of it: the parts and those before the plan, how many requests count, the halted one that may count too, the
-- number of the plan line, and how many of its steps are missing
pub record Walked : Type 0 where
  pub cell : Cell
  pub parts : List Part
  pub kept : List Part
  pub count : ℕ
  pub halted : Option Request
  pub plan : ℕ
  pub missing : ℕ

-- before the first line
abbrev pub unmoved : Cell → Walked
unmoved cell = record { cell = cell; parts = []; kept = []; count = 0; halted = None; plan = 0; missing = 0 }

-- what it carries on
abbrev pub carried_by : Walked → Carried
carried_by walk = record { parts = walk.parts; count = walk.count; halted = walk.halted }

-- the halted request after an entry
abbrev pub halted_by : Option Request → Entry → Option Request
halted_by halted entry = if was_halted entry.told then Some entry.request else halted

-- it is in the plan of a block, whose line is the n-th, and has tried these steps
pub record IsInPlan (cell : Cell) (at : Carried) (n more : ℕ) (steps : List Request) (walk : Walked) : Type 0 where
  pub before : record (carried_by walk) { parts = walk.kept } ≡ at
  pub parts : walk.parts ≡ after_requests cell at.parts steps
  pub granted : all_granted cell at.parts steps ≡ true
  pub missing : walk.missing ≡ more
  pub some : 0 < more
  pub plan : walk.plan + length steps + 1 ≡ n

-- it is where the n-th line is the next one
abbrev pub IsAtLine : Cell → ℕ → Carried → Stage → Walked → Type 0
IsAtLine cell n at Between walk = carried_by walk ≡ at
IsAtLine cell n at (Entries head entries) walk = carried_by walk ≡ carried_in cell at head entries
IsAtLine cell n at (Left head entries left) walk = carried_by walk ≡ carried_in cell at head entries
IsAtLine cell n at (Steps head entries left missing steps) walk = IsInPlan cell (carried_in cell at head entries) n missing steps walk

-- the lines before the n-th are right, and it stands after them
pub record IsWalked (n : ℕ) (so_far : Reading) (walk : Walked) : Type 0 where
  pub right : verdict_from 1 (judged walk.cell so_far) ≡ Yes
  pub number : n ≡ 1 + length (judged walk.cell so_far)
  pub here : IsAtLine walk.cell n (after_blocks walk.cell unbegun so_far.0) so_far.1 walk
  pub few : walk.count + length (option_to_list walk.halted) < n
  pub fits : IfSome walk.halted (RequestFits walk.cell)
