-- What one line more adds to the lines of a record that are judged.
use Rattle.std.proofs.Common.{◌≡◌, ℕ, zero, suc, ◌+◌, ◌<◌, ◌==◌, List, [], ◌∷◌, ◌++◌, map, length, take}
use Rattle.std.proofs.Common.{append_assoc, append-nil, length-append, zero-add, add-zero, Option, Some, None, refl, sym, ap, ◌∙◌, arith}
use Rattle.std.specs.List.{range_with_len, slice_get}
use Rattle.std.proofs.lemmas.List.{take_all, take-append-le}
use Rattle.lists.proofs.Growing.{map_next}
use Rattle.cell_base.specs.declared.cells.Cell.{Cell}
use Rattle.cell_base.specs.declared.requests.Part.{Part}
use Rattle.cell_base.specs.declared.requests.Request.{Request}
use Rattle.cell_base.specs.declared.shifts.Entry.{Entry}
use Rattle.cell_base.specs.Histories.{is_granted, after, after_requests}
use Rattle.cell_base.specs.Outcomes.{reply_to}
use Rattle.record_text.specs.declared.blocks.Block.{Block}
use Rattle.record_text.specs.declared.blocks.Tail.{Tail}
use Rattle.record_text.specs.declared.blocks.Tail.TheVariants as tails
use Rattle.record_text.specs.declared.stages.Head.{Head}
use Rattle.record_text.specs.declared.stages.Stage.TheVariants.{Between, Entries, Left, Steps}
use Rattle.record_text.specs.Progress.{closed}
use Rattle.shift_checker.specs.declared.verdict.Why.{Why}
use Rattle.shift_checker.specs.declared.verdict.Why.TheVariants as whys
use Rattle.shift_checker.specs.Carrying.{Carried, unbegun, settled, after_blocks, carried_lines}
use Rattle.shift_checker.specs.Judging.{fails_unless, indices, is_told_rightly, judge_entry, judge_entries}
use Rattle.shift_checker.specs.Judging.{judge_left, judge_plan, judge_step, judge_tail}
use Rattle.shift_checker.specs.Lines.{carried_in, judge_front, judged}
use Rattle.shift_checker.proofs.BlockLines.{lines_more}

-- ---- one element more

at_end : {A : Type 0} (xs : List A) (x : A) → slice_get (xs ++ x ∷ []) (length xs) ≡ Some x
at_end [] x = refl
at_end (y ∷ xs) x = at_end xs x

before_end : {A : Type 0} (xs : List A) (x : A) (i : ℕ) → i < length xs → slice_get (xs ++ x ∷ []) i ≡ slice_get xs i
before_end [] x i within = absurd (omega (arith, within))
before_end (y ∷ xs) x zero within = refl
before_end (y ∷ xs) x (suc i) within = before_end xs x i (omega (arith, within))

take_end : {A : Type 0} (xs : List A) (x : A) → take (length xs) (xs ++ x ∷ []) ≡ xs
take_end xs x = take-append-le (length xs) xs (x ∷ []) (omega arith) ∙ take_all (length xs) xs (omega arith)

same_range : (f g : ℕ → Option Why) (a n : ℕ) → ((i : ℕ) → i < n → f (a + i) ≡ g (a + i))
    → map f (range_with_len a n) ≡ map g (range_with_len a n)
same_range f g a zero same = refl
same_range f g a (suc n) same =
    let shift : (i : ℕ) → a + 1 + i ≡ a + suc i = λ i. omega arith in
    let first : f a ≡ g a = ap f (sym (add-zero a)) ∙ same 0 (omega arith) ∙ ap g (add-zero a) in
    rw first
    (ap (λ ls. g a ∷ ls)
    (same_range f g (a + 1) n (λ i below. ap f (shift i) ∙ same (suc i) (omega (arith, below)) ∙ ap g (sym (shift i)))))

-- where each is judged by those before it, one more adds its own line
lines_push : {A : Type 0} (judge : List A → ℕ → Option Why) (xs : List A) (x : A)
    → ((i : ℕ) → i < length xs → judge (xs ++ x ∷ []) i ≡ judge xs i)
    → map (judge (xs ++ x ∷ [])) (indices (xs ++ x ∷ [])) ≡ map (judge xs) (indices xs) ++ judge (xs ++ x ∷ []) (length xs) ∷ []
lines_push judge xs x same =
    let long : length (xs ++ x ∷ []) ≡ length xs + 1 = length-append xs (x ∷ []) in
    ap (λ n. map (judge (xs ++ x ∷ [])) (range_with_len 0 n)) long
    ∙ map_next (judge (xs ++ x ∷ [])) (length xs)
    ∙ ap (λ ls. ls ++ judge (xs ++ x ∷ []) (length xs) ∷ [])
    (same_range (judge (xs ++ x ∷ [])) (judge xs) 0 (length xs)
    (λ i below. let e : 0 + i ≡ i = zero-add i in ap (judge (xs ++ x ∷ [])) e ∙ same i below ∙ ap (judge xs) (sym e)))

module _ (cell : Cell) (parts : List Part) where
  -- an entry at the state after those before it
  abbrev pub entry_line : List Entry → Entry → Option Why
  entry_line entries entry = fails_unless (is_told_rightly cell (after cell parts entries) entry.request entry.told) whys.Reply

  pub entries_more : (entries : List Entry) (entry : Entry)
      → judge_entries cell parts (entries ++ entry ∷ []) ≡ judge_entries cell parts entries ++ entry_line entries entry ∷ []
  entries_more entries entry =
      lines_push (judge_entry cell parts) entries entry
      (λ i below. rw (before_end entries entry i below, take-append-le i entries (entry ∷ []) (omega (arith, below))) refl)
      ∙ ap (λ o. judge_entries cell parts entries ++ o ∷ []) (rw (at_end entries entry, take_end entries entry) refl)

  -- a step at the state after those before it
  abbrev pub step_line : List Request → Request → Option Why
  step_line steps step = fails_unless (is_granted (reply_to cell (after_requests cell parts steps) step)) whys.Step

  abbrev pub step_lines : List Request → List (Option Why)
  step_lines steps = map (judge_step cell parts steps) (indices steps)

  pub steps_more : (steps : List Request) (step : Request)
      → step_lines (steps ++ step ∷ []) ≡ step_lines steps ++ step_line steps step ∷ []
  steps_more steps step =
      lines_push (judge_step cell parts) steps step
      (λ i below. rw (before_end steps step i below, take-append-le i steps (step ∷ []) (omega (arith, below))) refl)
      ∙ ap (λ o. step_lines steps ++ o ∷ []) (rw (at_end steps step, take_end steps step) refl)

-- ---- one line more

module _ (cell : Cell) (given : List Block) where
  abbrev pub before : List (Option Why)
  before = carried_lines cell unbegun given

  abbrev pub at : Carried
  at = after_blocks cell unbegun given

  -- the lines up to a block that is whole now
  pub judged_closed : (head : Head) (entries : List Entry) (tail : Tail)
      → judged cell (closed given head entries tail)
      ≡ before ++ (judge_front cell at head entries ++ judge_tail cell (carried_in cell at head entries).parts tail)
  judged_closed head entries tail =
      append-nil (carried_lines cell unbegun (closed given head entries tail).0)
      ∙ lines_more cell unbegun given
      (record { first_line = head.first_line; shift = head.shift; after = head.after; entries = entries; tail = tail })

  -- its head
  pub judged_head : (n shift names : ℕ)
      → judged cell (given, Entries (record { first_line = n; shift = shift; after = names }) [])
      ≡ judged cell (given, Between) ++ fails_unless (names == (settled cell at names).count) whys.After ∷ []
  judged_head n shift names =
      ap (λ ls. ls ++ fails_unless (names == (settled cell at names).count) whys.After ∷ []) (sym (append-nil before))

  module _ (head : Head) (entries : List Entry) where
    abbrev front : List (Option Why)
    front = judge_front cell at head entries

    abbrev parts : List Part
    parts = (carried_in cell at head entries).parts

    -- an entry
    pub judged_entry : (entry : Entry)
        → before ++ judge_front cell at head (entries ++ entry ∷ [])
        ≡ (before ++ front) ++ entry_line cell (settled cell at head.after).parts entries entry ∷ []
    judged_entry entry =
        ap (λ ls. before ++ (fails_unless (head.after == (settled cell at head.after).count) whys.After ∷ ls))
        (entries_more cell (settled cell at head.after).parts entries entry)
        ∙ sym (append_assoc before front (entry_line cell (settled cell at head.after).parts entries entry ∷ []))

    pub judged_halt : (entry : Entry)
        → judged cell (closed given head (entries ++ entry ∷ []) tails.Halted)
        ≡ (before ++ front) ++ entry_line cell (settled cell at head.after).parts entries entry ∷ []
    judged_halt entry =
        judged_closed head (entries ++ entry ∷ []) tails.Halted
        ∙ ap (λ ls. before ++ ls) (append-nil (judge_front cell at head (entries ++ entry ∷ [])))
        ∙ judged_entry entry

    module _ (left : ℕ) where
      -- the left line
      pub judged_left : judged cell (given, Left head entries left) ≡ (before ++ front) ++ judge_left parts left ∷ []
      judged_left = sym (append_assoc before front (judge_left parts left ∷ []))

      abbrev pub up_to_left : List (Option Why)
      up_to_left = judged cell (given, Left head entries left)

      behind_left : (ls : List (Option Why)) → before ++ (front ++ judge_left parts left ∷ ls) ≡ up_to_left ++ ls
      behind_left ls =
          ap (λ xs. before ++ xs) (sym (append_assoc front (judge_left parts left ∷ []) ls))
          ∙ sym (append_assoc before (front ++ judge_left parts left ∷ []) ls)

      -- the plan line and the lines of its steps, while some are missing, and where none is
      pub judged_steps : (missing : ℕ) (steps : List Request)
          → judged cell (given, Steps head entries left missing steps) ≡ up_to_left ++ None ∷ step_lines cell parts steps
      judged_steps missing steps = behind_left (None ∷ step_lines cell parts steps)

      pub judged_planned : (steps : List Request)
          → judged cell (closed given head entries (tails.Planned left steps))
          ≡ up_to_left ++ judge_plan cell parts steps ∷ step_lines cell parts steps
      judged_planned steps =
          judged_closed head entries (tails.Planned left steps)
          ∙ behind_left (judge_plan cell parts steps ∷ step_lines cell parts steps)
