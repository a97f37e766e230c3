-- The lines that each are judged by themselves have the verdict of those that a walk carries its state along.
use Rattle.std.proofs.Common.{◌≡◌, ℕ, suc, ◌+◌, ◌-◌, ◌<◌, Bool, true, false, cond, ◌==◌, List, [], ◌∷◌, ◌++◌, length}
use Rattle.std.proofs.Common.{length-append, zero-add, Option, Some, None, refl, sym, ap, ◌∙◌, subst, arith}
use Rattle.std.specs.List.{All, slice_get}
use Rattle.std.specs.Option.{option_to_list}
use Rattle.std.proofs.lemmas.Bool.{or_parts}
use Rattle.std.proofs.lemmas.List.Elements.{All-head, All-tail}
use Rattle.cell_base.specs.declared.cells.Cell.{Cell}
use Rattle.cell_base.specs.declared.requests.Part.{Part}
use Rattle.cell_base.specs.declared.requests.Request.{Request}
use Rattle.cell_base.specs.declared.requests.Refusal.{Refusal}
use Rattle.cell_base.specs.declared.requests.Reply.TheVariants.{Granted, Refused}
use Rattle.cell_base.specs.declared.requests.Told.{Told}
use Rattle.cell_base.specs.declared.requests.Told.TheVariants.{Answered, Halted}
use Rattle.cell_base.specs.declared.shifts.Entry.{Entry}
use Rattle.cell_base.specs.Histories.{was_halted, state_after_entry, after, after_requests}
use Rattle.cell_base.specs.Outcomes.{reply_to, state_after}
use Rattle.cell_base.specs.Scripts.{holds_halt}
use Rattle.record_text.specs.declared.blocks.Block.{Block}
use Rattle.record_text.specs.declared.blocks.Tail.{Tail}
use Rattle.record_text.specs.declared.blocks.Tail.TheVariants as tails
use Rattle.record_text.specs.Blocks.{HaltsRightly, BlockIsWellFormed}
use Rattle.shift_checker.specs.declared.verdict.Why.{Why}
use Rattle.shift_checker.specs.declared.verdict.Why.TheVariants as whys
use Rattle.shift_checker.specs.declared.verdict.Verdict.TheVariants.{Yes}
use Rattle.shift_checker.specs.Carrying.{Carried, unbegun, halted_in, settled, carried_on, carried_lines}
use Rattle.shift_checker.specs.Judging.{granted_requests, halted_requests, with_halted, requests_before_next}
use Rattle.shift_checker.specs.Judging.{fails_unless, is_told_rightly, judge_head}
use Rattle.shift_checker.specs.Judging.{judge_entry, judge_entries, judge_tail, judge_block, judge_lines, verdict_from, judge}
use Rattle.shift_checker.proofs.Replying.{same_when}
use Rattle.shift_checker.proofs.Verdicts.{same_after, right_after, right_front, each_right}

-- a line that is right passed its test
pub passed : (right : Bool) (why : Why) → fails_unless right why ≡ None → right ≡ true
passed true why is = refl
passed false why is = absurd cc

pub after_requests-append : (cell : Cell) (parts : List Part) (xs ys : List Request)
    → after_requests cell parts (xs ++ ys) ≡ after_requests cell (after_requests cell parts xs) ys
after_requests-append cell parts [] ys = refl
after_requests-append cell parts (x ∷ xs) ys = after_requests-append cell (state_after cell parts x) xs ys

-- a refused request leaves the parts
refusal_stays : (cell : Cell) (parts : List Part) (request : Request) (why : Refusal) → reply_to cell parts request ≡ Refused why
    → state_after cell parts request ≡ parts
refusal_stays cell parts request why is = grind (arith, is)

-- ---- the entries of a block

module _ (cell : Cell) where
  -- after an entry that is told rightly are the parts after the request, if it was granted
  entry_after : (parts : List Part) (entry : Entry) → is_told_rightly cell parts entry.request entry.told ≡ true
      → state_after_entry cell parts entry.request entry.told ≡ after_requests cell parts (granted_requests (entry ∷ []))
  entry_after parts entry right = by entry.told right where
    by : (told : Told) → is_told_rightly cell parts entry.request told ≡ true
        → state_after_entry cell parts entry.request told
        ≡ after_requests cell parts (granted_requests ((record { session = entry.session; request = entry.request; told = told }) ∷ []))
    by (Answered Granted) right = refl
    by (Answered (Refused why)) right = refusal_stays cell parts entry.request why
        (same_when (reply_to cell parts entry.request) (Refused why) right)
    by Halted right = refl

  pub granted_more : (entry : Entry) (entries : List Entry) → granted_requests (entry ∷ entries) ≡ granted_requests (entry ∷ [])
      ++ granted_requests entries
  granted_more entry entries = by entry.told where
    by : (told : Told)
        → granted_requests ((record { session = entry.session; request = entry.request; told = told }) ∷ entries)
        ≡ granted_requests ((record { session = entry.session; request = entry.request; told = told }) ∷ []) ++ granted_requests entries
    by (Answered Granted) = refl
    by (Answered (Refused why)) = refl
    by Halted = refl

  -- after entries that are told rightly are the parts after the requests that were granted
  entries_after : (parts : List Part) (entries : List Entry) → ((i : ℕ) → i < length entries → judge_entry cell parts entries i ≡ None)
      → after cell parts entries ≡ after_requests cell parts (granted_requests entries)
  entries_after parts [] right = refl
  entries_after parts (entry ∷ entries) right =
      let told : is_told_rightly cell parts entry.request entry.told ≡ true = passed _ whys.Reply (right 0 (omega arith)) in
      let next : List Part = state_after_entry cell parts entry.request entry.told in
      entries_after next entries (λ i below. right (suc i) (omega (arith, below)))
      ∙ ap (λ ps. after_requests cell ps (granted_requests entries)) (entry_after parts entry told)
      ∙ sym (after_requests-append cell parts (granted_requests (entry ∷ [])) (granted_requests entries))
      ∙ ap (after_requests cell parts) (sym (granted_more entry entries))

  -- ---- the halted request of a block

  none_halted : (entries : List Entry) → holds_halt entries ≡ false → halted_requests entries ≡ []
  none_halted [] none = refl
  none_halted (entry ∷ entries) none =
      let parts = or_parts (was_halted entry.told) (holds_halt entries) none in
      rw parts.0 (none_halted entries parts.1)

  pub last_of : (front : List Entry) (last : Entry) → slice_get (front ++ last ∷ []) (length (front ++ last ∷ []) - 1) ≡ Some last
  last_of front last = ap (slice_get (front ++ last ∷ [])) (omega (arith, length-append front (last ∷ []))) ∙ at front where
    at : (front : List Entry) → slice_get (front ++ last ∷ []) (length front) ≡ Some last
    at [] = refl
    at (x ∷ front) = at front

  last_halted : (front : List Entry) (last : Entry) → holds_halt front ≡ false → was_halted last.told ≡ true
      → halted_requests (front ++ last ∷ []) ≡ last.request ∷ []
  last_halted [] last none halted = rw halted refl
  last_halted (entry ∷ front) last none halted =
      let parts = or_parts (was_halted entry.told) (holds_halt front) none in
      rw parts.0 (last_halted front last parts.1 halted)

  halted_is : (entries : List Entry) (tail : Tail) → HaltsRightly entries tail
      → halted_requests entries ≡ option_to_list (halted_in entries tail)
  halted_is entries (tails.Planned left steps) none = none_halted entries none
  halted_is entries tails.Halted ends =
      let Is : List Entry → Type 0 = λ es. halted_requests es ≡ option_to_list (halted_in es tails.Halted) in
      subst Is (sym ends.are) (rw (last_of ends.front ends.last) (last_halted ends.front ends.last ends.unhalted ends.halted))

  -- ---- blocks

  abbrev carried : List Request → Option Request → Carried
  carried granted halted = record { parts = after_requests cell [] granted; count = length granted; halted = halted }

  -- the requests that count before a block are those that are carried to it, settled by its head
  settled_is : (granted : List Request) (halted : Option Request) (block : Block) (blocks : List Block)
      → settled cell (carried granted halted) block.after ≡ carried (with_halted granted (option_to_list halted) (block ∷ blocks)) None
  settled_is granted halted block blocks = by (block.after == length granted + 1) refl where
    by : (one_more : Bool) → (block.after == length granted + 1) ≡ one_more
        → settled cell (carried granted halted) block.after ≡ carried (with_halted granted (option_to_list halted) (block ∷ blocks)) None
    by true is = rw (is, after_requests-append cell [] granted (option_to_list halted), length-append granted (option_to_list halted)) refl
    by false is = rw is refl

  -- what is carried on from a block whose lines are right
  carried_on_is : (before : List Request) (block : Block) → BlockIsWellFormed cell block
      → ((i : ℕ) → i < length block.entries → judge_entry cell (after_requests cell [] before) block.entries i ≡ None)
      → carried (before ++ granted_requests block.entries) (halted_in block.entries block.tail)
      ≡ carried_on cell (carried before None) block
  carried_on_is before block formed right =
      let behind : after_requests cell [] (before ++ granted_requests block.entries)
      ≡ after cell (after_requests cell [] before) block.entries =
      after_requests-append cell [] before (granted_requests block.entries)
      ∙ sym (entries_after (after_requests cell [] before) block.entries right) in
      rw (behind, length-append before (granted_requests block.entries)) refl

  right_entries : (n : ℕ) (parts : List Part) (count : ℕ) (block : Block) → verdict_from n (judge_block cell parts count block) ≡ Yes
      → (i : ℕ) → i < length block.entries → judge_entry cell parts block.entries i ≡ None
  right_entries n parts count block right i below =
      let entries : List (Option Why) = judge_entries cell parts block.entries in
      let front : verdict_from n (judge_head count block ∷ entries) ≡ Yes =
      right_front n (judge_head count block ∷ entries) (judge_tail cell (after cell parts block.entries) block.tail) right in
      let behind : verdict_from (n + 1) entries ≡ Yes =
      sym (right_after n (judge_head count block ∷ []) entries (right_front n (judge_head count block ∷ []) entries front)) ∙ front in
      ap (judge_entry cell parts block.entries) (sym (zero-add i))
      ∙ each_right (judge_entry cell parts block.entries) (n + 1) 0 (length block.entries) i below behind

  same_lines : (n : ℕ) (blocks : List Block) (granted : List Request) (halted : Option Request) → All (BlockIsWellFormed cell) blocks
      → verdict_from n (judge_lines cell (with_halted granted (option_to_list halted) blocks) blocks)
      ≡ verdict_from n (carried_lines cell (carried granted halted) blocks)
  same_lines n [] granted halted formed = refl
  same_lines n (block ∷ blocks) granted halted formed =
      let before : List Request = with_halted granted (option_to_list halted) (block ∷ blocks) in
      let begun : Carried = carried before None in
      let lines : List (Option Why) = judge_block cell begun.parts begun.count block in
      let this : BlockIsWellFormed cell block = All-head (BlockIsWellFormed cell) block blocks formed in
      let last : Option Request = halted_in block.entries block.tail in
      let next : List Request = before ++ granted_requests block.entries in
      let later : requests_before_next before block blocks ≡ with_halted next (option_to_list last) blocks =
      ap (λ more. with_halted next more blocks) (halted_is block.entries block.tail this.halts) in
      same_after (judge_lines cell (requests_before_next before block blocks) blocks)
      (carried_lines cell (carried_on cell begun block) blocks) n lines
      (λ right.
      ap (λ requests. verdict_from (n + length lines) (judge_lines cell requests blocks)) later
      ∙ same_lines (n + length lines) blocks next last (All-tail (BlockIsWellFormed cell) block blocks formed)
      ∙ ap (λ at. verdict_from (n + length lines) (carried_lines cell at blocks))
      (carried_on_is before block this (right_entries n begun.parts begun.count block right)))
      ∙ ap (λ (at : Carried). verdict_from n
      (judge_block cell at.parts at.count block ++ carried_lines cell (carried_on cell at block) blocks))
      (sym (settled_is granted halted block blocks))

  -- the verdict is that of a walk
  pub judge_by_walk : (blocks : List Block) → All (BlockIsWellFormed cell) blocks
      → judge cell blocks ≡ verdict_from 1 (carried_lines cell unbegun blocks)
  judge_by_walk blocks formed = ap (λ requests. verdict_from 1 (judge_lines cell requests blocks)) (none blocks)
      ∙ same_lines 1 blocks [] None formed where
        none : (blocks : List Block) → [] ≡ with_halted [] [] blocks
        none [] = refl
        none (block ∷ blocks) = by (block.after == 0 + 1) where
          by : (b : Bool) → ◌≡◌ {A = List Request} [] (cond b [] [])
          by true = refl
          by false = refl
