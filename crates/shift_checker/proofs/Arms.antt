-- What a head, an entry and a left line do to a walk.
use Rattle.std.proofs.Common.{◌≡◌, ℕ, ◌+◌, ◌<◌, ◌≤◌, Bool, true, false, cond, ◌==◌, List, [], ◌∷◌, ◌++◌, length}
use Rattle.std.proofs.Common.{length-append, add-zero, Option, None, refl, sym, ap, ◌∙◌, subst, arith}
use Rattle.std.specs.Prelude.{IfSome}
use Rattle.std.specs.Option.{option_to_list}
use Rattle.cell_base.specs.declared.cells.Cell.{Cell}
use Rattle.cell_base.specs.declared.requests.Request.{Request}
use Rattle.cell_base.specs.declared.requests.Reply.TheVariants.{Granted, Refused}
use Rattle.cell_base.specs.declared.requests.Told.{Told}
use Rattle.cell_base.specs.declared.requests.Told.TheVariants.{Answered, Halted}
use Rattle.cell_base.specs.declared.shifts.Entry.{Entry}
use Rattle.cell_base.specs.Fits.{RequestFits}
use Rattle.cell_base.specs.Histories.{was_halted, state_after_entry, after}
use Rattle.record_text.specs.declared.blocks.Block.{Block}
use Rattle.record_text.specs.declared.blocks.Tail.TheVariants as tails
use Rattle.record_text.specs.declared.record_lines.RecordLine.TheVariants as lines
use Rattle.record_text.specs.declared.stages.Head.{Head}
use Rattle.record_text.specs.declared.stages.Stage.{Stage}
use Rattle.record_text.specs.declared.stages.Stage.TheVariants.{Between, Entries, Left, Steps}
use Rattle.record_text.specs.Progress.{Reading, closed}
use Rattle.record_text.specs.Turns.{Suits, turn_of, with_line}
use Rattle.shift_checker.specs.declared.verdict.Why.{Why}
use Rattle.shift_checker.specs.declared.verdict.Why.TheVariants as whys
use Rattle.shift_checker.specs.declared.verdict.Verdict.{Verdict}
use Rattle.shift_checker.specs.declared.verdict.Verdict.TheVariants.{Yes}
use Rattle.shift_checker.specs.Carrying.{Carried, unbegun, halted_in, settled, after_blocks}
use Rattle.shift_checker.specs.Judging.{granted_requests, fails_unless, is_told_rightly, judge_left, verdict_from}
use Rattle.shift_checker.specs.Lines.{IsAtLine, IsWalked, Walked, carried_by, carried_in, halted_by, judged}
use Rattle.shift_checker.proofs.Adding.{at, entry_line, judged_entry, judged_halt, judged_head, judged_left}
use Rattle.shift_checker.proofs.Carrying.{last_of}
use Rattle.shift_checker.proofs.Going.{verdict_more, number_more}
use Rattle.shift_checker.proofs.BlockLines.{over_more}
use Rattle.shift_checker.proofs.Joined.{after-append, granted-append}

-- the walk after one line more
pub record Goes (n : ℕ) (cell : Cell) (next : Reading) (result : Verdict) (new : Walked) : Type 0 where
  pub verdict : result ≡ verdict_from 1 (judged cell next)
  pub walked : result ≡ Yes → IsWalked (n + 1) next new

module _ (w : Walked) (n : ℕ) (so_far : Reading) (is : IsWalked n so_far w) where
  -- a line that adds its own to those before it
  pub goes : (next : Reading) (o : Option Why) (result : Verdict) (new : Walked) → new.cell ≡ w.cell
      → judged w.cell next ≡ judged w.cell so_far ++ o ∷ [] → result ≡ verdict_from n (o ∷ [])
      → (result ≡ Yes → IsAtLine new.cell (n + 1) (after_blocks new.cell unbegun next.0) next.1 new)
      → (result ≡ Yes → new.count + length (option_to_list new.halted) < n + 1)
      → (result ≡ Yes → IfSome new.halted (RequestFits new.cell))
      → Goes n w.cell next result new
  goes next o result new same adds says here few fits =
      let verdict : result ≡ verdict_from 1 (judged w.cell next) =
      says ∙ verdict_more (judged w.cell so_far) n is.right is.number o ∙ ap (verdict_from 1) (sym adds) in
      record {
        verdict = verdict;
        walked = λ yes. record {
          right = ap (λ cell. verdict_from 1 (judged cell next)) same ∙ sym verdict ∙ yes;
          number =
              number_more (judged w.cell so_far) n is.right is.number o
              ∙ ap (λ ls. 1 + length ls) (sym adds) ∙ ap (λ cell. 1 + length (judged cell next)) (sym same);
          here = here yes;
          few = few yes;
          fits = fits yes;
        };
      }

-- ---- a head

settled_none : (cell : Cell) (at : Carried) (names : ℕ) → (settled cell at names).halted ≡ None
settled_none cell at names = by (names == at.count + 1) refl where
  by : (b : Bool) → (names == at.count + 1) ≡ b → (settled cell at names).halted ≡ None
  by true is = rw is refl
  by false is = rw is refl

settled_few : (cell : Cell) (at : Carried) (names : ℕ) → (settled cell at names).count ≤ at.count + length (option_to_list at.halted)
settled_few cell at names = by (names == at.count + 1) refl where
  by : (b : Bool) → (names == at.count + 1) ≡ b → (settled cell at names).count ≤ at.count + length (option_to_list at.halted)
  by true is = rw is (omega arith)
  by false is = rw is (omega arith)

module _ (w : Walked) (n : ℕ) (given : List Block) where
  abbrev cell : Cell
  cell = w.cell

  abbrev here_at : Carried
  here_at = at cell given

  pub head_goes : (shift names : ℕ) (stage : Stage) (result : Verdict) → IsWalked n (given, stage) w
      → Suits (turn_of stage) (lines.Head shift names)
      → result ≡ verdict_from n (fails_unless (names == (settled cell (carried_by w) names).count) whys.After ∷ [])
      → Goes n cell (with_line n given stage (lines.Head shift names)) result
      (record w {
        parts = (settled cell (carried_by w) names).parts;
        count = (settled cell (carried_by w) names).count;
        halted = (settled cell (carried_by w) names).halted;
      })
  head_goes shift names Between result is suits says =
      let begun : Carried = settled cell (carried_by w) names in
      let head : Head = record { first_line = n; shift = shift; after = names } in
      let none : begun.halted ≡ None = settled_none cell (carried_by w) names in
      goes w n (given, Between) is (given, Entries head []) (fails_unless (names == begun.count) whys.After) result
      (record w { parts = begun.parts; count = begun.count; halted = begun.halted }) refl
      (judged_head cell given n shift names
      ∙ ap (λ (at : Carried). judged cell (given, Between) ++ fails_unless (names == (settled cell at names).count) whys.After ∷ [])
      (sym is.here))
      says
      (λ yes.
      carried_is begun (add-zero begun.count) none ∙ ap (λ (at : Carried). carried_in cell at head []) is.here)
      (λ yes. omega (arith, ap (λ (o : Option Request). length (option_to_list o)) none, settled_few cell (carried_by w) names, is.few))
      (λ yes. subst (λ (o : Option Request). IfSome o (RequestFits cell)) (sym none) tt)
    where
      carried_is : (at : Carried) → at.count + 0 ≡ at.count → at.halted ≡ None
          → at ≡ record { parts = at.parts; count = at.count + 0; halted = None }
      carried_is at count none = λ i. record { parts = at.parts; count = sym count i; halted = none i }
  head_goes shift names (Entries head entries) result is suits says = absurd suits
  head_goes shift names (Left head entries left) result is suits says = absurd suits
  head_goes shift names (Steps head entries left missing steps) result is suits says = absurd suits

  -- ---- an entry

  granted_or_halted : (entry : Entry) → length (granted_requests (entry ∷ [])) + length (option_to_list (halted_by None entry)) ≤ 1
  granted_or_halted entry = by entry.told where
    by : (told : Told)
        → (let entry : Entry = record { session = entry.session; request = entry.request; told = told } in
        length (granted_requests (entry ∷ [])) + length (option_to_list (halted_by None entry)) ≤ 1)
    by (Answered Granted) = omega arith
    by (Answered (Refused why)) = omega arith
    by Halted = omega arith

  abbrev after_this : Entry → Walked
  after_this entry = record w {
    parts = state_after_entry cell w.parts entry.request entry.told;
    count = w.count + length (granted_requests (entry ∷ []));
    halted = halted_by w.halted entry;
  }

  pub entry_goes : (entry : Entry) (stage : Stage) (result : Verdict) → IsWalked n (given, stage) w → RequestFits cell entry.request
      → Suits (turn_of stage) (lines.Entry entry)
      → result ≡ verdict_from n (fails_unless (is_told_rightly cell w.parts entry.request entry.told) whys.Reply ∷ [])
      → Goes n cell (with_line n given stage (lines.Entry entry)) result (after_this entry)
  entry_goes entry (Entries head entries) result is fits suits says = by (was_halted entry.told) refl where
    begun : Carried
    begun = settled cell here_at head.after

    here : carried_by w ≡ carried_in cell here_at head entries
    here = is.here

    parts : w.parts ≡ after cell begun.parts entries
    parts = ap (λ (at : Carried). at.parts) here

    line : Option Why
    line = entry_line cell begun.parts entries entry

    tells : result ≡ verdict_from n (line ∷ [])
    tells = says ∙ ap (λ ps. verdict_from n (fails_unless (is_told_rightly cell ps entry.request entry.told) whys.Reply ∷ [])) parts

    next_parts : (after_this entry).parts ≡ after cell begun.parts (entries ++ entry ∷ [])
    next_parts =
        ap (λ ps. state_after_entry cell ps entry.request entry.told) parts
        ∙ sym (after-append cell begun.parts entries (entry ∷ []))

    next_count : (after_this entry).count ≡ begun.count + length (granted_requests (entries ++ entry ∷ []))
    next_count = omega (
      arith,
      ap (λ (at : Carried). at.count) here,
      ap length (granted-append cell entries (entry ∷ [])),
      length-append (granted_requests entries) (granted_requests (entry ∷ [])),
    )

    few : (after_this entry).count + length (option_to_list (after_this entry).halted) < n + 1
    few = omega (
      arith,
      ap (λ (at : Carried). length (option_to_list (halted_by at.halted entry))) here,
      ap (λ (at : Carried). length (option_to_list at.halted)) here,
      granted_or_halted entry,
      is.few,
    )

    halted_fits : (b : Bool) → was_halted entry.told ≡ b → IfSome (after_this entry).halted (RequestFits cell)
    halted_fits true halted = rw halted fits
    halted_fits false halted = rw halted is.fits

    block : Block
    block = record {
      first_line = head.first_line;
      shift = head.shift;
      after = head.after;
      entries = entries ++ entry ∷ [];
      tail = tails.Halted;
    }

    by : (b : Bool) → was_halted entry.told ≡ b
        → Goes n cell (cond b (closed given head (entries ++ entry ∷ []) tails.Halted) (given, Entries head (entries ++ entry ∷ [])))
        result (after_this entry)
    by true halted =
        let last : halted_by w.halted entry ≡ halted_in (entries ++ entry ∷ []) tails.Halted =
        rw (halted, last_of cell entries entry) refl in
        goes w n (given, Entries head entries) is (closed given head (entries ++ entry ∷ []) tails.Halted) line result (after_this entry)
        refl (judged_halt cell given head entries entry) tells
        (λ yes.
        (λ i. record { parts = next_parts i; count = next_count i; halted = last i }) ∙ sym (over_more cell unbegun given block))
        (λ yes. few) (λ yes. halted_fits true halted)
    by false halted =
        let none : halted_by w.halted entry ≡ None = rw halted (ap (λ (at : Carried). at.halted) here) in
        goes w n (given, Entries head entries) is (given, Entries head (entries ++ entry ∷ [])) line result (after_this entry) refl
        (judged_entry cell given head entries entry) tells
        (λ yes i. record { parts = next_parts i; count = next_count i; halted = none i })
        (λ yes. few) (λ yes. halted_fits false halted)
  entry_goes entry Between result is fits suits says = absurd suits
  entry_goes entry (Left head entries left) result is fits suits says = absurd suits
  entry_goes entry (Steps head entries left missing steps) result is fits suits says = absurd suits

  -- ---- the left line

  pub left_goes : (left : ℕ) (stage : Stage) (result : Verdict) → IsWalked n (given, stage) w → Suits (turn_of stage) (lines.Left left)
      → result ≡ verdict_from n (fails_unless (left == length w.parts) whys.Left ∷ [])
      → Goes n cell (with_line n given stage (lines.Left left)) result w
  left_goes left (Entries head entries) result is suits says =
      goes w n (given, Entries head entries) is (given, Left head entries left)
      (judge_left (carried_in cell here_at head entries).parts left) result w refl (judged_left cell given head entries left)
      (says ∙ ap (λ (at : Carried). verdict_from n (judge_left at.parts left ∷ [])) is.here)
      (λ yes. is.here) (λ yes. omega (arith, is.few)) (λ yes. is.fits)
  left_goes left Between result is suits says = absurd suits
  left_goes left (Left head entries other) result is suits says = absurd suits
  left_goes left (Steps head entries other missing steps) result is suits says = absurd suits
