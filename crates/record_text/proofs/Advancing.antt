-- That each line which is read leads on.
use Rattle.std.proofs.Common.{◌≡◌, ℕ, zero, suc, ◌+◌, ◌-◌, ◌<◌, ◌^◌, Bool, true, false, cond, ◌==◌, List}
use Rattle.std.proofs.Common.{[], ◌∷◌, ◌++◌, map, length, append_assoc, append-nil, length-append, Some}
use Rattle.std.proofs.Common.{refl, sym, ap, ◌∙◌, subst, inl, inr, arith, lit<, eqb-true, add-zero}
use Rattle.std.specs.List.{All}
use Rattle.std.proofs.lemmas.Bool.{or_from, or_parts, eqb-false}
use Rattle.std.proofs.lemmas.List.Elements.{All-nil, All-push}
use Rattle.std.proofs.lemmas.Option.{same_Some}
use Rattle.cell_base.specs.declared.cells.Cell.{Cell}
use Rattle.cell_base.specs.declared.requests.Request.{Request}
use Rattle.cell_base.specs.declared.shifts.Entry.{Entry}
use Rattle.cell_base.specs.Histories.{was_halted}
use Rattle.cell_base.specs.Scripts.{holds_halt}
use Rattle.step_text.specs.Words.{words, joined}
use Rattle.step_text.specs.Steps.{request_words}
use Rattle.record_text.specs.declared.blocks.Block.{Block}
use Rattle.record_text.specs.declared.blocks.Tail.TheVariants as tails
use Rattle.record_text.specs.declared.stages.Head.{Head}
use Rattle.record_text.specs.declared.stages.Stage.{Stage}
use Rattle.record_text.specs.declared.stages.Stage.TheVariants.{Between, Entries, Left, Steps}
use Rattle.record_text.specs.Ranges.{EntryIsWritten, StepIsWritten}
use Rattle.record_text.specs.Lines.{head_words, entry_words, left_words, plan_words}
use Rattle.record_text.specs.Progress.{Reading, closed, on_head, on_entry, on_entries, on_left, on_steps, on_line}
use Rattle.record_text.specs.Reading.{Words, head_at, entry_at, left_at, plan_at, step_at}
use Rattle.record_text.proofs.Chains.{bind_some, either}
use Rattle.record_text.proofs.LineTexts.{entry_line, step_line, lines_of, map_more}
use Rattle.record_text.proofs.Splitting.{joined-words}
use Rattle.record_text.proofs.Wording.{entry_at-sound, head_at-sound, left_at-sound, plan_at-sound, IsStepLine, step_at-sound}
use Rattle.record_text.proofs.Reached.{with_head, IsBegun, IsInSteps, IsReached, close}

-- ---- one line more

unhalted_more : (entries : List Entry) (entry : Entry) → holds_halt entries ≡ false → was_halted entry.told ≡ false
    → holds_halt (entries ++ entry ∷ []) ≡ false
unhalted_more [] entry none not_this = or_from (was_halted entry.told) false not_this refl
unhalted_more (first ∷ entries) entry none not_this =
    let parts = or_parts (was_halted first.told) (holds_halt entries) none in
    or_from (was_halted first.told) (holds_halt (entries ++ entry ∷ [])) parts.0 (unhalted_more entries entry parts.1 not_this)

positive : (n : ℕ) → (n == 0) ≡ false → 0 < n
positive zero is = absurd cc
positive (suc n) is = omega arith

above_one : (n : ℕ) → 0 < n → (n == 1) ≡ false → 1 < n
above_one n some is = grind (arith, eqb-false)

-- a line is its words, joined
line_is : (line : List ℕ) (ws : Words) → words line ≡ ws → line ≡ joined ws
line_is line ws is = sym (joined-words line) ∙ ap joined is

module _ (cell : Cell) (blocks : List Block) (lines : List (List ℕ)) (line : List ℕ) (r : Reading) where
  abbrev Next : Reading → Type 0
  Next r = IsReached cell r.0 r.1 (lines ++ line ∷ [])

  on_head-sound : (n : ℕ) → n ≡ length lines + 1 → IsReached cell blocks Between lines → on_head n blocks (words line) ≡ Some r → Next r
  unfolding on_head
  on_head-sound n count reached is =
      let head = bind_some _ (head_at (words line)) r is in
      let read = head_at-sound (words line) head.0 head.1 in
      let so_far : lines ≡ lines_of cell blocks = reached.are ∙ append-nil (lines_of cell blocks) in
      subst Next (same_Some _ r head.2)
      (record {
        are = ap (λ xs. xs ++ line ∷ []) so_far ∙ ap (λ x. lines_of cell blocks ++ x ∷ [])
            (line_is line (head_words head.0.0 head.0.1) read.0);
        fit = reached.fit;
        numbered = reached.numbered;
        stage = record {
          number = count ∙ ap (λ xs. length xs + 1) so_far;
          shift = read.1;
          after = read.2;
          each = All-nil
              (EntryIsWritten cell);
          unhalted = refl;
        };
      })

  -- lines that end in the open block, and one more line
  one_more : (behind : List (List ℕ)) (text : List ℕ) → lines ≡ lines_of cell blocks ++ behind → line ≡ text
      → lines ++ line ∷ [] ≡ lines_of cell blocks ++ (behind ++ text ∷ [])
  one_more behind text are is = ap (λ xs. xs ++ line ∷ []) are ∙ append_assoc (lines_of cell blocks) behind (line ∷ [])
      ∙ ap (λ x. lines_of cell blocks ++ (behind ++ x ∷ [])) is

  on_entry-sound : (head : Head) (entries : List Entry) (entry : Entry) → IsReached cell blocks (Entries head entries) lines
      → words line ≡ entry_words cell entry → EntryIsWritten cell entry
      → on_entry blocks head entries entry ≡ r → Next r
  unfolding on_entry
  on_entry-sound head entries entry reached text written is = by (was_halted entry.told) refl where
    begun : IsBegun cell (length (lines_of cell blocks) + 1) head entries
    begun = reached.stage

    each : All (EntryIsWritten cell) (entries ++ entry ∷ [])
    each = All-push (EntryIsWritten cell) entries entry begun.each written

    are : lines ++ line ∷ [] ≡ lines_of cell blocks ++ joined (head_words head.shift head.after) ∷ map (entry_line cell)
        (entries ++ entry ∷ [])
    are =
        one_more (joined (head_words head.shift head.after) ∷ map (entry_line cell) entries) (entry_line cell entry) reached.are
        (line_is line (entry_words cell entry) text)
        ∙ ap (λ xs. lines_of cell blocks ++ joined (head_words head.shift head.after) ∷ xs) (map_more (entry_line cell) entries entry)

    by : (halted : Bool) → was_halted entry.told ≡ halted → Next r
    by true halted =
        subst Next
        (sym (ap (λ b. cond b (closed blocks head (entries ++ entry ∷ []) tails.Halted)
        (blocks, Entries head (entries ++ entry ∷ []))) halted) ∙ is)
        (close cell blocks reached.fit reached.numbered (lines ++ line ∷ []) head (entries ++ entry ∷ []) tails.Halted begun.number
        (record {
          shift = begun.shift;
          after = begun.after;
          entries = each;
          halts =
              record { front = entries; last = entry; are = refl; unhalted = begun.unhalted; halted = halted };
          tail = tt;
        })
        (are ∙ ap (λ xs. lines_of cell blocks ++ joined (head_words head.shift head.after) ∷ xs)
        (sym (append-nil (map (entry_line cell) (entries ++ entry ∷ []))))))
    by false halted =
        subst Next
        (sym (ap (λ b. cond b (closed blocks head (entries ++ entry ∷ []) tails.Halted)
        (blocks, Entries head (entries ++ entry ∷ []))) halted) ∙ is)
        (record {
          are = are;
          fit = reached.fit;
          numbered = reached.numbered;
          stage = record {
            number = begun.number;
            shift = begun.shift;
            after = begun.after;
            each = each;
            unhalted =
                unhalted_more entries entry begun.unhalted halted;
          };
        })

  on_entries-sound : (head : Head) (entries : List Entry) → IsReached cell blocks (Entries head entries) lines
      → on_entries cell blocks head entries (words line) ≡ Some r → Next r
  unfolding on_entries
  on_entries-sound head entries reached is =
      elim (either (λ entry. Some (on_entry blocks head entries entry)) (entry_at cell (words line)) _ (Some r) is) [
        | inl found ↦
            let read = entry_at-sound cell (words line) found.0 found.1 in
            on_entry-sound head entries found.0 reached read.text read.written (same_Some _ r found.2)
        | inr is ↦
            let left = bind_some _ (left_at (words line)) r is in
            let read = left_at-sound (words line) left.0 left.1 in
            subst Next (same_Some _ r left.2)
            (record {
              are = one_more (joined (head_words head.shift head.after) ∷ map (entry_line cell) entries)
                  (joined (left_words left.0)) reached.are (line_is line (left_words left.0) read.0);
              fit = reached.fit;
              numbered = reached.numbered;
              stage = (reached.stage, read.1);
            })
      ]

  on_left-sound : (head : Head) (entries : List Entry) (left : ℕ) → IsReached cell blocks (Left head entries left) lines
      → on_left blocks head entries left (words line) ≡ Some r → Next r
  unfolding on_left
  on_left-sound head entries left reached is = by plan.0 plan_read.0 plan_read.1 (plan.0 == 0) refl (same_Some _ r plan.2) where
    plan : (p : ℕ) × (plan_at (words line) ≡ Some p) ×
        (Some (cond (p == 0) (closed blocks head entries (tails.Planned left [])) (blocks, Steps head entries left p [])) ≡ Some r)
    plan = bind_some
        (λ p. Some (cond (p == 0) (closed blocks head entries (tails.Planned left [])) (blocks, Steps head entries left p [])))
        (plan_at (words line)) r is

    plan_read : (words line ≡ plan_words plan.0) × (plan.0 < 2 ^ 64)
    plan_read = plan_at-sound (words line) plan.0 plan.1

    begun : IsBegun cell (length (lines_of cell blocks) + 1) head entries
    begun = reached.stage.0

    are : (p : ℕ) → words line ≡ plan_words p
        → lines ++ line ∷ [] ≡ lines_of cell blocks ++ with_head cell head entries (joined (left_words left) ∷ joined (plan_words p) ∷ [])
    are p text =
        one_more (joined (head_words head.shift head.after) ∷ map (entry_line cell) entries ++ joined (left_words left) ∷ [])
        (joined (plan_words p)) reached.are (line_is line (plan_words p) text)
        ∙ ap (λ xs. lines_of cell blocks ++ joined (head_words head.shift head.after) ∷ xs)
        (append_assoc (map (entry_line cell) entries) (joined (left_words left) ∷ []) (joined (plan_words p) ∷ []))

    by : (p : ℕ) → words line ≡ plan_words p → p < 2 ^ 64 → (none : Bool) → (p == 0) ≡ none
        → cond (p == 0) (closed blocks head entries (tails.Planned left [])) (blocks, Steps head entries left p []) ≡ r → Next r
    by p text small true none is =
        let zero_steps : p ≡ 0 = eqb-true p 0 none in
        subst Next
        (sym (ap (λ b. cond b (closed blocks head entries (tails.Planned left [])) (blocks, Steps head entries left p [])) none) ∙ is)
        (close cell blocks reached.fit reached.numbered (lines ++ line ∷ []) head entries (tails.Planned left []) begun.number
        (record {
          shift = begun.shift;
          after = begun.after;
          entries = begun.each;
          halts = begun.unhalted;
          tail =
              (reached.stage.1, lit< tt, All-nil (StepIsWritten cell));
        })
        (subst (λ (n : ℕ). lines ++ line ∷ [] ≡ lines_of cell blocks ++ with_head cell head entries
        (joined (left_words left) ∷ joined (plan_words n) ∷ []))
        zero_steps (are p text)))
    by p text small false none is =
        subst Next
        (sym (ap (λ b. cond b (closed blocks head entries (tails.Planned left [])) (blocks, Steps head entries left p [])) none) ∙ is)
        (record {
          are = are p text ∙ ap
              (λ n. lines_of cell blocks ++ with_head cell head entries (joined (left_words left) ∷ joined (plan_words n) ∷ []))
              (sym (add-zero p));
          fit = reached.fit;
          numbered = reached.numbered;
          stage = (
            begun,
            record {
              parts = reached.stage.1;
              some = positive p none;
              short = omega (arith, small);
              each =
                  All-nil (StepIsWritten cell);
            },
          );
        })

  on_steps-sound : (head : Head) (entries : List Entry) (left missing : ℕ) (steps : List Request)
      → IsReached cell blocks (Steps head entries left missing steps) lines
      → on_steps cell blocks head entries left missing steps (words line) ≡ Some r → Next r
  unfolding on_steps
  on_steps-sound head entries left missing steps reached is = by (missing == 1) refl where
    next : Request → Reading
    next step = cond (missing == 1) (closed blocks head entries (tails.Planned left (steps ++ step ∷ [])))
        (blocks, Steps head entries left (missing - 1) (steps ++ step ∷ []))

    step : (step : Request) × (step_at cell (words line) ≡ Some step) × (Some (next step) ≡ Some r)
    step = bind_some (λ step. Some (next step)) (step_at cell (words line)) r is

    read : IsStepLine cell (words line) step.0
    read = step_at-sound cell (words line) step.0 step.1

    begun : IsBegun cell (length (lines_of cell blocks) + 1) head entries
    begun = reached.stage.0

    going : IsInSteps cell left missing steps
    going = reached.stage.1

    all : List Request
    all = steps ++ step.0 ∷ []

    each : All (StepIsWritten cell) all
    each = All-push (StepIsWritten cell) steps step.0 going.each read.written

    count : length all ≡ length steps + 1
    count = length-append steps (step.0 ∷ [])

    are : (total : ℕ) → total ≡ missing + length steps
        → lines ++ line ∷ [] ≡ lines_of cell blocks ++ with_head cell head entries
        (joined (left_words left) ∷ joined (plan_words total) ∷ map (step_line cell) all)
    are total same =
        one_more (joined (head_words head.shift head.after) ∷ map (entry_line cell) entries ++ joined (left_words left) ∷ joined
        (plan_words (missing + length steps)) ∷ map (step_line cell) steps) (step_line cell step.0)
        reached.are (line_is line (request_words cell step.0) read.text)
        ∙ ap (λ xs. lines_of cell blocks ++ joined (head_words head.shift head.after) ∷ xs)
        (append_assoc (map (entry_line cell) entries)
        (joined (left_words left) ∷ joined (plan_words (missing + length steps)) ∷ map (step_line cell) steps) (step_line cell step.0 ∷ [])
        ∙ ap (λ xs. map (entry_line cell) entries ++ joined (left_words left) ∷ joined (plan_words (missing + length steps)) ∷ xs)
        (map_more (step_line cell) steps step.0)
        ∙ ap (λ n. map (entry_line cell) entries ++ joined (left_words left) ∷ joined (plan_words n) ∷ map (step_line cell) all) (sym same))

    by : (last : Bool) → (missing == 1) ≡ last → Next r
    by true last =
        let one : missing ≡ 1 = eqb-true missing 1 last in
        subst Next
        (sym (ap (λ b. cond b (closed blocks head entries (tails.Planned left all))
        (blocks, Steps head entries left (missing - 1) all)) last) ∙ same_Some _ r step.2)
        (close cell blocks reached.fit reached.numbered (lines ++ line ∷ []) head entries (tails.Planned left all) begun.number
        (record {
          shift = begun.shift;
          after = begun.after;
          entries = begun.each;
          halts = begun.unhalted;
          tail =
              (going.parts, omega (arith, going.short, count, one), each);
        })
        (are (length all) (omega (arith, count, one))))
    by false last =
        let more : 1 < missing = above_one missing going.some last in
        subst Next
        (sym (ap (λ b. cond b (closed blocks head entries (tails.Planned left all))
        (blocks, Steps head entries left (missing - 1) all)) last) ∙ same_Some _ r step.2)
        (record {
          are = are ((missing - 1) + length all) (omega (arith, count, more));
          fit = reached.fit;
          numbered = reached.numbered;
          stage = (
            begun,
            record { parts = going.parts; some = omega (arith, more); short = omega (arith, going.short, count, more); each = each },
          );
        })

  -- each line that is read leads on
  pub on_line-sound : (n : ℕ) (stage : Stage) → n ≡ length lines + 1 → IsReached cell blocks stage lines
      → on_line cell n blocks stage (words line) ≡ Some r → Next r
  unfolding on_line
  on_line-sound n Between count reached is = on_head-sound n count reached is
  on_line-sound n (Entries head entries) count reached is = on_entries-sound head entries reached is
  on_line-sound n (Left head entries left) count reached is = on_left-sound head entries left reached is
  on_line-sound n (Steps head entries left missing steps) count reached is = on_steps-sound head entries left missing steps reached is
