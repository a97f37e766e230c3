-- What a line says in its turn is what the reading does with it.
use Rattle.std.proofs.Common.{◌≡◌, ℕ, ◌-◌, ◌<◌, Bool, true, false, cond, ◌==◌, List, []}
use Rattle.std.proofs.Common.{◌∷◌, ◌++◌, Option, Some, None, ◌≢◌, ⊎_elim, refl, sym, ap, ◌∙◌, arith}
use Rattle.std.specs.Option.{option_map, option_map_or}
use Rattle.std.proofs.lemmas.Bool.{cases_eq, eq-eqb, ne_eqb}
use Rattle.cell_base.specs.declared.cells.Cell.{Cell}
use Rattle.cell_base.specs.declared.requests.Request.{Request}
use Rattle.cell_base.specs.declared.shifts.Entry.{Entry}
use Rattle.cell_base.specs.Fits.{RequestFits}
use Rattle.cell_base.specs.Histories.{was_halted}
use Rattle.record_text.specs.declared.blocks.Block.{Block}
use Rattle.record_text.specs.declared.blocks.Tail.TheVariants as tails
use Rattle.record_text.specs.declared.record_lines.RecordLine.{RecordLine}
use Rattle.record_text.specs.declared.record_lines.RecordLine.TheVariants as lines
use Rattle.record_text.specs.declared.record_lines.Turn.TheVariants as turns
use Rattle.record_text.specs.declared.stages.Stage.{Stage}
use Rattle.record_text.specs.declared.stages.Stage.TheVariants.{Between, Entries, Left, Steps}
use Rattle.record_text.specs.Progress.{closed, on_head, on_entry, on_entries, on_left, on_steps, on_line}
use Rattle.record_text.specs.Reading.{Words, ◌>>=◌, entry_at, head_at, left_at, plan_at, step_at}
use Rattle.record_text.specs.Turns.{IsTurn, Suits, before_steps, line_at, turn_after, turn_of, with_line}
use Rattle.record_text.proofs.Requesting.{step_fits}
use Rattle.record_text.proofs.Wording.{entry_at-sound, step_at-sound}

-- a value that is made of what is read, if something is
bind_map : {A B C : Type 0} (o : Option A) (f : A → Option C) (g : A → B) (h : B → C) → ((x : A) → f x ≡ Some (h (g x)))
    → (o >>= f) ≡ option_map h (option_map g o)
bind_map None f g h same = refl
bind_map (Some x) f g h same = same x

either_map : {A B C D : Type 0} (o : Option A) (p : Option D) (f : A → Option C) (e : D → Option C) (g : A → B) (k : D → B) (h : B → C)
    → ((x : A) → f x ≡ Some (h (g x))) → ((x : D) → e x ≡ Some (h (k x)))
    → option_map_or f o (p >>= e) ≡ option_map h (option_map_or (λ x. Some (g x)) o (option_map k p))
either_map None p f e g k h same other = bind_map p e k h other
either_map (Some x) p f e g k h same other = same x

pub on_line-said : (cell : Cell) (n : ℕ) (blocks : List Block) (stage : Stage) (ws : Words)
    → on_line cell n blocks stage ws ≡ option_map (with_line n blocks stage) (line_at cell (turn_of stage) ws)
unfolding on_line on_head on_entries on_entry on_left on_steps
on_line-said cell n blocks Between ws = bind_map (head_at ws) _ _ _ (λ head. refl)
on_line-said cell n blocks (Entries head entries) ws = either_map (entry_at cell ws) (left_at ws) _ _ _ _ _ (λ entry. refl) (λ left. refl)
on_line-said cell n blocks (Left head entries left) ws = bind_map (plan_at ws) _ _ _ (λ steps. refl)
on_line-said cell n blocks (Steps head entries left missing steps) ws = bind_map (step_at cell ws) _ _ _ (λ step. refl)

one_less : (missing : ℕ) → 0 < missing → (missing - 1 == 0) ≡ (missing == 1)
one_less missing some = ⊎_elim
    (λ (one : missing ≡ 1). eq-eqb _ _ (omega (arith, one)) ∙ sym (eq-eqb _ _ one))
    (λ (more : missing ≢ 1). ne_eqb _ _ (λ none. more (omega (arith, none, some))) ∙ sym (ne_eqb _ _ more))
    (cases_eq missing 1)

-- the turn after a line is that of what was read with it
pub turn_next : (n : ℕ) (blocks : List Block) (stage : Stage) (line : RecordLine) → IsTurn (turn_of stage) → Suits (turn_of stage) line
    → turn_after (turn_of stage) line ≡ turn_of (with_line n blocks stage line).1
turn_next n blocks Between (lines.Head shift after) runs is = refl
turn_next n blocks (Entries head entries) (lines.Entry entry) runs is = by (was_halted entry.told) where
  by : (b : Bool) → cond b turns.Between turns.Entries
      ≡ turn_of (cond b (closed blocks head (entries ++ entry ∷ []) tails.Halted) (blocks, Entries head (entries ++ entry ∷ []))).1
  by true = refl
  by false = refl
turn_next n blocks (Entries head entries) (lines.Left left) runs is = refl
turn_next n blocks (Left head entries left) (lines.Plan steps) runs is = by (steps == 0) where
  by : (b : Bool) → cond b turns.Between (turns.Steps steps)
      ≡ turn_of (cond b (closed blocks head entries (tails.Planned left [])) (blocks, Steps head entries left steps [])).1
  by true = refl
  by false = refl
turn_next n blocks (Steps head entries left missing steps) (lines.Step step) runs is = before missing runs where
  by : (missing : ℕ) (b : Bool) → cond b turns.Between (turns.Steps (missing - 1))
      ≡ turn_of (cond b (closed blocks head entries (tails.Planned left (steps ++ step ∷ [])))
      (blocks, Steps head entries left (missing - 1) (steps ++ step ∷ []))).1
  by missing true = refl
  by missing false = refl

  before : (missing : ℕ) → 0 < missing → before_steps (missing - 1)
      ≡ turn_of (cond (missing == 1) (closed blocks head entries (tails.Planned left (steps ++ step ∷ [])))
      (blocks, Steps head entries left (missing - 1) (steps ++ step ∷ []))).1
  before missing some =
      ap (λ b. cond b turns.Between (turns.Steps (missing - 1))) (one_less missing some) ∙ by missing (missing == 1)
turn_next n blocks Between (lines.Entry entry) runs is = absurd is
turn_next n blocks Between (lines.Left left) runs is = absurd is
turn_next n blocks Between (lines.Plan steps) runs is = absurd is
turn_next n blocks Between (lines.Step step) runs is = absurd is
turn_next n blocks (Entries head entries) (lines.Head shift after) runs is = absurd is
turn_next n blocks (Entries head entries) (lines.Plan steps) runs is = absurd is
turn_next n blocks (Entries head entries) (lines.Step step) runs is = absurd is
turn_next n blocks (Left head entries left) (lines.Head shift after) runs is = absurd is
turn_next n blocks (Left head entries left) (lines.Entry entry) runs is = absurd is
turn_next n blocks (Left head entries left) (lines.Left other) runs is = absurd is
turn_next n blocks (Left head entries left) (lines.Step step) runs is = absurd is
turn_next n blocks (Steps head entries left missing steps) (lines.Head shift after) runs is = absurd is
turn_next n blocks (Steps head entries left missing steps) (lines.Entry entry) runs is = absurd is
turn_next n blocks (Steps head entries left missing steps) (lines.Left other) runs is = absurd is
turn_next n blocks (Steps head entries left missing steps) (lines.Plan more) runs is = absurd is

-- only a stage between two blocks has their turn
pub stage_between : (stage : Stage) → turns.Between ≡ turn_of stage → stage ≡ Between
stage_between Between is = refl
stage_between (Entries head entries) is = absurd cc
stage_between (Left head entries left) is = absurd cc
stage_between (Steps head entries left missing steps) is = absurd cc

pub entry_fits : (cell : Cell) (ws : Words) (entry : Entry) → entry_at cell ws ≡ Some entry → RequestFits cell entry.request
entry_fits cell ws entry is = (entry_at-sound cell ws entry is).written.fits.request

pub step_read_fits : (cell : Cell) (ws : Words) (step : Request) → step_at cell ws ≡ Some step → RequestFits cell step
step_read_fits cell ws step is = step_fits cell step (step_at-sound cell ws step is).written.step
