-- The lines of a block, one after the other, are its text.
use Rattle.std.proofs.Common.{◌≡◌, Bool, true, false, ℕ, List, [], ◌∷◌, ◌++◌, length, map, refl, sym, ap, ◌∙◌, append-nil}
use Rattle.std.specs.Prelude.{if◌then◌else◌}
use Rattle.std.specs.List.{concat, flat_map}
use Rattle.std.proofs.lemmas.List.Folds.{concat-append}
use Rattle.cell_base.specs.declared.cells.Cell.{Cell}
use Rattle.cell_base.specs.declared.requests.Part.{Part}
use Rattle.cell_base.specs.declared.requests.Request.{Request}
use Rattle.cell_base.specs.declared.shifts.Entry.{Entry}
use Rattle.cell_base.specs.Histories.{after}
use Rattle.cell_base.specs.Scripts.{holds_halt}
use Rattle.record_text.specs.Lines.{line_of, head_words, left_words}
use Rattle.record_text.specs.Records.{text_of_block, text_of_entries, text_of_record}
use Rattle.record_text.specs.declared.blocks.Tail.TheVariants.{Halted, Planned}
use Rattle.record_printer.specs.Blocks.{entry_line, step_line, history_lines, plan_lines, planned_block}

concat-map : {X : Type 0} (f : X → List ℕ) (xs : List X) → concat (map f xs) ≡ flat_map f xs
concat-map f [] = refl
concat-map f (x ∷ xs) = ap (λ (text : List ℕ). f x ++ text) (concat-map f xs)

module _ (cell : Cell) where
  -- a history without a halt has a plan
  pub planned_text : (parts : List Part) (shift grants : ℕ) (history : List Entry) (plan : List Request) → holds_halt history ≡ false
      → concat (planned_block cell shift grants history (length (after cell parts history)) plan)
      ≡ text_of_record cell parts shift grants history plan
  unfolding planned_block
  planned_text parts shift grants history plan unhalted =
      let left : List ℕ = line_of (left_words (length (after cell parts history))) in
      concat-append (history_lines cell shift grants history) (left ∷ plan_lines cell plan)
      ∙ rw (unhalted, concat-map (entry_line cell) history, concat-map (step_line cell) plan) refl

  -- after a halt nothing follows
  pub halted_text : (parts : List Part) (shift grants : ℕ) (history : List Entry) (plan : List Request) → holds_halt history ≡ true
      → concat (history_lines cell shift grants history) ≡ text_of_record cell parts shift grants history plan
  halted_text parts shift grants history plan halted =
      ap (λ (text : List ℕ). line_of (head_words shift grants) ++ text) (concat-map (entry_line cell) history)
      ∙ sym (append-nil (line_of (head_words shift grants) ++ text_of_entries cell history))
      ∙ ap (λ (b : Bool). text_of_block cell (record {
        first_line = 1;
        shift = shift;
        after = grants;
        entries = history;
        tail = if b then Halted else Planned (length (after cell parts history)) plan;
      })) (sym halted)
