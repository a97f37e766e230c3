-- A history whose lines are printed one by one, and what is delivered at its end.
use Rattle.std.proofs.Common.{◌≡◌, ◌∙◌, ℕ, true, false, List, [], ◌∷◌, ◌++◌, refl, sym, ap}
use Rattle.std.proofs.lemmas.List.{map-append}
use Rattle.outside_io.specs.Meanings.{SinkMeaning, sink_seen}
use Rattle.cell_base.specs.declared.cells.Cell.{Cell}
use Rattle.cell_base.specs.declared.shifts.Entry.{Entry}
use Rattle.record_text.specs.Lines.{head_words, line_of}
use Rattle.cell_walks.specs.Outcomes.{IsDelivered, Outcome}
use Rattle.cell_walks.specs.Outcomes as delivery
use Rattle.cell_walks.specs.Statuses.{IsTaken}
use Rattle.printer.specs.Printing.{Cut, Printed, Prints, Silent, Whole, status_of}
use Rattle.printer.specs.declared.printer.Printer.{Printer}
use Rattle.printer.proofs.Sequences.{prints_as, prints_more}
use Rattle.record_printer.specs.Blocks.{entry_line, history_lines}

-- the line of one entry more
pub one_more : {K : Type 0} {sink : SinkMeaning K} {a b c : Printer K} (cell : Cell) (shift grants : ℕ) (history : List Entry) (entry : Entry)
    {line : List ℕ} → line ≡ entry_line cell entry → Prints sink a b (history_lines cell shift grants history)
    → Prints sink b c (line ∷ []) → Prints sink a c (history_lines cell shift grants (history ++ entry ∷ []))
one_more cell shift grants history entry is so_far one =
    prints_as
    (ap (λ (lines : List (List ℕ)). line_of (head_words shift grants) ∷ lines) (sym (map-append (entry_line cell) history (entry ∷ []))))
    (prints_more so_far (prints_as (ap (λ (l : List ℕ). l ∷ []) is) one))

-- what a new printer printed is delivered, with the status that it gives
pub delivered : {K : Type 0} (sink : SinkMeaning K) (old new : Printer K) (outcome : Outcome) → IsTaken outcome.status → old.failed ≡ false
    → Printed sink old new outcome.pieces
    → IsDelivered (sink_seen sink old.out.now new.out.now) outcome (status_of new outcome.status)
delivered sink old new outcome taken none (Whole was is all same) = delivery.Whole (rw is refl) taken all same
delivered sink old new outcome taken none (Cut was is some later rose) = delivery.Cut (rw is refl) some rose
delivered sink old new outcome taken none (Silent was is same) = absurd (let no : true ≡ false = sym was ∙ none in cc)
