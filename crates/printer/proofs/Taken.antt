-- What a sink tells of lines that a new printer printed, where it has failed.
use Rattle.std.proofs.Common.{◌≡◌, ◌∙◌, ℕ, true, false, List, sym}
use Rattle.outside_io.specs.Causes.{HasCause}
use Rattle.outside_io.specs.Meanings.{SinkMeaning}
use Rattle.std.specs.Prelude.{Err, ⊤}
use Rattle.outside_io.specs.declared.fault.Failed.{Failed}
use Rattle.printer.specs.Printing.{Cut, Printed, Silent, Whole}
use Rattle.printer.specs.declared.printer.Printer.{Printer}

module _ {K : Type 0} (sink : SinkMeaning K) (old new : Printer K) (lines : List (List ℕ)) where
  -- the count of its faults rose
  pub has_risen : old.failed ≡ false → new.failed ≡ true → Printed sink old new lines → (failed : Failed)
      → HasCause {T = ⊤} (sink.faults old.out.now) (sink.faults new.out.now) (Err failed)
  has_risen none is (Whole was now all kept) failed = absurd (let no : true ≡ false = sym is ∙ now in cc)
  has_risen none is (Cut was now some later rose) failed = record { later = later; failed = rose; kept = tt }
  has_risen none is (Silent was now same) failed = absurd (let no : true ≡ false = sym was ∙ none in cc)
