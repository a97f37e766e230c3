-- How the outcomes of `make` come about.
use Rattle.std.proofs.Common.{◌≡◌, ℕ, List, Some, None, ap, refl}
use Rattle.std.specs.Prelude.{Option, ok_or, ◌-◌, ◌^◌}
use Rattle.cell_walks.specs.Allowed.{ByMemory, ByRefusal, IsAllowed, Passed, Stopped}
use Rattle.cell_walks.specs.DiskTold.{no_disk}
use Rattle.cell_walks.specs.Observed.{FilesTold, observed}
use Rattle.cell_walks.specs.Outcomes.{done, early}
use Rattle.cell_walks.specs.Walks.{refusal_of}
use Rattle.cell_walks.specs.declared.early_end.EarlyEnd.TheVariants.{Refused, WantOfMemory}
use Rattle.cell_walks.proofs.Steps.{none_done}
use Rattle.step_text.specs.Words.{number_of}
use Rattle.make_command.specs.Make.{IsSummaryOf, make}
use Rattle.cell_texts.specs.Numbers.{number}
use Rattle.make_command.specs.Summaries.{summary_lines}
use Rattle.make_command.specs.declared.summary.Summary.{Summary}

module _ (files : FilesTold) (usage word : List ℕ) where
  -- the word is no number
  pub make_unread : number_of 0 (2 ^ 64 - 1) word ≡ None
      → IsAllowed (observed files no_disk) (make usage word) (early (Refused (refusal_of (number usage word) usage)))
  make_unread none =
      Stopped (Refused (refusal_of (number usage word) usage))
      (ByRefusal tt (ap (λ (o : Option ℕ). ok_or o tt) none) usage refl refl) (refl, none_done)

  -- it is one, and memory is wanting
  pub make_starved : IsAllowed (observed files no_disk) (make usage word) (early WantOfMemory)
  make_starved = Stopped WantOfMemory (ByMemory refl) (refl, none_done)

  -- it is one, and its shift ran
  pub make_done : (n : ℕ) (summary : Summary) → number_of 0 (2 ^ 64 - 1) word ≡ Some n → IsSummaryOf n summary
      → IsAllowed (observed files no_disk) (make usage word) (done (summary_lines summary))
  make_done n summary is summed =
      Passed n (ap (λ (o : Option ℕ). ok_or o tt) is) ((summary, summed, refl), none_done)
