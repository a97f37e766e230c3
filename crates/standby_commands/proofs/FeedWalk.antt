-- How the outcomes of `feed` come about.
use Rattle.std.specs.Prelude.{IfErr, IfOk, nat_le, ok_or, Option, Some, None, ◌-◌, ◌^◌}
use Rattle.std.specs.List.{All}
use Rattle.std.proofs.Common.{◌≡◌, ℕ, ◌<◌, ◌≤◌, Bool, true, false, cond, List, length, Result, Ok, Err, refl, ◌∙◌, sym, ap, subst, arith}
use Rattle.std.proofs.lemmas.Bool.{le-leb, leb-true}
use Rattle.std.proofs.lemmas.List.Elements.{All-weaker}
use Rattle.cell_base.specs.declared.cells.Cell.{Cell}
use Rattle.cell_base.specs.declared.shifts.Grant.{Grant}
use Rattle.cell_base.specs.Fits.{RequestFits}
use Rattle.entry_codec.specs.Records.{HasRecord}
use Rattle.step_text.specs.Words.{number_of}
use Rattle.cell_walks.specs.Allowed.{ByRefusal, IsAllowed, IsOpenedAs, JournalOpened, NotOpened, Passed, Stopped}
use Rattle.cell_walks.specs.DiskTold.{DiskTold, IsOnlyRead, IsUntouched}
use Rattle.cell_walks.specs.Observed.{FilesTold, Observed}
use Rattle.cell_walks.specs.Outcomes.{Outcome, done, early}
use Rattle.cell_walks.specs.Walks.{Journal, refusal_of}
use Rattle.cell_walks.specs.declared.early_end.EarlyEnd.{EarlyEnd}
use Rattle.cell_walks.specs.declared.early_end.EarlyEnd.TheVariants.{Refused}
use Rattle.cell_texts.specs.Numbers.{number}
use Rattle.cell_texts.specs.Tests.{KnownCell}
use Rattle.cell_driver.specs.Driving.{Allowed, IsMade, on_cell}
use Rattle.journal_texts.specs.Tests.{to_read}
use Rattle.standby_link.specs.Fed.{fed}
use Rattle.standby_link.specs.Frames.{Feeding}
use Rattle.standby_link.proofs.FeedIsFed.{fit_has_record}
use Rattle.standby_commands.specs.Feed.{EndsFeeding, HasFed, HasTooFew, IsFeeding, TooFew, Unopened}
use Rattle.standby_commands.specs.Feed.{feed, feed_journal, within}
use Rattle.standby_commands.specs.Lines.{feed_refused}
use Rattle.standby_commands.specs.declared.feed.Feeding.{Feeding as FeedingFrom}

abbrev feeding_outcome : FeedingFrom → Outcome
feeding_outcome feeding = done (fed feeding.first feeding.feeder.grants)

-- there are enough grants
pub enough : (first : ℕ) (grants : List Grant) → first ≤ length grants → within first grants ≡ Ok tt
enough first grants some = ap (λ (test : Bool). cond test (Ok tt) (Err (length grants))) (le-leb first (length grants) some)

-- there are not
pub too_few : (first : ℕ) (grants : List Grant) → length grants < first → within first grants ≡ Err (length grants)
too_few first grants more = by_test (nat_le first (length grants)) refl
  where
    by_test : (test : Bool) → nat_le first (length grants) ≡ test → within first grants ≡ Err (length grants)
    by_test false is = ap (λ (t : Bool). cond t (Ok tt) (Err (length grants))) is
    by_test true is = absurd (let some = leb-true first (length grants) is in omega (arith, some, more))

-- requests that fit a cell have records
pub fit_have_records : (cell : Cell) (grants : List Grant) → All (λ (grant : Grant). RequestFits cell grant.request) grants
    → All HasRecord grants
fit_have_records cell grants fit =
    All-weaker (λ (grant : Grant). RequestFits cell grant.request) HasRecord
    (λ grant fits. fit_has_record cell grant.request fits) grants fit

-- an index within grants
pub is_within : (first : ℕ) (grants : List Grant) → within first grants ≡ Ok tt → first ≤ length grants
is_within first grants is = by_test (nat_le first (length grants)) refl
  where
    by_test : (test : Bool) → nat_le first (length grants) ≡ test → first ≤ length grants
    by_test true le = leb-true first (length grants) le
    by_test false gt =
        let both : Err (length grants) ≡ Ok tt = sym (ap (λ (t : Bool). cond t (Ok tt) (Err (length grants))) gt) ∙ is in absurd (cc)

pub are_within : (disk : DiskTold) (journal : Journal) (first : ℕ) (made : Result Feeding EarlyEnd)
    → IfOk made (IsFeeding disk journal first)
    → IfOk made (λ feeder. first ≤ length feeder.grants)
are_within disk journal first (Ok feeder) has = is_within first feeder.grants has.enough
are_within disk journal first (Err end) has = tt

-- ---- the journal

module _ (disk : DiskTold) (journal : Journal) (first : ℕ) (grants : List Grant) (opened : IsOpenedAs disk journal grants) where
  pub feeding : (made : Result Feeding EarlyEnd) → IfOk made (HasFed first grants) → IfOk made (IsFeeding disk journal first)
  feeding (Ok feeder) has = record {
    opened = subst (IsOpenedAs disk journal) (sym has.same) opened;
    enough = subst (λ (gs : List Grant). within first gs ≡ Ok tt) (sym has.same) has.enough;
  }
  feeding (Err end) has = tt

  pub ends_feeding : (made : Result Feeding EarlyEnd) → IfErr made (HasTooFew first grants) → IfErr made (EndsFeeding disk journal first)
  ends_feeding (Ok feeder) has = tt
  ends_feeding (Err end) has = TooFew grants opened has.few has.is

-- ---- the walk

module _ (seen : Observed) (usage cell from : List ℕ) where
  -- the word is no number
  pub feed_no_number : number_of 0 (2 ^ 64 - 1) from ≡ None → IsUntouched seen.disk
      → IsAllowed seen (feed usage cell from) (early (Refused (refusal_of (number usage from) usage)))
  feed_no_number none still =
      Stopped (Refused (refusal_of (number usage from) usage))
      (ByRefusal tt (ap (λ (o : Option ℕ). ok_or o tt) none) usage refl refl) (refl, still)

  -- it is one
  pub feed_numbered : (first : ℕ) (outcome : Outcome) → number_of 0 (2 ^ 64 - 1) from ≡ Some first
      → IsAllowed seen (on_cell cell (feed_journal first)) outcome → IsAllowed seen (feed usage cell from) outcome
  feed_numbered first outcome is allowed = Passed first (ap (λ (o : Option ℕ). ok_or o tt) is) allowed

module _ (files : FilesTold) (disk : DiskTold) (held : KnownCell) (first : ℕ) (only : IsOnlyRead disk) where
  -- the journal was read and has enough grants
  pub feed_made : (feeder : Feeding) → IsFeeding disk (to_read held) first feeder
      → IsMade files disk (feed_journal first held) feeding_outcome (Ok (record { feeder = feeder; first = first }))
  feed_made feeder has = Allowed (JournalOpened feeder.grants has.opened (Passed tt has.enough (refl, only)))

  -- or the command ends there
  pub feed_ended : (end : EarlyEnd) → EndsFeeding disk (to_read held) first end
      → IsMade files disk (feed_journal first held) feeding_outcome (Err end)
  feed_ended end (Unopened unopened) = Allowed (NotOpened end unopened refl)
  feed_ended end (TooFew grants opened few ends) =
      Allowed
      (JournalOpened grants opened
      (Stopped end (ByRefusal (length grants) few (feed_refused (length grants)) refl ends) (refl, only)))
