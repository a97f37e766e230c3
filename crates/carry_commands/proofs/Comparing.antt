-- The grants of a journal, compared with the requests of a start one by one.
use Rattle.std.specs.Prelude.{IfNone, IfSome}
use Rattle.std.proofs.Common.{◌≡◌, ℕ, ◌+◌, Option, Some, None, List, [], ◌∷◌, ◌++◌, slice_get}
use Rattle.std.proofs.Common.{refl, sym, ap, ◌∙◌, subst, arith, append_assoc, length-append}
use Rattle.cell_base.specs.declared.requests.Request.{Request}
use Rattle.cell_base.specs.declared.shifts.Grant.{Grant}
use Rattle.journal_texts.specs.AskedSteps.{step_grant}
use Rattle.carry_commands.specs.Starts.{ArePrefix, HasCompared, IsOtherStart}
use Rattle.carry_commands.proofs.Firsts.{another, one_more, too_many}

module _ (requests : List Request) (grants : List Grant) (held : ℕ) where
  -- ---- one grant more

  module _ (grant : Grant) where
    -- it is the next one of the start
    pub goes_on : (other : Option ℕ) → other ≡ None → HasCompared requests grants held other → (request : Request)
        → slice_get requests held ≡ Some request → grant ≡ step_grant request
        → HasCompared requests (grants ++ grant ∷ []) (held + 1) other
    goes_on None none (first, count) request there same = (
      one_more requests grants first grant request (subst (λ (n : ℕ). slice_get requests n ≡ Some request) count there) same,
      omega (arith, count, length-append grants (grant ∷ [])),
    )
    goes_on (Some at) none other request there same = absurd cc

    -- it is another
    pub strays : (other : Option ℕ) → other ≡ None → HasCompared requests grants held other → (request : Request)
        → slice_get requests held ≡ Some request → (grant ≡ step_grant request → ⊥) → IsOtherStart requests (grants ++ grant ∷ []) held
    strays None none (first, count) request there differs =
        subst (λ (n : ℕ). (slice_get requests n ≡ Some request) → IsOtherStart requests (grants ++ grant ∷ []) n) (sym count)
        (λ there. another requests grants first grant request there differs) there
    strays (Some at) none other request there differs = absurd cc

    -- the start has no more requests
    pub overruns : (other : Option ℕ) → other ≡ None → HasCompared requests grants held other → slice_get requests held ≡ None
        → IsOtherStart requests (grants ++ grant ∷ []) held
    overruns None none (first, count) past =
        subst (λ (n : ℕ). (slice_get requests n ≡ None) → IsOtherStart requests (grants ++ grant ∷ []) n) (sym count)
        (too_many requests grants first grant) past
    overruns (Some at) none other past = absurd cc

    -- another one came before
    pub still_other : (other : Option ℕ) → (other ≡ None → ⊥) → HasCompared requests grants held other
        → HasCompared requests (grants ++ grant ∷ []) held other
    still_other None some compared = absurd (some refl)
    still_other (Some at) some is = record {
      before = is.before;
      stray = is.stray;
      later = is.later ++ grant ∷ [];
      parted = ap (λ (all : List Grant). all ++ grant ∷ []) is.parted ∙ append_assoc is.before (is.stray ∷ is.later) (grant ∷ []);
      index = is.index;
      first = is.first;
      strays = is.strays;
    }

  -- ---- all of them

  -- where the requests are those of this start
  module _ (start : List Request) (same : requests ≡ start) where
    pub none_other : (other : Option ℕ) → HasCompared requests grants held other → IfNone other (ArePrefix start grants)
    none_other None compared = subst (λ (rs : List Request). ArePrefix rs grants) same compared.0
    none_other (Some at) compared = tt

    pub first_other : (other : Option ℕ) → HasCompared requests grants held other → IfSome other (IsOtherStart start grants)
    first_other None compared = tt
    first_other (Some at) compared = subst (λ (rs : List Request). IsOtherStart rs grants at) same compared
