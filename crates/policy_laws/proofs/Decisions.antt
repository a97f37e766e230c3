-- Decisions: a request is granted, and refused for a full neighborhood, exactly by its tests and the state that it asks for.
use Rattle.std.proofs.Common.{◌≡◌, ℕ, zero, suc, ◌+◌, ◌<◌, ◌≤◌, ◌↔◌, Bool, true, false, cond, nat_lt, find}
use Rattle.std.proofs.Common.{List, length, Option, Some, None, ap, refl, sym, subst, arith, ◌∙◌, ⊎_elim}
use Rattle.std.specs.List.{range_with_len}
use Rattle.std.proofs.lemmas.Bool.{ltb-true, ltb-false, false≢true, cases_eq}
use Rattle.std.proofs.lemmas.Option.{none-some, same_Some}
use Rattle.cell_base.specs.declared.cells.Cell.{Cell}
use Rattle.cell_base.specs.declared.cells.ResId.{ResId}
use Rattle.cell_base.specs.declared.requests.Part.{Part}
use Rattle.cell_base.specs.declared.requests.Refusal.{Refusal}
use Rattle.cell_base.specs.declared.requests.Refusal.TheVariants.{Saturated}
use Rattle.cell_base.specs.declared.requests.Reply.{Reply}
use Rattle.cell_base.specs.declared.requests.Reply.TheVariants.{Granted, Refused}
use Rattle.cell_base.specs.Stages.{resource_numbers, capacity_of}
use Rattle.cell_base.specs.Neighborhoods.{count}
use Rattle.cell_base.specs.Policy.{IsAdmitted, first_over}
use Rattle.cell_base.specs.Outcomes.{refuse, admit, outcome}
use Rattle.cell_base.specs.Fits.{CellFits}
use Rattle.cell_base.proofs.Admission.{all_numbers}
use Rattle.policy_laws.specs.Laws.{IsFull}
use Rattle.policy_laws.specs.Decisions.{PassesTests, wanted, is_saturation, is_saturated, IsFirstOverfilled, DecisionLaw}
use Rattle.lists.proofs.Elements.{find_passes, All-found}
use Rattle.policy_laws.proofs.States.{within-first_over}
use Rattle.policy_laws.proofs.Endings.{Follows, Ending, refused, granted, admitted, ending}
use Rattle.policy_laws.proofs.Admission.{admit_saturated}

-- no number of a range before the first one that passes a test passes it
fails_before : (p : ℕ → Bool) (a n r : ℕ) → find p (range_with_len a n) ≡ Some r → (k : ℕ) → a ≤ k → k < r → p k ≡ false
fails_before p a zero r e k from below = absurd (none-some r e)
fails_before p a (suc n) r e k from below =
    at (p a) refl e (λ later other. fails_before p (a + 1) n r later k (omega (arith, other)) below)
  where
    at : (b : Bool) → p a ≡ b → cond b (Some a) (find p (range_with_len (a + 1) n)) ≡ Some r
        → (find p (range_with_len (a + 1) n) ≡ Some r → (k ≡ a → ⊥) → p k ≡ false) → p k ≡ false
    at true passes here later = let first : a ≡ r = same_Some a r here in absurd (omega arith)
    at false fails behind later = ⊎_elim (λ (same : k ≡ a). subst (λ q. p q ≡ false) (sym same) fails) (later behind) (cases_eq k a)

-- the resource that is first over is the first overfilled one
first_overfilled : (cell : Cell) (parts : List Part) (r : ℕ) → first_over cell parts ≡ Some r → IsFirstOverfilled cell parts r
first_overfilled cell parts r e =
    let is_over : ℕ → Bool = λ q. nat_lt (capacity_of cell q) (count cell parts q) in
    let numbers = all_numbers (length cell.resources) (λ q. q < length cell.resources) (λ q h. h) in
    record {
      resource = All-found (λ q. q < length cell.resources) is_over (resource_numbers cell) r numbers e;
      over = ltb-true _ _ (find_passes is_over (resource_numbers cell) r e);
      before = λ q below. ltb-false _ _ (fails_before is_over 0 (length cell.resources) r e q (omega arith) below);
    }

-- a reply, and the state after it, where the tests are these and the request asks for this state
record Decided (cell : Cell) (parts : List Part) (Passes : Type 0) (next : List Part) (o : Reply × List Part) : Type 0 where
  given : (o.0 ≡ Granted) ↔ (Passes × IsAdmitted cell next)
  saturated : (is_saturated o.0 ≡ true) ↔ (Passes × ¬ IsAdmitted cell next)
  least : (at : ResId) (held units : ℕ) → o.0 ≡ Refused (Saturated at held units) → IsFirstOverfilled cell next at.0
  full : (at : ResId) (held units : ℕ) → o.0 ≡ Refused (Saturated at held units) → IsFull cell parts at held units
  state : o.0 ≡ Granted → o.1 ≡ next

module _ (cell : Cell) (parts : List Part) (within : IsAdmitted cell parts) (Passes : Type 0) (next : List Part) where
  by_grant : Passes → IsAdmitted cell next → Decided cell parts Passes next (Granted, next)
  by_grant passes fits = record {
    given = (λ e. (passes, fits), λ both. refl);
    saturated = (λ e. absurd (false≢true e), λ both. absurd (both.1 fits));
    least = λ at held units e. absurd (cc e);
    full = λ at held units e. absurd (cc e);
    state = λ e. refl;
  }

  by_test : (why : Refusal) → is_saturation why ≡ false → (Passes → ⊥) → Decided cell parts Passes next (refuse why parts)
  by_test why plain stops = record {
    given = (λ e. absurd (cc e), λ both. absurd (stops both.0));
    saturated = (λ e. absurd (false≢true (sym plain ∙ e)), λ both. absurd (stops both.0));
    least = λ at held units e. absurd (unlike at held units (cc e));
    full = λ at held units e. absurd (unlike at held units (cc e));
    state = λ e. absurd (cc e);
  }
    where
      unlike : (at : ResId) (held units : ℕ) → why ≡ Saturated at held units → ⊥
      unlike at held units e = false≢true (sym plain ∙ ap is_saturation e)

  by_neighborhoods : Passes → Follows cell parts 1 next → Decided cell parts Passes next (admit cell parts next)
  by_neighborhoods passes follows = at (first_over cell next) refl
    where
      at : (over : Option ℕ) → first_over cell next ≡ over → Decided cell parts Passes next (admit cell parts next)
      at None e =
          let is : admit cell parts next ≡ (Granted, next) = rw e in
          subst (Decided cell parts Passes next) (sym is)
          (by_grant passes (record { state = follows.state; within = within-first_over cell next e }))
      at (Some r) e =
          let why : Refusal = Saturated (record { 0 = r }) (count cell parts r) (capacity_of cell r) in
          let is : admit cell parts next ≡ refuse why parts = rw e in
          let first = first_overfilled cell next r e in
          subst (Decided cell parts Passes next) (sym is) (record {
            given = (λ f. absurd (cc f), λ both. absurd (omega (arith, both.1.within r first.resource, first.over)));
            saturated = (λ f. (passes, λ fits. absurd (omega (arith, fits.within r first.resource, first.over))), λ both. refl);
            least = λ at held units f. subst (IsFirstOverfilled cell next) (cc f) first;
            full = λ at held units f.
                admit_saturated cell parts next within follows at held units (ap (λ (o : Reply × List Part). o.0) is ∙ f);
            state = λ f. absurd (cc f);
          })

  by_ending : (o : Reply × List Part) → Ending cell parts Passes next o → Decided cell parts Passes next o
  by_ending o (refused why plain stops) = by_test why plain stops
  by_ending o (granted passes follows) =
      by_grant passes (record { state = follows.state; within = λ r h. omega (arith, follows.counts r, within.within r h) })
  by_ending o (admitted passes follows) = by_neighborhoods passes follows

pub decision_law : (cell : Cell) → CellFits cell → DecisionLaw cell
decision_law cell fits parts within request h =
    let is = by_ending cell parts within (PassesTests cell parts request) (wanted cell parts request) (outcome cell parts request)
    (ending cell fits parts within.state request h) in
    record {
      reply = record { granted = is.given; saturated = is.saturated; least = is.least; full = is.full };
      state = is.state;
    }
