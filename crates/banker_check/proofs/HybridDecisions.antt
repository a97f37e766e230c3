-- Decisions of the hybrid: a request is granted, and blocked, exactly by its tests and the state that it asks for.
use Rattle.std.proofs.Common.{◌≡◌, ℕ, zero, suc, ◌<◌, ◌≤◌, ◌↔◌, Bool, true, false, not, if◌then◌else◌, List}
use Rattle.std.proofs.Common.{◌⊎◌, inl, inr, Option, Some, None, ap, refl, sym, subst, arith, ◌∙◌, ⊎_elim}
use Rattle.std.specs.Option.{option_map_or}
use Rattle.std.proofs.lemmas.Bool.{cases_lt, cond_both, false≢true, true≢false}
use Rattle.std.proofs.lemmas.Option.{same_Some}
use Rattle.cell_base.specs.declared.cells.Cell.{Cell}
use Rattle.cell_base.specs.declared.cells.ResId.{ResId}
use Rattle.cell_base.specs.declared.requests.Part.{Part}
use Rattle.cell_base.specs.declared.requests.Refusal.{Refusal}
use Rattle.cell_base.specs.declared.requests.Refusal.TheVariants.{Saturated}
use Rattle.cell_base.specs.declared.requests.Reply.{Reply}
use Rattle.cell_base.specs.declared.requests.Reply.TheVariants.{Granted as Permitted, Refused as Denied}
use Rattle.banker_check.specs.declared.replies.HybridReply.{HybridReply}
use Rattle.banker_check.specs.declared.replies.HybridReply.TheVariants.{Granted, Blocked}
use Rattle.cell_base.specs.Stages.{capacity_of}
use Rattle.cell_base.specs.Neighborhoods.{count}
use Rattle.cell_base.specs.Policy.{IsState, first_over}
use Rattle.cell_base.specs.Outcomes.{refuse, admit, outcome}
use Rattle.cell_base.specs.Fits.{CellFits}
use Rattle.policy_laws.specs.Decisions.{IsFirstOverfilled, PassesTests, is_saturation, wanted}
use Rattle.policy_laws.proofs.Endings.{Ending as PolicyEnding, refused as stopped, granted as given, admitted as weighed}
use Rattle.policy_laws.proofs.Endings.{ending as policy_ending}
use Rattle.policy_laws.proofs.FirstOver.{first_over-at}
use Rattle.policy_laws.proofs.States.{within-first_over}
use Rattle.banker_check.specs.Orders.{is_ordered}
use Rattle.banker_check.specs.Hybrid.{IsHybrid, admit_h, block, outcome_h, refuse_h}
use Rattle.banker_check.specs.Laws.{HybridDecisionLaw, TellsBlock, is_blocked}
use Rattle.banker_check.proofs.HybridEndings.{Ending, refused, granted, admitted, ending, first_overfilled, hybrid-state}
use Rattle.banker_check.proofs.Ordered.{ordered_law}

-- a refusal by an earlier test than that of the neighborhoods
abbrev by_test : Reply → Bool
by_test Permitted = false
by_test (Denied why) = not (is_saturation why)

-- what the neighborhoods decide is none
admit-by_test : (cell : Cell) (parts next : List Part) → by_test (admit cell parts next).0 ≡ false
admit-by_test cell parts next = at (first_over cell next)
  where
    at : (over : Option ℕ)
        → by_test (option_map_or (λ r. refuse (Saturated (record { 0 = r }) (count cell parts r) (capacity_of cell r)) parts) over
        (Permitted, next)).0 ≡ false
    at None = refl
    at (Some r) = refl

-- there is one exactly where the request doesn't pass its tests
tests : (cell : Cell) (parts : List Part) (Passes : Type 0) (next : List Part) (o : Reply × List Part)
    → PolicyEnding cell parts Passes next o → (by_test o.0 ≡ true → Passes → ⊥) × (by_test o.0 ≡ false → Passes)
tests cell parts Passes next o (stopped why plain stops) = (λ e. stops, λ e. absurd (true≢false (sym (ap not plain) ∙ e)))
tests cell parts Passes next o (given passes follows) = (λ e. absurd (false≢true e), λ e. passes)
tests cell parts Passes next o (weighed passes follows) =
    (λ e. absurd (false≢true (sym (admit-by_test cell parts next) ∙ e)), λ e. passes)

-- ---- the least resource that is overfilled

module _ (cell : Cell) (parts : List Part) where
  -- below a number no neighborhood holds too many, or there is a least one that does
  none_or_least : (n : ℕ) → ((k : ℕ) → k < n → count cell parts k ≤ capacity_of cell k)
      ⊎ ((q : ℕ) × (q < n) × (capacity_of cell q < count cell parts q) × ((k : ℕ) → k < q → count cell parts k ≤ capacity_of cell k))
  none_or_least zero = inl (λ k below. absurd (omega (arith, below)))
  none_or_least (suc n) =
      elim (none_or_least n) [
        | inr found ↦ inr (found.0, omega (arith, found.1), found.2, found.3)
        | inl none ↦ elim (cases_lt (capacity_of cell n) (count cell parts n)) [
          | inl over ↦ inr (n, omega arith, over, none)
          | inr fits ↦ inl (λ k below. elim (cases_lt k n) [
            | inl less ↦ none k less
            | inr more ↦
                let same : n ≡ k = omega (arith, below, more) in
                subst (λ (j : ℕ). count cell parts j ≤ capacity_of cell j) same fits
          ])
        ]
      ]

  is_first : (r : ℕ) → first_over cell parts ≡ Some r → IsFirstOverfilled cell parts r
  is_first r e =
      let here = first_overfilled cell parts r e in
      record {
        resource = here.0;
        over = here.1;
        before = elim (none_or_least r) [
          | inl none ↦ none
          | inr found ↦
              let same : found.0 ≡ r = same_Some found.0 r
              (sym (first_over-at cell parts found.0 (omega (arith, found.1, here.0)) found.3 found.2) ∙ e) in
              absurd (omega (arith, same, found.1))
        ];
      }

-- ---- the reply

-- a reply, and the state after it, where the tests are these and the request asks for this state
record Decided (cell : Cell) (Passes : Type 0) (next : List Part) (o : HybridReply × List Part) : Type 0 where
  grants : (o.0 ≡ Granted) ↔ (Passes × IsHybrid cell next)
  blocks : (is_blocked o.0 ≡ true) ↔ (Passes × ¬ IsHybrid cell next)
  told : (at : ResId) (held units parts_stuck : ℕ) → o.0 ≡ Blocked at held units parts_stuck → TellsBlock cell next at held units parts_stuck
  state : o.0 ≡ Granted → o.1 ≡ next

module _ (cell : Cell) (parts : List Part) (Passes : Type 0) (next : List Part) where
  by_grant : Passes → IsHybrid cell next → Decided cell Passes next (Granted, next)
  by_grant passes hybrid = record {
    grants = (λ e. (passes, hybrid), λ both. refl);
    blocks = (λ e. absurd (false≢true e), λ both. absurd (both.1 hybrid));
    told = λ at held units parts_stuck e. absurd (cc e);
    state = λ e. refl;
  }

  by_refusal : (why : Refusal) → (Passes → ⊥) → Decided cell Passes next (refuse_h why parts)
  by_refusal why stops = record {
    grants = (λ e. absurd (cc e), λ both. absurd (stops both.0));
    blocks = (λ e. absurd (false≢true e), λ both. absurd (stops both.0));
    told = λ at held units parts_stuck e. absurd (cc e);
    state = λ e. absurd (cc e);
  }

  by_block : Passes → (r : ℕ) → IsFirstOverfilled cell next r → is_ordered cell next ≡ false
      → Decided cell Passes next (block cell parts next r)
  by_block passes r first disordered =
      let not_hybrid : IsHybrid cell next → ⊥ =
      λ hybrid. ⊎_elim (λ admitted. omega (arith, admitted.within r first.resource, first.over))
      (λ ordered. false≢true (sym disordered ∙ (ordered_law cell next).1 ordered)) hybrid in
      record {
        grants = (λ e. absurd (cc e), λ both. absurd (not_hybrid both.1));
        blocks = (λ e. (passes, not_hybrid), λ both. refl);
        told = λ at held units parts_stuck e.
            let resource : record { 0 = r } ≡ at = cc e in
            subst (λ (a : ResId). TellsBlock cell next a held units parts_stuck) resource
            (record { least = first; counted = cc e; limit = cc e; remain = cc e });
        state = λ e. absurd (cc e);
      }

  by_neighborhoods : Passes → IsState cell next → Decided cell Passes next (admit_h cell parts next)
  by_neighborhoods passes state = at (first_over cell next) refl
    where
      at : (over : Option ℕ) → first_over cell next ≡ over
          → Decided cell Passes next
          (option_map_or (λ r. if is_ordered cell next then (Granted, next) else block cell parts next r) over (Granted, next))
      at None e = by_grant passes (inl (record { state = state; within = within-first_over cell next e }))
      at (Some r) e =
          cond_both (is_ordered cell next) (Granted, next) (block cell parts next r) (Decided cell Passes next)
          (λ ordered. by_grant passes (inr ((ordered_law cell next).0 ordered)))
          (λ disordered. by_block passes r (is_first cell next r e) disordered)

  by_ending : IsHybrid cell parts → (o : Reply × List Part) (o_h : HybridReply × List Part) → Ending cell parts next o o_h
      → (by_test o.0 ≡ true → Passes → ⊥) × (by_test o.0 ≡ false → Passes) → Decided cell Passes next o_h
  by_ending hybrid o o_h (refused why plain) tested = by_refusal why (tested.0 (ap not plain))
  by_ending hybrid o o_h (granted stays) tested = by_grant (tested.1 refl) (stays hybrid)
  by_ending hybrid o o_h (admitted state) tested = by_neighborhoods (tested.1 (admit-by_test cell parts next)) state

pub hybrid_decision_law : (cell : Cell) → CellFits cell → HybridDecisionLaw cell
hybrid_decision_law cell fits parts request hybrid h =
    let state = hybrid-state cell parts hybrid in
    let Passes = PassesTests cell parts request in
    let next = wanted cell parts request in
    let is = by_ending cell parts Passes next hybrid (outcome cell parts request) (outcome_h cell parts request)
    (ending cell fits parts state request h)
    (tests cell parts Passes next (outcome cell parts request) (policy_ending cell fits parts state request h)) in
    record { granted = is.grants; blocked = is.blocks; told = is.told; state = is.state }
