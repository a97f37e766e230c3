-- The steps of a plan, asked in turn in a durable cell: so far each was granted.
use Rattle.std.proofs.Common.{◌≡◌, ◌<◌, ◌≤◌, List, [], ◌∷◌, ◌++◌, length, map, Some, None, Ok}
use Rattle.std.proofs.Common.{Err, refl, sym, ◌∙◌, ap, subst, arith, append_assoc, append-nil}
use Rattle.std.proofs.lemmas.List.{length-append, length-map, map-append}
use Rattle.cell_base.specs.declared.requests.Reply.{Reply}
use Rattle.cell_base.specs.declared.requests.Reply.TheVariants.{Granted}
use Rattle.cell_base.specs.declared.requests.Request.{Request}
use Rattle.cell_base.specs.declared.requests.Told.TheVariants.{Answered, Halted}
use Rattle.cell_base.specs.declared.shifts.Entry.{Entry}
use Rattle.cell_base.specs.Outcomes.{state_after}
use Rattle.cell_base.specs.Plans.{plan_of, plan_step, work}
use Rattle.cell_base.specs.Policy.{IsAdmitted}
use Rattle.policy_laws.specs.Laws.{HasPlan}
use Rattle.policy_laws.proofs.Plans.{plan_law}
use Rattle.cell_commands.proofs.PlanSteps.{work_few}
use Rattle.durable_cell.specs.Asked.{Answers, entry, halted_at, with_entry}
use Rattle.durable_cell.specs.DurableState.{DurableState, first_parts, parts}
use Rattle.durable_cell.specs.Kept.{KeepsHistory}
use Rattle.durable_cell.specs.declared.fault.AskFault.{AskFault}
use Rattle.durable_cell.specs.declared.fault.AskFault.TheVariants as fault
use Rattle.durable_cell.proofs.Grown.{no_halt_yet}
use Rattle.cell_base.proofs.Histories.{after-push}
use Rattle.journal_texts.specs.AskedSteps.{HaltsIn, drained_to, step_entry, after_plan_steps, step_grant}
use Rattle.journal_texts.specs.Recorded.{IsFresh}
use Rattle.cell_commands.specs.declared.drain.TheConstants.{MAX_PLAN}

-- these steps were granted, and those of the plan at the present state are left
pub record Asking {D : Type 0} (old now : DurableState D) : Type 0 where
  pub steps : List Request
  pub rest : List Request
  pub parted : plan_of old.cell (first_parts old) ≡ steps ++ rest
  pub is : now ≡ after_plan_steps old now.disk steps
  pub left : rest ≡ plan_of now.cell (parts now)

module _ {D : Type 0} (old : DurableState D) where
  -- no step yet
  pub begins : IsFresh old → Asking old old
  begins fresh = record {
    steps = [];
    rest = plan_of old.cell (first_parts old);
    parted = refl;
    is = λ i. record old { history = fresh.history i; added = fresh.added i; unsure = fresh.unsure i };
    left = ap (λ (history : List Entry). plan_of old.cell (parts (record old { history = history }))) (sym fresh.history);
  }

  -- the whole plan has room
  pub has_room : KeepsHistory old → IsFresh old → old.limit ≡ MAX_PLAN → IsAdmitted old.cell (parts old)
      → length (plan_of old.cell (first_parts old)) ≤ old.limit
  has_room keeps fresh room admitted =
      let at_first : IsAdmitted old.cell (first_parts old) =
      subst (λ (history : List Entry). IsAdmitted old.cell (parts (record old { history = history }))) fresh.history admitted in
      omega (
        arith,
        room,
        (plan_law old.cell keeps.fits (first_parts old) at_first).steps,
        work_few old.cell keeps.fits (first_parts old) at_first,
      )

  -- no step is left
  pub comes_to_end : (now : DurableState D) → Asking old now → plan_of now.cell (parts now) ≡ []
      → now ≡ after_plan_steps old now.disk (plan_of old.cell (first_parts old))
  comes_to_end now so_far none =
      so_far.is ∙ ap (after_plan_steps old now.disk) (sym (append-nil so_far.steps)
      ∙ ap (λ (l : List Request). so_far.steps ++ l) (sym (so_far.left ∙ none)) ∙ sym so_far.parted)

  -- one more step was granted, and is an entry and a grant more
  one_more : (before after : D) (steps : List Request) (step : Request)
      → with_entry (after_plan_steps old before steps) after 0 (entry 0 step (Answered Granted))
      ≡ after_plan_steps old after (steps ++ step ∷ [])
  one_more before after steps step = λ i. record old {
    disk = after;
    history = sym (map-append (step_entry (Answered Granted)) steps (step ∷ [])) i;
    added = sym (map-append step_grant steps (step ∷ [])) i;
    unsure = None;
  }

  module _ (now new : DurableState D) (so_far : Asking old now) (law : HasPlan now.cell (parts now)) (step : Request)
      (next : plan_step now.cell (parts now) ≡ Some step) where
    abbrev rest_is : so_far.rest ≡ step ∷ plan_of now.cell (state_after now.cell (parts now) step)
    rest_is = so_far.left ∙ law.onward step next

    pub goes_on : (reply : Reply) → Answers now 0 0 step (Ok reply) new → Asking old new
    goes_on reply answer =
        let granted : reply ≡ Granted = answer.1 ∙ (law.step step next).granted in
        let is : new ≡ with_entry now new.disk 0 (entry 0 step (Answered Granted)) =
        answer.0 ∙ ap (λ (r : Reply). with_entry now new.disk 0 (entry 0 step (Answered r))) granted in
        let behind : parts new ≡ state_after now.cell (parts now) step =
        ap parts is ∙ after-push now.cell (first_parts now) now.history (entry 0 step (Answered Granted)) in
        record {
          steps = so_far.steps ++ step ∷ [];
          rest = plan_of now.cell (state_after now.cell (parts now) step);
          parted = so_far.parted ∙ ap (λ (l : List Request). so_far.steps ++ l) rest_is
              ∙ sym (append_assoc so_far.steps (step ∷ []) (plan_of now.cell (state_after now.cell (parts now) step)));
          is = is ∙ ap (λ (d : DurableState D). with_entry d new.disk 0 (entry 0 step (Answered Granted))) so_far.is
              ∙ one_more now.disk new.disk so_far.steps step;
          left = sym (ap (plan_of now.cell) behind) ∙ ap (λ (d : DurableState D). plan_of d.cell (parts new)) (sym is);
        }

    pub nearer : (reply : Reply) → Answers now 0 0 step (Ok reply) new → work new.cell (parts new) < work now.cell (parts now)
    nearer reply answer =
        let granted : reply ≡ Granted = answer.1 ∙ (law.step step next).granted in
        let is : new ≡ with_entry now new.disk 0 (entry 0 step (Answered Granted)) =
        answer.0 ∙ ap (λ (r : Reply). with_entry now new.disk 0 (entry 0 step (Answered r))) granted in
        let behind : parts (with_entry now new.disk 0 (entry 0 step (Answered Granted))) ≡ state_after now.cell (parts now) step =
        after-push now.cell (first_parts now) now.history (entry 0 step (Answered Granted)) in
        omega (
          arith,
          ap (λ (d : DurableState D). work d.cell (parts d)) is,
          ap (work now.cell) behind,
          (law.step step next).nearer,
        )

    -- its writing failed
    pub halts : KeepsHistory now → length (plan_of old.cell (first_parts old)) ≤ old.limit → (why : AskFault)
        → Answers now 0 0 step (Err why) new → HaltsIn (plan_of old.cell (first_parts old)) old new
    halts keeps room (fault.Halted at) answer =
        absurd (let none : halted_at now.history ≡ None = no_halt_yet now keeps (ap (λ (d : DurableState D). d.unsure) so_far.is) in
        let both = sym none ∙ answer.1 in cc)
    halts keeps room (fault.Full len) answer =
        absurd (omega (
          arith,
          room,
          ap length so_far.parted,
          length-append so_far.steps so_far.rest,
          ap length rest_is,
          answer.3,
          ap (λ (d : DurableState D). length d.history) so_far.is,
          length-map so_far.steps (step_entry (Answered Granted)),
          ap (λ (d : DurableState D). d.limit) so_far.is,
        ))
    halts keeps room (fault.Device at) answer = record {
      first = so_far.steps;
      last = step;
      rest = plan_of now.cell (state_after now.cell (parts now) step);
      parted = so_far.parted ∙ ap (λ (l : List Request). so_far.steps ++ l) rest_is;
      is = answer.0 ∙ ap (λ (d : DurableState D). with_entry d new.disk 0 (entry 0 step Halted)) so_far.is
          ∙ (λ i. record old {
            disk = new.disk;
            history = drained_to so_far.steps step;
            added = append-nil (map step_grant so_far.steps) i;
            unsure = Some (step_grant step);
          });
    }
