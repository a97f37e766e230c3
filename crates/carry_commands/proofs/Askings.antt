-- The requests of a start, asked in turn in a durable cell: so far each was granted.
use Rattle.std.proofs.Common.{◌≡◌, ◌≤◌, true, List, [], ◌∷◌, ◌++◌, length, map, Some, None, Ok, Err, sym, ap, ◌∙◌, subst, arith, append-nil}
use Rattle.std.proofs.lemmas.List.{length-append, length-map, map-append}
use Rattle.cell_base.specs.declared.requests.Part.{Part}
use Rattle.cell_base.specs.declared.requests.Reply.{Reply}
use Rattle.cell_base.specs.declared.requests.Reply.TheVariants.{Granted}
use Rattle.cell_base.specs.declared.requests.Request.{Request}
use Rattle.cell_base.specs.declared.requests.Told.TheVariants.{Answered, Halted}
use Rattle.cell_base.specs.Histories.{all_granted}
use Rattle.cell_base.specs.Outcomes.{reply_to}
use Rattle.durable_cell.specs.Asked.{Answers, entry, halted_at, with_entry}
use Rattle.durable_cell.specs.DurableState.{DurableState, first_parts, parts}
use Rattle.durable_cell.specs.declared.fault.AskFault.{AskFault}
use Rattle.durable_cell.specs.declared.fault.AskFault.TheVariants as fault
use Rattle.durable_cell.proofs.Halts.{halted_at-none}
use Rattle.journal_texts.specs.Recorded.{IsFresh}
use Rattle.journal_texts.proofs.HaltedHistories.{none_halted}
use Rattle.journal_texts.specs.AskedSteps.{HaltsIn, after_plan_steps, drained, drained_to, step_entry, step_grant}
use Rattle.journal_texts.proofs.AskedSteps.{after_drained, drained_unhalted}
use Rattle.carry_commands.proofs.Granting.{granted_at}

module _ {D : Type 0} (old : DurableState D) where
  -- nothing was asked yet
  pub begins : IsFresh old → old ≡ after_plan_steps old old.disk []
  begins fresh = λ i. record old { history = fresh.history i; added = fresh.added i; unsure = fresh.unsure i }

  -- one request more
  grown : (before behind : D) (first : List Request) (request : Request)
      → with_entry (after_plan_steps old before first) behind 0 (entry 0 request (Answered Granted))
      ≡ after_plan_steps old behind (first ++ request ∷ [])
  grown before behind first request = λ i. record old {
    disk = behind;
    history = sym (map-append (step_entry (Answered Granted)) first (request ∷ [])) i;
    added = sym (map-append step_grant first (request ∷ [])) i;
    unsure = None;
  }

  module _ (now new : DurableState D) (requests first rest : List Request) (request : Request)
      (parted : requests ≡ first ++ request ∷ rest) (so_far : now ≡ after_plan_steps old now.disk first) where
    -- it is granted
    granted_next : all_granted old.cell (first_parts old) requests ≡ true → reply_to now.cell (parts now) request ≡ Granted
    granted_next granted =
        ap (λ (d : DurableState D). reply_to d.cell (parts d) request) so_far
        ∙ ap (λ (ps : List Part). reply_to old.cell ps request) (after_drained old.cell (first_parts old) first)
        ∙ granted_at old.cell (first_parts old) first rest request
        (subst (λ (rs : List Request). all_granted old.cell (first_parts old) rs ≡ true) parted granted)

    pub goes_on : all_granted old.cell (first_parts old) requests ≡ true → (reply : Reply) → Answers now 0 0 request (Ok reply) new
        → new ≡ after_plan_steps old new.disk (first ++ request ∷ [])
    goes_on granted reply answer =
        answer.0
        ∙ ap (λ (r : Reply). with_entry now new.disk 0 (entry 0 request (Answered r))) (answer.1 ∙ granted_next granted)
        ∙ ap (λ (d : DurableState D). with_entry d new.disk 0 (entry 0 request (Answered Granted))) so_far
        ∙ grown now.disk new.disk first request

    no_halt : halted_at now.history ≡ None
    no_halt =
        ap (λ (d : DurableState D). halted_at d.history) so_far
        ∙ halted_at-none (drained first) (none_halted (drained first) (drained_unhalted first))

    -- its writing failed
    pub halts : length requests ≤ old.limit → (why : AskFault) → Answers now 0 0 request (Err why) new → HaltsIn requests old new
    halts room (fault.Halted at) answer = absurd (let both = sym no_halt ∙ answer.1 in cc)
    halts room (fault.Full len) answer =
        absurd (omega (
          arith,
          room,
          ap (λ (rs : List Request). length rs) parted,
          length-append first (request ∷ rest),
          answer.3,
          ap (λ (d : DurableState D). length d.history) so_far,
          length-map first (step_entry (Answered Granted)),
          ap (λ (d : DurableState D). d.limit) so_far,
        ))
    halts room (fault.Device at) answer = record {
      first = first;
      last = request;
      rest = rest;
      parted = parted;
      is = answer.0 ∙ ap (λ (d : DurableState D). with_entry d new.disk 0 (entry 0 request Halted)) so_far
          ∙ (λ i. record old {
            disk = new.disk;
            history = drained_to first request;
            added = append-nil (map step_grant first) i;
            unsure = Some (step_grant request);
          });
    }
