-- A session that goes on has a step to ask, and there is room for its ask.
use Rattle.std.proofs.Common.{◌≡◌, ℕ, ◌+◌, ◌-◌, ◌<◌, ◌≤◌, Some, List, length, slice_get, slice_set, get_or, refl, ap, ◌∙◌}
use Rattle.std.proofs.Common.{sym, subst, inl, inr, ⊎_elim, arith, length-set, get_or-set_same, get_or-set_other}
use Rattle.std.proofs.lemmas.Bool.{cases_eq, cases_lt}
use Rattle.std.proofs.lemmas.List.{get_or_default}
use Rattle.cell_base.specs.declared.limits.TheConstants.{MAX_SESSIONS}
use Rattle.cell_base.specs.declared.requests.Request.{Request}
use Rattle.cell_base.specs.declared.requests.Refusal.TheVariants.{Idle}
use Rattle.cell_base.specs.declared.requests.Reply.{Reply}
use Rattle.cell_base.specs.declared.requests.Reply.TheVariants.{Granted, Refused}
use Rattle.cell_base.specs.declared.requests.Told.TheVariants.{Answered}
use Rattle.cell_base.specs.declared.shifts.Shift.{Shift}
use Rattle.cell_base.specs.Scripts.{Progress, begin_at, progress_after, HasEnded, script_of}
use Rattle.solo_rounds.specs.Underway.{progress_at, script_asks_left, asks_left, CanGoOn, HasEndedAt, IsWithinScript, IsReady}
use Rattle.solo_rounds.proofs.Counting.{script_asks_left-falls, asks_left-set, script_at}

module _ (script : List Request) (patience : ℕ) (at : Progress) (within : IsWithinScript script patience at)
    (going : HasEnded script patience at → ⊥) where
  -- a session that goes on has a step left, which was refused fewer times than the patience
  pub step_left : at.step < length script
  step_left =
      ⊎_elim (λ h. h) (λ h. absurd (going (inl (omega (arith, within.step))))) (cases_lt at.step (length script))

  pub patience_left : at.refusals < patience
  patience_left =
      ⊎_elim (λ h. h) (λ h. absurd (going (inr (omega (arith, within.refusals))))) (cases_lt at.refusals patience)

  -- and stays within the script by a reply
  pub within_next : (next : Progress) (reply : Reply) → next ≡ progress_after at (Answered reply) → IsWithinScript script patience next
  within_next next Granted g = record {
    step = omega (arith, ap (λ (p : Progress). p.step) g, step_left);
    refusals = omega (arith, ap (λ (p : Progress). p.refusals) g);
  }
  within_next next (Refused why) g = record {
    step = omega (arith, ap (λ (p : Progress). p.step) g, step_left);
    refusals = omega (arith, ap (λ (p : Progress). p.refusals) g, patience_left);
  }

-- session k + 1 has this script, stands there and goes on
pub record GoesOn (shift : Shift) (progress : List Progress) (spare k : ℕ) (script : List Request) (at : Progress) : Type 0 where
  pub ready : IsReady shift progress spare
  pub within : k < length shift.scripts
  pub room : k < length progress
  pub is : slice_get shift.scripts k ≡ Some script
  pub stands : progress_at progress k ≡ at
  pub going : HasEnded script shift.patience at → ⊥

pub goes_on : {shift : Shift} {progress : List Progress} {spare k : ℕ} {script : List Request} → IsReady shift progress spare
    → k < length shift.scripts → slice_get shift.scripts k ≡ Some script → length shift.scripts ≤ MAX_SESSIONS → (d : Progress)
    → (HasEnded script shift.patience (get_or progress k d) → ⊥) → GoesOn shift progress spare k script (get_or progress k d)
goes_on {shift} {progress} {spare} {k} {script} ready within is few d going =
    let room : k < length progress = omega (arith, ready.count) in
    record {
      ready = ready;
      within = within;
      room = room;
      is = is;
      stands = get_or_default progress k (begin_at 0) d room;
      going = going;
    }

-- the same of a session that has not ended where it stands
pub goes_on_there : {shift : Shift} {progress : List Progress} {spare k : ℕ} {script : List Request} → IsReady shift progress spare
    → k < length shift.scripts → slice_get shift.scripts k ≡ Some script → length shift.scripts ≤ MAX_SESSIONS → (d : Progress)
    → (HasEndedAt shift progress k → ⊥) → GoesOn shift progress spare k script (get_or progress k d)
goes_on_there {shift} {progress} {spare} {k} {script} ready within is few d going =
    let room : k < length progress = omega (arith, ready.count) in
    goes_on ready within is few d (λ ended. going
    (subst (λ s. HasEnded s shift.patience (progress_at progress k)) (sym (script_at shift k script is))
    (subst (λ (p : Progress). HasEnded script shift.patience p) (sym (get_or_default progress k (begin_at 0) d room)) ended)))

module _ {shift : Shift} {progress : List Progress} {spare k : ℕ} {script : List Request} {at : Progress}
    (goes : GoesOn shift progress spare k script at) where
  within_script : IsWithinScript script shift.patience at
  within_script =
      subst (λ p. IsWithinScript script shift.patience p) goes.stands
      (subst (λ s. IsWithinScript s shift.patience (progress_at progress k)) (script_at shift k script goes.is)
      (goes.ready.within k goes.within))

  pub step_within : at.step < length script
  step_within = step_left script shift.patience at within_script goes.going

  pub patient : at.refusals < shift.patience
  patient = patience_left script shift.patience at within_script goes.going

  module _ (next : Progress) (reply : Reply) (told : next ≡ progress_after at (Answered reply)) where
    pub asks_left-falls : asks_left shift.patience shift.scripts (slice_set progress k next) <
        asks_left shift.patience shift.scripts progress
    asks_left-falls =
        omega (
          arith,
          asks_left-set shift.patience shift.scripts progress k script next goes.is goes.room,
          ap (script_asks_left shift.patience script) goes.stands,
          script_asks_left-falls script shift.patience at next reply step_within patient told,
        )

    next_within : IsWithinScript script shift.patience next
    next_within = within_next script shift.patience at within_script goes.going next reply told

    -- the sessions are ready after the ask
    pub ready_next : (later : ℕ) → later + 1 ≡ spare → IsReady shift (slice_set progress k next) later
    ready_next later falls = record {
      count = length-set progress k next ∙ goes.ready.count;
      within = λ j inside. ⊎_elim (here j) (there j inside) (cases_eq j k);
      room = omega (arith, asks_left-falls, goes.ready.room);
    }
      where
        here : (j : ℕ) → j ≡ k
            → IsWithinScript (script_of shift (j + 1)) shift.patience (progress_at (slice_set progress k next) j)
        here j same =
            rw (same, get_or-set_same progress k next (begin_at 0) goes.room)
            (subst (λ s. IsWithinScript s shift.patience next) (sym (script_at shift k script goes.is)) next_within)

        there : (j : ℕ) → j < length shift.scripts → (j ≡ k → ⊥)
            → IsWithinScript (script_of shift (j + 1)) shift.patience (progress_at (slice_set progress k next) j)
        there j inside other = rw (get_or-set_other progress k j next (begin_at 0) other) (goes.ready.within j inside)

  -- and can go on with room for no more asks than are left then
  pub can_go_on : (next : Progress) (reply : Reply) → next ≡ progress_after at (Answered reply)
      → CanGoOn shift (slice_set progress k next)
  can_go_on next reply told =
      let after = ready_next next reply told (spare - 1) (omega (arith, asks_left-falls next reply told, goes.ready.room)) in
      record { count = after.count; within = after.within; room = omega arith }

  -- something is left of it, so there is room
  pub room_for_ask : 0 < spare
  room_for_ask =
      omega (arith, asks_left-falls (record { step = at.step; refusals = at.refusals + 1 }) (Refused Idle) refl, goes.ready.room)
