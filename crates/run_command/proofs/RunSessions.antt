-- What the sessions made of the one history under the lock.
use mathlib.Core.List.{IsPrefix}
use Rattle.std.proofs.Common.{◌≡◌, ◌⊎◌, inl, inr, ℕ, zero, suc, ◌+◌, ◌-◌, ◌*◌, ◌<◌, ◌≤◌, true, List}
use Rattle.std.proofs.Common.{[], ◌∷◌, ◌++◌, length, All, get_or, refl, sym, ap, ◌∙◌, subst, arith}
use Rattle.std.proofs.lemmas.Option.{slice_get-get_or}
use Rattle.std.proofs.lemmas.List.Elements.{All-get_or}
use Rattle.cell_base.specs.declared.shifts.Entry.{Entry}
use Rattle.cell_base.specs.declared.shifts.Grant.{Grant}
use Rattle.cell_base.specs.declared.shifts.Shift.{Shift}
use Rattle.cell_base.specs.Fits.{steps_of}
use Rattle.cell_base.specs.Histories.{entries_of, grants}
use Rattle.cell_base.specs.Rounds.{IsSession}
use Rattle.cell_base.specs.Scripts.{IsTrace, IsWholeTrace, begin_at, holds_halt, script_of, first_step}
use Rattle.cell_base.specs.Scripts.{Progress as Place}
use Rattle.durable_cell.specs.Asked.{unsure_grant}
use Rattle.durable_cell.specs.DurableState.{DurableState}
use Rattle.cell_lock.specs.declared.board.Opening.{Opening}
use Rattle.cell_lock.specs.Openings.{Outside, opening_of}
use Rattle.cell_lock.specs.Passes.{AreAll, ArePassesNumbered, LockId, PassState, new_pass, new_passes}
use Rattle.cell_base.specs.Starts.{AreFirstSteps}
use Rattle.run_command.specs.JournalRuns.{HasGone, IsAfterSessions}
use Rattle.cell_sessions.specs.declared.progress.Progress.{Progress}
use Rattle.cell_sessions.specs.Progressing.{Starts, place_of, progress_at, start_at}
use Rattle.cell_sessions.specs.Sessions.{HasRun, IsCutShort}
use Rattle.cell_sessions.specs.Starting.{AreBegun}
use Rattle.run_command.proofs.RunHistories.{all_sessions, starts_within}

-- ---- the passes

module _ {D : Type 0} (moment : D → ℕ) (lock : LockId D) where
  numbered : (first count : ℕ) → ArePassesNumbered lock first (new_passes moment lock first count)
  numbered first zero = tt
  numbered first (suc count) = (refl, refl, numbered (first + 1) count)

  count_is : (first count : ℕ) → length (new_passes moment lock first count) ≡ count
  count_is first zero = refl
  count_is first (suc count) = omega (arith, count_is (first + 1) count)

  -- new passes are all of a lock
  pub all_new : (passes : List (PassState D)) → passes ≡ new_passes moment lock 1 lock.opening.passes → AreAll lock passes
  all_new passes is = subst (AreAll lock) (sym is)
      (record { numbered = numbered 1 lock.opening.passes; count = count_is 1 lock.opening.passes })

  -- none of which has an entry of its own
  mine_none : (first count k : ℕ) (d : PassState D) → k < count → (get_or (new_passes moment lock first count) k d).mine ≡ []
  mine_none first zero k d within = absurd (omega (arith, within))
  mine_none first (suc count) zero d within = refl
  mine_none first (suc count) (suc k) d within = mine_none (first + 1) count k d (omega (arith, within))

  number_at : (first k : ℕ) (passes : List (PassState D)) (d : PassState D) → k < length passes → ArePassesNumbered lock first passes
      → (get_or passes k d).number ≡ first + k
  number_at first k [] d within are = absurd (omega (arith, within))
  number_at first zero (pass ∷ passes) d within are = are.1 ∙ omega arith
  number_at first (suc k) (pass ∷ passes) d within are =
      number_at (first + 1) k passes d (omega (arith, within)) are.2 ∙ omega arith

-- ---- where they start

module _ (shift : Shift) (opening : List Grant) (progress : List Progress) (begun : AreBegun shift opening progress) where
  progress_is : (k : ℕ) → k < length shift.scripts
      → progress_at progress k ≡ start_at (script_of shift (k + 1)) (first_step shift (k + 1) opening)
  progress_is k within =
      begun.each k (progress_at progress k) (slice_get-get_or progress k (start_at [] 0) (omega (arith, within, begun.count)))

  place_is : (k : ℕ) → k < length shift.scripts → place_of (progress_at progress k) ≡ begin_at (first_step shift (k + 1) opening)
  place_is k within = ap (λ (at : Progress). place_of at) (progress_is k within)

  pub begun_starts : AreFirstSteps shift opening → (k : ℕ) → k < length shift.scripts
      → Starts (script_of shift (k + 1)) (progress_at progress k)
  begun_starts started k within =
      subst (Starts (script_of shift (k + 1))) (sym (progress_is k within))
      (record { within = starts_within shift opening started (k + 1) (omega arith, omega (arith, within)); is_start = refl })

-- ---- after the sessions

-- what closing a lock tells of the durable cell
pub record IsClosed {D : Type 0} (lock : LockId D) (passes : List (PassState D)) (durable : DurableState D) : Type 0 where
  pub opening : opening_of durable lock.opening.shift lock.opening.passes ≡ lock.opening
  pub added : durable.added ≡ grants lock.opening.shift durable.history
  pub unsure : durable.unsure ≡ unsure_grant lock.opening.shift durable.history
  pub seen : All (λ (pass : PassState D). IsPrefix pass.seen durable.history) passes
  pub mine : All (λ (pass : PassState D). entries_of pass.number durable.history ≡ pass.mine) passes
  pub others : (number : ℕ) → Outside lock.opening number → entries_of number durable.history ≡ []

module _ {D : Type 0} (moment : D → ℕ) (shift : Shift) (lock : LockId D) (progress : List Progress) (old new : List (PassState D))
    (durable : DurableState D)
    (limit : lock.opening.limit ≡ steps_of shift * shift.patience) (number : lock.opening.shift ≡ shift.number)
    (old_are : old ≡ new_passes moment lock 1 lock.opening.passes) (sessions : lock.opening.passes ≡ length shift.scripts)
    (begun : AreBegun shift lock.opening.grants progress) (new_are : AreAll lock new)
    (run : (k : ℕ) (d : PassState D) → k < length old
    → HasRun (script_of shift (k + 1)) shift.patience (place_of (progress_at progress k)) (get_or old k d) (get_or new k d))
    (closed : IsClosed lock new durable) where
  abbrev other : PassState D
  other = new_pass moment lock 0

  old_count : length old ≡ length shift.scripts
  old_count = ap length old_are ∙ count_is moment lock 1 lock.opening.passes ∙ sessions

  old_mine : (k : ℕ) → k < length shift.scripts → (get_or old k other).mine ≡ []
  old_mine k within =
      ap (λ (passes : List (PassState D)). (get_or passes k other).mine) old_are
      ∙ mine_none moment lock 1 lock.opening.passes k other (omega (arith, within, sessions))

  old_lock : (first count k : ℕ) → k < count → (get_or (new_passes moment lock first count) k other).lock ≡ lock
  old_lock first zero k within = absurd (omega (arith, within))
  old_lock first (suc count) zero within = refl
  old_lock first (suc count) (suc k) within = old_lock (first + 1) count k (omega (arith, within))

  module _ (k : ℕ) (within : k < length shift.scripts) where
    abbrev pass : PassState D
    pass = get_or new k other

    ran : HasRun (script_of shift (k + 1)) shift.patience (place_of (progress_at progress k)) (get_or old k other) pass
    ran = run k other (omega (arith, within, old_count))

    inside : k < length new
    inside = omega (arith, new_are.count, sessions, within)

    own : entries_of (k + 1) durable.history ≡ ran.entries
    own =
        ap (λ (n : ℕ). entries_of n durable.history) (omega (arith, number_at moment lock 1 k new other inside new_are.numbered))
        ∙ All-get_or (λ (p : PassState D). entries_of p.number durable.history ≡ p.mine) new k other inside closed.mine
        ∙ ran.mine ∙ ap (λ (es : List Entry). es ++ ran.entries) (old_mine k within)

    from : place_of (progress_at progress k) ≡ begin_at (first_step shift (k + 1) lock.opening.grants)
    from = place_is shift lock.opening.grants progress begun k within

    pass_limit : (get_or old k other).lock.opening.limit ≡ steps_of shift * shift.patience
    pass_limit =
        ap (λ (passes : List (PassState D)). (get_or passes k other).lock.opening.limit) old_are
        ∙ ap (λ (l : LockId D). l.opening.limit) (old_lock 1 lock.opening.passes k (omega (arith, within, sessions))) ∙ limit

    abbrev Goes : (Place → List Entry → Type 0) → Type 0
    Goes P = P (begin_at (first_step shift (k + 1) lock.opening.grants)) (entries_of (k + 1) durable.history)

    goes : (P : Place → List Entry → Type 0) → P (place_of (progress_at progress k)) ran.entries → Goes P
    goes P is = subst (λ (at : Place). P at (entries_of (k + 1) durable.history)) from
        (subst (λ (es : List Entry). P (place_of (progress_at progress k)) es) (sym own) is)

    gone : HasGone shift lock.opening.grants durable.history (k + 1)
    gone = record {
      trace = goes (IsTrace (script_of shift (k + 1)) shift.patience) ran.trace;
      seen = pass.seen;
      begins = All-get_or (λ (p : PassState D). IsPrefix p.seen durable.history) new k other inside closed.seen;
      ended = by_end ran.ends;
    }
      where
        by_end : IsWholeTrace (script_of shift (k + 1)) shift.patience (place_of (progress_at progress k)) ran.entries
            ⊎ IsCutShort (script_of shift (k + 1)) shift.patience (place_of (progress_at progress k)) ran.entries pass.seen
            (get_or old k other).lock.opening.limit
            → IsWholeTrace (script_of shift (k + 1)) shift.patience (begin_at (first_step shift (k + 1) lock.opening.grants))
            (entries_of (k + 1) durable.history)
            ⊎ ((holds_halt pass.seen ≡ true) ⊎ (steps_of shift * shift.patience ≤ length pass.seen))
        by_end (inl whole) = inl (goes (IsWholeTrace (script_of shift (k + 1)) shift.patience) whole)
        by_end (inr cut) = inr (elim cut.stopped [ inl halted ↦ inl halted | inr full ↦ inr (omega (arith, full, pass_limit)) ])

  -- each session has gone through its script, or is cut short
  gone_at : (session : ℕ) → IsSession shift session → HasGone shift lock.opening.grants durable.history session
  gone_at session is =
      let number : (session - 1) + 1 ≡ session = omega (arith, is.0) in
      subst (HasGone shift lock.opening.grants durable.history) number (gone (session - 1) (omega (arith, is.0, is.1)))

  pub after_sessions : IsAfterSessions shift durable
  after_sessions = record {
    added = closed.added ∙ ap (λ (n : ℕ). grants n durable.history) number;
    unsure = closed.unsure ∙ ap (λ (n : ℕ). unsure_grant n durable.history) number;
    sessions = all_sessions shift durable.history
        (λ number outside. closed.others number (elim outside
        [ inl none ↦ inl none | inr beyond ↦ inr (omega (arith, beyond, sessions)) ]));
    gone = λ session is. subst (λ (gs : List Grant). HasGone shift gs durable.history session) (sym grants_is) (gone_at session is);
  }
    where
      grants_is : durable.opening ≡ lock.opening.grants
      grants_is = ap (λ (o : Opening D). o.grants) closed.opening
