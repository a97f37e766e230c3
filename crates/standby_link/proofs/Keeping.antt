-- What a follower keeps when it is opened, when a grant is appended, and when its writing fails.
use Rattle.std.specs.Prelude.{Option, Some, None}
use Rattle.std.proofs.Common.{◌≡◌, ℕ, ◌+◌, ◌<◌, ◌≤◌, List, [], ◌∷◌, ◌++◌, length, refl, ◌∙◌, sym, ap, subst, arith, append_assoc}
use Rattle.std.proofs.lemmas.List.{append-nil, length_push}
use Rattle.cell_base.specs.declared.requests.Part.{Part}
use Rattle.cell_base.specs.declared.requests.Reply.TheVariants.{Granted}
use Rattle.cell_base.specs.declared.requests.Told.TheVariants.{Answered}
use Rattle.cell_base.specs.declared.requests.Told.TheVariants as told
use Rattle.cell_base.specs.declared.shifts.Grant.{Grant}
use Rattle.cell_base.specs.Histories.{after, replay}
use Rattle.cell_base.specs.Outcomes.{state_after}
use Rattle.lists.specs.Shelves.{Shelved}
use Rattle.durable_cell.specs.Asked.{entry, halted_at, with_entry}
use Rattle.durable_cell.specs.DurableState.{DurableState, first_parts}
use Rattle.durable_cell.specs.Kept.{KeepsHistory}
use Rattle.cell_base.proofs.Histories.{after-push}
use Rattle.durable_cell.proofs.Unasked.{none_added, none_unsure}
use Rattle.standby_link.specs.Followers.{KeepsFollower, kept_in}
use Rattle.standby_link.proofs.Histories.{halted_at-push, replay-push}

-- ---- the opening

pub kept_at_first : {D : Type 0} (durable : DurableState D) → KeepsHistory durable → durable.history ≡ [] → kept_in durable
    ≡ durable.opening
kept_at_first durable keeps none =
    ap (λ (gs : List Grant). durable.opening ++ gs) (none_added durable keeps none) ∙ append-nil durable.opening

pub opens : {D : Type 0} (durable : DurableState D) (grants : Shelved Grant) (room : ℕ) → KeepsHistory durable → durable.history ≡ []
    → grants.items ≡ durable.opening → room ≤ grants.spare → room ≤ durable.limit → KeepsFollower durable grants room None
opens durable grants room keeps none items spare limit =
    let added = none_added durable keeps none in
    let kept_is = kept_at_first durable keeps none in
    let few : length durable.added ≡ 0 = ap length added in
    record {
      same = items ∙ sym kept_is;
      spare = omega (arith, spare);
      limit = limit;
      few = omega (arith, few);
      halt = ap halted_at (sym none);
      all = λ _. record {
        unsure = none_unsure durable keeps none;
        each = ap length none ∙ sym few;
      };
      state = ap (after durable.cell (first_parts durable)) none ∙ ap (replay durable.cell) (sym kept_is);
    }

-- ---- a grant more

module _ {D : Type 0} (durable : DurableState D) (disk : D) (grant : Grant) where
  -- a durable cell with the grant, and with a halt in its place
  abbrev pub granted : DurableState D
  granted = with_entry durable disk grant.shift (entry grant.session grant.request (Answered Granted))

  abbrev pub halted : DurableState D
  halted = with_entry durable disk grant.shift (entry grant.session grant.request told.Halted)

  pub kept_more : kept_in granted ≡ kept_in durable ++ grant ∷ []
  kept_more = sym (append_assoc durable.opening durable.added (grant ∷ []))

  pub kept_still : kept_in halted ≡ kept_in durable
  kept_still = ap (λ (gs : List Grant). durable.opening ++ gs) (append-nil durable.added)

  pub appends : (grants new : Shelved Grant) (room : ℕ) → KeepsFollower durable grants room None → length durable.added < room
      → new.items ≡ grants.items ++ grant ∷ [] → new.spare + 1 ≡ grants.spare → KeepsFollower granted new room None
  appends grants new room keeps has_room items spare =
      let all = keeps.all refl in
      let more = length_push durable.added grant in
      record {
        same = items ∙ ap (λ (gs : List Grant). gs ++ grant ∷ []) keeps.same ∙ sym kept_more;
        spare = omega (arith, keeps.spare, spare, more);
        limit = keeps.limit;
        few = omega (arith, has_room, more);
        halt = sym (halted_at-push durable.history _ (sym keeps.halt));
        all = λ _. record {
          unsure = refl;
          each = omega (arith, all.each, more, length_push durable.history (entry grant.session grant.request (Answered Granted)));
        };
        state = after-push durable.cell (first_parts durable) durable.history _
            ∙ ap (λ (ps : List Part). state_after durable.cell ps grant.request) keeps.state
            ∙ sym (replay-push durable.cell (kept_in durable) grant) ∙ ap (replay durable.cell) (sym kept_more);
      }

  pub halts : (grants : Shelved Grant) (room at : ℕ) → KeepsFollower durable grants room None → at ≡ length durable.history
      → KeepsFollower halted grants room (Some at)
  halts grants room at keeps at_is =
      let same : length (durable.added ++ []) ≡ length durable.added = ap length (append-nil durable.added) in
      record {
        same = keeps.same ∙ sym kept_still;
        spare = omega (arith, keeps.spare, same);
        limit = keeps.limit;
        few = omega (arith, keeps.few, same);
        halt = ap (λ (n : ℕ). some n) at_is ∙ sym (halted_at-push durable.history _ (sym keeps.halt));
        all = λ is. absurd (cc);
        state = after-push durable.cell (first_parts durable) durable.history _ ∙ keeps.state ∙ ap (replay durable.cell) (sym kept_still);
      }
    where
      some : ℕ → Option ℕ
      some n = Some n

-- ---- what was asked

module _ {D : Type 0} (durable new : DurableState D) (grant : Grant) (grants : Shelved Grant) (room : ℕ) (was : Option ℕ)
    (keeps : KeepsFollower durable grants room was) (goes_on : halted_at durable.history ≡ None)
    (has_room : length durable.history < room) where
  none : KeepsFollower durable grants room None
  none = subst (KeepsFollower durable grants room) (keeps.halt ∙ goes_on) keeps

  few : length durable.added < room
  few = let all = none.all refl in omega (arith, has_room, all.each)

  -- one request fewer than may be decided
  pub within : length durable.history < durable.limit
  within = omega (arith, has_room, keeps.limit)

  pub appends_asked : (more : Shelved Grant) → new ≡ granted durable new.disk grant → more.items ≡ grants.items ++ grant ∷ []
      → more.spare + 1 ≡ grants.spare → KeepsFollower new more room was
  appends_asked more is items spare =
      subst (KeepsFollower new more room) (sym (keeps.halt ∙ goes_on))
      (subst (λ (d : DurableState D). KeepsFollower d more room None) (sym is)
      (appends durable new.disk grant grants more room none few items spare))

  pub halts_asked : (at : ℕ) → new ≡ halted durable new.disk grant → at ≡ length durable.history → KeepsFollower new grants room (Some at)
  halts_asked at is at_is =
      subst (λ (d : DurableState D). KeepsFollower d grants room (Some at)) (sym is)
      (halts durable new.disk grant grants room at none at_is)
