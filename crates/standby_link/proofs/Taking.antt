-- What a frame makes of the grants and of the disk of a standby, by what is answered.
use Rattle.std.specs.Prelude.{Bool, cond, Option, Some, None, IfSome, IfOk, slice_get}
use Rattle.std.specs.Option.{option_map_or, option_to_list}
use Rattle.std.proofs.Common.{◌≡◌, ◌⊎◌, inl, inr, ⊎_elim, ℕ, ◌<◌, ◌≤◌, List, [], ◌∷◌, ◌++◌, length}
use Rattle.std.proofs.Common.{Result, Ok, Err, refl, ◌∙◌, sym, ap, subst, arith, append_assoc}
use Rattle.std.proofs.lemmas.List.{append-nil}
use Rattle.std.proofs.lemmas.Option.{slice_get_within}
use Rattle.std.proofs.lemmas.Bool.{cases_lt, eq-eqb, ne_eqb}
use Rattle.cell_base.specs.declared.requests.Reply.{Reply}
use Rattle.cell_base.specs.declared.requests.Reply.TheVariants.{Granted}
use Rattle.cell_base.specs.declared.requests.Request.{Request}
use Rattle.cell_base.specs.declared.requests.Told.TheVariants.{Answered}
use Rattle.cell_base.specs.declared.requests.Told.TheVariants as told
use Rattle.cell_base.specs.declared.shifts.Grant.{Grant}
use Rattle.cell_base.specs.Outcomes.{reply_to}
use Rattle.outside_io.specs.Causes.{Rose}
use Rattle.outside_io.specs.Disk.{LeavesOnly}
use Rattle.outside_io.specs.Moments.{started, widened}
use Rattle.outside_io.specs.Telling.{where_told, told as told_of}
use Rattle.move_journal.specs.Disks.{Shows}
use Rattle.journal_format.specs.Journals.{StandsFor}
use Rattle.durable_cell.specs.Acknowledged.{HasSince, MovesSafely}
use Rattle.durable_cell.specs.Asked.{Answers, HasAskCause, entry, halted_at, with_entry}
use Rattle.durable_cell.specs.DurableState.{DurableState, parts}
use Rattle.durable_cell.specs.Kept.{KeepsDisk, StandsNow, StandsThen}
use Rattle.durable_cell.specs.declared.fault.AskFault.{AskFault}
use Rattle.durable_cell.specs.declared.fault.AskFault.TheVariants as fault
use Rattle.standby_link.specs.declared.frame.Frame.{Frame}
use Rattle.standby_link.specs.declared.take_fault.TakeFault.{TakeFault}
use Rattle.standby_link.specs.declared.take_fault.TakeFault.TheVariants.{Halted, NotAFrame, Conflict, NoFit, NotGranted, Full, Device}
use Rattle.standby_link.specs.Deliveries.{Delivers, LeavesDelivered, StandsForDelivered, StandsForKept, delivered}
use Rattle.standby_link.specs.Followers.{FollowerState, HasNotHalted, IsAppended, IsHaltedAppend, IsFrameKnown}
use Rattle.standby_link.specs.Followers.{IsNext, Takes, kept, kept_in, with_grant, with_halt}
use Rattle.standby_link.specs.Following.{received}
use Rattle.standby_link.specs.Frames.{frame_in, framed}
use Rattle.standby_link.proofs.Keeping.{kept_more, kept_still}

-- ---- deliveries

pub of_frame : (grants : List Grant) (bytes : List ℕ) (frame : Frame) → frame_in bytes ≡ Some frame → delivered grants bytes
    ≡ received grants frame
of_frame grants bytes frame is = ap (λ (o : Option Frame). option_map_or (received grants) o grants) is

-- a frame that is known changes no grants
pub known_leaves : (grants : List Grant) (bytes : List ℕ) → IsFrameKnown grants bytes → delivered grants bytes ≡ grants
known_leaves grants bytes (frame, is, place) =
    of_frame grants bytes frame is
    ∙ ap (λ (test : Bool). cond test (grants ++ frame.grant ∷ []) grants) (ne_eqb frame.index (length grants) (elim place [
      | inl there ↦ λ same. let within = slice_get_within grants frame.index frame.grant there in omega (arith, within, same)
      | inr behind ↦ λ same. omega (arith, behind, same)
    ]))

-- the next one is appended
pub next_appends : (grants : List Grant) (bytes : List ℕ) (grant : Grant) → IsNext grants bytes grant
    → delivered grants bytes ≡ grants ++ grant ∷ []
next_appends grants bytes grant next =
    of_frame grants bytes (framed (length grants) grant) next
    ∙ ap (λ (test : Bool). cond test (grants ++ grant ∷ []) grants) (eq-eqb (length grants) (length grants) refl)

-- ---- what a durable cell answers

module _ {D : Type 0} (old new : DurableState D) (shift session : ℕ) (request : Request) where
  pub granted : (reply : Reply) → Answers old shift session request (Ok reply) new → reply_to old.cell (parts old) request ≡ Granted
      → new ≡ with_entry old new.disk shift (entry session request (Answered Granted))
  granted reply answer is =
      answer.0 ∙ ap (λ (r : Reply). with_entry old new.disk shift (entry session request (Answered r))) (answer.1 ∙ is)

  -- where there is no halt and room, only the device is at fault
  pub failed : (faults : D → ℕ) (why : AskFault) → halted_at old.history ≡ None → length old.history < old.limit
      → Answers old shift session request (Err why) new → HasAskCause faults old.disk new.disk (Err why)
      → (new ≡ with_entry old new.disk shift (entry session request told.Halted)) × Rose (faults old.disk) (faults new.disk)
  failed faults (fault.Halted at) none room answer cause = absurd (let both = sym none ∙ answer.1 in cc)
  failed faults (fault.Full len) none room answer cause = absurd (omega (arith, room, answer.3))
  failed faults (fault.Device at) none room answer cause = (answer.0, cause)

-- ---- the disk

shows_weaker : {D : Type 0} (reads_as : D → Option (List ℕ)) (may_leave : D → List ℕ → Type 0) (disk : D) (P Q : List ℕ → Type 0)
    → ((file : List ℕ) → P file → Q file) → Shows reads_as may_leave disk P → Shows reads_as may_leave disk Q
shows_weaker reads_as may_leave disk P Q weaker shows =
    where_told (reads_as disk) (λ file. Q file × ((c : List ℕ) → may_leave disk c → Q c)) (λ file is.
    let both = told_of (reads_as disk) (λ file. P file × ((c : List ℕ) → may_leave disk c → P c)) file is shows in
    (weaker file both.0, λ c leaves. weaker c (both.1 c leaves)))

module _ {D : Type 0} (reads_as : D → Option (List ℕ)) (may_leave : D → List ℕ → Type 0) (moment : D → ℕ)
    (left_since : D → ℕ → List ℕ → Type 0) where
  -- where nothing is asked it stays
  pub stays : (faults : D → ℕ) (durable : DurableState D) → ((disk : D) (c : List ℕ) → left_since disk (moment disk) c → may_leave disk c)
      → KeepsDisk reads_as may_leave moment left_since faults durable
      → HasSince reads_as moment left_since durable (moment durable.disk) (length durable.added)
      → MovesSafely reads_as may_leave moment left_since durable durable
  stays faults durable only_now keeps since = record {
    any_moment = where_told (reads_as durable.disk)
        (λ _. LeavesOnly moment left_since durable.disk durable.disk (StandsThen durable durable)) (λ file is.
        let stands = told_of (reads_as durable.disk)
        (λ file. StandsNow durable file × ((c : List ℕ) → may_leave durable.disk c → StandsNow durable c)) file is keeps.stands in
        started moment left_since durable.disk (StandsThen durable durable) (λ c left. inl (stands.1 c (only_now durable.disk c left))));
    stands = keeps.stands;
    acknowledged = since;
    still = λ then count has. has;
  }

  -- a durable cell in which no writing failed stands for its grants
  pub stands_for_kept : (durable : DurableState D) (file : List ℕ) → durable.unsure ≡ None → StandsNow durable file
      → StandsFor file durable.text (kept_in durable)
  stands_for_kept durable file sure (inl stands) = stands
  stands_for_kept durable file sure (inr stands) =
      subst (λ (gs : List Grant). StandsFor file durable.text (durable.opening ++ gs))
      (ap (λ (last : Option Grant). durable.added ++ option_to_list last) sure ∙ append-nil durable.added) stands

  pub shows_kept : (new : FollowerState D) → new.durable.unsure ≡ None → Shows reads_as may_leave new.durable.disk (StandsNow new.durable)
      → StandsForKept reads_as may_leave new
  shows_kept new sure =
      shows_weaker reads_as may_leave new.durable.disk (StandsNow new.durable)
      (λ file. StandsFor file new.durable.text (kept new)) (λ file. stands_for_kept new.durable file sure)

  -- each image at each moment stands for the grants before the frame or after it
  module _ (old new : FollowerState D) (bytes : List ℕ) (sure : old.durable.unsure ≡ None) where
    abbrev BeforeOrAfter : List ℕ → Type 0
    BeforeOrAfter file = StandsForDelivered old.durable.text (kept old) bytes file

    leaves : ((file : List ℕ) → StandsNow new.durable file → BeforeOrAfter file)
        → IfSome (reads_as old.durable.disk)
        (λ _. LeavesOnly moment left_since old.durable.disk new.durable.disk (StandsThen old.durable new.durable))
        → IfSome (reads_as old.durable.disk) (λ _. LeavesOnly moment left_since old.durable.disk new.durable.disk BeforeOrAfter)
    leaves each any_moment =
        where_told (reads_as old.durable.disk)
        (λ _. LeavesOnly moment left_since old.durable.disk new.durable.disk BeforeOrAfter) (λ file is.
        widened moment left_since old.durable.disk new.durable.disk (StandsThen old.durable new.durable) BeforeOrAfter
        (told_of (reads_as old.durable.disk)
        (λ _. LeavesOnly moment left_since old.durable.disk new.durable.disk (StandsThen old.durable new.durable)) file is any_moment)
        (λ c. ⊎_elim (λ before. inl (stands_for_kept old.durable c sure before)) (each c)))

    -- nothing was done
    pub same_leaves : new ≡ old
        → IfSome (reads_as old.durable.disk)
        (λ _. LeavesOnly moment left_since old.durable.disk new.durable.disk (StandsThen old.durable new.durable))
        → IfSome (reads_as old.durable.disk) (λ _. LeavesOnly moment left_since old.durable.disk new.durable.disk BeforeOrAfter)
    same_leaves same = leaves (λ file now. inl (stands_for_kept old.durable file sure
        (subst (λ (f : FollowerState D). StandsNow f.durable file) same now)))

    -- the grant was appended
    pub appended_leaves : IsAppended old bytes new
        → IfSome (reads_as old.durable.disk)
        (λ _. LeavesOnly moment left_since old.durable.disk new.durable.disk (StandsThen old.durable new.durable))
        → IfSome (reads_as old.durable.disk) (λ _. LeavesOnly moment left_since old.durable.disk new.durable.disk BeforeOrAfter)
    appended_leaves is =
        let more : FollowerState D = with_grant old new.durable.disk is.grant in
        leaves (λ file now. inr (subst (StandsFor file old.durable.text)
        (kept_more old.durable new.durable.disk is.grant ∙ sym (next_appends (kept old) bytes is.grant is.granted.next))
        (stands_for_kept more.durable file refl (subst (λ (f : FollowerState D). StandsNow f.durable file) is.is now))))

    -- its writing failed
    pub halted_leaves : IsHaltedAppend old bytes new
        → IfSome (reads_as old.durable.disk)
        (λ _. LeavesOnly moment left_since old.durable.disk new.durable.disk (StandsThen old.durable new.durable))
        → IfSome (reads_as old.durable.disk) (λ _. LeavesOnly moment left_since old.durable.disk new.durable.disk BeforeOrAfter)
    halted_leaves is = leaves (λ file now. by_case file (subst (λ (f : FollowerState D). StandsNow f.durable file) is.is now))
      where
        halt : FollowerState D
        halt = with_halt old new.durable.disk is.grant

        by_case : (file : List ℕ) → StandsNow (with_halt old new.durable.disk is.grant).durable file → BeforeOrAfter file
        by_case file (inl stands) =
            inl (subst (StandsFor file old.durable.text) (kept_still old.durable new.durable.disk is.grant) stands)
        by_case file (inr stands) = inr (subst (StandsFor file old.durable.text)
            (ap (λ (gs : List Grant). old.durable.opening ++ (gs ++ is.grant ∷ [])) (append-nil old.durable.added)
            ∙ sym (append_assoc old.durable.opening old.durable.added (is.grant ∷ []))
            ∙ sym (next_appends (kept old) bytes is.grant is.granted.next)) stands)

-- ---- what follows of an answer

pub delivers : {D : Type 0} (old new : FollowerState D) (bytes : List ℕ) (result : Result ℕ TakeFault) → Takes old bytes result new
    → Delivers old bytes result new
delivers old new bytes (Ok ack) (before, behind, len, inl (same, known)) =
    (ap (λ (f : FollowerState _). kept f) same ∙ sym (known_leaves (kept old) bytes known), len)
delivers old new bytes (Ok ack) (before, behind, len, inr is) = (
  ap (λ (f : FollowerState _). kept f) is.is ∙ kept_more old.durable new.durable.disk is.grant
      ∙ sym (next_appends (kept old) bytes is.grant is.granted.next),
  len,
)
delivers old new bytes (Err (Halted at)) takes = ap (λ (f : FollowerState _). kept f) takes.0
delivers old new bytes (Err NotAFrame) takes = ap (λ (f : FollowerState _). kept f) takes.0
delivers old new bytes (Err (Conflict at grant)) takes = ap (λ (f : FollowerState _). kept f) takes.0
delivers old new bytes (Err NoFit) takes = ap (λ (f : FollowerState _). kept f) takes.0
delivers old new bytes (Err (NotGranted why)) takes = ap (λ (f : FollowerState _). kept f) takes.0
delivers old new bytes (Err (Full len)) takes = ap (λ (f : FollowerState _). kept f) takes.0
delivers old new bytes (Err Device) takes =
    ap (λ (f : FollowerState _). kept f) takes.1.is ∙ kept_still old.durable new.durable.disk takes.1.grant

module _ {D : Type 0} (reads_as : D → Option (List ℕ)) (may_leave : D → List ℕ → Type 0) (moment : D → ℕ)
    (left_since : D → ℕ → List ℕ → Type 0) (old new : FollowerState D) (bytes : List ℕ)
    (sure : HasNotHalted old → old.durable.unsure ≡ None)
    (moves : MovesSafely reads_as may_leave moment left_since old.durable new.durable) where
  pub crashes : (result : Result ℕ TakeFault) → Takes old bytes result new → LeavesDelivered reads_as moment left_since old bytes new
  crashes (Ok ack) (before, behind, len, inl (same, known)) goes_on =
      same_leaves reads_as may_leave moment left_since old new bytes (sure goes_on) same moves.any_moment
  crashes (Ok ack) (before, behind, len, inr is) goes_on =
      appended_leaves reads_as may_leave moment left_since old new bytes (sure goes_on) is moves.any_moment
  crashes (Err (Halted at)) takes goes_on =
      same_leaves reads_as may_leave moment left_since old new bytes (sure goes_on) takes.0 moves.any_moment
  crashes (Err NotAFrame) takes goes_on =
      same_leaves reads_as may_leave moment left_since old new bytes (sure goes_on) takes.0 moves.any_moment
  crashes (Err (Conflict at grant)) takes goes_on =
      same_leaves reads_as may_leave moment left_since old new bytes (sure goes_on) takes.0 moves.any_moment
  crashes (Err NoFit) takes goes_on =
      same_leaves reads_as may_leave moment left_since old new bytes (sure goes_on) takes.0 moves.any_moment
  crashes (Err (NotGranted why)) takes goes_on =
      same_leaves reads_as may_leave moment left_since old new bytes (sure goes_on) takes.0 moves.any_moment
  crashes (Err (Full len)) takes goes_on =
      same_leaves reads_as may_leave moment left_since old new bytes (sure goes_on) takes.0 moves.any_moment
  crashes (Err Device) takes goes_on =
      halted_leaves reads_as may_leave moment left_since old new bytes (sure goes_on) takes.1 moves.any_moment

  pub stable : (result : Result ℕ TakeFault) → Takes old bytes result new → IfOk result (λ ack. StandsForKept reads_as may_leave new)
  stable (Ok ack) (before, behind, len, inl (same, known)) =
      shows_kept reads_as may_leave moment left_since new (ap (λ (f : FollowerState D). f.durable.unsure) same ∙ sure before) moves.stands
  stable (Ok ack) (before, behind, len, inr is) =
      shows_kept reads_as may_leave moment left_since new (ap (λ (f : FollowerState D). f.durable.unsure) is.is) moves.stands
  stable (Err why) takes = tt

-- ---- the answer

-- what is not refused is known, where it is not the next one
pub known : (grants : List Grant) (bytes : List ℕ) (frame : Frame) → frame_in bytes ≡ Some frame → (frame.index ≡ length grants → ⊥)
    → (slice_get grants frame.index ≡ Some frame.grant) ⊎ (length grants ≤ frame.index) → IsFrameKnown grants bytes
known grants bytes frame is other (inl there) = (frame, is, inl there)
known grants bytes frame is other (inr late) = (frame, is, inr (after_it late other))
  where
    after_it : length grants ≤ frame.index → (frame.index ≡ length grants → ⊥) → length grants < frame.index
    after_it le ne = elim (cases_lt (length grants) frame.index) [
      | inl less ↦ less
      | inr most ↦ absurd (ne (omega (arith, le, most)))
    ]
