-- What came of frames in a durable cell, as an outcome of `follow`.
use Rattle.std.specs.Prelude.{Option, Some, None, IfSome}
use Rattle.std.specs.Option.{option_to_list}
use Rattle.std.proofs.Common.{◌≡◌, ℕ, List, [], ◌∷◌, ◌++◌, length, map, Ok, refl, ◌∙◌, sym, ap, subst}
use Rattle.std.proofs.lemmas.List.{append-nil}
use Rattle.admission_core.specs.CoreState.{CoreState}
use Rattle.cell_base.specs.declared.cells.Cell.{Cell}
use Rattle.cell_base.specs.declared.requests.Part.{Part}
use Rattle.cell_base.specs.declared.shifts.Grant.{Grant}
use Rattle.cell_base.specs.Fits.{CellFits}
use Rattle.cell_base.specs.Histories.{replay}
use Rattle.cell_base.specs.Policy.{IsAdmitted}
use Rattle.durable_cell.specs.DurableState.{DurableState, parts}
use Rattle.durable_cell.specs.Kept.{KeepsDisk}
use Rattle.record_text.specs.Lines.{left_words, line_of}
use Rattle.cell_walks.specs.Allowed.{StandsForAdded}
use Rattle.cell_walks.specs.DiskTold.{disk_told}
use Rattle.cell_walks.specs.Outcomes.{Outcome}
use Rattle.cell_walks.specs.declared.status.Status.TheVariants.{CommandRefused}
use Rattle.standby_link.specs.declared.take_fault.TakeFault.{TakeFault}
use Rattle.standby_link.specs.declared.take_fault.TakeFault.TheVariants.{Halted, NotAFrame, Conflict, NoFit, NotGranted, Full, Device}
use Rattle.standby_link.specs.Deliveries.{AreFramesTaken, acks_of, delivered_all}
use Rattle.standby_link.specs.Followers.{FollowerState, IsGrantedNext, IsFrameRefused, kept}
use Rattle.standby_commands.specs.Follow.{Followed, EndsFollowing, HaltedAt, IsFollowed, IsHaltedAt, IsRefusedAt, RefusedAt, ack_lines}
use Rattle.standby_commands.specs.Following.{ByDevice, ByRefusal, HasFollowed, HasFollowedOn, HasStopped, HasTaken}
use Rattle.standby_commands.specs.Following.{IsOf, StopFits, StopsBy, ended_by, follow_outcome, stop_outcome}
use Rattle.standby_commands.specs.Lines.{FaultFits, ack_line, follow_refused}
use Rattle.standby_commands.specs.declared.follow.Followed.{Followed as FollowedRun}
use Rattle.standby_commands.specs.declared.following.Stop.{Stop}
use Rattle.journal_texts.proofs.Added.{stands_for_added}
use Rattle.standby_commands.proofs.Fitting.{fault_fits}

-- a refusal is told by its line
stop_is : (cell : Cell) (grants : List Grant) (bytes : List ℕ) (index : ℕ) (why : TakeFault) → IsFrameRefused cell grants bytes why
    → (shown : Cell) → ((stop_outcome shown index why).status ≡ CommandRefused)
    × ((stop_outcome shown index why).pieces ≡ follow_refused shown index why ∷ [])
stop_is cell grants bytes index (Halted at) refused shown = absurd refused
stop_is cell grants bytes index NotAFrame refused shown = (refl, refl)
stop_is cell grants bytes index (Conflict at kept) refused shown = (refl, refl)
stop_is cell grants bytes index NoFit refused shown = (refl, refl)
stop_is cell grants bytes index (NotGranted why) refused shown = (refl, refl)
stop_is cell grants bytes index (Full len) refused shown = absurd refused
stop_is cell grants bytes index Device refused shown = absurd refused

module _ {D : Type 0} (old new : FollowerState D) (opening : List Grant) (first_is : kept old ≡ opening)
    (opening_is : old.durable.opening ≡ opening) (run : FollowedRun)
    (core_is : run.core ≡ record { cell = new.durable.cell; parts = parts new.durable })
    (state : parts new.durable ≡ replay new.durable.cell (kept new)) where
  abbrev outcome : Outcome
  outcome = follow_outcome run new.durable.added (option_to_list new.durable.unsure)

  module _ (frames : List (List ℕ)) (has : HasFollowed old frames new run.acks.items) where
    cell_is : run.core.cell ≡ old.durable.cell
    cell_is = ap (λ (core : CoreState). core.cell) core_is ∙ has.same.cell

    grants_are : kept new ≡ delivered_all opening frames
    grants_are = has.kept_is ∙ ap (λ (gs : List Grant). delivered_all gs frames) first_is

    taken_is : AreFramesTaken old.durable.cell opening frames
    taken_is = subst (λ (gs : List Grant). AreFramesTaken old.durable.cell gs frames) first_is has.taken

    acks_are : map ack_line run.acks.items ≡ ack_lines opening frames
    acks_are = ap (map ack_line) has.acks_are ∙ ap (λ (gs : List Grant). map ack_line (acks_of gs frames)) first_is

    added_is : opening ++ new.durable.added ≡ delivered_all opening frames
    added_is = (λ i. (sym opening_is ∙ sym has.same.opening) i ++ new.durable.added) ∙ grants_are

    parts_are : run.core.parts ≡ replay old.durable.cell (delivered_all opening frames)
    parts_are =
        ap (λ (core : CoreState). core.parts) core_is ∙ state
        ∙ (λ i. replay (has.same.cell i) (grants_are i))

    pub whole : run.stop ≡ None → new.durable.unsure ≡ None → IsFollowed old.durable.cell opening frames outcome
    whole none sure = record {
      taken = taken_is;
      status = ap (λ (stop : Option Stop). (ended_by run.core stop).status) none;
      pieces = (λ i. acks_are i ++ (ended_by run.core (none i)).pieces)
          ∙ ap (λ (ps : List Part). ack_lines opening frames ++ line_of (left_words (length ps)) ∷ []) parts_are;
      added = added_is;
      sure = ap option_to_list sure;
    }

  -- ---- a stop

  module _ (every : List (List ℕ)) (stop : Stop) (is : run.stop ≡ Some stop) (has : HasStopped old every new run.acks.items stop) where
    refused : IsFrameRefused old.durable.cell (delivered_all (kept old) has.first) has.bytes stop.why → new.durable.unsure ≡ None
        → IsRefusedAt old.durable.cell opening every outcome
    refused why sure =
        let told = stop_is old.durable.cell (delivered_all (kept old) has.first) has.bytes stop.index stop.why why run.core.cell in
        record {
          first = has.first;
          bytes = has.bytes;
          rest = has.rest;
          why = stop.why;
          parted = has.parted;
          taken = taken_is has.first has.followed;
          refused = subst (λ (gs : List Grant). IsFrameRefused old.durable.cell (delivered_all gs has.first) has.bytes stop.why)
              first_is why;
          status = ap (λ (s : Option Stop). (ended_by run.core s).status) is ∙ told.0;
          pieces = (λ i. acks_are has.first has.followed i
              ++ (ap (λ (s : Option Stop). (ended_by run.core s).pieces) is ∙ told.1
              ∙ (λ j. follow_refused (cell_is has.first has.followed j) (has.index_is j) stop.why ∷ [])) i);
          added = added_is has.first has.followed;
          sure = ap option_to_list sure;
        }

    halted : (grant : Grant) → IsGrantedNext old.durable.cell (delivered_all (kept old) has.first) has.bytes grant → stop.why ≡ Device
        → new.durable.unsure ≡ Some grant → IsHaltedAt old.durable.cell opening every outcome
    halted grant granted why unsure =
        let told = λ (s : Option Stop). ended_by run.core s in
        let device : told run.stop ≡ stop_outcome run.core.cell stop.index Device =
        ap told is ∙ ap (stop_outcome run.core.cell stop.index) why in
        record {
          first = has.first;
          bytes = has.bytes;
          rest = has.rest;
          grant = grant;
          parted = has.parted;
          taken = taken_is has.first has.followed;
          granted = subst (λ (gs : List Grant). IsGrantedNext old.durable.cell (delivered_all gs has.first) has.bytes grant)
              first_is granted;
          status = ap (λ (o : Outcome). o.status) device;
          pieces = (λ i. acks_are has.first has.followed i ++ (device i).pieces) ∙ append-nil (ack_lines opening has.first);
          added = added_is has.first has.followed;
          unsure = ap option_to_list unsure;
        }

    by_stop : StopsBy old.durable.cell (delivered_all (kept old) has.first) has.bytes stop.why new.durable
        → EndsFollowing old.durable.cell opening every outcome
    by_stop (ByRefusal why sure) = RefusedAt (refused why sure)
    by_stop (ByDevice grant granted why unsure) = HaltedAt (halted grant granted why unsure)

    pub stopped : EndsFollowing old.durable.cell opening every outcome
    stopped = by_stop has.stops

    -- its reason names what the cell has
    pub stop_fits : CellFits run.core.cell → IsAdmitted run.core.cell run.core.parts → StopFits run
    stop_fits fits admitted = subst (λ (s : Option Stop). IfSome s (λ stop. FaultFits run.core.cell stop.why)) (sym is) (by_why has.stops)
      where
        same : run.core.cell ≡ old.durable.cell
        same = cell_is has.first has.followed

        parts : run.core.parts ≡ replay run.core.cell (delivered_all opening has.first)
        parts = parts_are has.first has.followed ∙ (λ i. replay (sym same i) (delivered_all opening has.first))

        by_why : StopsBy old.durable.cell (delivered_all (kept old) has.first) has.bytes stop.why new.durable
            → FaultFits run.core.cell stop.why
        by_why (ByRefusal why sure) =
            fault_fits run.core.cell fits (delivered_all opening has.first) has.bytes stop.why
            (subst (λ (ps : List Part). IsAdmitted run.core.cell ps) parts admitted)
            (subst (λ (p : Cell × List Grant). IsFrameRefused p.0 (delivered_all p.1 has.first) has.bytes stop.why)
            (λ i. (sym same i, first_is i)) why)
        by_why (ByDevice grant granted why unsure) =
            subst (λ (fault : TakeFault). FaultFits run.core.cell fault) (sym why) tt

  -- ---- either

  pub follows : (frames : List (List ℕ)) (stop : Option Stop) → run.stop ≡ stop → HasTaken old frames new run.acks.items stop
      → EndsFollowing old.durable.cell opening frames outcome
  follows frames None is (has, sure) = Followed (whole frames has is sure)
  follows frames (Some stop) is has = stopped frames stop is has

  pub fits : (frames : List (List ℕ)) (stop : Option Stop) → run.stop ≡ stop → HasTaken old frames new run.acks.items stop
      → CellFits run.core.cell → IsAdmitted run.core.cell run.core.parts → StopFits run
  fits frames None is has cell admitted = subst (λ (s : Option Stop). IfSome s (λ stop. FaultFits run.core.cell stop.why)) (sym is) tt
  fits frames (Some stop) is has cell admitted = stop_fits frames stop is has cell admitted

-- ---- the durable cell, taken apart

of_taken : {D : Type 0} (old new : FollowerState D) (frames : List (List ℕ)) (acks : List ℕ) (stop : Option Stop)
    → HasTaken old frames new acks stop → IsOf old.durable new.durable
of_taken old new frames acks None has = has.0.same
of_taken old new frames acks (Some stop) has = has.followed.same

module _ {D : Type 0} (reads_as : D → Option (List ℕ)) (may_leave : D → List ℕ → Type 0) (moment : D → ℕ)
    (left_since : D → ℕ → List ℕ → Type 0) (faults : D → ℕ) (durable closed : DurableState D) (old new : FollowerState D)
    (frames : List (List ℕ)) (run : FollowedRun) (opened : old.durable ≡ durable) (first_is : kept old ≡ durable.opening)
    (has : HasTaken old frames new run.acks.items run.stop) (closed_is : closed ≡ new.durable)
    (core_is : run.core ≡ record { cell = closed.cell; parts = parts closed })
    (state : parts new.durable ≡ replay new.durable.cell (kept new)) where
  core_of : run.core ≡ record { cell = new.durable.cell; parts = parts new.durable }
  core_of = core_is ∙ (λ i. record { cell = (closed_is i).cell; parts = parts (closed_is i) })

  opening_is : old.durable.opening ≡ durable.opening
  opening_is = ap (λ (d : DurableState D). d.opening) opened

  pub followed_on : (disk : D) → disk ≡ closed.disk → KeepsDisk reads_as may_leave moment left_since faults closed
      → HasFollowedOn (disk_told reads_as may_leave moment left_since faults durable.entry disk) durable.cell durable.text durable.opening
      frames (Ok run)
  followed_on disk disk_is keeps =
      let same = of_taken old new frames run.acks.items run.stop has in
      let unsure = option_to_list new.durable.unsure in (
        new.durable.added,
        unsure,
        subst (λ (cell : Cell). EndsFollowing cell durable.opening frames (follow_outcome run new.durable.added unsure))
            (ap (λ (d : DurableState D). d.cell) opened)
            (follows old new durable.opening first_is opening_is run core_of state frames run.stop refl has),
        subst (λ (p : D × List ℕ × List Grant). StandsForAdded (disk_told reads_as may_leave moment left_since faults p.0 disk) p.1 p.2
            new.durable.added unsure)
            (λ i. (
              (same.entry ∙ ap (λ (d : DurableState D). d.entry) opened) i,
              (same.text ∙ ap (λ (d : DurableState D). d.text) opened) i,
              (same.opening ∙ opening_is) i,
            ))
            (subst (λ (d : DurableState D). StandsForAdded (disk_told reads_as may_leave moment left_since faults d.entry disk) d.text
            d.opening d.added (option_to_list d.unsure)) closed_is
            (stands_for_added reads_as may_leave moment left_since faults closed keeps disk disk_is)),
      )

  pub stop_fits_on : CellFits run.core.cell → IsAdmitted run.core.cell run.core.parts → StopFits run
  stop_fits_on = fits old new durable.opening first_is opening_is run core_of state frames run.stop refl has
