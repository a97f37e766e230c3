-- What the walk of `follow` answers, told fact by fact; and that frames of one list go through.
use Rattle.std.specs.Prelude.{IfSome, Some, slice_get}
use Rattle.std.proofs.Common.{◌≡◌, ◌≢◌, ◌⊎◌, inl, inr, ℕ, List, [], ◌∷◌, ◌++◌, length, sym, ap, ◌∙◌, subst, arith}
use Rattle.std.specs.List.{All}
use Rattle.std.proofs.lemmas.List.{append-nil}
use Rattle.std.proofs.lemmas.List.Elements.{All-head}
use Rattle.std.proofs.lemmas.Option.{slice_get_within}
use Rattle.outside_io.specs.Causes.{Rose}
use Rattle.outside_io.specs.Puts.{SinkTold, TookAll}
use Rattle.cell_base.specs.declared.cells.Cell.{Cell}
use Rattle.cell_base.specs.declared.shifts.Grant.{Grant}
use Rattle.cell_base.specs.Fits.{RequestFits}
use Rattle.cell_base.specs.Histories.{replay}
use Rattle.cell_base.specs.Outcomes.{reply_to}
use Rattle.journal_format.specs.Journals.{StandsForPrefix, StandsFor}
use Rattle.durable_cell.specs.declared.replays.TheConstants.{MAX_ROOM}
use Rattle.cell_walks.specs.Allowed.{StandsForAdded}
use Rattle.cell_walks.specs.DiskTold.{DiskTold, IsNow, SinceEntry}
use Rattle.cell_walks.specs.Observed.{Observed, shown}
use Rattle.cell_walks.specs.Outcomes.{Outcome}
use Rattle.cell_walks.specs.Promises.{DiskServes, IsAnswered, Promises, Refuses}
use Rattle.cell_walks.specs.StatusTells.{HasFailedEarly, IsEarlyEnd}
use Rattle.cell_walks.specs.Statuses.{status_number}
use Rattle.cell_walks.specs.declared.early_end.Refusal.{Refusal}
use Rattle.cell_walks.specs.declared.early_end.Subject.TheVariants.{Command}
use Rattle.cell_walks.specs.declared.status.Status.{Status}
use Rattle.cell_walks.specs.declared.status.Status.TheVariants.{CommandRefused, DeviceFault, Done, SinkFault}
use Rattle.cell_walks.proofs.Standing.{found_same}
use Rattle.cell_walks.proofs.Telling.{early_or_answered, failed_early, one_status}
use Rattle.cell_walks.proofs.Walked.{now_weaker}
use Rattle.cell_texts.specs.Tests.{KnownCell}
use Rattle.standby_link.specs.declared.frame.Frame.{Frame}
use Rattle.standby_link.specs.declared.take_fault.TakeFault.{TakeFault}
use Rattle.standby_link.specs.declared.take_fault.TakeFault.TheVariants.{Halted, NotAFrame, Conflict, NoFit, NotGranted, Full, Device}
use Rattle.standby_link.specs.Deliveries.{AreFramesTaken, IsFrameTaken, delivered, delivered_all}
use Rattle.standby_link.specs.Followers.{IsFrameKnown, IsFrameRefused}
use Rattle.standby_link.specs.Frames.{frame_in, framed}
use Rattle.standby_link.proofs.Fed.{fed_law}
use Rattle.standby_commands.specs.Follow.{Followed, EndsFollowing, HaltedAt, IsFollowed, IsHaltedAt, IsRefusedAt, RefusedAt, follow}
use Rattle.standby_commands.specs.FollowTold.{AreOfOneList, Completes, FollowTells, IsFollowFrom, IsFollowTold, IsFollowedWhole}
use Rattle.standby_commands.proofs.FollowRoom.{room_told}
use Rattle.standby_commands.specs.FollowTold.{IsHaltedFollow, IsRefusedFollow, ToldHalted, ToldRefused, ToldWhole}

-- ---- the facts

module _ (disk : DiskTold) (cell : Cell) (text : List ℕ) (frames : List (List ℕ)) (opening : List Grant) (outcome : Outcome)
    (left : StandsForAdded disk text opening outcome.added outcome.unsure) where
  sure : (grants : List Grant) → opening ++ outcome.added ≡ grants → outcome.unsure ≡ [] → IsNow disk (λ file. StandsFor file text grants)
  sure grants added none =
      let now = subst (λ (u : List Grant). StandsForAdded disk text opening outcome.added u) none left in
      now_weaker disk (λ file. StandsFor file text (opening ++ outcome.added) ⊎ StandsFor file text (opening ++ outcome.added ++ []))
      (λ file. StandsFor file text grants)
      (λ file. elim [
        | inl so ↦ subst (StandsFor file text) added so
        | inr so ↦ subst (StandsFor file text) (append-nil (opening ++ outcome.added) ∙ added) so
      ]) now.now

  unsure : (grants : List Grant) (last : Grant) → opening ++ outcome.added ≡ grants → outcome.unsure ≡ last ∷ []
      → IsNow disk (λ file. StandsFor file text grants ⊎ StandsFor file text (grants ++ last ∷ [])) × Rose disk.faults disk.faults_after
  unsure grants last added is =
      let now = subst (λ (u : List Grant). StandsForAdded disk text opening outcome.added u) is left in (
        now_weaker disk
            (λ file. StandsFor file text (opening ++ outcome.added) ⊎ StandsFor file text (opening ++ outcome.added ++ last ∷ []))
            (λ file. StandsFor file text grants ⊎ StandsFor file text (grants ++ last ∷ []))
            (λ file. elim [
              | inl so ↦ inl (subst (StandsFor file text) added so)
              | inr so ↦ inr (subst (StandsFor file text)
                  (ap (λ (gs : List Grant). gs ++ last ∷ []) added) so)
            ]) now.now,
        All-head (λ (grant : Grant). Rose disk.faults disk.faults_after) last [] now.cause,
      )

  -- a crash at any moment left the opening grants and a prefix of these
  moments : (more : List Grant) → outcome.unsure ≡ more → SinceEntry disk (StandsForPrefix text opening (outcome.added ++ more))
  moments more is =
      subst (λ (u : List Grant). SinceEntry disk (StandsForPrefix text opening (outcome.added ++ u))) is left.any_moment

  sure_moments : outcome.unsure ≡ [] → SinceEntry disk (StandsForPrefix text opening outcome.added)
  sure_moments none =
      subst (λ (gs : List Grant). SinceEntry disk (StandsForPrefix text opening gs)) (append-nil outcome.added) (moments [] none)

  whole : IsFollowed cell opening frames outcome → IsFollowedWhole disk cell text frames opening outcome
  whole is = record {
    is = is;
    stands = sure (delivered_all opening frames) is.added is.sure;
    any_moment = sure_moments is.sure;
  }

  refused : IsRefusedAt cell opening frames outcome → IsRefusedFollow disk cell text frames opening outcome
  refused is = record {
    is = is;
    stands = sure (delivered_all opening is.first) is.added is.sure;
    any_moment = sure_moments is.sure;
  }

  halted : IsHaltedAt cell opening frames outcome → IsHaltedFollow disk cell text frames opening outcome
  halted is =
      let now = unsure (delivered_all opening is.first) is.grant is.added is.unsure in
      record { is = is; stands = now.0; any_moment = moments (is.grant ∷ []) is.unsure; cause = now.1 }

  tells : EndsFollowing cell opening frames outcome → IsFollowTold disk cell text frames opening outcome
  tells (Followed is) = ToldWhole (whole is)
  tells (RefusedAt is) = ToldRefused (refused is)
  tells (HaltedAt is) = ToldHalted (halted is)

-- ---- by its status

-- what is answered is one of the three
module _ (seen : Observed) (cell frames : List ℕ) (outcome : Outcome) (now : IfSome seen.disk.reads seen.disk.leaves) where
  -- the cell and the frames that were read, and the grants of the journal
  told_of : (Told : DiskTold → Cell → List ℕ → List (List ℕ) → List Grant → Outcome → Type 0)
      → IsFollowFrom IsFollowTold seen cell frames outcome
      → ((disk : DiskTold) (is : Cell) (text : List ℕ) (list : List (List ℕ)) (opening : List Grant)
      → IsFollowTold disk is text list opening outcome → Told disk is text list opening outcome)
      → IsFollowFrom Told seen cell frames outcome
  told_of Told from so = record {
    held = from.held;
    cell_read = from.cell_read;
    list = from.list;
    frames_read = from.frames_read;
    opening = from.opening;
    opened = from.opened;
    stood = from.stood;
    told = so seen.disk from.held.cell from.held.text from.list from.opening from.told;
    room = from.room;
  }

  pub follow_told : IsAnswered seen (follow cell frames) outcome → IsFollowFrom IsFollowTold seen cell frames outcome
  follow_told (held, cell_read, (list, frames_read, (opening, opened, (had, hads, (follows, left))))) = record {
    held = held;
    cell_read = cell_read;
    list = list;
    frames_read = frames_read;
    opening = opening;
    opened = opened;
    stood = λ grants was. sym (found_same seen.disk now held.text grants was held.cell MAX_ROOM opening opened.1);
    told = tells seen.disk held.cell held.text list opening outcome left follows;
    room = room_told seen.files frames held.cell list opening outcome frames_read follows;
  }

  -- a status of it is that of one of them
  told_whole : outcome.status ≡ Done → (disk : DiskTold) (is : Cell) (text : List ℕ) (list : List (List ℕ)) (opening : List Grant)
      → IsFollowTold disk is text list opening outcome → IsFollowedWhole disk is text list opening outcome
  told_whole done disk is text list opening (ToldWhole told) = told
  told_whole done disk is text list opening (ToldRefused told) = let both = sym done ∙ told.is.status in absurd (cc)
  told_whole done disk is text list opening (ToldHalted told) = let both = sym done ∙ told.is.status in absurd (cc)

  told_refused : outcome.status ≡ CommandRefused → (disk : DiskTold) (is : Cell) (text : List ℕ) (list : List (List ℕ))
      (opening : List Grant) → IsFollowTold disk is text list opening outcome → IsRefusedFollow disk is text list opening outcome
  told_refused ten disk is text list opening (ToldWhole told) = let both = sym ten ∙ told.is.status in absurd (cc)
  told_refused ten disk is text list opening (ToldRefused told) = told
  told_refused ten disk is text list opening (ToldHalted told) = let both = sym ten ∙ told.is.status in absurd (cc)

  told_halted : outcome.status ≡ DeviceFault → (disk : DiskTold) (is : Cell) (text : List ℕ) (list : List (List ℕ)) (opening : List Grant)
      → IsFollowTold disk is text list opening outcome → IsHaltedFollow disk is text list opening outcome
  told_halted seven disk is text list opening (ToldWhole told) = let both = sym seven ∙ told.is.status in absurd (cc)
  told_halted seven disk is text list opening (ToldRefused told) = let both = sym seven ∙ told.is.status in absurd (cc)
  told_halted seven disk is text list opening (ToldHalted told) = told

  -- one of the three statuses
  one_of_three : (disk : DiskTold) (is : Cell) (text : List ℕ) (list : List (List ℕ)) (opening : List Grant)
      → IsFollowTold disk is text list opening outcome
      → (outcome.status ≡ Done) ⊎ ((outcome.status ≡ DeviceFault) ⊎ (outcome.status ≡ CommandRefused))
  one_of_three disk is text list opening (ToldWhole told) = inl told.is.status
  one_of_three disk is text list opening (ToldRefused told) = inr (inr told.is.status)
  one_of_three disk is text list opening (ToldHalted told) = inr (inl told.is.status)

-- no test of it refuses as a command does
never_refused : (seen : Observed) (cell frames : List ℕ) (refusal : Refusal) → Refuses (shown seen) (follow cell frames) refusal
    → refusal.subject ≡ Command → ⊥
never_refused seen cell frames refusal (inl (fault, line, shows, told, is)) of_command =
    let both = ap (λ (r : Refusal). r.subject) is ∙ of_command in absurd (cc)
never_refused seen cell frames refusal (inr (held, shows, inl (fault, line, read, told, is))) of_command =
    let both = ap (λ (r : Refusal). r.subject) is ∙ of_command in absurd (cc)
never_refused seen cell frames refusal (inr (held, shows, inr (list, read, inl (why, because, is)))) of_command =
    let both = ap (λ (r : Refusal). r.subject) is ∙ of_command in absurd (cc)
never_refused seen cell frames refusal (inr (held, shows, inr (list, read, inr (opening, opened, inl (none, line, at, told, is))))) of_command =
    none
never_refused seen cell frames refusal (inr (held, shows, inr (list, read, inr (opening, opened, inr (had, hads, none))))) of_command =
    none

-- what the status of a `follow` tells
module _ (seen : Observed) (sink : SinkTold) (cell frames : List ℕ) (status : Status) (now : IfSome seen.disk.reads seen.disk.leaves)
    (promised : Promises seen sink (follow cell frames) status) where
  abbrev ended_so : Outcome
  ended_so = promised.outcome

  answered : IsAnswered seen (follow cell frames) ended_so → IsFollowFrom IsFollowTold seen cell frames ended_so
  answered = follow_told seen cell frames ended_so now

  is_done : status ≡ Done → IsFollowFrom IsFollowedWhole seen cell frames ended_so × TookAll sink ended_so.pieces
  is_done is =
      let had = promised.done is in (
        told_of seen cell frames ended_so now IsFollowedWhole (answered had.0) (told_whole seen cell frames ended_so now (had.1 ∙ is)),
        had.2,
      )

  is_refused : status ≡ CommandRefused → IsFollowFrom IsRefusedFollow seen cell frames ended_so × TookAll sink ended_so.pieces
  is_refused is =
      let put = promised.whole (λ eight. absurd (let both = sym is ∙ eight in cc)) in
      elim (promised.refused Command is) [
        | inl refused ↦ absurd (never_refused seen cell frames refused.0 refused.2 refused.1)
        | inr answers ↦ (
          told_of seen cell frames ended_so now IsRefusedFollow (answered answers)
              (told_refused seen cell frames ended_so now (sym put.0 ∙ is)),
          put.1,
        )
      ]

  is_halted : status ≡ DeviceFault
      → HasFailedEarly seen sink ended_so ⊎ (IsFollowFrom IsHaltedFollow seen cell frames ended_so × TookAll sink ended_so.pieces)
  is_halted is = elim (failed_early seen sink (follow cell frames) status promised is) [
    | inl failed ↦ inl failed
    | inr had ↦ inr (
      told_of seen cell frames ended_so now IsHaltedFollow (answered had.0) (told_halted seen cell frames ended_so now (sym had.1)),
      had.2,
    )
  ]

  is_cut : IsEarlyEnd ended_so ⊎ IsFollowFrom IsFollowTold seen cell frames ended_so
  is_cut = elim (early_or_answered seen sink (follow cell frames) status promised) [ inl early ↦ inl early | inr had ↦ inr (answered had) ]

  is_ended : (number : ℕ) → number ≡ status_number status → number ≢ 0 → number ≢ 7 → number ≢ 8 → number ≢ 10
      → IsEarlyEnd ended_so × (number ≡ status_number ended_so.status) × TookAll sink ended_so.pieces
  is_ended number same zero seven eight ten =
      let put = promised.whole (λ is. eight (same ∙ ap status_number is)) in
      let told : number ≡ status_number ended_so.status = same ∙ ap status_number put.0 in
      elim is_cut [
        | inl early ↦ (early, told, put.1)
        | inr from ↦ elim (one_of_three seen cell frames ended_so now seen.disk from.held.cell from.held.text from.list from.opening
            from.told) [
              | inl done ↦ absurd (zero (told ∙ ap status_number done))
              | inr (inl halt) ↦ absurd (seven (told ∙ ap status_number halt))
              | inr (inr stop) ↦ absurd (ten (told ∙ ap status_number stop))
            ]
      ]

  pub follow_tells : (number : ℕ) → number ≡ status_number status → FollowTells seen sink cell frames number
  follow_tells number same = record {
    outcome = ended_so;
    done = λ is. is_done (one_status status Done (sym same ∙ is));
    refused = λ is. is_refused (one_status status CommandRefused (sym same ∙ is));
    halted = λ is. is_halted (one_status status DeviceFault (sym same ∙ is));
    cut = λ is. (promised.cut (one_status status SinkFault (sym same ∙ is)), is_cut);
    ended = is_ended number same;
    crash = promised.keeps (λ held list opening had. tt);
  }

-- ---- frames of one list

same_frame : (bytes : List ℕ) (a b : Frame) → frame_in bytes ≡ Some a → frame_in bytes ≡ Some b → a ≡ b
same_frame bytes a b one other = let both : Some a ≡ Some b = sym one ∙ other in cc

-- a frame that is known is not the next one
not_next : (grants : List Grant) (bytes : List ℕ) (grant : Grant) → IsFrameKnown grants bytes
    → frame_in bytes ≡ Some (framed (length grants) grant) → ⊥
not_next grants bytes grant (frame, is, place) next =
    let index : frame.index ≡ length grants = ap (λ (f : Frame). f.index) (same_frame bytes frame (framed (length grants) grant) is next) in
    elim place [
      | inl there ↦ let within = slice_get_within grants frame.index frame.grant there in omega (arith, within, index)
      | inr behind ↦ omega (arith, behind, index)
    ]

-- and a frame is not both taken and refused
not_both : (cell : Cell) (grants : List Grant) (bytes : List ℕ) (why : TakeFault) → IsFrameTaken cell grants bytes
    → IsFrameRefused cell grants bytes why → ⊥
not_both cell grants bytes (Halted at) taken refused = refused
not_both cell grants bytes (Full len) taken refused = refused
not_both cell grants bytes Device taken refused = refused
not_both cell grants bytes NotAFrame (inl known) refused = absurd (let both = sym known.1 ∙ refused in cc)
not_both cell grants bytes NotAFrame (inr (grant, next)) refused = absurd (let both = sym next.next ∙ refused in cc)
not_both cell grants bytes (Conflict at kept) (inl (frame, is, place)) (grant, here, there, differs) =
    let same : frame ≡ framed at grant = same_frame bytes frame (framed at grant) is here in
    elim place [
      | inl stands ↦ differs
          (let both : Some kept ≡ Some grant = sym there ∙ ap (λ (f : Frame). slice_get grants f.index) (sym same) ∙ stands
          ∙ ap (λ (f : Frame). Some f.grant) same in cc)
      | inr behind ↦
          let within = slice_get_within grants at kept there in
          let index : frame.index ≡ at = ap (λ (f : Frame). f.index) same in omega (arith, within, behind, index)
    ]
not_both cell grants bytes (Conflict at kept) (inr (grant, next)) (other, here, there, differs) =
    let index : length grants ≡ at =
    ap (λ (f : Frame). f.index) (same_frame bytes (framed (length grants) grant) (framed at other) next.next here) in
    let within = slice_get_within grants at kept there in omega (arith, within, index)
not_both cell grants bytes NoFit (inl known) (grant, here, unfit) = not_next grants bytes grant known here
not_both cell grants bytes NoFit (inr (grant, next)) (other, here, unfit) =
    unfit (subst (λ (f : Frame). RequestFits cell f.grant.request)
    (same_frame bytes (framed (length grants) grant) (framed (length grants) other) next.next here) next.fits)
not_both cell grants bytes (NotGranted why) (inl known) (grant, here, fit, is) = not_next grants bytes grant known here
not_both cell grants bytes (NotGranted why) (inr (grant, next)) (other, here, fit, is) =
    let same = same_frame bytes (framed (length grants) grant) (framed (length grants) other) next.next here in
    absurd (let both = sym next.granted ∙ ap (λ (f : Frame). reply_to cell (replay cell grants) f.grant.request) same ∙ is in cc)

-- a frame among those that are taken is taken after the ones before it
taken_at : (cell : Cell) (opening : List Grant) (first : List (List ℕ)) (bytes : List ℕ) (rest : List (List ℕ))
    → AreFramesTaken cell opening (first ++ bytes ∷ rest) → IsFrameTaken cell (delivered_all opening first) bytes
taken_at cell opening [] bytes rest taken = taken.0
taken_at cell opening (one ∷ first) bytes rest taken = taken_at cell (delivered opening one) first bytes rest taken.1

module _ (seen : Observed) (sink : SinkTold) (cell frames : List ℕ) (status : Status) where
  serves_not : (held : KnownCell) (list : List (List ℕ)) → DiskServes seen (follow cell frames)
      → Rose seen.disk.faults seen.disk.faults_after → ⊥
  serves_not held list (inl none) rose = none held list
  serves_not held list (inr never) rose = never rose

  by_answer : (outcome : Outcome) → status ≡ outcome.status → DiskServes seen (follow cell frames) → AreOfOneList seen cell frames
      → IsAnswered seen (follow cell frames) outcome → status ≡ Done
  by_answer outcome is serves of_one (held, shows, (list, read, (opening, opened, (had, hads, (follows, left))))) = by_case follows
    where
      by_case : EndsFollowing held.cell opening list outcome → status ≡ Done
      by_case (Followed whole) = is ∙ whole.status
      by_case (RefusedAt refused) =
          let one = of_one held shows list read opening opened in
          let taken = (fed_law held.cell opening one.0 list one.1 one.2 one.3).0 in
          absurd (not_both held.cell (delivered_all opening refused.first) refused.bytes refused.why
          (taken_at held.cell opening refused.first refused.bytes refused.rest
          (subst (λ (fs : List (List ℕ)). AreFramesTaken held.cell opening fs) refused.parted taken)) refused.refused)
      by_case (HaltedAt halted) =
          absurd (serves_not held list serves (All-head (λ (grant : Grant). Rose seen.disk.faults seen.disk.faults_after) halted.grant []
          (subst (λ (u : List Grant). All (λ (grant : Grant). Rose seen.disk.faults seen.disk.faults_after) u) halted.unsure left.cause)))

  pub completes : Completes seen sink cell frames status
  completes promises accepts reads serves takes of_one = elim (promises.complete accepts reads serves takes) [
    | inl answered ↦ inl (by_answer promises.outcome answered.0 serves of_one answered.2)
    | inr starved ↦ inr starved
  ]
