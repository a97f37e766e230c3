-- A round of a conversation, from what its calls say.
use Rattle.std.specs.Prelude.{IfSome, Option, None, Some, ⊤}
use Rattle.std.proofs.Common.{◌≡◌, ℕ, ◌+◌, ◌≤◌, inl, Bool, true, false, List, [], ◌∷◌, ◌++◌, length}
use Rattle.std.proofs.Common.{map, take, All, refl, sym, ap, ◌∙◌, subst, arith, append_assoc, append-nil}
use Rattle.std.proofs.lemmas.Bool.{true≢false}
use Rattle.std.proofs.lemmas.List.{length-append, length-map, map-append}
use Rattle.std.proofs.lemmas.List.Elements.{All-nil, All-cons}
use Rattle.std.proofs.Math.Seq.{take-append_seam}
use Rattle.outside_io.specs.Causes.{Rose}
use Rattle.outside_io.specs.Disk.{LeavesOnly, Turns}
use Rattle.outside_io.specs.Puts.{SinkTold, TookAll, TookSome}
use Rattle.cell_base.specs.declared.cells.Cell.{Cell}
use Rattle.cell_base.specs.declared.requests.Part.{Part}
use Rattle.cell_base.specs.declared.shifts.Grant.{Grant}
use Rattle.cell_base.specs.Fits.{RequestFits}
use Rattle.cell_base.specs.Histories.{replay}
use Rattle.input_lines.specs.Reading.{AreLinesSoFar, LinesState}
use Rattle.live_cell.specs.LiveState.{LiveState, committed}
use Rattle.move_journal.specs.Disks.{Shows}
use Rattle.journal_format.specs.Journals.{IsBeforeOrAfterAll, StandsFor}
use Rattle.cell_walks.specs.Outcomes.{Cut, IsDelivered, Outcome, printed}
use Rattle.cell_walks.specs.declared.status.Status.{Status}
use Rattle.cell_walks.specs.declared.status.Status.TheVariants.{DeviceFault, JournalRefused, SinkFault}
use Rattle.wait_queue.specs.Queues.{QueueState}
use Rattle.wait_queue.specs.Watching.{AreFit, AreWatching}
use Rattle.serve_command.specs.Answers.{answers, halted_line, line_number}
use Rattle.serve_command.specs.Asks.{ask_of}
use Rattle.serve_command.specs.Rounds.{AreGroupLines, GROUP_LINES, IsLastRound, IsRound, IsGroupOfLines, MAX_SERVED, Moves}
use Rattle.serve_command.specs.Serve.{FailedDevice, FailedSink, FullJournal, Stops, full_line}
use Rattle.serve_command.specs.Serving.{HasCounts, IsFirstGrant, IsAnsweredGroup, HasNoGroup, KeepsWaiters, StandsAt, Stays}
use Rattle.serve_command.specs.Talks.{Talk, since, talk_after}
use Rattle.serve_command.specs.declared.asks.Ask.{Ask}
use Rattle.serve_command.specs.FirstGrants.{FirstGrant}
use Rattle.serve_command.specs.declared.server.Server.{Server}
use Rattle.serve_command.proofs.Delivering.{same_delivered}
use Rattle.serve_command.proofs.Grouping.{answers-append, granted-after, since-append}

-- what holds by itself holds of each
each : {X : Type 0} (P : Type 0) → P → (xs : List X) → All (λ (x : X). P) xs
each P p [] = All-nil (λ x. P)
each P p (x ∷ xs) = All-cons (λ y. P) x xs p (each P p xs)

-- the group is on the disk and answered
module _ {D : Type 0} (old mid new : Server D) (stays : Stays old mid) (live_is : new.live ≡ committed mid.live new.live.disk)
    (queue_is : new.queue ≡ mid.queue) where
  waiters_kept : KeepsWaiters mid → KeepsWaiters new
  waiters_kept kept = record {
    fit = subst (λ (k : Cell × QueueState). AreFit k.0 k.1.waiters)
        (λ i. (sym (ap (λ (l : LiveState D). l.cell) live_is) i, sym queue_is i)) kept.fit;
    watching = subst (λ (k : (Cell × List Part) × QueueState). AreWatching k.0.0 k.0.1 k.1.waiters k.1.watches)
        (λ i. (
          (sym (ap (λ (l : LiveState D). l.cell) live_is) i, sym (ap (λ (l : LiveState D). l.parts) live_is) i),
          sym queue_is i,
        )) kept.watching;
    few = subst (λ (q : QueueState). length q.waiters ≤ 4096) (sym queue_is) kept.few;
    room = ap (λ (q : QueueState). q.room) queue_is ∙ kept.room;
  }

  pub is_ready : HasNoGroup old → KeepsWaiters mid → new.replies ≡ [] → new.first ≡ None → HasNoGroup new
  is_ready ready kept replies first = record {
    pending = ap (λ (l : LiveState D). l.pending) live_is;
    replies = replies;
    first = first;
    spare = ap (λ (l : LiveState D). l.spare) live_is ∙ stays.spare
        ∙ omega (arith, ready.spare, ap (λ (gs : List Grant). length gs) ready.pending);
    runs = ap (λ (l : LiveState D). l.is_halted) live_is ∙ stays.runs ∙ ready.runs;
    room = ap (λ (l : LiveState D). l.room) live_is ∙ stays.room ∙ ready.room;
    waiters = waiters_kept kept;
  }

module _ {D : Type 0} (reads_as : D → Option (List ℕ)) (may_leave : D → List ℕ → Type 0) (moment : D → ℕ)
    (left_since : D → ℕ → List ℕ → Type 0) (faults : D → ℕ) (sink : SinkTold) (cell_text : List ℕ) (talk : Talk) (text : List ℕ)
    (given : List (List ℕ)) (old mid new : Server D) (lines : LinesState) (stays : Stays old mid) (full : Bool)
    (taken : IsGroupOfLines old.live.cell talk old.asked text given mid lines full)
    (fits : mid.live.len + length mid.live.pending ≤ MAX_SERVED) where
  abbrev cell : Cell
  cell = old.live.cell

  abbrev asks : List Ask
  asks = map (ask_of cell) taken.0

  abbrev grants : List Grant
  grants = talk.granted

  abbrev more : List Grant
  more = since cell talk asks

  abbrev after : Talk
  after = talk_after cell talk asks

  all_grants : after.granted ≡ grants ++ more
  all_grants = granted-after cell talk asks

  is_group : IsAnsweredGroup cell talk old.asked asks mid
  is_group = taken.1

  -- the journal has room for the grants of the group, which is no longer than one
  within : length grants + length more ≤ MAX_SERVED
  within = omega (
    arith,
    fits,
    is_group.at.number,
    ap (λ (gs : List Grant). length gs) all_grants,
    length-append grants more,
  )

  group_few : length asks ≤ GROUP_LINES
  group_few = omega (arith, taken.3, length-map taken.0 (ask_of cell))

  -- the lines that were taken, and what they ask
  abbrev Lines : Type 0
  Lines = (all : List (List ℕ)) × (others : List Ask) × (map (ask_of cell) all ≡ asks ++ others) × AreLinesSoFar text (given ++ all) lines

  all_lines : (how : Bool) → AreGroupLines cell talk text given taken.0 lines how → Lines
  all_lines false reads = (taken.0, [], sym (append-nil asks), reads)
  all_lines true (line, reads, is) = (
    taken.0 ++ line ∷ [],
    ask_of cell line ∷ [],
    map-append (ask_of cell) taken.0 (line ∷ []),
    subst (λ (ls : List (List ℕ)). AreLinesSoFar text ls lines) (append_assoc given taken.0 (line ∷ [])) reads,
  )

  -- what is known of the disk
  module _ (tells : Turns (reads_as mid.live.disk) (reads_as new.live.disk) (λ _ _. ⊤))
      (moved : IfSome (reads_as mid.live.disk)
      (λ _. LeavesOnly moment left_since mid.live.disk new.live.disk (IsBeforeOrAfterAll cell_text grants mid.live.pending))) where
    moves_by : (since_then : List Grant) → mid.live.pending ≡ since_then
        → Moves reads_as moment left_since cell_text grants since_then old.live.disk new.live.disk
    moves_by since_then is =
        subst (λ (d : D). Moves reads_as moment left_since cell_text grants since_then d new.live.disk) stays.disk
        (subst (λ (gs : List Grant). Moves reads_as moment left_since cell_text grants gs mid.live.disk new.live.disk) is
        (record { tells = tells; any_moment = moved }))

    -- ---- the grants are on the disk

    module _ (live_is : new.live ≡ committed mid.live new.live.disk) (counts_is : new.counts ≡ mid.counts)
        (queue_is : new.queue ≡ mid.queue) (asked_is : new.asked ≡ mid.asked)
        (stored : Shows reads_as may_leave new.live.disk (λ file. StandsFor file cell_text (grants ++ mid.live.pending))) where
      stands : Shows reads_as may_leave new.live.disk (λ file. StandsFor file cell_text (grants ++ more))
      stands = subst (λ (gs : List Grant). Shows reads_as may_leave new.live.disk (λ file. StandsFor file cell_text (grants ++ gs)))
          is_group.pending stored

      same_cell : new.live.cell ≡ cell
      same_cell = ap (λ (l : LiveState D). l.cell) live_is ∙ stays.cell

      at : StandsAt after new
      at = record {
        fit = subst (λ (c : Cell). All (λ (grant : Grant). RequestFits c grant.request) after.granted)
            (sym (ap (λ (l : LiveState D). l.cell) live_is)) is_group.at.fit;
        parts = ap (λ (l : LiveState D). l.parts) live_is ∙ is_group.at.parts
            ∙ ap (λ (c : Cell). replay c after.granted) (sym (ap (λ (l : LiveState D). l.cell) live_is));
        counts = subst (HasCounts after.granted) (sym counts_is) is_group.at.counts;
        waiters = ap (λ (q : QueueState). q.waiters) queue_is ∙ is_group.at.waiters;
        number = omega (
          arith,
          ap (λ (l : LiveState D). l.len) live_is,
          ap (λ (l : LiveState D). length l.pending) live_is,
          is_group.at.number,
        );
      }

      pub goes_on : full ≡ false → TookAll sink mid.replies
          → IsRound reads_as may_leave moment left_since faults cell sink cell_text talk text given old new lines taken.0
      goes_on none took = record {
        cell_is = same_cell;
        stands_after = record {
          at = at;
          disk = subst (λ (gs : List Grant). Shows reads_as may_leave new.live.disk (λ file. StandsFor file cell_text gs)) (sym all_grants)
              stands;
        };
        moves = moves_by more is_group.pending;
        asked = ap line_number asked_is ∙ is_group.asked ∙ ap (λ (n : ℕ). line_number (old.asked + n)) (length-map taken.0 (ask_of cell));
        reads = subst (AreGroupLines cell talk text given taken.0 lines) none taken.2;
        took = subst (TookAll sink) is_group.replies took;
        room = within;
      }

      -- it stops with all grants on the disk
      stops_with : (all : Lines) (status : Status) (outcome : Outcome)
          → Stops cell after (answers cell talk (old.asked + 1) asks) more all.1 outcome
          → outcome.added ≡ more → outcome.unsure ≡ [] → IsDelivered sink outcome status
          → IsLastRound reads_as may_leave moment left_since faults cell sink cell_text talk text given old new lines status
      stops_with all status outcome stops added unsure delivered = record {
        taken = all.0;
        group = asks;
        others = all.1;
        parted = all.2;
        reads = all.3;
        outcome = outcome;
        stops = stops;
        delivered = delivered;
        disk = subst (λ (gs : List Grant). Shows reads_as may_leave new.live.disk
            (λ file. IsBeforeOrAfterAll cell_text (grants ++ gs) outcome.unsure file)) (sym added) either;
        moves = moves_by (outcome.added ++ outcome.unsure)
            (is_group.pending ∙ sym (append-nil more) ∙ (λ i. sym added i ++ sym unsure i));
        cause = subst (λ (gs : List Grant). All (λ (grant : Grant). Rose (faults old.live.disk) (faults new.live.disk)) gs) (sym unsure)
            (All-nil (λ grant. Rose (faults old.live.disk) (faults new.live.disk)));
        room = omega (
          arith,
          within,
          ap (λ (gs : List Grant). length gs) added,
          ap (λ (gs : List Grant). length gs) unsure,
        );
      }
        where
          either : Shows reads_as may_leave new.live.disk (λ file. IsBeforeOrAfterAll cell_text (grants ++ more) outcome.unsure file)
          either = weaker (reads_as new.live.disk) stands
            where
              weaker : (told : Option (List ℕ))
                  → IfSome told (λ file. StandsFor file cell_text (grants ++ more)
                  × ((c : List ℕ) → may_leave new.live.disk c → StandsFor c cell_text (grants ++ more)))
                  → IfSome told (λ file. IsBeforeOrAfterAll cell_text (grants ++ more) outcome.unsure file
                  × ((c : List ℕ) → may_leave new.live.disk c → IsBeforeOrAfterAll cell_text (grants ++ more) outcome.unsure c))
              weaker None shows = tt
              weaker (Some file) shows = (inl shows.0, λ c left. inl (shows.1 c left))

      -- the sink failed at an answer
      pub cut_off : TookSome sink mid.replies → Rose sink.faults sink.faults_after
          → IsLastRound reads_as may_leave moment left_since faults cell sink cell_text talk text given old new lines SinkFault
      cut_off some rose =
          let all = all_lines full taken.2 in
          let outcome : Outcome = record {
            status = SinkFault;
            pieces = answers cell talk (old.asked + 1) asks;
            added = more;
            unsure = [];
          } in
          stops_with all SinkFault outcome (FailedSink refl) refl refl (Cut refl (subst (TookSome sink) is_group.replies some) rose)

      -- the journal is full
      pub fills : full ≡ true → (status : Status)
          → IsDelivered sink (printed JournalRefused (answers cell talk (old.asked + 1) asks ++ full_line ∷ [])) status
          → IsLastRound reads_as may_leave moment left_since faults cell sink cell_text talk text given old new lines status
      unfolding all_lines
      fills is status delivered =
          let at_full : AreGroupLines cell talk text given taken.0 lines true =
          subst (AreGroupLines cell talk text given taken.0 lines) is taken.2 in
          let outcome : Outcome = record {
            status = JournalRefused;
            pieces = answers cell talk (old.asked + 1) asks ++ full_line ∷ [];
            added = more;
            unsure = [];
          } in
          stops_with (all_lines true at_full) status outcome (FullJournal (ask_of cell at_full.0) [] refl at_full.2 refl) refl refl
          (same_delivered sink status
          (printed JournalRefused (answers cell talk (old.asked + 1) asks ++ full_line ∷ [])) outcome refl refl
          delivered)

    -- ---- the device failed

    module _ (kept : Shows reads_as may_leave new.live.disk (IsBeforeOrAfterAll cell_text grants mid.live.pending))
        (rose : Rose (faults old.live.disk) (faults new.live.disk)) (status : Status) where
      halts_at : (first : FirstGrant) → IsFirstGrant cell talk (old.asked + 1) asks (Some first) → (all : Lines)
          → IsDelivered sink (printed DeviceFault (take first.at mid.replies ++ first.line ∷ [])) status
          → IsLastRound reads_as may_leave moment left_since faults cell sink cell_text talk text given old new lines status
      halts_at first (before, next, rest, parted, none, some, place, halts) all delivered =
          let number = old.asked + 1 in
          let behind : Talk = talk_after cell talk before in
          let others : List Ask = next ∷ (rest ++ all.1) in
          let unsure : List Grant = since cell behind (next ∷ rest) in
          let outcome : Outcome = record {
            status = DeviceFault;
            pieces = answers cell talk number before ++ halted_line cell next ∷ [];
            added = since cell talk before;
            unsure = unsure;
          } in
          let pending : mid.live.pending ≡ since cell talk before ++ unsure =
          is_group.pending ∙ ap (since cell talk) parted ∙ since-append cell talk before (next ∷ rest) in
          let alone : mid.live.pending ≡ unsure = pending ∙ ap (λ (gs : List Grant). gs ++ unsure) none in
          let same_grants : grants ≡ grants ++ since cell talk before =
          sym (ap (λ (gs : List Grant). grants ++ gs) none ∙ append-nil grants) in
          let first_answers : take first.at mid.replies ≡ answers cell talk number before =
          (λ i. take (place i) (is_group.replies i))
          ∙ ap (λ (l : List Ask). take (length (answers cell talk number before)) (answers cell talk number l)) parted
          ∙ ap (take (length (answers cell talk number before))) (answers-append cell talk number before (next ∷ rest))
          ∙ take-append_seam (answers cell talk number before) _ in
          record {
            taken = all.0;
            group = before;
            others = others;
            parted = all.2 ∙ ap (λ (asked : List Ask). asked ++ all.1) parted ∙ append_assoc before (next ∷ rest) all.1;
            reads = all.3;
            outcome = outcome;
            stops = FailedDevice next rest all.1 refl
                (omega (
                  arith,
                  group_few,
                  ap (λ (l : List Ask). length l) parted,
                  length-append before (next ∷ rest),
                ))
                some refl;
            delivered = same_delivered sink status (printed DeviceFault (take first.at mid.replies ++ first.line ∷ [])) outcome refl
                (λ i. first_answers i ++ halts i ∷ []) delivered;
            disk = subst (λ (p : List Grant × List Grant). Shows reads_as may_leave new.live.disk (IsBeforeOrAfterAll cell_text p.0 p.1))
                (λ i. (same_grants i, alone i)) kept;
            moves = moves_by (since cell talk before ++ unsure) pending;
            cause = each (Rose (faults old.live.disk) (faults new.live.disk)) rose unsure;
            room = omega (
              arith,
              within,
              ap (λ (gs : List Grant). length gs) (sym is_group.pending ∙ pending),
              length-append (since cell talk before) unsure,
            );
          }

      -- there is a first grant, since without one the device is not called
      pub halts : (mid.live.pending ≡ [] → new.live ≡ mid.live) → mid.live.is_halted ≡ false → new.live.is_halted ≡ true
          → (first : Option FirstGrant) → mid.first ≡ first
          → IfSome first (λ at. at.at ≤ length mid.replies
          → IsDelivered sink (printed DeviceFault (take at.at mid.replies ++ at.line ∷ [])) status)
          → IsLastRound reads_as may_leave moment left_since faults cell sink cell_text talk text given old new lines status
      halts untouched runs halted None is delivered =
          let none = is_group.pending ∙ subst (IsFirstGrant cell talk (old.asked + 1) asks) is is_group.first in
          absurd (true≢false (sym halted ∙ ap (λ (l : LiveState D). l.is_halted) (untouched none) ∙ runs))
      halts untouched runs halted (Some first) is delivered =
          let at_first = subst (IsFirstGrant cell talk (old.asked + 1) asks) is is_group.first in
          halts_at first at_first (all_lines full taken.2) (delivered (at_first_within at_first))
        where
          at_first_within : IsFirstGrant cell talk (old.asked + 1) asks (Some first) → first.at ≤ length mid.replies
          at_first_within (before, next, rest, parted, none, some, place, halts) =
              let number : ℕ = old.asked + 1 in
              let later : List (List ℕ) = answers cell (talk_after cell talk before) (number + length before) (next ∷ rest) in
              let all : mid.replies ≡ answers cell talk number before ++ later =
              is_group.replies ∙ ap (answers cell talk number) parted ∙ answers-append cell talk number before (next ∷ rest) in
              omega (
                arith,
                place,
                ap (λ (ls : List (List ℕ)). length ls) all,
                length-append (answers cell talk number before) later,
              )
