-- A conversation goes on by a round, or by a piece of its input, or ends.
use Rattle.std.specs.Io.KnownBytes.{Appends}
use Rattle.std.proofs.Common.{◌≡◌, ℕ, ◌+◌, ◌<◌, ◌≤◌, inl, List, [], ◌∷◌, ◌++◌, length, map, Option}
use Rattle.std.proofs.Common.{All, refl, sym, ap, ◌∙◌, subst, arith, append_assoc, append-nil}
use Rattle.std.proofs.lemmas.List.{length-append, length-map, map-append}
use Rattle.std.proofs.lemmas.List.Elements.{All-nil}
use Rattle.std.proofs.KnownBytes.{Appends-nil, Appends-trans}
use Rattle.outside_io.specs.Causes.{Rose}
use Rattle.outside_io.specs.PutLaws.{took_more}
use Rattle.outside_io.specs.Puts.{SinkTold, TookAll, TookSome, sink_told}
use Rattle.outside_io.specs.Source.{SourceTold, source_told}
use Rattle.admission_core.specs.CoreState.{CoreState}
use Rattle.cell_base.specs.declared.cells.Cell.{Cell}
use Rattle.cell_base.specs.declared.requests.Part.{Part}
use Rattle.cell_base.specs.declared.shifts.Grant.{Grant}
use Rattle.cell_base.specs.Fits.{CellFits}
use Rattle.cell_base.specs.Histories.{replay}
use Rattle.cell_base.specs.Plans.{Drains, plan_of}
use Rattle.cell_base.specs.Policy.{IsAdmitted}
use Rattle.policy_laws.proofs.Plans.{plan_law}
use Rattle.record_printer.specs.Blocks.{left_in_core}
use Rattle.input_lines.specs.Lines.{lines_after}
use Rattle.input_lines.specs.Reading.{GivesPiece, AreLinesSoFar, LinesState}
use Rattle.move_journal.specs.Disks.{Shows}
use Rattle.journal_format.specs.Journals.{IsBeforeOrAfterAll, StandsFor}
use Rattle.record_text.specs.Lines.{head_words, line_of}
use Rattle.cell_walks.specs.Outcomes.{Cut, IsDelivered, Outcome, early, printed}
use Rattle.cell_walks.specs.Statuses.{early_line}
use Rattle.cell_walks.specs.declared.early_end.EarlyEnd.TheVariants.{NotRead}
use Rattle.cell_walks.specs.declared.status.Status.{Status}
use Rattle.cell_walks.specs.declared.status.Status.TheVariants.{Done, DeviceFault, JournalRefused, ReadFault, SinkFault}
use Rattle.serve_command.specs.Answers.{answers, halted_line, line_number, still_lines}
use Rattle.serve_command.specs.Asks.{ask_of, asks_in}
use Rattle.serve_command.specs.Conversing.{IsConversing, IsLeftWith, IsServedAfter, end_lines, fresh_lines}
use Rattle.serve_command.specs.Rounds.{StandsAfter, IsLastRound, IsRound, Moves}
use Rattle.serve_command.specs.Serve.{FailedDevice, FailedSink, FullJournal, InputEnded, InputLost}
use Rattle.serve_command.specs.Serve.{Stopped, Stops, answered_lines, full_line, last_lines}
use Rattle.serve_command.specs.Serving.{IsJournalFull, HasNoGroup}
use Rattle.serve_command.specs.Talks.{Talk, added_by, opened, since, talk_after}
use Rattle.serve_command.specs.declared.asks.Ask.{Ask}
use Rattle.serve_command.specs.declared.command.TheConstants.{MAX_SERVED}
use Rattle.serve_command.specs.declared.server.Server.{Server}
use Rattle.lent_peers.proofs.Flushing.{all_still}
use Rattle.serve_command.proofs.Delivering.{delivered_after}
use Rattle.serve_command.proofs.Grouping.{answers-append, answers-known, granted-after, since-append, talk-append}
use Rattle.serve_command.proofs.Standing.{left_begins, left_goes, shows_weaker}

-- ---- asks after asks

module _ (cell : Cell) (opening : List Grant) (asked group : List Ask) where
  abbrev earlier : List Grant
  earlier = since cell (opened opening) asked

  abbrev behind : Talk
  behind = talk_after cell (opened opening) asked

  all_talk : talk_after cell behind group ≡ talk_after cell (opened opening) (asked ++ group)
  all_talk = sym (talk-append cell (opened opening) asked group)

  all_added : earlier ++ since cell behind group ≡ since cell (opened opening) (asked ++ group)
  all_added = sym (since-append cell (opened opening) asked group)

  -- the answers to a group come after the lines that were put
  all_lines : (number : ℕ) → line_number number ≡ line_number (length asked)
      → answered_lines cell opening asked ++ answers cell behind (number + 1) group ≡ answered_lines cell opening (asked ++ group)
  all_lines number is =
      ap (λ (ls : List (List ℕ)). answered_lines cell opening asked ++ ls)
      (answers-known cell behind (length asked) number group is ∙ ap (λ (n : ℕ). answers cell behind n group) one_more)
      ∙ ap (λ (ls : List (List ℕ)). line_of (head_words 0 (length opening)) ∷ ls)
      (sym (answers-append cell (opened opening) 1 asked group))
    where
      one_more : length asked + 1 ≡ 1 + length asked
      one_more = omega arith

  -- what a round that stops comes to, after what was put and added before
  abbrev pub after_all : Outcome → Outcome
  after_all outcome = record {
    status = outcome.status;
    pieces = answered_lines cell opening asked ++ outcome.pieces;
    added = earlier ++ outcome.added;
    unsure = outcome.unsure;
  }

  -- and more asks after those that were not answered
  stops_so : (number : ℕ) → line_number number ≡ line_number (length asked) → (others later : List Ask) (outcome : Outcome)
      → Stops cell (talk_after cell behind group) (answers cell behind (number + 1) group) (since cell behind group) others outcome
      → Stops cell (talk_after cell (opened opening) (asked ++ group)) (answered_lines cell opening (asked ++ group))
      (since cell (opened opening) (asked ++ group)) (others ++ later) (after_all outcome)
  stops_so number is others later outcome (FullJournal next rest parted full outcome_is) =
      FullJournal next (rest ++ later) (ap (λ (l : List Ask). l ++ later) parted)
      (subst (λ (k : Talk). IsJournalFull cell k next) all_talk full)
      (ap after_all outcome_is ∙ (λ i. record {
        status = JournalRefused;
        pieces = (sym (append_assoc (answered_lines cell opening asked) (answers cell behind (number + 1) group) (full_line ∷ []))
            ∙ ap (λ (ls : List (List ℕ)). ls ++ full_line ∷ []) (all_lines number is)) i;
        added = all_added i;
        unsure = [];
      }))
  stops_so number is others later outcome (FailedDevice next decided rest parted few some outcome_is) =
      FailedDevice next decided (rest ++ later)
      (ap (λ (l : List Ask). l ++ later) parted ∙ append_assoc (next ∷ decided) rest later) few
      (subst (λ (k : Talk). 0 < length (added_by cell k next)) all_talk some)
      (ap after_all outcome_is ∙ (λ i. record {
        status = DeviceFault;
        pieces = (sym (append_assoc (answered_lines cell opening asked) (answers cell behind (number + 1) group) (halted_line cell next ∷ []))
            ∙ ap (λ (ls : List (List ℕ)). ls ++ halted_line cell next ∷ []) (all_lines number is)) i;
        added = all_added i;
        unsure = since cell (all_talk i) (next ∷ decided);
      }))
  stops_so number is others later outcome (FailedSink outcome_is) =
      FailedSink (ap after_all outcome_is ∙ (λ i. record {
        status = SinkFault;
        pieces = all_lines number is i;
        added = all_added i;
        unsure = [];
      }))

-- ---- the lines of a text

-- lines that were given, and those that are ahead
given_asks : (cell : Cell) (text : List ℕ) (given : List (List ℕ)) (lines : LinesState) (reads : AreLinesSoFar text given lines)
    → asks_in cell text ≡ map (ask_of cell) given ++ map (ask_of cell) (lines_after reads.begun (lines.ahead ++ []))
given_asks cell text given lines reads =
    ap (asks_in cell) (sym (append-nil text)) ∙ ap (map (ask_of cell)) (reads.goes_on [])
    ∙ map-append (ask_of cell) given (lines_after reads.begun (lines.ahead ++ []))

-- none is ahead
none_ahead : (cell : Cell) (text : List ℕ) (given : List (List ℕ)) (lines : LinesState) → AreLinesSoFar text given lines → lines.ahead ≡ []
    → asks_in cell text ≡ map (ask_of cell) given
none_ahead cell text given lines reads spent =
    given_asks cell text given lines reads
    ∙ ap (λ (ahead : List ℕ). map (ask_of cell) given ++ map (ask_of cell) (lines_after reads.begun (ahead ++ []))) spent
    ∙ append-nil (map (ask_of cell) given)

-- ---- the conversation

module _ {D K : Type 0} (reads_as : D → Option (List ℕ)) (may_leave : D → List ℕ → Type 0) (moment : D → ℕ)
    (left_since : D → ℕ → List ℕ → Type 0) (faults : D → ℕ) (cell : Cell) (cell_text : List ℕ) (opening : List Grant) (first : D)
    (old : Server D) (lines : LinesState) (given : List (List ℕ)) (input : SourceTold) (taken : K → Option (List ℕ))
    (was_put : K → List ℕ → K → Type 0) (sink_faults : K → ℕ) (a b : K)
    (so_far : IsConversing reads_as may_leave moment left_since faults input
    (sink_told taken was_put sink_faults a b) cell cell_text opening
    first old lines given) where
  abbrev asked : List Ask
  asked = map (ask_of cell) given

  abbrev number_is : line_number old.asked ≡ line_number (length asked)
  number_is = so_far.asked ∙ ap line_number (sym (length-map given (ask_of cell)))

  abbrev front : Talk
  front = talk_after cell (opened opening) asked

  front_grants : front.granted ≡ opening ++ since cell (opened opening) asked
  front_grants = granted-after cell (opened opening) asked

  -- a round
  pub round_goes : (c : K) (new : Server D) (later : LinesState) (group : List (List ℕ))
      → IsRound reads_as may_leave moment left_since faults cell (sink_told taken was_put sink_faults b c) cell_text front so_far.text given
      old new later group
      → sink_faults c ≡ sink_faults b → faults new.live.disk ≡ faults old.live.disk
      → IsConversing reads_as may_leave moment left_since faults input (sink_told taken was_put sink_faults a c) cell cell_text opening
      first new later (given ++ group)
  round_goes c new later group round still fed =
      let asks : List Ask = map (ask_of cell) group in
      let every : asked ++ asks ≡ map (ask_of cell) (given ++ group) = sym (map-append (ask_of cell) given group) in
      let more : List Grant = since cell front asks in
      let talk_is : talk_after cell front asks ≡ talk_after cell (opened opening) (map (ask_of cell) (given ++ group)) =
      all_talk cell opening asked asks ∙ ap (talk_after cell (opened opening)) every in
      let added : since cell (opened opening) asked ++ more ≡ since cell (opened opening) (map (ask_of cell) (given ++ group)) =
      all_added cell opening asked asks ∙ ap (since cell (opened opening)) every in
      let behind_is : (talk_after cell front asks).granted ≡ opening ++ since cell (opened opening) asked ++ more =
      granted-after cell front asks ∙ ap (λ (gs : List Grant). gs ++ more) front_grants in
      record {
        text = so_far.text;
        came = so_far.came;
        reads = round.reads;
        cell_is = round.cell_is;
        asked = round.asked ∙ omega (arith, so_far.asked, length-append given group);
        stands_after = subst (λ (k : Talk). StandsAfter reads_as may_leave cell_text k new) talk_is round.stands_after;
        left = subst (λ (gs : List Grant). IsLeftWith reads_as may_leave moment left_since faults cell_text opening gs [] first
            new.live.disk)
            added
            (left_goes reads_as may_leave moment left_since faults cell_text opening (since cell (opened opening) asked) more [] first
            old.live.disk new.live.disk so_far.left
            (subst (λ (p : List Grant × List Grant). Moves reads_as moment left_since cell_text p.0 p.1 old.live.disk new.live.disk)
            (λ i. (front_grants i, sym (append-nil more) i)) round.moves)
            (shows_weaker reads_as may_leave moment left_since faults cell_text opening new.live.disk
            (λ file. StandsFor file cell_text (talk_after cell front asks).granted)
            (λ file. IsBeforeOrAfterAll cell_text (opening ++ since cell (opened opening) asked ++ more) [] file)
            (λ file stands. inl (subst (StandsFor file cell_text) behind_is stands)) round.stands_after.disk)
            (All-nil (λ grant. Rose (faults first) (faults new.live.disk))));
        took = subst (TookAll (sink_told taken was_put sink_faults a c))
            (all_lines cell opening asked asks old.asked number_is
            ∙ ap (answered_lines cell opening) every)
            (took_more taken was_put sink_faults a b c (answered_lines cell opening asked)
            (answers cell front (old.asked + 1) asks) so_far.took
            round.took);
        sink_still = still ∙ so_far.sink_still;
        input_still = so_far.input_still;
        disk_still = fed ∙ so_far.disk_still;
        room = omega (
          arith,
          round.room,
          ap (λ (gs : List Grant). length gs) front_grants,
          length-append opening (since cell (opened opening) asked),
          length-append (since cell (opened opening) asked) more,
          ap (λ (gs : List Grant). length gs) added,
        );
      }

  -- a round that stops
  pub stops : (c : K) (new : Server D) (later : LinesState) (status : Status)
      → IsLastRound reads_as may_leave moment left_since faults cell (sink_told taken was_put sink_faults b c) cell_text front so_far.text
      given old new later status
      → IsServedAfter reads_as may_leave moment left_since faults input
      (sink_told taken was_put sink_faults a c) cell cell_text opening first
      new.live.disk status
  stops c new later status last =
      let outcome : Outcome = after_all cell opening asked last.group last.outcome in
      let ahead : List Ask = map (ask_of cell) (lines_after last.reads.begun (later.ahead ++ [])) in
      record {
        outcome = outcome;
        served = record {
          text = so_far.text;
          came = so_far.came;
          asked = asked ++ last.group;
          others = last.others ++ ahead;
          split = given_asks cell so_far.text (given ++ last.taken) later last.reads
              ∙ (λ i. (map-append (ask_of cell) given last.taken ∙ ap (λ (l : List Ask). asked ++ l) last.parted
              ∙ sym (append_assoc asked last.group last.others)) i ++ ahead)
              ∙ append_assoc (asked ++ last.group) last.others ahead;
          ends = Stopped (stops_so cell opening asked last.group old.asked number_is last.others ahead last.outcome last.stops);
          room = omega (
            arith,
            last.room,
            ap (λ (gs : List Grant). length gs) front_grants,
            length-append opening (since cell (opened opening) asked),
            length-append (since cell (opened opening) asked) last.outcome.added,
          );
        };
        delivered = delivered_after taken was_put sink_faults a b c (answered_lines cell opening asked) so_far.took so_far.sink_still status
            last.outcome outcome refl refl last.delivered;
        left = left_goes reads_as may_leave moment left_since faults cell_text opening (since cell (opened opening) asked)
            last.outcome.added last.outcome.unsure first old.live.disk new.live.disk so_far.left
            (subst (λ (gs : List Grant). Moves reads_as moment left_since cell_text gs (last.outcome.added ++ last.outcome.unsure)
            old.live.disk new.live.disk) front_grants last.moves)
            (subst (λ (gs : List Grant). Shows reads_as may_leave new.live.disk
            (λ file. IsBeforeOrAfterAll cell_text (gs ++ last.outcome.added) last.outcome.unsure file)) front_grants last.disk)
            (subst (λ (n : ℕ). All (λ (grant : Grant). Rose n (faults new.live.disk)) last.outcome.unsure) so_far.disk_still last.cause);
      }

-- ---- the input

module _ {D : Type 0} (reads_as : D → Option (List ℕ)) (may_leave : D → List ℕ → Type 0) (moment : D → ℕ)
    (left_since : D → ℕ → List ℕ → Type 0) (faults : D → ℕ) (cell : Cell) (cell_text : List ℕ) (opening : List Grant) (first : D)
    (old : Server D) (lines later : LinesState) (given : List (List ℕ)) (sink : SinkTold) {S : Type 0} (gave : S → Option (List ℕ))
    (ended : S → Type 0) (input_faults : S → ℕ) (a b c : S)
    (so_far : IsConversing reads_as may_leave moment left_since faults (source_told gave ended input_faults a b) sink cell cell_text opening
    first old lines given) where
  -- a piece comes
  pub piece_comes : (count : ℕ) → GivesPiece (gave b) (gave c) lines later count → input_faults c ≡ input_faults b
      → IsConversing reads_as may_leave moment left_since faults (source_told gave ended input_faults a c) sink cell cell_text opening first
      old later given
  piece_comes count gives still = record {
    text = so_far.text ++ gives.piece;
    came = Appends-trans (gave a) (gave b) (gave c) so_far.text gives.piece so_far.came gives.came;
    reads = gives.reads so_far.text given so_far.reads;
    cell_is = so_far.cell_is;
    asked = so_far.asked;
    stands_after = so_far.stands_after;
    left = so_far.left;
    took = so_far.took;
    sink_still = so_far.sink_still;
    input_still = still ∙ so_far.input_still;
    disk_still = so_far.disk_still;
    room = so_far.room;
  }

-- the last one is empty
pub none_is_ahead : (given after : Option (List ℕ)) (lines later : LinesState) → GivesPiece given after lines later 0 → later.ahead ≡ []
none_is_ahead given after lines later gives = gives.ahead_is ∙ nothing gives.piece gives.count_is
  where
    nothing : (bytes : List ℕ) → length bytes ≡ 0 → bytes ≡ []
    nothing [] is = refl
    nothing (byte ∷ bytes) is = absurd (omega (arith, is))

-- ---- calls that leave one side as it is

module _ {D : Type 0} (reads_as : D → Option (List ℕ)) (may_leave : D → List ℕ → Type 0) (moment : D → ℕ)
    (left_since : D → ℕ → List ℕ → Type 0) (faults : D → ℕ) (cell : Cell) (cell_text : List ℕ) (opening : List Grant) (first : D)
    (server : Server D) (lines : LinesState) (given : List (List ℕ)) {T : Type 0} where
  -- nothing is read
  abbrev pub input_kept : (sink : SinkTold) (gave : T → Option (List ℕ)) (ended : T → Type 0) (input_faults : T → ℕ) (a b c : T)
      → IsConversing reads_as may_leave moment left_since faults (source_told gave ended input_faults a b) sink cell cell_text opening first
      server lines given
      → gave c ≡ gave b → input_faults c ≡ input_faults b
      → IsConversing reads_as may_leave moment left_since faults (source_told gave ended input_faults a c) sink cell cell_text opening first
      server lines given
  input_kept sink gave ended input_faults a b c so_far unread no_read = record {
    text = so_far.text;
    came = subst (λ (now : Option (List ℕ)). Appends (gave a) now so_far.text) (sym unread) so_far.came;
    reads = so_far.reads;
    cell_is = so_far.cell_is;
    asked = so_far.asked;
    stands_after = so_far.stands_after;
    left = so_far.left;
    took = so_far.took;
    sink_still = so_far.sink_still;
    input_still = no_read ∙ so_far.input_still;
    disk_still = so_far.disk_still;
    room = so_far.room;
  }

  -- nothing is put, in a call that belongs to the put before it
  pub sink_kept : (input : SourceTold) (taken : T → Option (List ℕ)) (was_put : T → List ℕ → T → Type 0) (sink_faults : T → ℕ) (a b c : T)
      → IsConversing reads_as may_leave moment left_since faults input (sink_told taken was_put sink_faults a b) cell cell_text opening first
      server lines given
      → ((t : T) (piece : List ℕ) → was_put t piece b → was_put t piece c) → taken c ≡ taken b → sink_faults c ≡ sink_faults b
      → IsConversing reads_as may_leave moment left_since faults input (sink_told taken was_put sink_faults a c) cell cell_text opening first
      server lines given
  sink_kept input taken was_put sink_faults a b c so_far of_put same still = record {
    text = so_far.text;
    came = so_far.came;
    reads = so_far.reads;
    cell_is = so_far.cell_is;
    asked = so_far.asked;
    stands_after = so_far.stands_after;
    left = so_far.left;
    took = all_still taken was_put sink_faults b c of_put same a (line_of (head_words 0 (length opening)))
        (answers cell (opened opening) 1 (map (ask_of cell) given)) so_far.took;
    sink_still = still ∙ so_far.sink_still;
    input_still = so_far.input_still;
    disk_still = so_far.disk_still;
    room = so_far.room;
  }

-- it could not be read
module _ {D K S : Type 0} (reads_as : D → Option (List ℕ)) (may_leave : D → List ℕ → Type 0) (moment : D → ℕ)
    (left_since : D → ℕ → List ℕ → Type 0) (faults : D → ℕ) (cell : Cell) (cell_text : List ℕ) (opening : List Grant) (first : D)
    (old : Server D) (lines : LinesState) (given : List (List ℕ)) (gave : S → Option (List ℕ)) (ended : S → Type 0) (input_faults : S → ℕ)
    (x y z : S) (taken : K → Option (List ℕ)) (was_put : K → List ℕ → K → Type 0) (sink_faults : K → ℕ) (a b c : K)
    (so_far : IsConversing reads_as may_leave moment left_since faults (source_told gave ended input_faults x y)
    (sink_told taken was_put sink_faults a b) cell cell_text opening first old lines given) (spent : lines.ahead ≡ []) where
  abbrev asked_all : List Ask
  asked_all = map (ask_of cell) given

  pub is_lost : gave z ≡ gave y → Rose (input_faults y) (input_faults z) → (status : Status)
      → IsDelivered (sink_told taken was_put sink_faults b c) (early NotRead) status
      → IsServedAfter reads_as may_leave moment left_since faults (source_told gave ended input_faults x z)
      (sink_told taken was_put sink_faults a c) cell cell_text opening first old.live.disk status
  is_lost same rose status delivered =
      let outcome : Outcome = record {
        status = ReadFault;
        pieces = answered_lines cell opening asked_all ++ early_line NotRead ∷ [];
        added = since cell (opened opening) asked_all;
        unsure = [];
      } in
      record {
        outcome = outcome;
        served = record {
          text = so_far.text;
          came = subst (λ (now : Option (List ℕ)). Appends (gave x) now so_far.text) (sym same) so_far.came;
          asked = asked_all;
          others = [];
          split = none_ahead cell so_far.text given lines so_far.reads spent ∙ sym (append-nil asked_all);
          ends = InputLost refl (subst (λ (n : ℕ). Rose n (input_faults z)) so_far.input_still rose) refl;
          room = omega (arith, so_far.room);
        };
        delivered = delivered_after taken was_put sink_faults a b c
            (answered_lines cell opening asked_all) so_far.took so_far.sink_still status
            (early NotRead) outcome refl refl delivered;
        left = so_far.left;
      }

-- ---- the beginning and the end

module _ {D K S : Type 0} (reads_as : D → Option (List ℕ)) (may_leave : D → List ℕ → Type 0) (moment : D → ℕ)
    (left_since : D → ℕ → List ℕ → Type 0) (faults : D → ℕ) (cell_text : List ℕ) (opening : List Grant) (server : Server D)
    (behind : StandsAfter reads_as may_leave cell_text (opened opening) server) (ready : HasNoGroup server) (new : server.asked ≡ 0)
    (only_now : (c : List ℕ) → left_since server.live.disk (moment server.live.disk) c → may_leave server.live.disk c)
    (gave : S → Option (List ℕ)) (ended : S → Type 0) (input_faults : S → ℕ) (x y : S) (unread : gave y ≡ gave x)
    (no_read : input_faults y ≡ input_faults x) (taken : K → Option (List ℕ)) (was_put : K → List ℕ → K → Type 0) (sink_faults : K → ℕ) (a b : K) (line : List ℕ)
    (line_is : line ≡ line_of (head_words 0 server.live.len))
    (fits : server.live.len + length server.live.pending ≤ MAX_SERVED) where
  pub head_is : line ≡ line_of (head_words 0 (length opening))
  head_is = line_is ∙ ap (λ (n : ℕ). line_of (head_words 0 n))
      (omega (arith, behind.at.number, ap (λ (gs : List Grant). length gs) ready.pending))

  -- the journal has room for the grants of the opening
  pub within : length opening ≤ MAX_SERVED
  within = omega (arith, fits, behind.at.number)

  nothing_left : IsLeftWith reads_as may_leave moment left_since faults cell_text opening [] [] server.live.disk server.live.disk
  nothing_left = left_begins reads_as may_leave moment left_since faults cell_text opening server.live.disk only_now behind.disk

  nothing_came : Appends (gave x) (gave y) []
  nothing_came = subst (λ (now : Option (List ℕ)). Appends (gave x) now []) (sym unread) (Appends-nil (gave x))

  -- the head was put
  pub begins : TookAll (sink_told taken was_put sink_faults a b) (line ∷ []) → sink_faults b ≡ sink_faults a
      → IsConversing reads_as may_leave moment left_since faults (source_told gave ended input_faults x y)
      (sink_told taken was_put sink_faults a b) server.live.cell cell_text opening server.live.disk server fresh_lines []
  begins took still = record {
    text = [];
    came = nothing_came;
    reads = record { begun = []; kept = refl; goes_on = λ more. refl };
    cell_is = refl;
    asked = ap line_number new;
    stands_after = behind;
    left = nothing_left;
    took = subst (λ (l : List ℕ). TookAll (sink_told taken was_put sink_faults a b) (l ∷ [])) head_is took;
    sink_still = still;
    input_still = no_read;
    disk_still = refl;
    room = omega (arith, within);
  }

  -- it was not
  pub not_begun : TookSome (sink_told taken was_put sink_faults a b) (line ∷ []) → Rose (sink_faults a) (sink_faults b)
      → IsServedAfter reads_as may_leave moment left_since faults (source_told gave ended input_faults x y)
      (sink_told taken was_put sink_faults a b) server.live.cell cell_text opening server.live.disk server.live.disk SinkFault
  not_begun some rose = record {
    outcome = record { status = SinkFault; pieces = answered_lines server.live.cell opening []; added = []; unsure = [] };
    served = record {
      text = [];
      came = nothing_came;
      asked = [];
      others = [];
      split = refl;
      ends = Stopped (FailedSink refl);
      room = omega (arith, within);
    };
    delivered = Cut refl (subst (λ (l : List ℕ). TookSome (sink_told taken was_put sink_faults a b) (l ∷ [])) head_is some) rose;
    left = nothing_left;
  }

module _ {D K : Type 0} (reads_as : D → Option (List ℕ)) (may_leave : D → List ℕ → Type 0) (moment : D → ℕ)
    (left_since : D → ℕ → List ℕ → Type 0) (faults : D → ℕ) (input : SourceTold) (taken : K → Option (List ℕ))
    (was_put : K → List ℕ → K → Type 0) (sink_faults : K → ℕ) (a b c : K) (cell : Cell) (cell_text : List ℕ)
    (opening : List Grant) (first : D)
    (server : Server D) (lines : LinesState) (given : List (List ℕ))
    (so_far : IsConversing reads_as may_leave moment left_since faults input
    (sink_told taken was_put sink_faults a b) cell cell_text opening
    first server lines given)
    (spent : lines.ahead ≡ []) (at_end : input.ended) (fits : CellFits server.live.cell)
    (admitted : IsAdmitted server.live.cell server.live.parts) where
  abbrev asked_to_end : List Ask
  asked_to_end = map (ask_of cell) given

  abbrev talk_to_end : Talk
  talk_to_end = talk_after cell (opened opening) asked_to_end

  abbrev left : List Part
  left = replay cell talk_to_end.granted

  parts_are : server.live.parts ≡ left
  parts_are = so_far.stands_after.at.parts ∙ ap (λ (c : Cell). replay c talk_to_end.granted) so_far.cell_is

  drains : Drains cell left (plan_of cell left)
  drains = subst (λ (s : CoreState). Drains s.cell s.parts (plan_of s.cell s.parts))
      (λ i. record { cell = so_far.cell_is i; parts = parts_are i })
      (plan_law server.live.cell fits server.live.parts admitted).drains

  -- what is put last
  pub last_lines_are : end_lines server ≡ last_lines cell talk_to_end
  last_lines_are = λ i. still_lines (so_far.cell_is i) (parts_are i) (so_far.stands_after.at.waiters i)
      ++ left_in_core (record { cell = so_far.cell_is i; parts = parts_are i })

  abbrev whole : Outcome
  whole = record {
    status = Done;
    pieces = answered_lines cell opening asked_to_end ++ last_lines cell talk_to_end;
    added = since cell (opened opening) asked_to_end;
    unsure = [];
  }

  pub ends_so : (status : Status) → IsDelivered (sink_told taken was_put sink_faults b c) (printed Done (end_lines server)) status
      → IsServedAfter reads_as may_leave moment left_since faults input (sink_told taken was_put sink_faults a c) cell cell_text opening
      first server.live.disk status
  ends_so status delivered = record {
    outcome = whole;
    served = record {
      text = so_far.text;
      came = so_far.came;
      asked = asked_to_end;
      others = [];
      split = none_ahead cell so_far.text given lines so_far.reads spent ∙ sym (append-nil asked_to_end);
      ends = InputEnded refl at_end drains refl;
      room = omega (arith, so_far.room);
    };
    delivered = delivered_after taken was_put sink_faults a b c (answered_lines cell opening asked_to_end) so_far.took so_far.sink_still status
        (printed Done (end_lines server)) whole refl (ap (λ (ls : List (List ℕ)). answered_lines cell opening asked_to_end ++ ls) last_lines_are)
        delivered;
    left = so_far.left;
  }
