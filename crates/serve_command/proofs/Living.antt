-- The calls of a conversation, as moments of it.
use Rattle.std.specs.Prelude.{Option, Some, None}
use Rattle.std.specs.List.{concat}
use Rattle.std.specs.Io.KnownBytes.{Appends}
use Rattle.std.proofs.Common.{◌≡◌, ◌⊎◌, ⊎_elim, inl, inr, ℕ, ◌+◌, ◌<◌, ◌≤◌, List, [], ◌∷◌, ◌++◌, length, map}
use Rattle.std.proofs.Common.{refl, sym, ap, ◌∙◌, subst, arith, append_assoc, append-nil}
use Rattle.std.proofs.lemmas.List.{length-append, map-append}
use Rattle.std.proofs.lemmas.List.Folds.{concat-append}
use Rattle.outside_io.specs.Disk.{LeavesOnly}
use Rattle.outside_io.specs.Meanings.{DiskMeaning}
use Rattle.outside_io.specs.Puts.{TookAll}
use Rattle.cell_base.specs.declared.shifts.Grant.{Grant}
use Rattle.input_lines.specs.Lines.{lines_after}
use Rattle.input_lines.specs.Reading.{AreLinesSoFar, LinesState}
use Rattle.journal_format.specs.Journals.{StandsFor, IsBeforeOrAfterAll}
use Rattle.record_text.specs.Lines.{head_words, line_of}
use Rattle.lent_peers.specs.Beside.{IsBeside}
use Rattle.peers.specs.Meanings.{PeerMeaning, peer_took}
use Rattle.peers.specs.Moments.{Moment, IsAmong, IsAt, IsDuringRead, IsPutting, IsTorn}
use Rattle.peers.specs.Reads.{IsRead}
use Rattle.peers.specs.Runs.{RunsTo, call_runs, disk_runs, runs_on, runs_wider}
use Rattle.serve_command.specs.Answers.{answer, answers, halted_line, line_number}
use Rattle.serve_command.specs.Asks.{ask_of}
use Rattle.serve_command.specs.Lives.{AreLast, AreSent, Ending, Halting, HasRoom, IsLive, IsServing, Ready, Serving, Start}
use Rattle.serve_command.specs.Lives.{answers_then, first_answer, grants_then, next_answer, put_then, talk_then}
use Rattle.serve_command.specs.Serve.{answered_lines}
use Rattle.serve_command.specs.Talks.{Talk, added_by, opened, since, talk_after, talk_after_one}
use Rattle.serve_command.specs.declared.asks.Ask.{Ask}
use Rattle.serve_command.proofs.Grouping.{answers-append, granted-after, talk-append}
use Rattle.serve_command.proofs.Settled.{answer_some, settled_always}

abbrev Lines : Type 0
Lines = List (List ℕ)

-- ---- lines among lines

pub untorn : (rest : Lines) → IsTorn rest []
untorn [] = refl
untorn (next ∷ rest) = inl refl

torn_more : (rest then : Lines) (torn : List ℕ) → IsTorn rest torn → IsTorn (rest ++ then) torn
torn_more [] then torn is = subst (IsTorn then) (sym is) (untorn then)
torn_more (next ∷ rest) then torn is = is

torn_first : (more rest : Lines) (torn : List ℕ) → 0 < length more → IsTorn (more ++ rest) torn → IsTorn more torn
torn_first [] rest torn some is = absurd (omega (arith, some))
torn_first (line ∷ more) rest torn some is = is

-- lines that are parted among the first, or after them
parted_lines : (first others whole rest : Lines) → first ++ others ≡ whole ++ rest
    → ((more : Lines) × (first ≡ whole ++ more) × (rest ≡ more ++ others) × (0 < length more))
    ⊎ ((more : Lines) × (whole ≡ first ++ more) × (others ≡ more ++ rest))
parted_lines [] others whole rest is = inr (whole, refl, is)
parted_lines (line ∷ first) others [] rest is = inl (line ∷ first, refl, sym is, omega arith)
parted_lines (line ∷ first) others (one ∷ whole) rest is =
    let same : line ≡ one = cc is in
    let tail : first ++ others ≡ whole ++ rest = cc is in
    ⊎_elim (λ found. inl (found.0, (λ i. same i ∷ found.1 i), found.2, found.3))
    (λ found. inr (found.0, (λ i. sym same i ∷ found.1 i), found.2)) (parted_lines first others whole rest tail)

-- some of the first lines are some of all
pub among_first : (before : List ℕ) (lines then : Lines) (put : List ℕ) → IsAmong before lines put → IsAmong before (lines ++ then) put
among_first before lines then put among = record {
  whole = among.whole;
  rest = among.rest ++ then;
  torn = among.torn;
  parted = ap (λ (l : Lines). l ++ then) among.parted ∙ append_assoc among.whole among.rest then;
  is_torn = torn_more among.rest then among.torn among.is_torn;
  put_is = among.put_is;
}

-- .. and so are those after the first
pub among_then : (before : List ℕ) (lines then : Lines) (put : List ℕ) → IsAmong (before ++ concat lines) then put
    → IsAmong before (lines ++ then) put
among_then before lines then put among = record {
  whole = lines ++ among.whole;
  rest = among.rest;
  torn = among.torn;
  parted = ap (λ (l : Lines). lines ++ l) among.parted ∙ sym (append_assoc lines among.whole among.rest);
  is_torn = among.is_torn;
  put_is = among.put_is
      ∙ ap (λ (l : List ℕ). l ++ among.torn)
      (append_assoc before (concat lines) (concat among.whole)
      ∙ ap (λ (l : List ℕ). before ++ l) (sym (concat-append lines among.whole)));
}

-- nothing of them is put yet
pub none_among : (before : List ℕ) (lines : Lines) → IsAmong before lines before
none_among before lines = record {
  whole = [];
  rest = lines;
  torn = [];
  parted = refl;
  is_torn = untorn lines;
  put_is = sym (append-nil before) ∙ sym (append-nil (before ++ []));
}

-- what was given at a put, and what was put
pub same_bytes : (a b : List ℕ) (o : Option (List ℕ)) → o ≡ Some a → o ≡ Some b → b ≡ a
same_bytes a b o one other = let both : Some b ≡ Some a = sym other ∙ one in cc both

module _ {D T : Type 0} (disk : DiskMeaning D) (peer : PeerMeaning T D) where
  -- lines, and then more of them
  pub beside_first : (rests : D) (a b : T) (lines then : Lines) → IsBeside disk peer rests a b lines
      → IsBeside disk peer rests a b (lines ++ then)
  beside_first rests a b lines then one = record {
    unread = one.unread;
    ended = one.ended;
    no_read = one.no_read;
    runs = λ given before given_is is clock.
        runs_wider disk peer a b rests rests (IsPutting disk.may_leave given before lines rests)
        (IsPutting disk.may_leave given before (lines ++ then) rests) (one.runs given before given_is is clock)
        (λ at put. (put.0, among_first before lines then at.put put.1, put.2));
  }

  pub beside_more : (rests : D) (a b c : T) (lines then : Lines) → IsBeside disk peer rests a b lines → TookAll (peer_took peer a b) lines
      → IsBeside disk peer rests b c then → IsBeside disk peer rests a c (lines ++ then)
  beside_more rests a b c lines then one took more = record {
    unread = more.unread ∙ one.unread;
    ended = λ is. more.ended (one.ended is);
    no_read = more.no_read ∙ one.no_read;
    runs = λ given before given_is is clock.
        let first = one.runs given before given_is is clock in
        runs_on disk peer a b c rests rests rests (IsPutting disk.may_leave given before (lines ++ then) rests)
        ((beside_first rests a b lines then one).runs given before given_is is clock)
        (runs_wider disk peer b c rests rests (IsPutting disk.may_leave given (before ++ concat lines) then rests)
        (IsPutting disk.may_leave given before (lines ++ then) rests)
        (more.runs given (before ++ concat lines) (one.unread ∙ given_is)
        (grown before (peer.taken b) (concat lines) (subst (λ (o : Option (List ℕ)). Appends o (peer.taken b) (concat lines)) is took.taken))
        first.clock)
        (λ at put. (put.0, among_then before lines then at.put put.1, put.2)));
  } where
    grown : (old : List ℕ) (new : Option (List ℕ)) (bytes : List ℕ) → Appends (Some old) new bytes → new ≡ Some (old ++ bytes)
    grown old None bytes is = absurd is
    grown old (Some new) bytes is = ap Some is

  -- ---- the calls, each as moments of a conversation

  module _ (start : Start) where
    -- the asks of what was read
    pub sent_part : (text : List ℕ) (lines : List (List ℕ)) (state : LinesState) → AreLinesSoFar text lines state → (first then : List Ask)
        → map (ask_of start.cell) lines ≡ first ++ then → HasRoom start first → (more : List ℕ) (at : Moment)
        → at.given ≡ start.given ++ (text ++ more) → AreSent start first at
    sent_part text lines state reads first then parted room more at is =
        let ahead : List Ask = map (ask_of start.cell) (lines_after reads.begun (state.ahead ++ more)) in (
          text ++ more,
          then ++ ahead,
          is,
          ap (map (ask_of start.cell)) (reads.goes_on more)
              ∙ map-append (ask_of start.cell) lines (lines_after reads.begun (state.ahead ++ more))
              ∙ ap (λ (l : List Ask). l ++ ahead) parted ∙ append_assoc first then ahead,
          room,
        )

    pub sent_so : (text : List ℕ) (lines : List (List ℕ)) (state : LinesState) → AreLinesSoFar text lines state
        → HasRoom start (map (ask_of start.cell) lines) → (more : List ℕ) (at : Moment) → at.given ≡ start.given ++ (text ++ more)
        → AreSent start (map (ask_of start.cell) lines) at
    sent_so text lines state reads room more at is =
        let asks : List Ask = map (ask_of start.cell) lines in
        sent_part text lines state reads asks [] (sym (append-nil asks)) room more at is

    -- the head is put
    pub head_lives : HasRoom start [] → (rests : D) (a b : T) → IsBeside disk peer rests a b (line_of (head_words 0 (length start.opening)) ∷ [])
        → peer.given a ≡ Some start.given → peer.taken a ≡ Some start.before → peer.since a ≤ disk.moment rests
        → ((c : List ℕ) → disk.may_leave rests c → StandsFor c start.text start.opening) → RunsTo disk peer a rests b rests (IsLive start)
    head_lives room rests a b beside given_is put_is clock stands =
        runs_wider disk peer a b rests rests
        (IsPutting disk.may_leave start.given start.before (line_of (head_words 0 (length start.opening)) ∷ []) rests) (IsLive start)
        (beside.runs start.given start.before given_is put_is clock)
        (λ at put. Ready put.0 room put.1 (stands at.image put.2))

    module _ (asked : List Ask) where
      abbrev talk : Talk
      talk = talk_then start asked

      abbrev behind : List Grant
      behind = talk.granted

      -- asks after asks
      pub grants_more : (group : List Ask) → behind ++ since start.cell talk group ≡ grants_then start (asked ++ group)
      grants_more group =
          sym (granted-after start.cell talk group)
          ∙ sym (ap (λ (k : Talk). k.granted) (talk-append start.cell (opened start.opening) asked group))

      pub put_more : (group : List Ask)
          → put_then start asked ++ concat (answers_then start asked group) ≡ put_then start (asked ++ group)
      put_more group =
          append_assoc start.before (concat (answered_lines start.cell start.opening asked)) (concat (answers_then start asked group))
          ∙ ap (λ (l : List ℕ). start.before ++ l)
          (sym (concat-append (answered_lines start.cell start.opening asked) (answers_then start asked group))
          ∙ ap (λ (ls : Lines). concat (line_of (head_words 0 (length start.opening)) ∷ ls))
          (ap (λ (n : ℕ). answers start.cell (opened start.opening) 1 asked ++ answers start.cell talk n group) number
          ∙ sym (answers-append start.cell (opened start.opening) 1 asked group)))
        where
          number : length asked + 1 ≡ 1 + length asked
          number = omega arith

      -- where the answers are parted, so are the asks: some are answered whole, and the next in part
      parted_asks : (k : Talk) (number : ℕ) (asks : List Ask) (whole rest : Lines) → answers start.cell k number asks ≡ whole ++ rest
          → (shown : List Ask) × (later : List Ask) × (part : Lines) × (more : Lines)
          × (asks ≡ shown ++ later) × (whole ≡ answers start.cell k number shown ++ part)
          × (first_answer start.cell (talk_after start.cell k shown) (number + length shown) later ≡ part ++ more)
          × (more ≡ [] → later ≡ []) × ((torn : List ℕ) → IsTorn rest torn → IsTorn more torn)
      parted_asks k number [] [] rest is =
          ([], [], [], [], refl, refl, refl, λ none. refl, λ torn end. subst (λ (ls : Lines). IsTorn ls torn) (sym is) end)
      parted_asks k number [] (line ∷ whole) rest is = absurd (cc is)
      parted_asks k number (ask ∷ asks) whole rest is =
          let next : Talk = talk_after_one start.cell k ask in
          let lines : Lines = answer start.cell k (line_number number) ask in
          let others : Lines = answers start.cell next (number + 1) asks in
          ⊎_elim
          (λ found. (
            [],
            ask ∷ asks,
            whole,
            found.0,
            refl,
            refl,
            (λ i. answer start.cell k (line_number (nothing_more number i)) ask) ∙ found.1,
            λ none. absurd (omega (arith, found.3, ap (λ (ls : Lines). length ls) none)),
            λ torn end. torn_first found.0 others torn found.3 (subst (λ (ls : Lines). IsTorn ls torn) found.2 end),
          ))
          (λ found.
          let deep = parted_asks next (number + 1) asks found.0 rest found.2 in
          let count : number + length (ask ∷ deep.0) ≡ number + 1 + length deep.0 = omega arith in (
            ask ∷ deep.0,
            deep.1,
            deep.2,
            deep.3,
            ap (λ (l : List Ask). ask ∷ l) deep.4,
            found.1 ∙ ap (λ (ls : Lines). lines ++ ls) deep.5
                ∙ sym (append_assoc lines (answers start.cell next (number + 1) deep.0) deep.2),
            (λ i. first_answer start.cell (talk_after start.cell next deep.0) (count i) deep.1) ∙ deep.6,
            deep.7,
            deep.8,
          ))
          (parted_lines lines others whole rest is)
        where
          nothing_more : (n : ℕ) → n + 0 ≡ n
          nothing_more n = omega arith

      -- before the answers of a group
      unanswered : (group : List Ask) → length group ≤ 512 → (at : Moment) → AreSent start (asked ++ group) at
          → at.put ≡ put_then start asked
          → IsBeforeOrAfterAll start.text behind (since start.cell talk group) at.image → IsServing start at
      unanswered group few at sent put either =
          let none : asked ++ group ≡ asked ++ [] ++ group = ap (λ (l : List Ask). l ++ group) (sym (append-nil asked)) in
          let before : List ℕ = put_then start (asked ++ []) in
          record {
            earlier = asked;
            shown = [];
            rest = group;
            sent = subst (λ (asks : List Ask). AreSent start asks at) none sent;
            few = few;
            put = record {
              whole = [];
              rest = next_answer start (asked ++ []) group;
              torn = [];
              parted = refl;
              is_torn = untorn (next_answer start (asked ++ []) group);
              put_is = put ∙ ap (put_then start) (sym (append-nil asked)) ∙ sym (append-nil before) ∙ sym (append-nil (before ++ []));
            };
            unfinished = none_answered (asked ++ []) group;
            settled = settled_always start.cell start.opening (asked ++ [] ++ group);
            image = ⊎_elim (λ without. inr (refl, put, without))
                (λ all. inl (subst (StandsFor at.image start.text) (grants_more group ∙ ap (grants_then start) none) all)) either;
          }
        where
          none_answered : (earlier group : List Ask) → next_answer start earlier group ≡ [] → group ≡ []
          none_answered earlier [] is = refl
          none_answered earlier (ask ∷ group) is =
              absurd (omega (
                arith,
                answer_some start.cell (talk_then start earlier) (line_number (length earlier + 1)) ask,
                ap (λ (ls : Lines). length ls) is,
              ))

      -- with some of them
      answered : (group : List Ask) → length group ≤ 512 → (at : Moment) → AreSent start (asked ++ group) at
          → IsAmong (put_then start asked) (answers_then start asked group) at.put
          → StandsFor at.image start.text (behind ++ since start.cell talk group) → IsServing start at
      answered group few at sent among all =
          let found = parted_asks talk (length asked + 1) group among.whole among.rest among.parted in
          let shown : List Ask = found.0 in
          let later : List Ask = found.1 in
          let lines : Lines = answers_then start asked shown in
          let number : length (asked ++ shown) + 1 ≡ length asked + 1 + length shown = omega (arith, length-append asked shown) in
          let every : asked ++ group ≡ asked ++ shown ++ later =
          ap (λ (l : List Ask). asked ++ l) found.4 ∙ sym (append_assoc asked shown later) in
          record {
            earlier = asked;
            shown = shown;
            rest = later;
            sent = subst (λ (asks : List Ask). AreSent start asks at) every sent;
            few = subst (λ (g : List Ask). length g ≤ 512) found.4 few;
            put = record {
              whole = found.2;
              rest = found.3;
              torn = among.torn;
              parted = (λ i. first_answer start.cell (talk-append start.cell (opened start.opening) asked shown i) (number i) later)
                  ∙ found.6;
              is_torn = found.8 among.torn among.is_torn;
              put_is = among.put_is
                  ∙ ap (λ (l : List ℕ). l ++ among.torn)
                  (ap (λ (ls : Lines). put_then start asked ++ concat ls) found.5
                  ∙ ap (λ (l : List ℕ). put_then start asked ++ l) (concat-append lines found.2)
                  ∙ sym (append_assoc (put_then start asked) (concat lines) (concat found.2))
                  ∙ ap (λ (l : List ℕ). l ++ concat found.2) (put_more shown));
            };
            unfinished = found.7;
            settled = settled_always start.cell start.opening (asked ++ shown ++ later);
            image = inl (subst (StandsFor at.image start.text) (grants_more group ∙ ap (grants_then start) every) all);
          }

      -- ---- runs

      module _ (t : T) (text : List ℕ) (given_is : peer.given t ≡ Some (start.given ++ text))
          (put_is : peer.taken t ≡ Some (put_then start asked)) where
        -- a group is made stable
        pub group_runs : (group : List Ask) → length group ≤ 512
            → ((at : Moment) → at.given ≡ start.given ++ text → AreSent start (asked ++ group) at) → (old new : D)
            → peer.since t ≤ disk.moment old
            → LeavesOnly disk.moment disk.left_since old new (IsBeforeOrAfterAll start.text behind (since start.cell talk group))
            → RunsTo disk peer t old t new (IsLive start)
        group_runs group few sent old new clock only =
            runs_wider disk peer t t old new
            (λ at. IsAt (peer.given t) (peer.taken t) at
            × IsBeforeOrAfterAll start.text behind (since start.cell talk group) at.image) (IsLive start)
            (disk_runs disk peer t old new (IsBeforeOrAfterAll start.text behind (since start.cell talk group)) clock only)
            (λ at is. Serving (unanswered group few at (sent at (same_bytes (start.given ++ text) at.given (peer.given t) given_is is.0.0))
            (same_bytes (put_then start asked) at.put (peer.taken t) put_is is.0.1) is.1))

        -- and then answered
        pub answers_run : (group : List Ask) → length group ≤ 512
            → ((at : Moment) → at.given ≡ start.given ++ text → AreSent start (asked ++ group) at) → (rests : D) (last : T)
            → peer.since t ≤ disk.moment rests
            → ((c : List ℕ) → disk.may_leave rests c → StandsFor c start.text (behind ++ since start.cell talk group))
            → IsBeside disk peer rests t last (answers_then start asked group) → RunsTo disk peer t rests last rests (IsLive start)
        answers_run group few sent rests last clock stands beside =
            runs_wider disk peer t last rests rests
            (IsPutting disk.may_leave (start.given ++ text) (put_then start asked) (answers_then start asked group) rests) (IsLive start)
            (beside.runs (start.given ++ text) (put_then start asked) given_is put_is clock)
            (λ at put. Serving (answered group few at (sent at put.0) put.1 (stands at.image put.2)))

        -- a group that could not be made stable halts
        pub halts_run : (before : List Ask) (next : Ask) (rest : List Ask) → length (before ++ next ∷ rest) ≤ 512
            → since start.cell talk before ≡ [] → 0 < length (added_by start.cell (talk_then start (asked ++ before)) next)
            → ((at : Moment) → at.given ≡ start.given ++ text → AreSent start (asked ++ before ++ next ∷ rest) at) → (rests : D) (last : T)
            → peer.since t ≤ disk.moment rests
            → ((c : List ℕ) → disk.may_leave rests c
            → IsBeforeOrAfterAll start.text behind (since start.cell talk (before ++ next ∷ rest)) c)
            → IsBeside disk peer rests t last (answers_then start asked before ++ halted_line start.cell next ∷ [])
            → RunsTo disk peer t rests last rests (IsLive start)
        halts_run before next rest few none some sent rests last clock stands beside =
            let lines : Lines = answers_then start asked before ++ halted_line start.cell next ∷ [] in
            runs_wider disk peer t last rests rests
            (IsPutting disk.may_leave (start.given ++ text) (put_then start asked) lines rests) (IsLive start)
            (beside.runs (start.given ++ text) (put_then start asked) given_is put_is clock)
            (λ at put. Halting (record {
              earlier = asked;
              before = before;
              next = next;
              rest = rest;
              sent = sent at put.0;
              few = few;
              none = none;
              some = some;
              put = put.1;
              image = stands at.image put.2;
            }))

        -- the last lines are put
        pub last_run : (last : Lines) → AreLast start.cell talk last
            → ((at : Moment) → at.given ≡ start.given ++ text → AreSent start asked at) → (rests : D) (end : T)
            → peer.since t ≤ disk.moment rests → ((c : List ℕ) → disk.may_leave rests c → StandsFor c start.text behind)
            → IsBeside disk peer rests t end last → RunsTo disk peer t rests end rests (IsLive start)
        last_run last last_is sent rests end clock stands beside =
            runs_wider disk peer t end rests rests
            (IsPutting disk.may_leave (start.given ++ text) (put_then start asked) last rests) (IsLive start)
            (beside.runs (start.given ++ text) (put_then start asked) given_is put_is clock)
            (λ at put. Ending (record {
              asked = asked;
              last = last;
              sent = sent at put.0;
              last_is = last_is;
              put = put.1;
              settled = settled_always start.cell start.opening asked;
              image = stands at.image put.2;
            }))

        -- a piece of the input is read
        pub read_run : ((more : List ℕ) (at : Moment) → at.given ≡ start.given ++ (text ++ more) → AreSent start asked at) → (rests : D)
            (end : T) → peer.since t ≤ disk.moment rests → ((c : List ℕ) → disk.may_leave rests c → StandsFor c start.text behind)
            → IsRead disk peer rests t end → RunsTo disk peer t rests end rests (IsLive start)
        read_run sent rests end clock stands read =
            runs_wider disk peer t end rests rests
            (λ at. IsDuringRead disk.may_leave (peer.taken t) (peer.given t) (peer.given end) rests at) (IsLive start)
            (call_runs disk peer t end rests
            (λ at. IsDuringRead disk.may_leave (peer.taken t) (peer.given t) (peer.given end) rests at) (read.clock clock) read.moments)
            (λ at is. Serving (record {
              earlier = asked;
              shown = [];
              rest = [];
              sent = subst (λ (asks : List Ask). AreSent start asks at) (sym (append-nil asked) ∙ sym (append-nil (asked ++ [])))
                  (sent is.1.0 at
                  ((let came : at.given ≡ (start.given ++ text) ++ is.1.0 =
                  subst (λ (o : Option (List ℕ)). Appends o (Some at.given) is.1.0) given_is is.1.2 in came)
                  ∙ append_assoc start.given text is.1.0));
              few = omega arith;
              put = record {
                whole = [];
                rest = [];
                torn = [];
                parted = refl;
                is_torn = refl;
                put_is = same_bytes (put_then start asked) at.put (peer.taken t) put_is is.0
                    ∙ ap (put_then start) (sym (append-nil asked)) ∙ sym (append-nil (put_then start (asked ++ [])))
                    ∙ sym (append-nil (put_then start (asked ++ []) ++ []));
              };
              unfinished = λ none. refl;
              settled = settled_always start.cell start.opening (asked ++ [] ++ []);
              image = inl (subst (λ (asks : List Ask). StandsFor at.image start.text (grants_then start asks)) (sym (append-nil asked) ∙ sym (append-nil (asked ++ [])))
                  (stands at.image is.2));
            }))
