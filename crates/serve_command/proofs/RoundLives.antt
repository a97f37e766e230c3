-- A round of a conversation, as moments of it.
use Rattle.std.specs.Prelude.{Option, Some, None, IfSome, ⊤}
use Rattle.std.specs.List.{concat}
use Rattle.std.specs.Io.KnownBytes.{Appends}
use Rattle.std.proofs.Common.{◌≡◌, inl, ℕ, ◌+◌, ◌<◌, ◌≤◌, Bool, true, false, List, [], ◌∷◌, ◌++◌, length, map, take}
use Rattle.std.proofs.Common.{refl, sym, ap, ◌∙◌, subst, arith, append_assoc, append-nil}
use Rattle.std.proofs.lemmas.Bool.{true≢false}
use Rattle.std.proofs.lemmas.List.{length-append, length-map, map-append}
use Rattle.std.proofs.Math.Seq.{take-append_seam}
use Rattle.outside_io.specs.Disk.{LeavesOnly, Turns}
use Rattle.outside_io.specs.Meanings.{DiskMeaning}
use Rattle.outside_io.specs.Puts.{TookAll}
use Rattle.outside_io.specs.Telling.{where_told, told, turned}
use Rattle.cell_base.specs.declared.cells.Cell.{Cell}
use Rattle.cell_base.specs.declared.shifts.Grant.{Grant}
use Rattle.input_lines.specs.Reading.{LinesState}
use Rattle.live_cell.specs.LiveState.{LiveState}
use Rattle.move_journal.specs.Disks.{Shows}
use Rattle.journal_format.specs.Journals.{StandsFor, IsBeforeOrAfterAll}
use Rattle.lent_peers.specs.Beside.{IsBeside}
use Rattle.peers.specs.Meanings.{PeerMeaning, peer_took}
use Rattle.peers.specs.Moments.{Moment}
use Rattle.peers.specs.Runs.{RunsTo, runs_on}
use Rattle.serve_command.specs.Answers.{answers, line_number}
use Rattle.serve_command.specs.Asks.{ask_of}
use Rattle.serve_command.specs.Lives.{AreSent, HasRoom, IsLive, IsServedTo, LivesTo, Start, answers_then, put_then, talk_then}
use Rattle.serve_command.specs.Rounds.{AreGroupLines, IsGroupOfLines}
use Rattle.serve_command.specs.Serve.{full_line}
use Rattle.serve_command.specs.Serving.{IsFirstGrant, Stays}
use Rattle.serve_command.specs.Talks.{Talk, added_by, since, talk_after}
use Rattle.serve_command.specs.declared.asks.Ask.{Ask}
use Rattle.serve_command.specs.declared.command.TheConstants.{MAX_SERVED}
use Rattle.serve_command.specs.FirstGrants.{FirstGrant}
use Rattle.serve_command.specs.declared.server.Server.{Server}
use Rattle.serve_command.proofs.Grouping.{answers-append, answers-known, granted-after, talk-append}
use Rattle.serve_command.proofs.Living.{answers_run, group_runs, halts_run, last_run, put_more, grants_more, sent_part}

pub grown : (old : List ℕ) (new : Option (List ℕ)) (bytes : List ℕ) → Appends (Some old) new bytes → new ≡ Some (old ++ bytes)
grown old None bytes is = absurd is
grown old (Some new) bytes is = ap Some is

module _ {D T : Type 0} (disk : DiskMeaning D) (peer : PeerMeaning T D) (start : Start) (text : List ℕ) (given : List (List ℕ))
    (old mid : Server D) (before lines : LinesState) (t : T) (served : IsServedTo disk peer start text given old before t)
    (stays : Stays old mid) (full : Bool)
    (taken : IsGroupOfLines old.live.cell (talk_then start (map (ask_of start.cell) given)) old.asked text given mid lines full)
    (fits : mid.live.len + length mid.live.pending ≤ MAX_SERVED) where
  abbrev asked : List Ask
  asked = map (ask_of start.cell) given

  abbrev talk : Talk
  talk = talk_then start asked

  abbrev grants : List Grant
  grants = talk.granted

  group_is : IsGroupOfLines start.cell talk old.asked text given mid lines full
  group_is = subst (λ (cell : Cell). IsGroupOfLines cell talk old.asked text given mid lines full) served.cell_is taken

  abbrev group : List Ask
  group = map (ask_of start.cell) group_is.0

  group_few : length group ≤ 512
  group_few = omega (arith, group_is.3, length-map group_is.0 (ask_of start.cell))

  -- the answers to asks of the group come next
  numbered : (asks : List Ask) → answers start.cell talk (old.asked + 1) asks ≡ answers_then start asked asks
  numbered asks =
      answers-known start.cell talk (length asked) old.asked asks
      (served.asked ∙ ap line_number (sym (length-map given (ask_of start.cell))))

  room : HasRoom start (asked ++ group)
  room = omega (
    arith,
    fits,
    group_is.1.at.number,
    ap (λ (gs : List Grant). length gs) (granted-after start.cell talk group),
    ap (λ (gs : List Grant). length gs) (grants_more disk peer start asked group),
  )

  all_sent : (how : Bool) → AreGroupLines start.cell talk text given group_is.0 lines how → (more : List ℕ) (at : Moment)
      → at.given ≡ start.given ++ (text ++ more) → AreSent start (asked ++ group) at
  all_sent false reads more at is =
      sent_part disk peer start text (given ++ group_is.0) lines reads (asked ++ group) []
      (map-append (ask_of start.cell) given group_is.0 ∙ sym (append-nil (asked ++ group))) room more at is
  all_sent true (line, reads, at_full) more at is =
      sent_part disk peer start text (given ++ group_is.0 ++ line ∷ []) lines reads (asked ++ group) (ask_of start.cell line ∷ [])
      (map-append (ask_of start.cell) (given ++ group_is.0) (line ∷ [])
      ∙ ap (λ (asks : List Ask). asks ++ ask_of start.cell line ∷ []) (map-append (ask_of start.cell) given group_is.0)) room more at is

  sent : (at : Moment) → at.given ≡ start.given ++ text → AreSent start (asked ++ group) at
  sent at is = all_sent full group_is.2 [] at (is ∙ ap (λ (l : List ℕ). start.given ++ l) (sym (append-nil text)))

  module _ (new : D) (tells : Turns (disk.reads_as mid.live.disk) (disk.reads_as new) (λ _ _. ⊤))
      (moved : IfSome (disk.reads_as mid.live.disk)
      (λ _. LeavesOnly disk.moment disk.left_since mid.live.disk new (IsBeforeOrAfterAll start.text grants mid.live.pending))) where
    -- the disk is written
    module _ (file : List ℕ) (is : disk.reads_as old.live.disk ≡ Some file) where
      is_mid : disk.reads_as mid.live.disk ≡ Some file
      is_mid = ap disk.reads_as stays.disk ∙ is

      written : RunsTo disk peer t old.live.disk t new (IsLive start)
      written =
          group_runs disk peer start asked t text served.given_is served.put_is group group_few sent old.live.disk new served.clock
          (subst (λ (d : D). LeavesOnly disk.moment disk.left_since d new
          (IsBeforeOrAfterAll start.text grants (since start.cell talk group))) stays.disk
          (subst (λ (gs : List Grant). LeavesOnly disk.moment disk.left_since mid.live.disk new (IsBeforeOrAfterAll start.text grants gs))
          group_is.1.pending (told _ _ file is_mid moved)))

      -- what a crash then leaves
      after : (P : List ℕ → Type 0) → Shows disk.reads_as disk.may_leave new P → (c : List ℕ) → disk.may_leave new c → P c
      after P shows =
          let now = turned (disk.reads_as mid.live.disk) (disk.reads_as new) (λ _ _. ⊤) file is_mid tells in
          (told (disk.reads_as new) (λ f. P f × ((c : List ℕ) → disk.may_leave new c → P c)) now.0 now.1 shows).1

    abbrev Lives : T → Type 0
    Lives last = LivesTo disk peer start old.live.disk t new last

    -- .. and the answers are put
    module _ (stored : Shows disk.reads_as disk.may_leave new (λ file. StandsFor file start.text (grants ++ mid.live.pending))) (last : T)
        (beside : IsBeside disk peer new t last mid.replies) where
      all_stored : Shows disk.reads_as disk.may_leave new (λ file. StandsFor file start.text (grants ++ since start.cell talk group))
      all_stored = subst (λ (gs : List Grant). Shows disk.reads_as disk.may_leave new (λ file. StandsFor file start.text (grants ++ gs)))
          group_is.1.pending stored

      replies_are : mid.replies ≡ answers_then start asked group
      replies_are = group_is.1.replies ∙ numbered group

      answered_there : (file : List ℕ) → disk.reads_as old.live.disk ≡ Some file → RunsTo disk peer t old.live.disk last new (IsLive start)
      answered_there file is =
          let first = written file is in
          runs_on disk peer t t last old.live.disk new new (IsLive start) first
          (answers_run disk peer start asked t text served.given_is served.put_is group group_few sent new last first.clock
          (after file is (λ f. StandsFor f start.text (grants ++ since start.cell talk group)) all_stored)
          (subst (IsBeside disk peer new t last) replies_are beside))

      pub answered_lives : Lives last
      answered_lives = where_told (disk.reads_as old.live.disk) (λ _. RunsTo disk peer t old.live.disk last new (IsLive start)) answered_there

      -- .. and that the journal is full
      pub filled_lives : (end : T) → TookAll (peer_took peer t last) mid.replies → IsBeside disk peer new last end (full_line ∷ [])
          → Lives end
      filled_lives end took full_beside = where_told (disk.reads_as old.live.disk)
          (λ _. RunsTo disk peer t old.live.disk end new (IsLive start))
          (λ file is.
          let first = answered_there file is in
          let put : peer.taken last ≡ Some (put_then start (asked ++ group)) =
          grown (put_then start asked) (peer.taken last) (concat mid.replies)
          (subst (λ (o : Option (List ℕ)). Appends o (peer.taken last) (concat mid.replies)) served.put_is took.taken)
          ∙ ap (λ (ls : List (List ℕ)). Some (put_then start asked ++ concat ls)) replies_are
          ∙ ap Some (put_more disk peer start asked group) in
          runs_on disk peer t last end old.live.disk new new (IsLive start) first
          (last_run disk peer start (asked ++ group) last text (beside.unread ∙ served.given_is) put (full_line ∷ []) (inl refl) sent new end
          first.clock
          (λ c left. subst (StandsFor c start.text) (grants_more disk peer start asked group)
          (after file is (λ f. StandsFor f start.text (grants ++ since start.cell talk group)) all_stored c left)) full_beside))

    -- .. or the device failed
    module _ (kept : Shows disk.reads_as disk.may_leave new (IsBeforeOrAfterAll start.text grants mid.live.pending)) (last : T) where
      pub halted_lives : (first : FirstGrant) → mid.first ≡ Some first
          → (first.at ≤ length mid.replies → IsBeside disk peer new t last (take first.at mid.replies ++ first.line ∷ [])) → Lives last
      halted_lives first first_is beside =
          let number = old.asked + 1 in
          let at_first : IsFirstGrant start.cell talk number group (Some first) =
          subst (IsFirstGrant start.cell talk number group) first_is group_is.1.first in
          let ahead = at_first.0 in
          let next = at_first.1 in
          let rest = at_first.2 in
          let parted = at_first.3 in
          let all : mid.replies ≡ answers start.cell talk number ahead
          ++ answers start.cell (talk_after start.cell talk ahead) (number + length ahead) (next ∷ rest) =
          group_is.1.replies ∙ ap (answers start.cell talk number) parted ∙ answers-append start.cell talk number ahead (next ∷ rest) in
          let within : first.at ≤ length mid.replies = omega (
            arith,
            at_first.6,
            ap (λ (ls : List (List ℕ)). length ls) all,
            length-append (answers start.cell talk number ahead)
                (answers start.cell (talk_after start.cell talk ahead) (number + length ahead) (next ∷ rest)),
          ) in
          let first_answers : take first.at mid.replies ≡ answers_then start asked ahead =
          (λ i. take (at_first.6 i) (all i)) ∙ take-append_seam (answers start.cell talk number ahead)
          (answers start.cell (talk_after start.cell talk ahead) (number + length ahead) (next ∷ rest)) ∙ numbered ahead in
          let some = subst (λ (k : Talk). 0 < length (added_by start.cell k next)) (sym (talk-append start.cell _ asked ahead)) at_first.5 in
          where_told (disk.reads_as old.live.disk) (λ _. RunsTo disk peer t old.live.disk last new (IsLive start))
          (λ file is.
          let begun = written file is in
          runs_on disk peer t t last old.live.disk new new (IsLive start) begun
          (halts_run disk peer start asked t text served.given_is served.put_is ahead next rest
          (subst (λ (g : List Ask). length g ≤ 512) parted group_few) at_first.4 some
          (λ at here. subst (λ (asks : List Ask). AreSent start asks at)
          (ap (λ (l : List Ask). asked ++ l) parted ∙ sym (append_assoc asked ahead (next ∷ rest))) (sent at here)) new last begun.clock
          (λ c left. subst (λ (gs : List Grant). IsBeforeOrAfterAll start.text grants gs c)
          (group_is.1.pending ∙ ap (since start.cell talk) parted)
          (after file is (IsBeforeOrAfterAll start.text grants mid.live.pending) kept c left))
          (subst (IsBeside disk peer new t last) (λ i. first_answers i ++ at_first.7 i ∷ []) (beside within))))

      -- there is a first grant, since without one the device is not called
      pub halted_at : {live : LiveState D} → (mid.live.pending ≡ [] → live ≡ mid.live) → mid.live.is_halted ≡ false
          → live.is_halted ≡ true → (first : Option FirstGrant) → mid.first ≡ first
          → IfSome first (λ at. at.at ≤ length mid.replies
          → IsBeside disk peer new t last (take at.at mid.replies ++ at.line ∷ [])) → Lives last
      halted_at untouched runs halted None is beside =
          let none = group_is.1.pending ∙ subst (IsFirstGrant start.cell talk (old.asked + 1) group) is group_is.1.first in
          absurd (true≢false (sym halted ∙ ap (λ (l : LiveState D). l.is_halted) (untouched none) ∙ runs))
      halted_at untouched runs halted (Some first) is beside = halted_lives first is beside
