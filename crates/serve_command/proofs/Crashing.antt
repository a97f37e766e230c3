-- What each moment of a conversation says of its file.
use Rattle.std.specs.List.{concat}
use Rattle.std.proofs.Common.{◌≡◌, ◌⊎◌, ⊎_elim, inl, inr, ℕ, zero, suc, ◌+◌, ◌≤◌, List, [], ◌∷◌, ◌++◌, take, drop, length, map, refl, sym, ap, ◌∙◌, subst, arith, append_assoc, append-nil}
use Rattle.std.proofs.lemmas.List.{length-append, take-append-drop}
use Rattle.cell_base.specs.declared.shifts.Grant.{Grant}
use Rattle.record_printer.specs.Blocks.{Lines}
use Rattle.journal_format.specs.Journals.{StandsFor}
use Rattle.journal_format.proofs.Uniqueness.{journal_of, one_journal}
use Rattle.peers.specs.Moments.{Moment, IsAmong}
use Rattle.step_text.specs.Words.{joined}
use Rattle.serve_command.specs.Answers.{count_of, line_number, telling_line, telling_words}
use Rattle.serve_command.specs.ExactlyOnce.{Acknowledged, ExactlyOnce, GoesOn, OneGroup, answered_by, granted_by, grants_line, is_last_of, next_told}
use Rattle.serve_command.specs.ExactlyOnce.{steps_of, told_by, told_then, told_to, unanswered_by}
use Rattle.serve_command.specs.Laws.{is_told_granted, told_times}
use Rattle.serve_command.specs.Lives.{AreSent, Ending, Halting, IsLive, IsServing, Ready, Serving, Start, grants_then, next_answer, put_then, talk_then}
use Rattle.serve_command.specs.Talks.{Telling, opened, said_to, since, talk_after_one, told_in_turn}
use Rattle.serve_command.specs.declared.asks.Ask.{Ask}
use Rattle.serve_command.specs.declared.replies.TheConstants.{GROUP_LINES}
use Rattle.serve_command.proofs.Closing.{granted-last, turns-close}
use Rattle.serve_command.proofs.Histories.{counted-lines}
use Rattle.serve_command.proofs.Grouping.{granted-after, talk-append}
use Rattle.serve_command.proofs.Telling.{grants_in, grants_in-append, since-lines, told-append}
use Rattle.serve_command.proofs.Times.{times-append}

-- a file stands for one list of grants
pub stands_for_one : (file text : List ℕ) (one other : List Grant) → StandsFor file text one → StandsFor file text other → one ≡ other
stands_for_one file text one other (inl blank) (inl shut) = blank.1 ∙ sym shut.1
stands_for_one file text one other (inl blank) (inr journal) =
    (one_journal file text text one other (journal_of file text text one other journal (inl blank)) journal).1
stands_for_one file text one other (inr journal) stands =
    (one_journal file text text one other journal (journal_of file text text other one journal stands)).1

zero_or_one : (n told count : ℕ) → n ≤ 1 → count ≡ told + n → (count ≡ told) ⊎ (count ≡ told + 1)
zero_or_one zero told count few is = inl (omega (arith, is))
zero_or_one (suc n) told count few is = inr (omega (arith, few, is))

-- ---- lines of which nothing is put

-- where lines that are not empty add nothing, there are none
no_lines : (f : Telling → List ℕ) → ((t : Telling) → 1 ≤ length (f t)) → (told : List Telling) (whole rest : Lines)
    → map f told ≡ whole ++ rest → length (concat whole) ≡ 0 → whole ≡ []
no_lines f some told [] rest parted none = refl
no_lines f some [] (line ∷ whole) rest parted none = absurd (let h : [] ≡ line ∷ (whole ++ rest) = parted in cc)
no_lines f some (t ∷ told) (line ∷ whole) rest parted none =
    let first : f t ≡ line = cc in
    absurd (omega (arith, some t, ap (λ (l : List ℕ). length l) first, length-append line (concat whole), none))

some_bytes : (start : Start) (granted : List Grant) (number : ℕ) (t : Telling)
    → 1 ≤ length (telling_line start.cell granted number t)
some_bytes start granted number t = omega (arith, length-append (joined (telling_words start.cell granted number t)) (10 ∷ []))

no_answer : (start : Start) (earlier rest : List Ask) (whole others : Lines) → next_answer start earlier rest ≡ whole ++ others
    → length (concat whole) ≡ 0 → whole ≡ []
no_answer start earlier [] [] others parted none = refl
no_answer start earlier [] (line ∷ whole) others parted none = absurd (let h : [] ≡ line ∷ (whole ++ others) = parted in cc)
no_answer start earlier (next ∷ rest) whole others parted none =
    let number = line_number (length earlier + 1) in
    let talk = talk_then start earlier in
    no_lines (telling_line start.cell talk.granted number) (some_bytes start talk.granted number) (said_to start.cell talk next).told whole
    others parted none

module _ (start : Start) where
  abbrev Then : List Ask → List Grant
  Then = grants_then start

  abbrev Granted : List Telling → List Grant
  Granted = granted_by start

  -- ---- asks and lines

  -- the grants after asks, and then those that more asks add
  more_after : (first then : List Ask) → Then (first ++ then) ≡ Then first ++ since start.cell (talk_then start first) then
  more_after first then =
      ap (λ talk. talk.granted) (talk-append start.cell (opened start.opening) first then)
      ∙ granted-after start.cell (talk_then start first) then

  -- they are the grants of the lines
  then_lines : (asks : List Ask) → Then asks ≡ Granted (told_then start asks)
  then_lines asks =
      granted-after start.cell (opened start.opening) asks
      ∙ ap (λ (gs : List Grant). start.opening ++ gs) (since-lines start.cell (opened start.opening) asks)

  told_more : (first then : List Ask)
      → told_then start (first ++ then) ≡ told_then start first ++ told_in_turn start.cell (talk_then start first) then
  told_more first then = told-append start.cell (opened start.opening) first then

  granted_more : (told more : List Telling) → Granted (told ++ more) ≡ Granted told ++ grants_in more
  granted_more told more =
      ap (λ (gs : List Grant). start.opening ++ gs) (grants_in-append told more)
      ∙ sym (append_assoc start.opening (grants_in told) (grants_in more))

  -- ---- what a moment says of its file

  -- These asks are answered and those are not, and these lines are told: the file stands for the grants of the ones, or of all.
  record Says (at : Moment) (answered unanswered : List Ask) (told : List Telling) : Type 0 where
    sent : AreSent start (answered ++ unanswered) at
    image : StandsFor at.image start.text (Then answered) ⊎ StandsFor at.image start.text (Then (answered ++ unanswered))
    few : length unanswered ≤ GROUP_LINES
    others : List Telling
    all : told_then start (answered ++ unanswered) ≡ told ++ others
    lines : StandsFor at.image start.text (Granted told) ⊎ StandsFor at.image start.text (Granted (told ++ others))

  -- where the lines told are those of the answered asks
  whole_asks : (at : Moment) (answered unanswered : List Ask) → AreSent start (answered ++ unanswered) at
      → StandsFor at.image start.text (Then answered) ⊎ StandsFor at.image start.text (Then (answered ++ unanswered))
      → length unanswered ≤ GROUP_LINES → Says at answered unanswered (told_then start answered)
  whole_asks at answered unanswered sent image few = record {
    sent = sent;
    image = image;
    few = few;
    others = told_in_turn start.cell (talk_then start answered) unanswered;
    all = told_more answered unanswered;
    lines = ⊎_elim (λ none. inl (subst (StandsFor at.image start.text) (then_lines answered) none))
        (λ all. inr (subst (StandsFor at.image start.text)
        (then_lines (answered ++ unanswered) ∙ ap Granted (told_more answered unanswered)) all)) image;
  }

  -- the lines of the next answer after the first ones, and those of the asks behind it
  abbrev after_next : (earlier rest : List Ask) (n : ℕ) → List Telling
  after_next earlier [] n = []
  after_next earlier (next ∷ rest) n =
      let talk = talk_then start earlier in
      drop n (said_to start.cell talk next).told ++ told_in_turn start.cell (talk_after_one start.cell talk next) rest

  parted_told : (earlier rest : List Ask) (n : ℕ)
      → told_in_turn start.cell (talk_then start earlier) rest ≡ take n (next_told start earlier rest) ++ after_next earlier rest n
  parted_told earlier [] n = nothing n
    where
      nothing : (n : ℕ) → ◌≡◌ {A = List Telling} [] (take n [] ++ [])
      nothing zero = refl
      nothing (suc n) = refl
  parted_told earlier (next ∷ rest) n =
      let talk = talk_then start earlier in
      let told = (said_to start.cell talk next).told in
      let later = told_in_turn start.cell (talk_after_one start.cell talk next) rest in
      ap (λ (l : List Telling). l ++ later) (sym (take-append-drop n told)) ∙ append_assoc (take n told) (drop n told) later

  -- where nothing of the last group is put, no line of it is
  nothing_put : (earlier shown rest : List Ask) (put : List ℕ) (among : IsAmong (put_then start (earlier ++ shown)) (next_answer start (earlier ++ shown) rest) put)
      → shown ≡ [] → put ≡ put_then start earlier → among.whole ≡ []
  nothing_put earlier shown rest put among none is =
      let same : put_then start (earlier ++ shown) ≡ put_then start earlier =
      ap (λ (asks : List Ask). put_then start (earlier ++ asks)) none ∙ ap (put_then start) (append-nil earlier) in
      let bytes = put_then start (earlier ++ shown) in
      no_answer start (earlier ++ shown) rest among.whole among.rest among.parted
      (omega (
        arith,
        ap (λ (l : List ℕ). length l) (sym among.put_is ∙ is),
        ap (λ (l : List ℕ). length l) same,
        length-append (bytes ++ concat among.whole) among.torn,
        length-append bytes (concat among.whole),
      ))

  serving_says : (at : Moment) (serving : IsServing start at)
      → Says at (serving.earlier ++ serving.shown) serving.rest (told_by start (Serving serving))
  serving_says at serving =
      let answered = serving.earlier ++ serving.shown in
      let n = length serving.put.whole in
      let told = told_then start answered ++ take n (next_told start answered serving.rest) in
      let others = after_next answered serving.rest n in
      let all : told_then start (answered ++ serving.rest) ≡ told ++ others =
      told_more answered serving.rest
      ∙ ap (λ (l : List Telling). told_then start answered ++ l) (parted_told answered serving.rest n)
      ∙ sym (append_assoc (told_then start answered) (take n (next_told start answered serving.rest)) others) in
      record {
        sent = serving.sent;
        image = ⊎_elim (λ every. inr every)
            (λ none. inl (subst (StandsFor at.image start.text) (same_grants none.0) none.2)) serving.image;
        few = omega (arith, serving.few, length-append serving.shown serving.rest);
        others = others;
        all = all;
        lines = ⊎_elim
            (λ every. inr (subst (StandsFor at.image start.text) (then_lines (answered ++ serving.rest) ∙ ap Granted all) every))
            (λ none. inl (subst (StandsFor at.image start.text)
            (same_grants none.0 ∙ then_lines answered ∙ ap Granted (sym (append-nil (told_then start answered))
            ∙ ap (λ (l : Lines). told_then start answered ++ take (length l) (next_told start answered serving.rest))
            (sym (nothing_put serving.earlier serving.shown serving.rest at.put serving.put none.0 none.1)))) none.2))
            serving.image;
      }
    where
      same_grants : serving.shown ≡ [] → Then serving.earlier ≡ Then (serving.earlier ++ serving.shown)
      same_grants none =
          ap Then (sym (append-nil serving.earlier)) ∙ ap (λ (asks : List Ask). Then (serving.earlier ++ asks)) (sym none)

  says : (at : Moment) (live : IsLive start at) → Says at (answered_by live) (unanswered_by live) (told_by start live)
  says at (Ready given room put image) =
      whole_asks at [] [] ([], [], given ∙ sym (append-nil start.given), refl, room) (inl image) (omega arith)
  says at (Serving serving) = serving_says at serving
  says at (Halting halting) =
      let answered = halting.earlier ++ halting.before in
      let unanswered : List Ask = halting.next ∷ halting.rest in
      let none : Then halting.earlier ≡ Then answered =
      sym (append-nil (Then halting.earlier)) ∙ ap (λ (gs : List Grant). Then halting.earlier ++ gs) (sym halting.none)
      ∙ sym (more_after halting.earlier halting.before) in
      whole_asks at answered unanswered halting.sent
      (⊎_elim (λ before. inl (subst (StandsFor at.image start.text) none before))
      (λ after. inr (subst (StandsFor at.image start.text)
      (sym (more_after halting.earlier (halting.before ++ unanswered))
      ∙ ap Then (sym (append_assoc halting.earlier halting.before unanswered))) after)) halting.image)
      (omega (arith, halting.few, length-append halting.before unanswered))
  says at (Ending ending) =
      whole_asks at ending.asked [] (subst (λ (asks : List Ask). AreSent start asks at) (sym (append-nil ending.asked)) ending.sent)
      (inl ending.image) (omega arith)

  -- ---- the laws

  sent_first : (first then : List Ask) (at : Moment) → AreSent start (first ++ then) at → AreSent start first at
  sent_first first then at sent = (
    sent.0,
    then ++ sent.1,
    sent.2,
    sent.3 ∙ append_assoc first then sent.1,
    omega (
      arith,
      sent.4,
      ap (λ (gs : List Grant). length gs) (more_after first then),
      length-append (Then first) (since start.cell (talk_then start first) then),
    ),
  )

  pub acknowledged : Acknowledged start
  acknowledged at live =
      let said = says at live in
      let told = told_by start live in
      ⊎_elim (λ none. ([], subst (StandsFor at.image start.text) (sym (append-nil (Granted told))) none))
      (λ all. (grants_in said.others, subst (StandsFor at.image start.text) (granted_more told said.others) all)) said.lines

  pub one_group : OneGroup start
  one_group at live = (
    (says at live).few,
    λ next stands. ⊎_elim
        (λ none. inl (stands_for_one at.image start.text next (Then (answered_by live)) stands none))
        (λ all. inr (stands_for_one at.image start.text next (Then (answered_by live ++ unanswered_by live)) stands all))
        (says at live).image,
  )

  pub goes_on_after : GoesOn start
  goes_on_after at live next stands =
      let said = says at live in
      ⊎_elim
      (λ none. (
        answered_by live,
        sent_first (answered_by live) (unanswered_by live) at said.sent,
        stands_for_one at.image start.text next (Then (answered_by live)) stands none,
      ))
      (λ all. (
        answered_by live ++ unanswered_by live,
        said.sent,
        stands_for_one at.image start.text next (Then (answered_by live ++ unanswered_by live)) stands all,
      ))
      said.image

  -- of the lines that are not told at most one grants a step of the session
  few_others : (session : ℕ) (asks : List Ask) (told others : List Telling) → told_then start asks ≡ told ++ others
      → steps_of session asks ≤ told_times (is_last_of session) told + 1 → told_times (is_told_granted session) others ≤ 1
  few_others session asks told others all few =
      omega (
        arith,
        few,
        turns-close start.cell session (opened start.opening) asks,
        ap (λ (l : List Telling). told_times (is_last_of session) l) all,
        times-append (is_last_of session) told others,
        granted-last session others,
      )

  pub exactly_once : ExactlyOnce start
  exactly_once at live session few next stands =
      let said = says at live in
      let told = told_by start live in
      let counted : count_of session (Granted told) ≡ told_to start session told = counted-lines session start.opening told in
      ⊎_elim
      (λ none. inl (ap (λ (count : ℕ). grants_line session count ∷ [])
      (ap (count_of session) (stands_for_one at.image start.text next (Granted told) stands none) ∙ counted)))
      (λ all.
      let count : count_of session next ≡ told_to start session told + told_times (is_told_granted session) said.others =
      omega (
        arith,
        ap (count_of session) (stands_for_one at.image start.text next (Granted (told ++ said.others)) stands all),
        counted-lines session start.opening (told ++ said.others),
        times-append (is_told_granted session) told said.others,
      ) in
      ⊎_elim (λ same. inl (ap (λ (n : ℕ). grants_line session n ∷ []) same)) (λ one. inr (ap (λ (n : ℕ). grants_line session n ∷ []) one))
      (zero_or_one (told_times (is_told_granted session) said.others) (told_to start session told) (count_of session next)
      (few_others session (answered_by live ++ unanswered_by live) told said.others said.all few) count))
      said.lines
