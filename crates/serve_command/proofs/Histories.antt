-- The grants, the history and the record of asks in turn.
use Rattle.std.specs.Prelude.{◌==◌, ◌&&◌}
use Rattle.std.proofs.Common.{◌≡◌, ℕ, codes, ◌+◌, Bool, true, false, cond, List, [], ◌∷◌, ◌++◌, length, map, All, refl, sym, ap, ◌∙◌, subst, arith, append-nil}
use Rattle.std.specs.List.{filter}
use Rattle.std.proofs.lemmas.List.{length-map}
use Rattle.std.proofs.lemmas.List.Elements.{All-head, All-tail}
use Rattle.cell_base.specs.declared.cells.Cell.{Cell}
use Rattle.cell_base.specs.declared.requests.Reply.{Reply}
use Rattle.cell_base.specs.declared.requests.Reply.TheVariants.{Granted, Refused}
use Rattle.cell_base.specs.declared.requests.Part.{Part}
use Rattle.cell_base.specs.declared.requests.Request.{Request}
use Rattle.cell_base.specs.declared.requests.Told.TheVariants.{Answered}
use Rattle.cell_base.specs.declared.shifts.Entry.{Entry}
use Rattle.cell_base.specs.declared.shifts.Grant.{Grant}
use Rattle.cell_base.specs.Histories.{granted_entries, grants, replay, was_granted}
use Rattle.cell_base.specs.Outcomes.{reply_to}
use Rattle.record_text.specs.Lines.{head_words, line_of}
use Rattle.record_printer.specs.Blocks.{entry_line}
use Rattle.wait_queue.specs.Waiting.{waiting}
use Rattle.serve_command.specs.Answers.{answers, count_of, line_number, reply_after, telling_line}
use Rattle.serve_command.specs.Laws.{EachOnce, IsAskedStep, IsBlock, IsServedHistory, history_of, is_told_granted, told_times}
use Rattle.serve_command.specs.Talks.{Cancels, Decides, Ends, Lists, Replies, Said, Talk, Telling, Turns, Waits, entries_in, entry_of}
use Rattle.serve_command.specs.Talks.{opened, reply_told, request_told, said, said_granted, said_to}
use Rattle.serve_command.specs.Talks.{parts_in_the_way, said_listed}
use Rattle.serve_command.specs.Talks.{scanned, session_grant, talk_after_one, told_in_turn}
use Rattle.serve_command.specs.declared.asks.Ask.{Ask}
use Rattle.serve_command.specs.declared.asks.Ask.TheVariants.{Step, Wait, Cancel, Parts, Jobs}
use Rattle.serve_command.proofs.Listing.{entries-listed}
use Rattle.serve_command.proofs.Saying.{cancel_case, request_case}
use Rattle.serve_command.proofs.Decided.{AreDecided, decided-append, decided-legal, within-serves}
use Rattle.serve_command.proofs.Settled.{entries-ends}
use Rattle.serve_command.proofs.Grouping.{granted-after}
use Rattle.serve_command.proofs.Telling.{entries-append, grants_in, since-lines}
use Rattle.serve_command.proofs.Times.{times, times-append, times-cons}

-- ---- each grant is counted once

-- the grant of an entry
abbrev grant_of : Entry → Grant
grant_of e = record { shift = 0; session = e.session; request = e.request }

-- the grant is the session's
abbrev is_own : ℕ → Grant → Bool
is_own session grant = (grant.shift == 0) && (grant.session == session)

-- the entry grants a step of the session
abbrev grants_to : ℕ → Entry → Bool
grants_to session e = was_granted e.told && (e.session == session)

count-own : (session : ℕ) (gs : List Grant) → count_of session gs ≡ times (is_own session) gs
count-own session gs = length-map (filter (is_own session) gs) (λ (grant : Grant). grant.request)

-- with one entry more
own-more : (session : ℕ) (e : Entry) (entries : List Entry)
    → times (is_own session) (grants 0 entries) ≡ times (grants_to session) entries → (b : Bool) → was_granted e.told ≡ b
    → times (is_own session) (map grant_of (cond b (e ∷ granted_entries entries) (granted_entries entries)))
    ≡ times (grants_to session) (e ∷ entries)
own-more session e entries same true is =
    let own : cond (grants_to session e) 1 0 ≡ cond (e.session == session) 1 0 =
    ap {B = ℕ} (λ (b : Bool). cond (b && (e.session == session)) 1 0) is in
    omega (
      arith,
      own,
      same,
      times-cons (is_own session) (grant_of e) (grants 0 entries),
      times-cons (grants_to session) e entries,
    )
own-more session e entries same false is =
    let own : cond (grants_to session e) 1 0 ≡ 0 = ap {B = ℕ} (λ (b : Bool). cond (b && (e.session == session)) 1 0) is in
    omega (arith, own, same, times-cons (grants_to session) e entries)

own-granted : (session : ℕ) (entries : List Entry) → times (is_own session) (grants 0 entries) ≡ times (grants_to session) entries
own-granted session [] = refl
own-granted session (e ∷ entries) = own-more session e entries (own-granted session entries) (was_granted e.told) refl

-- a line tells of a grant where its entry is one
told-granted : (session : ℕ) (told : List Telling)
    → told_times (is_told_granted session) told ≡ times (grants_to session) (entries_in told)
told-granted session [] = refl
told-granted session (Decides e ∷ told) =
    omega (
      arith,
      told-granted session told,
      times-cons (is_told_granted session) (Decides e) told,
      times-cons (grants_to session) e (entries_in told),
    )
told-granted session (Ends e ∷ told) =
    omega (
      arith,
      told-granted session told,
      times-cons (is_told_granted session) (Ends e) told,
      times-cons (grants_to session) e (entries_in told),
    )
told-granted session (Waits own request why ∷ told) = told-granted session told
told-granted session (Cancels own request ∷ told) = told-granted session told
told-granted session (Turns own request why ∷ told) = told-granted session told
told-granted session (Lists word part ∷ told) = told-granted session told
told-granted session (Replies words ∷ told) = told-granted session told

-- the grants of lines are counted, each once
pub counted-lines : (session : ℕ) (before : List Grant) (told : List Telling)
    → count_of session (before ++ grants_in told) ≡ count_of session before + told_times (is_told_granted session) told
counted-lines session before told =
    omega (
      arith,
      count-own session (before ++ grants_in told),
      count-own session before,
      times-append (is_own session) before (grants_in told),
      own-granted session (entries_in told),
      told-granted session told,
    )

module _ (cell : Cell) where
  pub each-once : EachOnce cell
  each-once talk session asked =
      ap (λ (gs : List Grant). count_of session (talk.granted ++ gs)) (since-lines cell talk asked)
      ∙ counted-lines session talk.granted (told_in_turn cell talk asked)

  -- ---- one history

  -- what an answer tells is decided in turn
  abbrev IsDecided : Talk → Said → Type 0
  IsDecided talk said = AreDecided cell talk.granted (entries_in said.told)

  granted-decided : (talk : Talk) (session : ℕ) (request : Request) → reply_to cell (replay cell talk.granted) request ≡ Granted
      → IsDecided talk (said_granted cell talk session request)
  granted-decided talk session request is =
      let now = talk.granted ++ session_grant session request ∷ [] in
      let on = waiting (replay cell now) talk.waiters [] in
      let ends : List Entry = (scanned cell talk session request).told in
      let serves = within-serves cell now (length talk.waiters) on (ap (replay cell) (sym (append-nil now))) in
      let decided : AreDecided cell now ends =
      subst (AreDecided cell now) (sym serves.1)
      (subst (λ (gs : List Grant). AreDecided cell gs serves.0) (append-nil now) serves.2) in
      (Granted, refl, is, subst (AreDecided cell now) (sym (entries-ends ends)) decided)

  request-decided : (talk : Talk) (session : ℕ) (request : Request) (may_wait : Bool)
      → IsDecided talk (request_told cell talk session request may_wait)
  request-decided talk session request may_wait =
      request_case cell talk session request may_wait (IsDecided talk) (record {
        granted = granted-decided talk session request;
        refused = λ why is no. (Refused why, refl, is, tt);
        waits = λ why is may new. (Refused why, refl, is, tt);
        turned = λ why. tt;
      })

  list-decided : (talk : Talk) (ask : Ask) (word : List ℕ) (parts : List Part) → IsDecided talk (said_listed talk ask word parts)
  list-decided talk ask word parts = subst (AreDecided cell talk.granted) (sym (entries-listed word parts)) tt

  ask-decided : (talk : Talk) (ask : Ask) → IsDecided talk (said_to cell talk ask)
  ask-decided talk (Step session request) = request-decided talk session request false
  ask-decided talk (Wait session request) = request-decided talk session request true
  ask-decided talk (Cancel session) = cancel_case talk session (IsDecided talk) (λ w is. tt) tt
  ask-decided talk Parts = list-decided talk Parts (codes "part") (replay cell talk.granted)
  ask-decided talk (Jobs request) =
      list-decided talk (Jobs request) (codes "job") (parts_in_the_way cell (replay cell talk.granted) request)
  ask-decided talk _ = tt

  turns-decided : (talk : Talk) (asked : List Ask) → AreDecided cell talk.granted (history_of cell talk asked)
  turns-decided talk [] = tt
  turns-decided talk (ask ∷ asked) =
      let now = (said_to cell talk ask).told in
      let later = told_in_turn cell (talk_after_one cell talk ask) asked in
      subst (AreDecided cell talk.granted) (sym (entries-append now later))
      (decided-append cell talk.granted (entries_in now) (entries_in later) (ask-decided talk ask)
      (turns-decided (talk_after_one cell talk ask) asked))

  pub one-history : (opening : List Grant) (asked : List Ask) → IsServedHistory cell opening asked
  one-history opening asked = record {
    legal = decided-legal cell opening (history_of cell (opened opening) asked) (turns-decided (opened opening) asked);
    granted = sym (granted-after cell (opened opening) asked
        ∙ ap (λ (gs : List Grant). opening ++ gs) (since-lines cell (opened opening) asked));
  }

  -- ---- a record

  -- nobody waits
  abbrev free_talk : List Grant → Talk
  free_talk granted = record { granted = granted; waiters = [] }

  one-step : (granted : List Grant) (session : ℕ) (request : Request)
      → said_to cell (free_talk granted) (Step session request)
      ≡ said (Decides (entry_of session request (Answered (reply_after cell granted request)))) []
  one-step granted session request = by_reply (reply_after cell granted request)
    where
      by_reply : (r : Reply)
          → reply_told cell (free_talk granted) session request false r ≡ said (Decides (entry_of session request (Answered r))) []
      by_reply Granted = refl
      by_reply (Refused why) = refl

  -- where steps are asked each line is that of its entry
  entry-lines : (granted : List Grant) (number : ℕ) (asked : List Ask) → All IsAskedStep asked
      → answers cell (free_talk granted) number asked ≡ map (entry_line cell) (history_of cell (free_talk granted) asked)
  entry-lines granted number [] steps = refl
  entry-lines granted number (Step session request ∷ asked) steps =
      let e = entry_of session request (Answered (reply_after cell granted request)) in
      let next : Said → Talk = λ (s : Said). record { granted = granted ++ grants 0 (entries_in s.told); waiters = s.waiters } in
      ap (λ (s : Said). map (telling_line cell granted (line_number number)) s.told ++ answers cell (next s) (number + 1) asked)
      (one-step granted session request)
      ∙ ap (λ (ls : List (List ℕ)). entry_line cell e ∷ ls)
      (entry-lines (granted ++ grants 0 (e ∷ [])) (number + 1) asked (All-tail IsAskedStep (Step session request) asked steps))
      ∙ sym (ap (λ (s : Said). map (entry_line cell) (entries_in (s.told ++ told_in_turn cell (next s) asked)))
      (one-step granted session request))
  entry-lines granted number (ask ∷ asked) steps = absurd (All-head IsAskedStep ask asked steps)

  pub is-block : (opening : List Grant) (asked : List Ask) → IsBlock cell opening asked
  is-block opening asked steps =
      ap (λ (ls : List (List ℕ)). line_of (head_words 0 (length opening)) ∷ ls) (entry-lines opening 1 asked steps)
