-- Where nothing is refused and nothing outside fails, a conversation ends with its input or with a full journal.
use Rattle.std.proofs.Common.{◌≡◌, inl, inr, ⊎_elim, ℕ, ◌<◌, ◌≤◌, List, [], ◌∷◌, ◌++◌, length, All, sym, ap, ◌∙◌, subst, arith}
use Rattle.std.proofs.Common.{append-nil}
use Rattle.std.proofs.lemmas.List.{length-append}
use Rattle.std.proofs.lemmas.List.Elements.{All-head}
use Rattle.outside_io.specs.Causes.{Rose}
use Rattle.outside_io.specs.Puts.{SinkTold, TookAll}
use Rattle.outside_io.specs.Source.{SourceTold}
use Rattle.cell_base.specs.declared.cells.Cell.{Cell}
use Rattle.cell_base.specs.declared.shifts.Grant.{Grant}
use Rattle.cell_walks.specs.Observed.{Observed}
use Rattle.cell_walks.specs.Outcomes.{Outcome}
use Rattle.cell_walks.specs.Promises.{IsAnswered, Promises}
use Rattle.cell_walks.specs.Statuses.{status_number}
use Rattle.cell_walks.specs.declared.status.Status.{Status}
use Rattle.cell_walks.specs.declared.status.Status.TheVariants.{SinkFault}
use Rattle.serve_command.specs.Asks.{asks_in}
use Rattle.serve_command.specs.Serve.{EndsServing, FailedDevice, FailedSink, FullJournal, InputEnded, InputLost, IsServed, Stopped}
use Rattle.serve_command.specs.Serve.{answered_lines, last_lines, serve}
use Rattle.serve_command.specs.ServesAll.{AllAnswered, IsServedWhole, IsWhole, ServesAll, UpToFull}
use Rattle.serve_command.specs.Talks.{Talk, added_by, opened, since, talk_after, talk_after_one}
use Rattle.serve_command.specs.declared.asks.Ask.{Ask}
use Rattle.serve_command.proofs.Grouping.{granted-after}

-- what holds by itself of each of some holds
of_some : {X : Type 0} (P : Type 0) (xs : List X) → 0 < length xs → All (λ (x : X). P) xs → P
of_some P [] some all = absurd (omega (arith, some))
of_some P (x ∷ xs) some all = All-head (λ y. P) x xs all

-- the grants that are added by an ask and by more asks after it are some
some_since : (cell : Cell) (talk : Talk) (next : Ask) (group : List Ask) → 0 < length (added_by cell talk next)
    → 0 < length (since cell talk (next ∷ group))
some_since cell talk next group some =
    omega (
      arith,
      some,
      length-append (added_by cell talk next) (since cell (talk_after_one cell talk next) group),
    )

module _ (cell : Cell) (opening : List Grant) (input : SourceTold) (sink : SinkTold) (number : ℕ) (status : Status)
    (number_is : number ≡ status_number status) (outcome : Outcome) (status_is : status ≡ outcome.status)
    (took : TookAll sink outcome.pieces) (takes : status ≡ SinkFault → ⊥) (reads : Rose input.faults input.faults_after → ⊥)
    (serves : 0 < length outcome.unsure → ⊥) (served : IsServed cell opening input outcome) where
  asked : List Ask
  asked = served.asked

  ended : EndsServing cell (talk_after cell (opened opening) served.asked) input (answered_lines cell opening served.asked)
      (since cell (opened opening) served.asked) served.others outcome → IsWhole cell opening input sink served.text number
  ended (InputEnded none at_end drains is) =
      let all : asks_in cell served.text ≡ served.asked =
      served.split ∙ ap (λ (later : List Ask). served.asked ++ later) none ∙ append-nil served.asked in
      AllAnswered (number_is ∙ ap status_number (status_is ∙ ap (λ (o : Outcome). o.status) is)) at_end
      (subst (λ (asks : List Ask). let talk = talk_after cell (opened opening) asks in (length talk.granted ≤ 1572864)
      × TookAll sink (answered_lines cell opening asks ++ last_lines cell talk)) (sym all) (
        omega (
          arith,
          served.room,
          ap (λ (gs : List Grant). length gs) (granted-after cell (opened opening) served.asked),
          length-append opening (since cell (opened opening) served.asked),
          ap (λ (o : Outcome). length o.added) is,
        ),
        subst (TookAll sink) (ap (λ (o : Outcome). o.pieces) is) took,
      ))
  ended (InputLost none rose is) = absurd (reads rose)
  ended (Stopped (FullJournal next rest others full is)) =
      UpToFull (number_is ∙ ap status_number (status_is ∙ ap (λ (o : Outcome). o.status) is)) served.asked next rest
      (served.split ∙ ap (λ (later : List Ask). served.asked ++ later) others) full
      (subst (TookAll sink) (ap (λ (o : Outcome). o.pieces) is) took)
  ended (Stopped (FailedDevice next group rest others few some is)) =
      absurd (serves (subst (λ (o : Outcome). 0 < length o.unsure) (sym is)
      (some_since cell (talk_after cell (opened opening) served.asked) next group some)))
  ended (Stopped (FailedSink is)) = absurd (takes (status_is ∙ ap (λ (o : Outcome). o.status) is))

  pub is_whole : IsWhole cell opening input sink served.text number
  is_whole = ended served.ends

-- what every walk promises says it
pub serves_all : (seen : Observed) (sink : SinkTold) (cell : List ℕ) (status : Status) → Promises seen sink (serve cell) status
    → (number : ℕ) → number ≡ status_number status → ServesAll seen sink cell number
serves_all seen sink cell status promised number number_is accepts reads serves takes still =
    ⊎_elim
    (λ so. inl (answers_so so.0 so.1 so.2))
    (λ starved. inr (number_is ∙ ap status_number starved))
    (promised.complete accepts reads serves takes)
  where
    answers_so : status ≡ promised.outcome.status → TookAll sink promised.outcome.pieces → IsAnswered seen (serve cell) promised.outcome
        → IsServedWhole seen sink cell number
    answers_so status_is took (held, shows, (opening, opened, (served, left))) = record {
      held = held;
      read = shows;
      opening = opening;
      opened = opened;
      text = served.text;
      came = served.came;
      whole = is_whole held.cell opening seen.input sink number status number_is promised.outcome status_is took
          (λ eight. takes (promised.cut eight).cause) still
          (λ some. let rose = of_some (Rose seen.disk.faults seen.disk.faults_after) promised.outcome.unsure some left.cause in
          ⊎_elim (λ none. none held) (λ fine. fine rose) serves)
          served;
    }
