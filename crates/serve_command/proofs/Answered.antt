-- Each line that is sent has one line that answers it; all others end waits, or are parts of lists.
use Rattle.std.proofs.Common.{◌≡◌, ℕ, codes, Bool, true, false, List, [], ◌∷◌, map, refl, arith}
use Rattle.cell_base.specs.declared.cells.Cell.{Cell}
use Rattle.cell_base.specs.declared.requests.Part.{Part}
use Rattle.cell_base.specs.declared.requests.Request.{Request}
use Rattle.cell_base.specs.declared.shifts.Entry.{Entry}
use Rattle.cell_base.specs.Histories.{replay}
use Rattle.serve_command.specs.Laws.{AnswersEach, is_answer, told_times}
use Rattle.serve_command.specs.Talks.{Ends, Said, Talk, parts_in_the_way, request_told, said_listed, said_to, scanned, talk_after_one, told_in_turn}
use Rattle.serve_command.specs.declared.asks.Ask.{Ask}
use Rattle.serve_command.specs.declared.asks.Ask.TheVariants.{Step, Wait, Cancel, Parts, Jobs}
use Rattle.serve_command.proofs.Listing.{times-listed}
use Rattle.serve_command.proofs.Saying.{cancel_case, request_case}
use Rattle.serve_command.proofs.Times.{times-append}

ends-none : (ends : List Entry) → told_times is_answer (map Ends ends) ≡ 0
ends-none [] = refl
ends-none (e ∷ ends) = ends-none ends

-- one line answers
abbrev AnswersOne : Said → Type 0
AnswersOne said = told_times is_answer said.told ≡ 1

module _ (cell : Cell) where
  request-answered : (talk : Talk) (session : ℕ) (request : Request) (may_wait : Bool)
      → AnswersOne (request_told cell talk session request may_wait)
  request-answered talk session request may_wait =
      request_case cell talk session request may_wait AnswersOne (record {
        granted = λ is. omega (arith, ends-none (scanned cell talk session request).told);
        refused = λ why is no. refl;
        waits = λ why is may new. refl;
        turned = λ why. refl;
      })

  list-answered : (talk : Talk) (ask : Ask) (word : List ℕ) (parts : List Part) → AnswersOne (said_listed talk ask word parts)
  list-answered talk ask word parts = omega (arith, times-listed is_answer (λ w part. refl) word parts)

  ask-answered : (talk : Talk) (ask : Ask) → AnswersOne (said_to cell talk ask)
  ask-answered talk (Step session request) = request-answered talk session request false
  ask-answered talk (Wait session request) = request-answered talk session request true
  ask-answered talk (Cancel session) = cancel_case talk session AnswersOne (λ w is. refl) refl
  ask-answered talk Parts = list-answered talk Parts (codes "part") (replay cell talk.granted)
  ask-answered talk (Jobs request) =
      list-answered talk (Jobs request) (codes "job") (parts_in_the_way cell (replay cell talk.granted) request)
  ask-answered talk _ = refl

  pub answers-each : AnswersEach cell
  answers-each talk [] = refl
  answers-each talk (ask ∷ asked) =
      let next = talk_after_one cell talk ask in
      omega (
        arith,
        ask-answered talk ask,
        answers-each next asked,
        times-append is_answer (said_to cell talk ask).told (told_in_turn cell next asked),
      )
