-- One session more has had its turn, and at the end the round is over.
use Rattle.std.proofs.Common.{ℕ, List, ◌<◌, ◌+◌, ◌∙◌, sym, arith}
use Rattle.std.proofs.lemmas.Bool.{true≢false, OnTrue_at, OnTrue_from, OnFalse_at, OnFalse_from}
use Rattle.cell_base.specs.Scripts.{Progress}
use Rattle.solo_rounds.specs.Underway.{HaveEnded, asks_left}
use Rattle.solo_rounds.proofs.Turns.{HaveEnded-more, OnFalse-map}
use Rattle.hybrid_rounds.proofs.Turning.{turn_over}
use Rattle.hybrid_rounds.proofs.rounds.play_round.Goals as goal
use Rattle.hybrid_rounds.proofs.rounds.play_round.Goals.{then-take_turn, else-take_turn}

pub loop-k-preserved : goal.loop-k-preserved
loop-k-preserved c =
    let known = c.loop-k.invariant in
    let went = c.take_turn.ensures in
    let shift = c.args.shift.now in
    let progress = c.take_turn.new.progress in
    let left : List Progress → ℕ = asks_left shift.patience shift.scripts in
    elim c.if-take_turn.branch [
      | then-take_turn w ↦ (let fewer = OnTrue_at w.if-take_turn.true went.asked in
          let less : left progress < left c.args.progress.now = omega (arith, fewer, known.3) in (
            went.cell ∙ known.0,
            went.ready,
            (λ start turn begun. (rw known.0 at (went.underway start turn)) (known.2 start turn begun)),
            omega (arith, less),
            OnTrue_from c.if-take_turn.asked (left progress < left c.args.progress.now) (λ asked. less),
            OnFalse_from c.if-take_turn.asked (HaveEnded shift progress (c.loop-k.k + 1))
                (λ none. absurd (true≢false (sym w.if-take_turn.true ∙ (sym w.asked-is ∙ none)))),
          ))
      | else-take_turn w ↦ (let passed = OnFalse_at w.if-take_turn.false went.passed in (
        went.cell ∙ known.0,
        went.ready,
        (λ start turn begun. (rw known.0 at (went.underway start turn)) (known.2 start turn begun)),
        rw passed.1 known.3,
        rw (w.asked-is, passed.1) known.4,
        rw w.asked-is
            (OnFalse-map c.loop-k.asked _ _
            (λ before. HaveEnded-more shift c.loop-k.progress progress c.loop-k.k passed.1 before passed.0) known.5),
      ))
    ]

pub returns-clause-underway : goal.returns-clause-underway
returns-clause-underway c start turn begun =
    turn_over c.args.shift.now c.args.hybrid.now.cell start c.loop-k.hybrid.parts c.loop-k.history.items c.loop-k.progress turn
    c.loop-k.k (c.loop-k.invariant.2 start turn begun) (omega arith)
