-- Rounds begin with no entry, and the round in which none asks is the last.
use Rattle.std.proofs.Common.{◌+◌, ◌∙◌, refl, ap₂, List}
use Rattle.cell_base.specs.declared.cells.Cell.{Cell}
use Rattle.cell_base.specs.declared.requests.Part.{Part}
use Rattle.banker_check.specs.HybridState.{HybridState}
use Rattle.solo_rounds.proofs.Counting.{ready_at_start}
use Rattle.hybrid_rounds.proofs.Turning.{begin, finish}
use Rattle.hybrid_rounds.proofs.rounds.ask_in_rounds.Goals as goal

pub rounds-init : goal.rounds-init
rounds-init c = (
  refl,
  ready_at_start c.args.hybrid.now.cell c.args.shift.now c.args.history.now.spare c.begin_at-progress.result c.begin_at-progress.ensures
      c.requires.shift c.requires.room,
  (
    0,
    rw c.requires.empty
        (begin c.args.shift.now c.args.hybrid.now.cell c.args.hybrid.now.parts c.begin_at-progress.result c.begin_at-progress.ensures),
  ),
)

pub returns-then-not-play_round-clause-rounds : goal.returns-then-not-play_round-clause-rounds
returns-then-not-play_round-clause-rounds c =
    let known = c.rounds.invariant in
    let later = (rw known.0 at (c.play_round.ensures.underway c.args.hybrid.now.parts known.2.0)) known.2.1 in
    finish c.args.shift.now c.args.hybrid.now.cell c.args.hybrid.now.parts c.play_round.new.hybrid.parts c.play_round.new.history.items
    c.play_round.new.progress (known.2.0 + 1) 0 later c.if-not-play_round.ensures.ended

pub returns-then-not-play_round-clause-state : goal.returns-then-not-play_round-clause-state
returns-then-not-play_round-clause-state c =
    let known = c.rounds.invariant in
    let later = (rw known.0 at (c.play_round.ensures.underway c.args.hybrid.now.parts known.2.0)) known.2.1 in
    ap₂ (λ (cell : Cell) (parts : List Part). (let state : HybridState =
    record { cell = cell; parts = parts } in state)) (c.play_round.ensures.cell ∙ known.0) later.state

pub rounds-preserved : goal.rounds-preserved
rounds-preserved c =
    let known = c.rounds.invariant in
    let later = (rw known.0 at (c.play_round.ensures.underway c.args.hybrid.now.parts known.2.0)) known.2.1 in
    (c.play_round.ensures.cell ∙ known.0, c.play_round.ensures.ready, (known.2.0 + 1, later))

pub returns-then-not-play_round-clause-requests : goal.returns-then-not-play_round-clause-requests
returns-then-not-play_round-clause-requests c =
    let known = c.rounds.invariant in
    let later = (rw known.0 at (c.play_round.ensures.underway c.args.hybrid.now.parts known.2.0)) known.2.1 in
    later.requests
