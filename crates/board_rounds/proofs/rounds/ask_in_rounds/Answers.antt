-- The rounds begin with no entry, and end after one that leaves the board.
use Rattle.std.proofs.Common.{suc, refl, arith}
use Rattle.std.proofs.lemmas.Bool.{OnTrue_at}
use Rattle.board_rounds.proofs.Going.{few_asks}
use Rattle.board_rounds.proofs.Rounding.{next_round, over_at, ready_at_start}
use Rattle.board_rounds.proofs.rounds.ask_in_rounds.Goals as goal

pub rounds-init : goal.rounds-init
rounds-init c = (
  ready_at_start c.args.shift.now c.args.board.now c.begin_at-progress.result c.begin_at-progress.ensures c.requires.shift
      c.requires.sessions c.requires.new c.requires.room,
  (0, omega arith, record { is = refl; spare = refl }),
)

pub returns-then-not-play_round-clause-run : goal.returns-then-not-play_round-clause-run
returns-then-not-play_round-clause-run c =
    over_at c.args.shift.now c.args.board.now c.rounds.board c.play_round.new.board c.rounds.progress c.rounds.invariant.0
    c.rounds.invariant.1.0 c.rounds.invariant.1.1 c.requires.new c.rounds.invariant.1.2 c.play_round.ensures.round
    c.if-not-play_round.ensures.over.1

pub rounds-smaller : goal.rounds-smaller
rounds-smaller c =
    let more = OnTrue_at c.if-not-play_round.false c.play_round.ensures.asked in
    omega (arith, more, few_asks c.args.shift.now c.play_round.new.board.on c.play_round.ensures.ready.going)

pub rounds-preserved : goal.rounds-preserved
rounds-preserved c =
    let more = OnTrue_at c.if-not-play_round.false c.play_round.ensures.asked in (
      c.play_round.ensures.ready,
      (
        suc c.rounds.invariant.1.0,
        omega (arith, more, c.rounds.invariant.1.1),
        next_round c.args.shift.now c.args.board.now c.rounds.board c.play_round.new.board c.rounds.invariant.1.0 c.rounds.invariant.1.2
            c.play_round.ensures.round,
      ),
    )
