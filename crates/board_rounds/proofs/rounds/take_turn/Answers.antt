-- The session has a present step, and asks it.
use Rattle.std.proofs.Common.{◌≡◌, ℕ, List, ◌+◌, ◌<◌, ◌^◌, length, take, All, ap, subst, sym, ◌∙◌, arith}
use Rattle.cell_base.specs.declared.limits.TheConstants.{MAX_SESSIONS}
use Rattle.cell_base.specs.Fits.{IsWithin}
use Rattle.wait_board.specs.declared.entries.BoardEntry.{BoardEntry}
use Rattle.wait_board.specs.Boards.{asks_of, board}
use Rattle.wait_board.specs.BoardState.{BoardState}
use Rattle.board_rounds.specs.Underway.{Stands}
use Rattle.board_rounds.proofs.Rounding.{are_within, has_room, is_short, longer, one_ask, ready_after, stands_before}
use Rattle.board_rounds.proofs.rounds.take_turn.Goals as goal

pub ask-requires-clause-room : goal.ask-requires-clause-room
ask-requires-clause-room c =
    has_room c.args.shift.now c.args.board.now c.args.progress.now c.requires.ready (c.args.k + 1) c.in-Some.request
    (omega arith, omega (arith, c.requires.session)) (sym c.step_of.ensures ∙ c.in-Some.is)

pub go_on-requires-clause-begun : goal.go_on-requires-clause-begun
go_on-requires-clause-begun c =
    let on = ap (λ (b : BoardState). length b.on.history) c.ask.ensures.asked.on in
    let longer_on = longer c.args.shift.now c.args.board.now c.args.progress.now c.requires.ready (c.args.k + 1) c.in-Some.request
    (omega arith, omega (arith, c.requires.session)) (sym c.step_of.ensures ∙ c.in-Some.is) in
    omega (arith, on, longer_on, ap length c.history-before.ensures.history, ap length c.history.ensures.history)

pub go_on-requires-clause-short : goal.go_on-requires-clause-short
go_on-requires-clause-short c =
    let is : c.history.result.now ≡ _ = c.history.ensures.history ∙ ap (λ (b : BoardState). b.on.history) c.ask.ensures.asked.on in
    subst (λ (es : List BoardEntry). length es < 2 ^ 32) (sym is)
    (is_short c.args.shift.now c.args.board.now c.args.progress.now c.requires.ready (c.args.k + 1) c.in-Some.request
    (omega arith, omega (arith, c.requires.session)) (sym c.step_of.ensures ∙ c.in-Some.is))

pub go_on-requires-clause-sessions : goal.go_on-requires-clause-sessions
go_on-requires-clause-sessions c =
    let is : c.history.result.now ≡ _ = c.history.ensures.history ∙ ap (λ (b : BoardState). b.on.history) c.ask.ensures.asked.on in
    subst (λ (es : List BoardEntry). All (λ (e : BoardEntry). IsWithin 1 MAX_SESSIONS e.session) es) (sym is)
    (are_within c.args.shift.now c.args.board.now c.args.progress.now c.requires.ready (c.args.k + 1) c.in-Some.request
    (omega arith, omega (arith, c.requires.session)) (sym c.step_of.ensures ∙ c.in-Some.is))

pub go_on-requires-clause-stands : goal.go_on-requires-clause-stands
go_on-requires-clause-stands c =
    let is : c.history.result.now ≡ _ = c.history.ensures.history ∙ ap (λ (b : BoardState). b.on.history) c.ask.ensures.asked.on in
    let before : length c.args.board.now.on.history ≡ length c.history-before.result.now =
    ap length (sym c.history-before.ensures.history) in
    subst (λ (es : List BoardEntry). Stands c.args.progress.now (take (length c.history-before.result.now) es)) (sym is)
    (subst (λ (n : ℕ). Stands c.args.progress.now
    (take n (board c.args.board.now.cell c.args.board.now.on (c.args.k + 1) c.in-Some.request).history)) before
    (stands_before c.args.shift.now c.args.board.now c.args.progress.now c.requires.ready (c.args.k + 1) c.in-Some.request
    (omega arith, omega (arith, c.requires.session)) (sym c.step_of.ensures ∙ c.in-Some.is)))

pub returns-in-Some-clause-ready : goal.returns-in-Some-clause-ready
returns-in-Some-clause-ready c =
    ready_after c.args.shift.now c.args.board.now c.args.progress.now c.requires.ready (c.args.k + 1) c.in-Some.request
    (omega arith, omega (arith, c.requires.session)) (sym c.step_of.ensures ∙ c.in-Some.is) c.go_on.new.progress c.ask.new.self
    c.ask.ensures.asked.on c.ask.ensures.asked.spare
    (subst (Stands c.go_on.new.progress) c.history.ensures.history c.go_on.ensures.stands)

pub returns-in-Some-clause-asked : goal.returns-in-Some-clause-asked
returns-in-Some-clause-asked c =
    let on = ap (λ (b : BoardState). length (asks_of b.on.history)) c.ask.ensures.asked.on in
    let one = one_ask c.args.shift.now c.args.board.now c.args.progress.now c.requires.ready (c.args.k + 1) c.in-Some.request
    (omega arith, omega (arith, c.requires.session)) (sym c.step_of.ensures ∙ c.in-Some.is) in
    omega (arith, on, one)
