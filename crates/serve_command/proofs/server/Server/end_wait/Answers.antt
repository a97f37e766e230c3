-- A grant is pending, counted and noted, and a refusal leaves the state.
use Rattle.std.proofs.Common.{ap, refl, subst, sym, ◌∙◌}
use Rattle.admission_core.specs.CoreState.{CoreState}
use Rattle.cell_base.specs.declared.cells.Cell.{Cell}
use Rattle.cell_base.specs.declared.requests.Told.TheVariants.{Answered}
use Rattle.live_cell.specs.LiveState.{LiveState}
use Rattle.record_text.specs.Fitting.{ToldFits}
use Rattle.serve_command.specs.Answers.{ended_line}
use Rattle.serve_command.specs.declared.server.Server.{Server}
use Rattle.serve_command.proofs.Answering.{answered_fits}
use Rattle.serve_command.proofs.Scanning.{dropped_waiters, ends_dropped, ends_granted, granted_waiters}
use Rattle.serve_command.proofs.server.Server.end_wait.Goals as goal

pub end_line-line-requires-clause-known : goal.end_line-line-requires-clause-known
end_line-line-requires-clause-known g c =
    let old = c.args.self.now.live in
    let waiter = c.args.waiter.now in
    let cell_is = c.cell.ensures.cell ∙ ap (λ (s : CoreState). s.cell) c.core.ensures.core
    ∙ ap (λ (l : LiveState _). l.cell) c.in-Ok.ensures.state in
    subst (λ (cell : Cell). ToldFits cell (Answered c.in-Ok.reply)) (sym cell_is)
    (answered_fits old.cell c.live_law.ensures.fits old.parts c.live_law.ensures.admitted waiter.session waiter.request
    c.requires.request c.in-Ok.reply c.in-Ok.ensures.reply).told

pub returns-in-Granted-clause-ended : goal.returns-in-Granted-clause-ended
returns-in-Granted-clause-ended g c =
    let old = c.args.self.now in
    let waiter = c.args.waiter.now in
    let cell_is = c.cell.ensures.cell ∙ ap (λ (s : CoreState). s.cell) c.core.ensures.core
    ∙ ap (λ (l : LiveState _). l.cell) c.in-Ok.ensures.state in
    let new : Server _ = record old {
      live = c.ask.new.self;
      counts = c.add.new.self;
      queue = c.note.new.self;
      replies = c.push.new.self;
    } in
    ends_granted old new waiter c.in-Ok.reply c.end_line-line.result c.requires.spare c.in-Ok.ensures.reply c.in-Ok.ensures.state
    c.note.ensures.waiters
    (c.end_line-line.ensures
    ∙ ap (λ (cell : Cell). ended_line cell (record { session = waiter.session; request = waiter.request; told = Answered c.in-Ok.reply }))
    cell_is)
    c.push.ensures refl refl c.requires.request c.in-Granted.is c.requires.fits c.add.ensures

pub returns-in-Granted-clause-waiters : goal.returns-in-Granted-clause-waiters
returns-in-Granted-clause-waiters g c =
    let old = c.args.self.now in
    let waiter = c.args.waiter.now in
    let cell_is = c.cell.ensures.cell ∙ ap (λ (s : CoreState). s.cell) c.core.ensures.core
    ∙ ap (λ (l : LiveState _). l.cell) c.in-Ok.ensures.state in
    let new : Server _ = record old {
      live = c.ask.new.self;
      counts = c.add.new.self;
      queue = c.note.new.self;
      replies = c.push.new.self;
    } in
    granted_waiters old new waiter c.in-Ok.reply c.end_line-line.result c.requires.spare c.in-Ok.ensures.reply c.in-Ok.ensures.state
    c.note.ensures.waiters
    (c.end_line-line.ensures
    ∙ ap (λ (cell : Cell). ended_line cell (record { session = waiter.session; request = waiter.request; told = Answered c.in-Ok.reply }))
    cell_is)
    c.push.ensures refl refl c.requires.request c.in-Granted.is c.live_law.ensures.fits c.live_law.ensures.admitted c.requires.waiters
    c.note.ensures.watching c.note.ensures.room

pub returns-in_default-reply-clause-ended : goal.returns-in_default-reply-clause-ended
returns-in_default-reply-clause-ended g c =
    let old = c.args.self.now in
    let waiter = c.args.waiter.now in
    let cell_is = c.cell.ensures.cell ∙ ap (λ (s : CoreState). s.cell) c.core.ensures.core
    ∙ ap (λ (l : LiveState _). l.cell) c.in-Ok.ensures.state in
    let new : Server _ = record old { live = c.ask.new.self; replies = c.push.new.self } in
    ends_dropped old new waiter c.in-Ok.reply c.end_line-line.result c.requires.spare c.in-Ok.ensures.reply c.in-Ok.ensures.state refl
    (c.end_line-line.ensures
    ∙ ap (λ (cell : Cell). ended_line cell (record { session = waiter.session; request = waiter.request; told = Answered c.in-Ok.reply }))
    cell_is)
    c.push.ensures refl refl c.requires.request c.in_default-reply.field-0 c.in_default-reply.is refl

pub returns-in_default-reply-clause-waiters : goal.returns-in_default-reply-clause-waiters
returns-in_default-reply-clause-waiters g c =
    let old = c.args.self.now in
    let waiter = c.args.waiter.now in
    let cell_is = c.cell.ensures.cell ∙ ap (λ (s : CoreState). s.cell) c.core.ensures.core
    ∙ ap (λ (l : LiveState _). l.cell) c.in-Ok.ensures.state in
    let new : Server _ = record old { live = c.ask.new.self; replies = c.push.new.self } in
    dropped_waiters old new waiter c.in-Ok.reply c.end_line-line.result c.requires.spare c.in-Ok.ensures.reply c.in-Ok.ensures.state refl
    (c.end_line-line.ensures
    ∙ ap (λ (cell : Cell). ended_line cell (record { session = waiter.session; request = waiter.request; told = Answered c.in-Ok.reply }))
    cell_is)
    c.push.ensures refl refl c.requires.request c.in_default-reply.field-0 c.in_default-reply.is c.requires.waiters refl
