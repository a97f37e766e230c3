-- The next grant is refused, or the durable cell grants it, or its writing fails.
use Rattle.std.specs.Prelude.{None}
use Rattle.std.proofs.Common.{◌≡◌, ◌<◌, length, sym, ◌∙◌, ap, subst, arith}
use Rattle.cell_base.specs.declared.requests.Reply.TheVariants.{Granted}
use Rattle.cell_base.specs.Outcomes.{reply_to}
use Rattle.admission_core.specs.CoreState.{CoreState}
use Rattle.durable_cell.specs.Asked.{halted_at}
use Rattle.durable_cell.specs.DurableState.{parts}
use Rattle.standby_link.specs.Followers.{FollowerState, HasNotHalted}
use Rattle.standby_link.proofs.Keeping.{appends_asked, halts_asked, within}
use Rattle.standby_link.proofs.Taking.{failed, granted}
use Rattle.standby_link.proofs.follower.Follower.append.Goals as goal

pub invariant_of-self : goal.invariant_of-self
invariant_of-self g c =
    let i = c.self.inside in let grant = c.args.grant.now in
    let goes_on : halted_at i.durable.history ≡ None = subst (λ (f : FollowerState _). HasNotHalted f) (sym c.self.view_is) c.requires in
    let room : length i.durable.history < i.room = omega (arith, c.len-at.ensures, c.if-at-self.false) in
    let right : reply_to i.durable.cell (parts i.durable) grant.request ≡ Granted =
    ap (λ (k : CoreState). reply_to k.cell k.parts grant.request) (sym c.core-core.ensures.core) ∙ sym c.in-Granted.ensures.reply in
    appends_asked i.durable c.ask.new.self grant i.grants i.room i.halted c.self.invariant goes_on room c.push.new.self
    (granted i.durable c.ask.new.self grant.shift grant.session grant.request c.in-Ok.field-0 c.in-Ok.ensures.answer right)
    c.push.ensures.items c.push.ensures.spare

pub invariant_of-self-in-Err : goal.invariant_of-self-in-Err
invariant_of-self-in-Err g c =
    let i = c.self.inside in let grant = c.args.grant.now in
    let goes_on : halted_at i.durable.history ≡ None = subst (λ (f : FollowerState _). HasNotHalted f) (sym c.self.view_is) c.requires in
    let room : length i.durable.history < i.room = omega (arith, c.len-at.ensures, c.if-at-self.false) in
    halts_asked i.durable c.ask.new.self grant i.grants i.room i.halted c.self.invariant goes_on room c.len-at.result
    (failed i.durable c.ask.new.self grant.shift grant.session grant.request g.D.Disk.faults c.in-Err.field-0 goes_on
    (within i.durable c.ask.new.self grant i.grants i.room i.halted c.self.invariant goes_on room) c.in-Err.ensures.answer
    c.in-Err.ensures.cause).0 c.len-at.ensures
