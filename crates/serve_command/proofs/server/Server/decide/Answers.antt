-- A grant is answered and settled, and a refusal leaves the server as it was.
use Rattle.std.proofs.Common.{◌≡◌, ap, subst, sym, ◌∙◌}
use Rattle.cell_base.specs.Outcomes.{reply_to}
use Rattle.cell_base.specs.declared.requests.Reply.TheVariants.{Granted, Refused}
use Rattle.live_cell.specs.LiveState.{LiveState}
use Rattle.serve_command.specs.Waits.{NotesGrant}
use Rattle.serve_command.specs.declared.server.Server.{Server}
use Rattle.serve_command.proofs.Answering.{answered_fits, asked_same, granted_goes, granted_said, mid_waiters}
use Rattle.serve_command.proofs.server.Server.decide.Goals as goal

pub settle-requires-clause-waiters : goal.settle-requires-clause-waiters
settle-requires-clause-waiters g c =
    let old = c.args.self.now in
    let session = c.args.asked.now.session in
    let request = c.args.asked.now.request in
    let arm = c.in-Ok-Granted in
    let granted : reply_to old.live.cell old.live.parts request ≡ Granted = sym arm.ensures.reply ∙ arm.field-0-is in
    let noted = subst (λ (s : Server _). NotesGrant s session request c.note_grant.new.self) arm.ensures.state c.note_grant.ensures in
    mid_waiters old c.note_grant.new.self session request c.requires.ready c.requires.asked.fits granted (arm.ensures.had_room arm.field-0-is) noted
    c.live_law.ensures.fits c.live_law.ensures.admitted

pub returns-in-Ok-Granted-clause-decided : goal.returns-in-Ok-Granted-clause-decided
returns-in-Ok-Granted-clause-decided g c =
    let old = c.args.self.now in
    let mid = c.note_grant.new.self in
    let session = c.args.asked.now.session in
    let request = c.args.asked.now.request in
    let arm = c.in-Ok-Granted in
    let granted : reply_to old.live.cell old.live.parts request ≡ Granted = sym arm.ensures.reply ∙ arm.field-0-is in
    let had_room = arm.ensures.had_room arm.field-0-is in
    let noted = subst (λ (s : Server _). NotesGrant s session request mid) arm.ensures.state c.note_grant.ensures in
    record {
      reply = granted;
      said = granted_said old mid session request c.requires.ready c.requires.asked.fits granted had_room noted c.settle.new.self
          c.settle.ensures.settled;
      goes_on = granted_goes old mid session request c.requires.ready c.requires.asked.fits granted had_room noted c.settle.new.self
          c.settle.ensures.settled;
      waiters = c.settle.ensures.waiters;
    }

pub returns-in-Ok-Refused-clause-decided : goal.returns-in-Ok-Refused-clause-decided
returns-in-Ok-Refused-clause-decided g c =
    let old = c.args.self.now in
    let session = c.args.asked.now.session in
    let request = c.args.asked.now.request in
    let arm = c.in-Ok-Refused in
    let refused : reply_to old.live.cell old.live.parts request ≡ Refused arm.why = cc (arm.ensures.reply, arm.field-0-is, arm.why-is) in
    record {
      reply = refused;
      fits = answered_fits old.live.cell c.live_law.ensures.fits old.live.parts c.live_law.ensures.admitted session request
          c.requires.asked.fits (Refused arm.why) (sym refused);
      same = arm.ensures.state
          ∙ ap (λ (l : LiveState _). record old { live = l }) (asked_same old.live session request arm.why refused);
    }
