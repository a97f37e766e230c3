-- The grant is kept, or it is none of the first grants of the number.
use Rattle.std.proofs.Common.{sym, ◌∙◌, arith}
use Rattle.cell_sessions.proofs.FirstOwn.{kept_full, kept_more, kept_other}
use Rattle.cell_sessions.proofs.beginning.ShiftGrantsGrantVisitor.visit.Goals.{else-grant-self-via-then-grant-self+else-len-le-MAX_STEPS}
use Rattle.cell_sessions.proofs.beginning.ShiftGrantsGrantVisitor.visit.Goals.{else-grant-self-via-else-grant-self}
use Rattle.cell_sessions.proofs.beginning.ShiftGrantsGrantVisitor.visit.Goals as goal

pub returns-in_ok-try_push : goal.returns-in_ok-try_push
returns-in_ok-try_push c start first grants gate_is visited none =
    let so = visited none in (
      so.0,
      c.in_ok-try_push.ensures.ok
          ∙ kept_more start.number grants c.args.self.now.grants c.args.grant so.1 (c.if-grant-self.true ∙ so.0)
          (omega (arith, c.len.ensures, c.if-len-le-MAX_STEPS.true)),
    )

pub returns-else-grant-self : goal.returns-else-grant-self
returns-else-grant-self c start first grants gate_is visited none =
    let so = visited none in (
      so.0,
      elim c.else-grant-self.branch [
        | else-grant-self-via-then-grant-self+else-len-le-MAX_STEPS w ↦
            kept_full start.number grants c.args.self.now.grants c.args.grant so.1 (w.if-grant-self.true ∙ so.0)
            (omega (arith, w.len.ensures, w.if-len-le-MAX_STEPS.false))
        | else-grant-self-via-else-grant-self w ↦
            kept_other start.number grants c.args.self.now.grants c.args.grant so.1 (λ own. w.if-grant-self.false (own ∙ sym so.0))
      ],
    )
