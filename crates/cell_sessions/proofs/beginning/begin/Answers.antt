-- The grants led the sessions to where they begin, or one of them is a stray.
use Rattle.std.specs.Prelude.{IfOk}
use Rattle.std.proofs.Common.{ℕ, ◌≤◌, List, length, take, Result, Ok, Err, sym, ap, ◌∙◌, subst}
use Rattle.std.proofs.lemmas.List.{take_all, take_more}
use Rattle.cell_base.specs.declared.shifts.Grant.{Grant}
use Rattle.cell_base.specs.declared.shifts.Shift.{Shift}
use Rattle.cell_sessions.specs.Starting.{HasLed, IsBeginFault, IsReached, StartState}
use Rattle.cell_sessions.proofs.beginning.begin.Goals as goal

pub loop-grant-preserved : goal.loop-grant-preserved
loop-grant-preserved c = record {
  shift = c.lead.ensures.shift ∙ c.loop-grant.invariant.shift;
  led = subst (λ (grants : List Grant). HasLed grants c.lead.new.self)
      (sym (take_more c.args.opening.now c.loop-grant.grant-index _ c.loop-grant-test.true))
      (c.lead.ensures.led (take c.loop-grant.grant-index c.args.opening.now) c.loop-grant.invariant.led);
}

-- all of them led the sessions there
led_all : (opening : List Grant) (starts : StartState) (i : ℕ) → HasLed (take i opening) starts → length opening ≤ i
    → HasLed opening starts
led_all opening starts i led all = subst (λ (grants : List Grant). HasLed grants starts) (take_all i opening all) led

pub begin_at-requires : goal.begin_at-requires
begin_at-requires c = record {
  sessions = c.in-Ok.ensures.count ∙ ap (λ (shift : Shift). length shift.scripts) c.loop-grant.invariant.shift;
}

where_ok : {X E : Type 0} (P : Type 0) (result : Result X E) → P → IfOk result (λ _. P)
where_ok P (Ok value) is = is
where_ok P (Err why) is = tt

pub returns-in-Ok-clause-started : goal.returns-in-Ok-clause-started
returns-in-Ok-clause-started c =
    let reached = subst (λ (shift : Shift). IsReached shift c.args.opening.now c.in-Ok.reached.now) c.loop-grant.invariant.shift
    (c.in-Ok.ensures.reached c.args.opening.now
    (led_all c.args.opening.now c.loop-grant.starts c.loop-grant.grant-index c.loop-grant.invariant.led c.loop-grant-test.false)) in
    where_ok _ c.begin_at.result reached.started

pub returns-in-Ok-clause-begun : goal.returns-in-Ok-clause-begun
returns-in-Ok-clause-begun c = c.begin_at.ensures.begun c.args.opening.now
    (subst (λ (shift : Shift). IsReached shift c.args.opening.now c.in-Ok.reached.now) c.loop-grant.invariant.shift
    (c.in-Ok.ensures.reached c.args.opening.now
    (led_all c.args.opening.now c.loop-grant.starts c.loop-grant.grant-index c.loop-grant.invariant.led c.loop-grant-test.false)))

pub returns-clause-fault : goal.returns-clause-fault
returns-clause-fault c =
    subst (λ (shift : Shift). IsBeginFault shift c.args.opening.now c.in-Err.stray) c.loop-grant.invariant.shift
    (c.in-Err.ensures.fault c.args.opening.now
    (led_all c.args.opening.now c.loop-grant.starts c.loop-grant.grant-index c.loop-grant.invariant.led c.loop-grant-test.false))
