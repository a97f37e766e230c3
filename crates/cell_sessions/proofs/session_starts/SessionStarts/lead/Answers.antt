-- Without a stray the grant leads on, and else the stray stays.
use Rattle.std.proofs.Common.{◌≡◌, List, [], ◌∷◌, ◌++◌, length, sym, ap, ◌∙◌, subst, rules}
use Rattle.cell_base.specs.Scripts.{Progress}
use Rattle.cell_sessions.specs.Starting.{IsLed, IsReached}
use Rattle.cell_sessions.proofs.Starts.{led_reached, refilled, stays_led}
use Rattle.cell_sessions.proofs.session_starts.SessionStarts.lead.Goals as goal

pub returns-then-is_none-clause-led : goal.returns-then-is_none-clause-led
returns-then-is_none-clause-led c grants led =
    let self = c.self.inside in
    let old = rw (← c.self.view_is) at led in
    let reached = led_reached self.shift.now grants self.reached self.stray c.if-is_none.ensures old in
    let led = c.stray_of-self-inside.ensures grants
    (subst (λ (stands : List Progress). IsReached self.shift.now grants stands) (sym c.as_mut_slice.ensures.value) reached) in
    let kept : length c.stray_of-self-inside.new.reached ≡ length c.as_mut_slice.result.now = search rules in
    subst (λ (stands : List Progress). IsLed self.shift.now (grants ++ c.args.grant.now ∷ []) stands c.stray_of-self-inside.result)
    (sym (refilled self.reached c.stray_of-self-inside.new.reached (kept ∙ ap length c.as_mut_slice.ensures.value))) led

pub returns-else-is_none-clause-led : goal.returns-else-is_none-clause-led
returns-else-is_none-clause-led c grants led =
    let self = c.self.inside in
    let old = rw (← c.self.view_is) at led in
    rw (← c.self.view_is)
    (stays_led self.shift.now grants c.args.grant.now self.reached self.stray c.if-is_none.ensures old)
