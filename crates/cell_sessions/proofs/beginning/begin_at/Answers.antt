-- Each session begins within its script.
use Rattle.std.proofs.Common.{◌≡◌, List, length, ◌+◌, ◌<◌, sym, ap, ◌∙◌, subst, arith, ℕ}
use Rattle.cell_base.specs.Scripts.{Progress as Place}
use Rattle.cell_sessions.specs.Progressing.{start_at}
use Rattle.cell_sessions.specs.declared.progress.Progress.{Progress}
use Rattle.cell_sessions.proofs.BegunSessions.{HaveBegun, all_begun, none_begun, one_more}
use Rattle.cell_sessions.proofs.beginning.begin_at.Goals as goal

pub loop-k-init : goal.loop-k-init
loop-k-init c grants are = subst (λ (progress : List Progress). HaveBegun c.args.shift.now grants 0 progress) (sym c.new-progress.ensures)
    (none_begun c.args.shift.now grants)

pub loop-k-preserved : goal.loop-k-preserved
loop-k-preserved c grants are =
    let inside : c.loop-k.k < length c.args.reached.now = omega (arith, c.loop-k-test.true, c.len-k-end.ensures, c.requires.sessions) in
    let step = c.in-Ok.ensures.1 ∙ c.step.ensures ∙ ap (λ (at : Place). at.step) c.index-reached-k.is in
    let more = one_more c.args.shift.now grants c.args.reached.now are c.loop-k.k c.get.result.now c.get.ensures
    c.index-reached-k.result inside c.loop-k.progress c.start_at.result
    (c.start_at.ensures ∙ ap (λ (n : ℕ). start_at c.get.result.now n) step) (c.loop-k.invariant grants are) in
    subst (λ (progress : List Progress). HaveBegun c.args.shift.now grants (c.loop-k.k + 1) progress) (sym c.in_ok-try_push.ensures.ok) more

pub returns-clause-begun : goal.returns-clause-begun
returns-clause-begun c grants are =
    let count : c.loop-k.k ≡ length c.args.shift.now.scripts =
    omega (arith, c.loop-k-test.false, c.loop-k.auto.k-end, c.len-k-end.ensures) in
    all_begun c.args.shift.now grants c.loop-k.progress
    (subst (λ (n : ℕ). HaveBegun c.args.shift.now grants n c.loop-k.progress) count (c.loop-k.invariant grants are))
