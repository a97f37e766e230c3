-- A frame that is not the next one is known, or another grant stands at its index.
use Rattle.std.specs.Prelude.{Some}
use Rattle.std.proofs.Common.{◌≡◌, inl, length, refl, sym, ◌∙◌, ap, subst, rules, Result, Err, ℕ}
use Rattle.standby_link.specs.declared.take_fault.TakeFault.{TakeFault}
use Rattle.standby_link.specs.Followers.{FollowerState, HasNotHalted, Takes, kept}
use Rattle.standby_link.specs.Frames.{frame_in}
use Rattle.standby_link.proofs.Taking.{known}
use Rattle.standby_link.proofs.follower.Follower.answer.Goals as goal
use Rattle.standby_link.proofs.follower.Follower.answer.Goals.{in-Ok, in-Err}

pub returns-then-frame-len-clause-answer : goal.returns-then-frame-len-clause-answer
returns-then-frame-len-clause-answer g c =
    let self = c.args.self.now in let bytes = c.args.bytes.now in let frame = c.in-Some-from_bytes.frame in
    let goes_on : HasNotHalted self = search rules in
    let here : frame_in bytes ≡ Some frame = sym c.in-Some-from_bytes.ensures.frame in
    let all : length c.self.inside.grants.items ≡ length (kept self) =
    ap length c.self.invariant.same ∙ ap (λ (f : FollowerState _). length (kept f)) c.self.view_is in
    elim c.match-compare.branch [
      | in-Ok w ↦ subst (λ (r : Result ℕ TakeFault). Takes self bytes r self) (sym w.result-is) (
        goes_on,
        goes_on,
        w.len-in-Ok.ensures ∙ all,
        inl (refl, known (kept self) bytes frame here (λ same. c.if-frame-len.true (same ∙ sym all ∙ sym c.len.ensures)) w.in-Ok.ensures),
      )
      | in-Err w ↦ subst (λ (r : Result ℕ TakeFault). Takes self bytes r self)
          (ap (λ (fault : TakeFault). Err fault) (sym w.in-Err.ensures.1) ∙ sym w.result-is)
          (refl, goes_on, (frame.grant, here, w.in-Err.ensures.2, w.in-Err.ensures.3))
    ]
