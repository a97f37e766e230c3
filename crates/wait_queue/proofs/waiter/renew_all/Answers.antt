-- One waiter more is renewed.
use Rattle.std.proofs.Common.{◌≡◌, ℕ, suc, ◌+◌, ◌<◌, ◌++◌, List, length, length-set, map, set, take, drop, get_or, ap, sym, ◌∙◌, subst, arith}
use Rattle.wait_queue.specs.declared.waiter.Waiter.{Waiter}
use Rattle.wait_queue.specs.Waiting.{renewed}
use Rattle.wait_queue.proofs.Looks.{nobody}
use Rattle.wait_queue.proofs.Renewing.{mapped-more}
use Rattle.wait_queue.proofs.waiter.renew_all.Goals as goal

pub loop-i-preserved : goal.loop-i-preserved
loop-i-preserved c =
    let f = renewed c.args.core.now.cell c.args.core.now.parts in
    let now = c.loop-i.waiters.items in let ws = c.args.waiters.now.items in let i = c.loop-i.i in
    let within : i < length ws =
    omega (arith, c.loop-i-test.true, ap (λ (xs : List Waiter). length xs) c.as_slice-i-end.ensures) in
    let next : suc i ≡ i + 1 = omega arith in
    let is : c.set.new.self.items ≡ set now i (f (get_or now i nobody)) =
    c.set.ensures.items ∙ ap (set now i) (c.renewed.ensures ∙ ap (λ (xs : List Waiter). f (get_or xs i nobody)) c.as_slice.ensures) in
    record {
      items = is
          ∙ subst (λ (xs : List Waiter). set xs i (f (get_or xs i nobody)) ≡ map f (take (i + 1) ws) ++ drop (i + 1) ws)
          (sym c.loop-i.invariant.items)
          (mapped-more f ws i nobody within ∙ ap (λ (n : ℕ). map f (take n ws) ++ drop n ws) next);
      len = ap (λ (xs : List Waiter). length xs) is ∙ length-set now i (f (get_or now i nobody)) ∙ c.loop-i.invariant.len;
      spare = c.set.ensures.spare ∙ c.loop-i.invariant.spare;
    }
