-- One waiter more is done.
use Rattle.std.proofs.Common.{◌≡◌, ℕ, ◌<◌, Some, None, Option, List, Bool, true, false, cond, ◌||◌, length, get_or, set, length-set, get_or-set_other, refl, ap, sym, subst, ◌∙◌, arith}
use Rattle.cell_base.specs.declared.cells.ResId.{ResId}
use Rattle.cell_base.specs.declared.requests.JobId.{JobId}
use Rattle.std.proofs.lemmas.List.{get_or_default, set-get_or}
use Rattle.wait_queue.specs.declared.waiter.Waiter.{Waiter}
use Rattle.wait_queue.specs.Watching.{IsWithout, is_of}
use Rattle.wait_queue.proofs.Looks.{nobody, set-one}
use Rattle.wait_queue.proofs.queue.forget.Goals as goal

-- it watches nothing where it is of the job
one-without : (job : JobId) (w : Waiter) (old : Option ResId) (own : Bool) → is_of job w.request ≡ own
    → IsWithout job w old (cond own None old)
one-without job w old true is = tt
one-without job w None false is = tt
one-without job w (Some r) false is = (refl, is)

none-of : (a b : Bool) → (a || b) ≡ false → (a ≡ false) × (b ≡ false)
none-of true b e = absurd (let h : true ≡ false = e in cc)
none-of false b e = (refl, e)

pub loop-i-preserved : goal.loop-i-preserved
loop-i-preserved c =
    let now = c.loop-i.watches.items in let i = c.loop-i.i in let ws = c.args.waiters.now in
    let old = c.args.watches.now.items in let job = c.args.job in
    let inv = c.loop-i.invariant in
    let within : i < length ws = c.loop-i-test.true in
    let here : i < length now = omega (arith, inv.pairs, within) in
    let new = c.unless.result in let own = c.is_of-is_own.result in
    let none : Option ResId = None in
    let after = c.set.new.self.items in
    let is : after ≡ set now i new = c.set.ensures.items in
    let read : get_or c.as_slice.result.now i none ≡ get_or now i none =
    ap (λ (xs : List (Option ResId)). get_or xs i none) c.as_slice.ensures in
    let same : (e : Option ResId) → get_or c.as_slice.result.now i none ≡ get_or old i e =
    λ e. read ∙ get_or_default now i none e here ∙ inv.others i e (omega arith) in
    record {
      pairs = ap (λ (xs : List (Option ResId)). length xs) is ∙ length-set now i new ∙ inv.pairs;
      without = λ k d e h. set-one (λ (j : ℕ) (w : Option ResId). IsWithout job (get_or ws j d) (get_or old j e) w) now after i new e k is here
          (λ away. inv.without k d e (omega (arith, h, away)))
          (subst (λ (w : Option ResId). IsWithout job (get_or ws i d) (get_or old i e) w)
          (sym (c.unless.ensures ∙ ap (λ (w : Option ResId). cond own None w) (same e)))
          (one-without job (get_or ws i d) (get_or old i e) own
          (subst (λ (w : Waiter). is_of job w.request ≡ own) (get_or_default ws i nobody d within) (sym c.is_of-is_own.ensures))));
      others = λ k e h. ap (λ (xs : List (Option ResId)). get_or xs k e) is ∙ get_or-set_other now i k new e (λ f. absurd (omega (arith, f, h))) ∙ inv.others k e (omega (arith, h));
      none = λ e.
          let both = none-of c.loop-i.any own (sym c.either-any.ensures ∙ e) in
          let kept : new ≡ get_or now i none =
          c.unless.ensures ∙ ap (λ b. cond {A = Option ResId} b None (get_or c.as_slice.result.now i none)) both.1 ∙ read in
          is ∙ ap (λ (w : Option ResId). set now i w) kept ∙ set-get_or now i none ∙ inv.none both.0;
      spare = c.set.ensures.spare ∙ inv.spare;
    }
