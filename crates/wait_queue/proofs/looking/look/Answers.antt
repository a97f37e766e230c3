-- One waiter more is looked at.
use Rattle.std.proofs.Common.{◌≡◌, ◌≢◌, ℕ, ◌*◌, ◌^◌, ◌%◌, bit_or, ◌<◌, Some, None, Option, List, false, set, not, length, get_or, length-set, ap, sym, subst, ◌∙◌, arith, ⊎_elim}
use Rattle.cell_base.specs.declared.cells.ResId.{ResId}
use Rattle.cell_base.proofs.Bits.{has_bit_set_same}
use Rattle.std.proofs.lemmas.Bool.{cases_eq}
use Rattle.std.proofs.lemmas.List.{get_or_default}
use Rattle.wait_queue.specs.declared.waiter.Waiter.{Waiter}
use Rattle.wait_queue.specs.Waiting.{is_ready}
use Rattle.wait_queue.specs.Watching.{IsCovered, IsHeld, IsWatch}
use Rattle.wait_queue.proofs.Looks.{covered-more, nobody, set-one}
use Rattle.wait_queue.proofs.looking.look.Goals as goal

pub held_by-requires-clause-watch : goal.held_by-requires-clause-watch
held_by-requires-clause-watch c =
    let none : Option ResId = None in
    subst (λ (xs : List (Option ResId)). IsWatch c.args.core.now.cell c.args.core.now.parts
    (get_or c.args.waiters.now c.loop-i.i nobody).request (get_or xs c.loop-i.i none))
    (sym c.as_slice.ensures) (c.loop-i.invariant.watching c.loop-i.i nobody none c.loop-i-test.true)

pub overflow_shl-watched : goal.overflow_shl-watched
overflow_shl-watched c = omega (arith, c.in-Some.ensures.0.0, c.core_law.ensures.fits.resource_count.1)

pub overflow_shl-exactly : goal.overflow_shl-exactly
overflow_shl-exactly c = omega (arith, c.in-Some.ensures.0.0, c.core_law.ensures.fits.resource_count.1)

pub loop-i-preserved : goal.loop-i-preserved
loop-i-preserved c =
    let now = c.loop-i.watches.items in let i = c.loop-i.i in let at = c.in-Some.at in let ws = c.args.waiters.now in
    let cell = c.args.core.now.cell in let parts = c.args.core.now.parts in
    let inv = c.loop-i.invariant in
    let few : at.0 < 64 = omega (arith, c.in-Some.ensures.0.0, c.core_law.ensures.fits.resource_count.1) in
    let within : i < length ws = c.loop-i-test.true in
    let here : i < length now = omega (arith, inv.pairs, within) in
    let new : Option ResId = Some at in
    let after = c.set.new.self.items in
    let is : after ≡ set now i new = c.set.ensures.items in
    let long : length after ≡ length now = ap (λ (xs : List (Option ResId)). length xs) is ∙ length-set now i new in
    let held : IsHeld cell parts (get_or ws i nobody).request new = c.in-Some.ensures in
    let same : (d : Waiter) → get_or ws i nobody ≡ get_or ws i d = λ d. get_or_default ws i nobody d within in
    record {
      pairs = long ∙ inv.pairs;
      watching = λ k d e h. set-one (λ (j : ℕ) (w : Option ResId). IsWatch cell parts (get_or ws j d).request w) now after i new e k is here
          (λ away. inv.watching k d e h) (subst (λ (w : Waiter). IsWatch cell parts w.request new) (same d) held.0);
      covered = λ k d h. set-one (λ (j : ℕ) (w : Option ResId). IsCovered (bit_or c.loop-i.watched (1 * 2 ^ at.0 % 2 ^ 64)) w) now after i new d k is here
          (λ away. covered-more c.loop-i.watched at.0 (get_or now k d)
          (inv.covered k d (omega (arith, h, long))))
          (has_bit_set_same c.loop-i.watched at.0 few);
      exactly = λ k d h. set-one (λ (j : ℕ) (w : Option ResId). IsCovered (bit_or c.loop-i.exactly (1 * 2 ^ at.0 % 2 ^ 64)) w) now after i new d k is here
          (λ away. covered-more c.loop-i.exactly at.0 (get_or now k d) (inv.exactly k d (omega (arith, h, away))))
          (has_bit_set_same c.loop-i.exactly at.0 few);
      watched = λ k d h. set-one (λ (j : ℕ) (w : Option ResId). w ≢ None) now after i new d k is here
          (λ away. inv.watched k d (omega (arith, h, away))) (λ e. absurd (cc e));
      unready = λ k d h. ⊎_elim
          (λ (e : k ≡ i). subst (λ j. is_ready cell parts (get_or ws j d) ≡ false) (sym e)
          (subst (λ (w : Waiter). is_ready cell parts w ≡ false) (same d) (ap not held.1.1)))
          (λ (away : k ≡ i → ⊥). inv.unready k d (omega (arith, h, away))) (cases_eq k i);
      all_watched = λ before k d h. set-one (λ (j : ℕ) (w : Option ResId). w ≢ None) now after i new d k is here
          (λ away. inv.all_watched before k d (omega (arith, h, long))) (λ e. absurd (cc e));
      spare = c.set.ensures.spare ∙ inv.spare;
    }
