-- The place of the key has one waiter more.
use Rattle.std.proofs.Common.{arith, ◌≡◌, ℕ, ◌+◌, ◌%◌, ◌<◌, List, [], ◌∷◌, ◌++◌, length, slice_set, ap, sym, subst, ◌∙◌}
use Rattle.std.specs.List.{slice_index}
use Rattle.std.proofs.lemmas.List.{get_or_default}
use Rattle.wait_queue.specs.Counting.{AreCounted}
use Rattle.wait_queue.proofs.Counts.{added-without, counted-added}
use Rattle.wait_queue.proofs.key_counts.KeyCounts.add.Goals as goal

pub returns-in-Some-clause-counted : goal.returns-in-Some-clause-counted
returns-in-Some-clause-counted c key_of waiters waiter own counted =
    let xs = c.self.inside.counts.items in let key = c.in-Some.key in let n = c.index_mut.result.now in
    let held = subst (λ (ys : List ℕ). AreCounted key_of ys waiters) (sym c.self.view_is) counted in
    let is_place : c.place_of-place.result ≡ key % length xs =
    c.place_of-place.ensures.place ∙ ap (λ (ys : List ℕ). key % length ys) (sym c.self.view_is) in
    let inside = subst (λ (ys : List ℕ). c.place_of-place.result < length ys) (sym c.self.view_is) c.place_of-place.ensures.within in
    let is_n : n ≡ slice_index xs (key % length xs) =
    c.index_mut.ensures.value ∙ get_or_default xs c.place_of-place.result n 0 inside ∙ ap (slice_index xs) is_place in
    subst (λ (p : ℕ). AreCounted key_of (slice_set xs p (n + 1)) (waiters ++ waiter ∷ [])) (sym is_place)
    (counted-added key_of xs waiters n waiter key (own ∙ c.in-Some.is) (omega (arith, c.self.invariant)) is_n held)

pub returns-in_default-clause-counted : goal.returns-in_default-clause-counted
returns-in_default-clause-counted c key_of waiters waiter own counted =
    added-without key_of c.args.self.now waiters waiter (own ∙ c.in_default.is) counted
