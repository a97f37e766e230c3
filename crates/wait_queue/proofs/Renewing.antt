-- Waiters with other refusals wait with the same requests.
use Rattle.std.proofs.Common.{◌≡◌, ℕ, zero, suc, ◌<◌, ◌%◌, ◌==◌, Bool, true, false, cond, Option, List, [], ◌∷◌, ◌++◌, length, map, set, take, drop, get_or, refl, sym, subst, ap, ◌∙◌, arith}
use Rattle.std.specs.List.{filter}
use Rattle.std.specs.Option.{option_map_or}
use Rattle.std.proofs.lemmas.List.{length-map}
use Rattle.cell_base.specs.declared.cells.Cell.{Cell}
use Rattle.cell_base.specs.declared.cells.ResId.{ResId}
use Rattle.cell_base.specs.declared.requests.Part.{Part}
use Rattle.cell_base.specs.declared.requests.Request.{Request}
use Rattle.wait_queue.specs.declared.waiter.Waiter.{Waiter}
use Rattle.wait_queue.specs.Counting.{AreCounted, is_at, waiting_at}
use Rattle.wait_queue.specs.Waiting.{renewed}
use Rattle.wait_queue.specs.Watching.{AreWatching, IsWatch}

module _ (now : Cell) (state : List Part) where
  same-request : (ws : List Waiter) (k : ℕ) (d : Waiter) → k < length ws
      → (get_or ws k d).request ≡ (get_or (map (renewed now state) ws) k d).request
  same-request [] k d within = absurd (omega arith)
  same-request (w ∷ ws) zero d within = refl
  same-request (w ∷ ws) (suc k) d within = same-request ws k d (omega arith)

  pub watching-renewed : (cell : Cell) (parts : List Part) (ws : List Waiter) (xs : List (Option ResId)) → AreWatching cell parts ws xs
      → AreWatching cell parts (map (renewed now state) ws) xs
  watching-renewed cell parts ws xs watching k d e within =
      let inside : k < length ws = omega (arith, within, length-map ws (renewed now state)) in
      subst (λ (r : Request). IsWatch cell parts r (get_or xs k e)) (same-request ws k d inside) (watching k d e inside)

  module _ (key : Waiter → Option ℕ) (same : (w : Waiter) → key (renewed now state w) ≡ key w) where
    same-waiting : (places place : ℕ) (ws : List Waiter)
        → waiting_at key places place ws ≡ waiting_at key places place (map (renewed now state) ws)
    same-waiting places place [] = refl
    same-waiting places place (w ∷ ws) =
        let test = is_at key places place in
        let rest = filter test ws in
        let new = filter test (map (renewed now state) ws) in
        let later = same-waiting places place ws in
        let alike : test w ≡ test (renewed now state w) =
        ap (λ (o : Option ℕ). option_map_or (λ (k : ℕ). (k % places) == place) o false) (sym (same w)) in
        subst (λ (b : Bool). length (cond (test w) (w ∷ rest) rest) ≡ length (cond b (renewed now state w ∷ new) new)) alike
        (elim (test w) as (λ b. length (cond b (w ∷ rest) rest) ≡ length (cond b (renewed now state w ∷ new) new)) [
          | true ↦ ap suc later
          | false ↦ later
        ])

    pub counted-renewed : (counts : List ℕ) (ws : List Waiter) → AreCounted key counts ws
        → AreCounted key counts (map (renewed now state) ws)
    counted-renewed counts ws counted place below = counted place below ∙ same-waiting (length counts) place ws

-- what stands where the waiters before i are mapped, and i is mapped next
pub mapped-more : (f : Waiter → Waiter) (ws : List Waiter) (i : ℕ) (d : Waiter) → i < length ws
    → set (map f (take i ws) ++ drop i ws) i (f (get_or (map f (take i ws) ++ drop i ws) i d)) ≡ map f (take (suc i) ws) ++ drop (suc i) ws
mapped-more f [] i d within = absurd (omega arith)
mapped-more f (w ∷ ws) zero d within = refl
mapped-more f (w ∷ ws) (suc i) d within = ap (λ zs. f w ∷ zs) (mapped-more f ws i d (omega arith))
