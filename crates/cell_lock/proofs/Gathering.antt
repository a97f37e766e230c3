-- The passes of a lock, in the order of their numbers.
use Rattle.std.proofs.Common.{◌≡◌, ℕ, zero, suc, ◌+◌, false, List, [], ◌∷◌, ◌++◌, map, length, get_or, sym, ap, ◌∙◌, arith}
use Rattle.std.specs.Prelude.{None}
use Rattle.std.proofs.Common.{All}
use Rattle.std.proofs.lemmas.List.Elements.{All-nil, All-cons}
use mathlib.Core.List.{IsPrefix}
use Rattle.cell_base.specs.declared.shifts.Entry.{Entry}
use Rattle.cell_base.specs.Histories.{entries_of, grants}
use Rattle.durable_cell.specs.DurableState.{DurableState}
use Rattle.cell_lock.specs.declared.board.Opening.{Opening}
use Rattle.cell_lock.specs.Law.{AllBegin, AllStand}
use Rattle.cell_lock.specs.Views.{own_entries_of, passing, gathered}
use Rattle.cell_lock.specs.Passes.{LockId, PassState, answers_of, all_answers, new_pass, new_passes, ArePassesNumbered}
use Rattle.cell_lock.specs.Steps.{gathering}
use Rattle.cell_lock.proofs.Histories.{begin_after}

pub passes_more : {D : Type 0} (moment : D → ℕ) (lock : LockId D) (first n : ℕ)
    → new_passes moment lock first (n + 1) ≡ new_passes moment lock first n ++ new_pass moment lock (first + n) ∷ []
passes_more moment lock first zero = ap (λ (k : ℕ). new_pass moment lock k ∷ []) (omega arith)
passes_more {D} moment lock first (suc n) =
    let e : suc n + 1 ≡ suc (n + 1) = omega arith in
    ap (λ (k : ℕ). new_passes moment lock first k) e
    ∙ ap (λ (l : List (PassState D)). new_pass moment lock first ∷ l) (passes_more moment lock (first + 1) n
    ∙ ap (λ (k : ℕ). new_passes moment lock (first + 1) n ++ new_pass moment lock k ∷ []) (omega arith))

pub numbered_at : {D : Type 0} (lock : LockId D) (first : ℕ) (xs ys : List (PassState D)) (p : PassState D)
    → ArePassesNumbered lock first (xs ++ p ∷ ys) → (p.lock ≡ lock) × (p.number ≡ first + length xs)
numbered_at lock first [] ys p h = (h.0, h.1 ∙ omega arith)
numbered_at lock first (x ∷ xs) ys p h = let t = numbered_at lock (first + 1) xs ys p h.2 in (t.0, t.1 ∙ omega arith)

-- the pass with the number before takes in those that have come together
pub gathered_more : {D : Type 0} (o : Opening D) (first : ℕ) (p : PassState D) (ps : List (PassState D)) → p.lock.opening ≡ o
    → gathered (passing p.lock.opening p.number p.seen p.moment p.earlier p.mine) (gathering o first ps) ≡ gathering o p.number (p ∷ ps)
gathered_more o first p ps is = λ i. record {
  opening = is i;
  first = p.number;
  count = (let e : 1 + length ps ≡ length (p ∷ ps) = omega arith in e) i;
  answers = all_answers (p ∷ ps);
  own_entries = map (λ (q : PassState _). q.mine) (p ∷ ps);
  log = [];
  taken = None;
  has_turn = false;
}

pub all_seen : {D : Type 0} (ps : List (PassState D)) (log : List Entry) → AllBegin (all_answers ps) log
    → All (λ (p : PassState D). IsPrefix p.seen log) ps
all_seen {D} [] log h = All-nil (λ (p : PassState D). IsPrefix p.seen log)
all_seen {D} (p ∷ ps) log h =
    All-cons (λ (q : PassState D). IsPrefix q.seen log) p ps h.0 (all_seen ps log (begin_after p.earlier (all_answers ps) log h.1))

-- what a pass saw granted, with each of its answers, is on each image since then
abbrev Stands : {D : Type 0} → (DurableState D → ℕ → ℕ → Type 0) → ℕ → DurableState D → List Entry × ℕ → Type 0
Stands has shift durable answer = has durable answer.1 (length (grants shift answer.0))

stand_each : {D : Type 0} (has : DurableState D → ℕ → ℕ → Type 0) (shift : ℕ) (durable : DurableState D)
    (answers more : List (List Entry × ℕ)) → AllStand has shift durable (answers ++ more)
    → All (Stands has shift durable) answers × AllStand has shift durable more
stand_each has shift durable [] more h = (All-nil (Stands has shift durable), h)
stand_each has shift durable (answer ∷ answers) more h =
    let rest = stand_each has shift durable answers more h.1 in
    (All-cons (Stands has shift durable) answer answers h.0 rest.0, rest.1)

pub all_stand : {D : Type 0} (has : DurableState D → ℕ → ℕ → Type 0) (shift : ℕ) (durable : DurableState D) (ps : List (PassState D))
    → AllStand has shift durable (all_answers ps)
    → All (λ (p : PassState D). All (λ (answer : List Entry × ℕ). has durable answer.1 (length (grants shift answer.0))) (answers_of p)) ps
all_stand {D} has shift durable [] h = All-nil (λ (p : PassState D). All (Stands has shift durable) (answers_of p))
all_stand {D} has shift durable (p ∷ ps) h =
    let both = stand_each has shift durable (answers_of p) (all_answers ps) h in
    All-cons (λ (q : PassState D). All (Stands has shift durable) (answers_of q)) p ps both.0 (all_stand has shift durable ps both.1)

rest_of : List (List Entry) → List (List Entry)
rest_of [] = []
rest_of (x ∷ xs) = xs

pub all_mine : {D : Type 0} (lock : LockId D) (first : ℕ) (ps : List (PassState D)) (log : List Entry) → ArePassesNumbered lock first ps
    → map (λ (p : PassState D). p.mine) ps ≡ own_entries_of first (length ps) log → All (λ (p : PassState D). entries_of p.number log ≡ p.mine) ps
unfolding rest_of
all_mine {D} lock first [] log h e = All-nil (λ (p : PassState D). entries_of p.number log ≡ p.mine)
all_mine {D} lock first (p ∷ ps) log h e =
    All-cons (λ (q : PassState D). entries_of q.number log ≡ q.mine) p ps
    (ap (λ (k : ℕ). entries_of k log) h.1 ∙ sym (ap (λ (l : List (List Entry)). get_or l 0 []) e))
    (all_mine lock (first + 1) ps log h.2 (ap rest_of e))
